use Rattle.std.proofs.Common.{◌≡◌, ◌≤◌, ℕ, List, get_or, length, ap, ◌∙◌, arith}
use Rattle.mp_system.specs.declared.system.Task.{Task}
use Rattle.shared_systems.specs.Shared.{SharedItem, shared_size_where}
use Rattle.shared_systems.specs.Places.{place_in, is_freed_at}
use Rattle.shared_systems.proofs.PeakSteps.{places_small, freed_same}
use Rattle.shared_systems.proofs.system.SharedSystem.peak.Goals as goal

pub freed_at-requires-clause-places : goal.freed_at-requires-clause-places
freed_at-requires-clause-places c = λ v.
    let small = places_small (length c.tasks-count.result.now) c.args.order.now
    c.in_ok-places.places.items c.in_ok-places.ensures.places c.in_ok-places.ensures.len v in
    rw c.deref-4.ensures.value small

pub peak_along-requires-clause-freed : goal.peak_along-requires-clause-freed
peak_along-requires-clause-freed c =
    let tasks_are = ap (λ (l : List Task). length l) c.tasks-count.ensures.value in
    let are : (v : ℕ) → v ≤ length c.args.self.now.tasks → get_or c.in_ok-places.places.items v 0 ≡ place_in c.args.order.now v =
    λ v le. c.in_ok-places.ensures.places v (omega (arith, le, tasks_are)) in
    let sums = λ (i : ℕ).
    c.in_ok-freed.ensures.sums i
    ∙ ap (λ (l : List ℕ). shared_size_where (is_freed_at (λ u. get_or l u 0) i) c.items-items.result.now) c.deref-4.ensures.value
    ∙ ap (λ (xs : List SharedItem). shared_size_where (is_freed_at (λ u. get_or c.in_ok-places.places.items u 0) i) xs)
    c.items-items.ensures.value
    ∙ freed_same (length c.args.self.now.tasks) c.args.order.now c.in_ok-places.places.items
    are i c.args.self.now.items c.tasks-count.ensures.system.items in
    rw c.deref-6.ensures.value (c.in_ok-freed.ensures.len, sums)
