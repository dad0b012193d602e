use Rattle.std.proofs.Common.{◌≡◌, ℕ, ◌+◌, ◌<◌, ◌≤◌, List, length, get_or, take, arith, sym, ap, subst, ◌∙◌}
use Rattle.std.specs.Prelude.{All}
use Rattle.std.proofs.lemmas.List.Elements.{All-weaker}
use Rattle.std.proofs.lemmas.List.Sums.{count_by-le-length}
use Rattle.row_table.specs.Rows.{row_at, numbers_with}
use Rattle.mp_system.specs.declared.system.Task.{Task}
use Rattle.shared_systems.specs.Shared.{SharedTaskSystem, HasTask}
use Rattle.shared_systems.specs.Bounds.{IsSharedSystem, IsSharedItemWithin}
use Rattle.shared_systems.specs.Collected.{is_shared}
use Rattle.shared_systems.specs.Woven.{due_after}
use Rattle.shared_systems.specs.Places.{place_in, last_places}
use Rattle.shared_systems.proofs.OrderPlaces.{last_places_all, last_places_same, length-last_places, last_place-le, due_row}
use Rattle.shared_systems.proofs.PeakSteps.{places_small}
use Rattle.shared_systems.proofs.weaving.due_rows.Goals as goal
use Rattle.shared_systems.proofs.weaving.due_rows.Goals.{After-deref-2}

-- the looked up places are those of the order
keys_same : (system : SharedTaskSystem) (order places lasts : List ℕ) → IsSharedSystem system
    → ((v : ℕ) → v ≤ length system.tasks → get_or places v 0 ≡ place_in order v)
    → lasts ≡ last_places (λ c. get_or places c 0) system.items → lasts ≡ last_places (place_in order) system.items
keys_same system order places lasts is same lasts_are =
    lasts_are ∙ last_places_same (λ c. get_or places c 0) (place_in order) (HasTask system) (λ c task. same c task.1) system.items
    (All-weaker (IsSharedItemWithin (length system.tasks))
    (λ x. All (HasTask system) x.readers) (λ x within. within.readers) system.items is.items)

keys_are : (c : After-deref-2) → c.deref-2.result.now ≡ last_places (place_in c.args.order.now) c.args.system.now.items
keys_are c =
    let tasks_are = ap (λ (l : List Task). length l) c.tasks-tasks.ensures.value in
    keys_same c.args.system.now c.args.order.now c.in_ok-places.places.items c.deref-2.result.now c.tasks-tasks.ensures.system
    (λ v le. c.in_ok-places.ensures.places v (omega arith))
    (c.deref-2.ensures.value ∙ c.in_ok-lasts.ensures
    ∙ ap (λ (l : List ℕ). last_places (λ v. get_or l v 0) c.items.result.now) c.deref.ensures.value
    ∙ ap (last_places (λ v. get_or c.in_ok-places.places.items v 0)) c.items.ensures.value)

pub group-requires-clause-below : goal.group-requires-clause-below
group-requires-clause-below c =
    subst (All (λ key. key < length c.args.order.now + 1)) (sym (keys_are c))
    (last_places_all (λ key. key < length c.args.order.now + 1) (place_in c.args.order.now)
    (λ to. omega (arith, last_place-le c.args.order.now to)) c.args.system.now.items)

pub group-requires-clause-fits : goal.group-requires-clause-fits
group-requires-clause-fits c =
    let is = c.tasks-tasks.ensures.system in
    let tasks_are = ap (λ (l : List Task). length l) c.tasks-tasks.ensures.value in
    let keys = ap (λ (l : List ℕ). length l) (keys_are c) in
    omega (
      arith,
      is.few_tasks,
      is.few_items,
      tasks_are,
      keys,
      length-last_places (place_in c.args.order.now) c.args.system.now.items,
      count_by-le-length is_shared c.args.system.now.items,
    )

pub lasts_of-requires-clause-small : goal.lasts_of-requires-clause-small
lasts_of-requires-clause-small c = λ v.
    let tasks_are = ap (λ (l : List Task). length l) c.tasks-tasks.ensures.value in
    let small = places_small (length c.tasks-tasks.result.now) c.args.order.now
    c.in_ok-places.places.items c.in_ok-places.ensures.places c.in_ok-places.ensures.len v in
    rw c.deref.ensures.value (omega (arith, small, c.requires, tasks_are, c.tasks-tasks.ensures.system.few_tasks))

row_is : (system : SharedTaskSystem) (order keys row : List ℕ) (i n : ℕ) → i < length order
    → keys ≡ last_places (place_in order) system.items → n ≡ length system.tasks
    → row ≡ numbers_with keys (n + 1) i → row ≡ due_after system (take i order) (get_or order i 0)
row_is system order keys row i n lt keys_are n_is is =
    is ∙ ap (λ (l : List ℕ). numbers_with l (n + 1) i) keys_are
    ∙ ap (λ (m : ℕ). numbers_with (last_places (place_in order) system.items) (m + 1) i) n_is ∙ sym (due_row system order i lt)

pub returns-clause-rows : goal.returns-clause-rows
returns-clause-rows c = λ i lt. (
    let tasks_are = ap (λ (l : List Task). length l) c.tasks-tasks.ensures.value in
    let keys = keys_same c.args.system.now c.args.order.now c.in_ok-places.places.items c.deref-2.result.now c.tasks-tasks.ensures.system
    (λ v le. c.in_ok-places.ensures.places v (omega arith))
    (c.deref-2.ensures.value ∙ c.in_ok-lasts.ensures
    ∙ ap (λ (l : List ℕ). last_places (λ v. get_or l v 0) c.items.result.now) c.deref.ensures.value
    ∙ ap (last_places (λ v. get_or c.in_ok-places.places.items v 0)) c.items.ensures.value) in
    row_is c.args.system.now c.args.order.now c.deref-2.result.now
    (row_at c.in_ok-rows.rows i) i (length c.tasks-tasks.result.now) lt keys tasks_are
    (c.in_ok-rows.ensures.rows i (omega arith))
    )
