use Rattle.std.proofs.Common.{List, ℕ, ◌<◌, ◌+◌, ◌∙◌, length, arith, ap, sym, subst}
use Rattle.std.specs.List.{All}
use Rattle.mp_system.specs.declared.system.Task.{Task}
use Rattle.joined_systems.specs.Kinds.{makers, takers}
use Rattle.joined_systems.proofs.UsesMeet.{makers_long, takers_long, makers_low, takers_low}
use Rattle.joined_systems.proofs.needs.joins_of.Goals as goal

pub leaders_of-requires-clause-uses : goal.leaders_of-requires-clause-uses
leaders_of-requires-clause-uses c =
    let is = c.deref.ensures.value ∙ c.in_ok-makers.ensures ∙ ap makers c.items-items.ensures.value in
    omega (arith, ap (λ (l : List ℕ). length l) is, makers_long c.args.system.now.items, c.keeps.ensures.few_uses)

pub leaders_of-requires-clause-same : goal.leaders_of-requires-clause-same
leaders_of-requires-clause-same c =
    let one = c.deref.ensures.value ∙ c.in_ok-makers.ensures in
    let two = c.deref-2.ensures.value ∙ c.in_ok-takers.ensures in
    let items = c.items-items.result.now in
    omega (arith, ap (λ (l : List ℕ). length l) one, ap (λ (l : List ℕ). length l) two, makers_long items, takers_long items)

pub leaders_of-requires-clause-makers : goal.leaders_of-requires-clause-makers
leaders_of-requires-clause-makers c =
    let is = c.deref.ensures.value ∙ c.in_ok-makers.ensures ∙ ap makers c.items-items.ensures.value in
    let many = ap (λ (l : List Task). length l) c.tasks.ensures.value in
    subst (λ (n : ℕ). All (λ u. u < n + 1) c.deref.result.now) (sym many)
    (subst (All (λ u. u < length c.args.system.now.tasks + 1)) (sym is)
    (makers_low (length c.args.system.now.tasks) c.args.system.now.items c.keeps.ensures.items))

pub leaders_of-requires-clause-takers : goal.leaders_of-requires-clause-takers
leaders_of-requires-clause-takers c =
    let is = c.deref-2.ensures.value ∙ c.in_ok-takers.ensures ∙ ap takers c.items-items.ensures.value in
    let many = ap (λ (l : List Task). length l) c.tasks.ensures.value in
    subst (λ (n : ℕ). All (λ u. u < n + 1) c.deref-2.result.now) (sym many)
    (subst (All (λ u. u < length c.args.system.now.tasks + 1)) (sym is)
    (takers_low (length c.args.system.now.tasks) c.args.system.now.items c.keeps.ensures.items))

pub joins_by-requires-clause-uses : goal.joins_by-requires-clause-uses
joins_by-requires-clause-uses c =
    let is = c.deref-5.ensures.value ∙ c.in_ok-takers.ensures ∙ ap takers c.items-items.ensures.value in
    omega (arith, ap (λ (l : List ℕ). length l) is, takers_long c.args.system.now.items, c.keeps.ensures.few_uses)
