use Rattle.std.proofs.Common.{◌≡◌, ◌∙◌, ℕ, List, [], ap, rules, subst}
use Rattle.mp_system.specs.System.{TaskSystem, IsSystem}
use Rattle.mp_system.specs.Traversal.{IsTraversal}
use Rattle.fences.specs.Amounts.{certified_bound}
use Rattle.fences.specs.Certificates.{join_places_from}
use Rattle.fences.specs.Judged.{AreAccepted}
use Rattle.fences.specs.Workers.{relieved}
use Rattle.fencing.proofs.BySizes.{stands}
use Rattle.fencing.proofs.standing.by_sizes.Goals as goal

pub returns : goal.returns
returns c =
    let system = c.args.system.now in
    let own = c.args.collected.now in
    let same = c.requires.collected in
    let amounts = c.in_ok-amounts.amounts.items in
    let order = c.requires.ordered.0 in
    let accepted = subst (λ (s : TaskSystem). AreAccepted s amounts) same
    (subst (λ (l : List ℕ). AreAccepted own l) c.deref.ensures.value c.in-Ok.ensures.accepted) in
    let certified = subst (λ (s : TaskSystem). c.in-Ok.bound ≡ certified_bound (relieved 0 s) amounts) same
    (subst (λ (l : List ℕ). c.in-Ok.bound ≡ certified_bound (relieved 0 own) l) c.deref.ensures.value c.in-Ok.ensures.certified) in
    let none : c.new.result.items ≡ [] = search rules in
    stands system order c.args.workers _ (subst IsSystem same c.keeps.ensures) c.requires.room
    (subst (λ (s : TaskSystem). IsTraversal s order) same c.requires.ordered.1) accepted certified
    c.without_room.ensures.workers c.without_room.ensures.room c.without_room.ensures.reserve
    (c.in_ok-joins.ensures ∙ ap (join_places_from 1) c.items.ensures.value) none
