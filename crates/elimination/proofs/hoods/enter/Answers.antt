use Rattle.std.proofs.Common.{◌≡◌, ◌+◌, Bool, arith, subst, sym, ap, ◌∙◌, get_or, true, set, length-set}
use Rattle.patterns.specs.Pattern.{has}
use Rattle.patterns.proofs.NumberLists.{has_at}
use Rattle.elimination.specs.Quotients.{inner_at}
use Rattle.elimination.specs.Hoods.{IsScanned, Visits}
use Rattle.elimination.proofs.ListWrites.{list_get}
use Rattle.elimination.proofs.Scans.{again_step, rim_list, mark_part, enter_step}
use Rattle.elimination.proofs.hoods.enter.Goals as goal

pub visit-requires : goal.visit-requires
visit-requires c = λ j lt.
    let e : c.deref.result.now ≡ inner_at c.args.rims.now c.args.part = c.deref.ensures.value ∙ ap (λ v. v.items) c.index-rims-part.is
    ∙ list_get c.args.rims.now c.args.part c.index-rims-part.result c.requires.part.0 in
    let k = c.requires.rim (get_or c.deref.result.now j 0) (ap (λ z. has z (get_or c.deref.result.now j 0)) (sym e)
    ∙ has_at c.deref.result.now j lt) in
    let len = length-set {A = Bool} c.args.seen.now c.args.part true in
    omega arith

pub returns-else-not-seen-part : goal.returns-else-not-seen-part
returns-else-not-seen-part c = λ q turn u row i can s. again_step q turn
    (inner_at c.args.rims.now) u row i c.args.part c.args.hood.now.near.items c.args.hood.now.touched.items c.args.seen.now can s
    c.if-not-seen-part.false

pub returns-in_ok-visit : goal.returns-in_ok-visit
returns-in_ok-visit c = λ q turn u row i can s.
    let rim = inner_at c.args.rims.now in
    let part = c.args.part in
    let near = c.args.hood.now.near.items in
    let touched = c.args.hood.now.touched.items in
    let seen = c.args.seen.now in
    let e : c.deref.result.now ≡ rim part = c.deref.ensures.value ∙ ap (λ v. v.items) c.index-rims-part.is
    ∙ list_get c.args.rims.now part c.index-rims-part.result c.requires.part.0 in
    let visits : Visits (rim part) near c.visit.new.near.items (set seen part true) c.visit.new.seen =
    subst (λ z. Visits z near c.visit.new.near.items (set seen part true) c.visit.new.seen) e c.in_ok-visit.ensures in
    let v = visits q.order u turn q.rep (mark_part q turn rim u row i part near touched seen can s c.requires.part.1)
    (rim_list q turn rim u row i part near touched seen can s) in
    subst (λ z. IsScanned q turn rim u row (i + 1) c.visit.new.near.items z c.visit.new.seen) (sym c.in_ok-push.ensures.items)
    (enter_step q turn rim u row i part near touched seen can s c.visit.new.near.items c.visit.new.seen c.requires.part.1 v)
