use Rattle.std.proofs.Common.{ℕ, List, length, get_or, subst, ap, ◌∙◌, arith}
use Rattle.mp_system.specs.declared.system.Task.{Task}
use Rattle.shared_systems.specs.Shared.{SharedItem}
use Rattle.carried_graphs.specs.Places.{AreGreatest}
use Rattle.carried_graphs.proofs.LastPlaces.{lasts_are, none_is, moved, moved_other}
use Rattle.carried_graphs.proofs.lasts.last_readers.Goals as goal

pub returns-in-None-clause-lasts : goal.returns-in-None-clause-lasts
returns-in-None-clause-lasts c =
    lasts_are c.args.system.now c.tasks-count.ensures.system c.args.first.now c.args.second.now c.requires
    c.in_ok-in_first.in_first.items c.in_ok-in_second.in_second.items c.in_ok-lasts.lasts.items
    (c.in_ok-lasts.ensures.len ∙ ap (λ (l : List SharedItem). length l) c.items-items.ensures.value)
    (λ v le. c.in_ok-in_first.ensures.places v (omega (arith, le, ap (λ (l : List Task). length l) c.tasks-count.ensures.value)))
    (λ v le. c.in_ok-in_second.ensures.places v (omega (arith, le, ap (λ (l : List Task). length l) c.tasks-count.ensures.value)))
    (moved c.deref.result.now c.in_ok-in_first.in_first.items c.in_ok-lasts.lasts.items c.items-items.result.now c.args.system.now.items
    c.deref.ensures.value c.items-items.ensures.value c.in_ok-lasts.ensures.lasts)
    (moved c.deref-2.result.now c.in_ok-in_second.in_second.items c.in_ok-lasts.lasts.items c.items-items.result.now c.args.system.now.items
    c.deref-2.ensures.value c.items-items.ensures.value
    (subst (λ (l : List ℕ). AreGreatest (λ v. get_or c.deref-2.result.now v 0) c.items-items.result.now l (length c.items-items.result.now))
    c.deref-3.ensures.value c.in-None.ensures))

pub returns-clause-refused : goal.returns-clause-refused
returns-clause-refused c =
    none_is c.args.system.now c.tasks-count.ensures.system c.args.first.now c.args.second.now c.requires
    c.in_ok-in_first.in_first.items c.in_ok-in_second.in_second.items c.in_ok-lasts.lasts.items
    (c.in_ok-lasts.ensures.len ∙ ap (λ (l : List SharedItem). length l) c.items-items.ensures.value)
    (λ v le. c.in_ok-in_first.ensures.places v (omega (arith, le, ap (λ (l : List Task). length l) c.tasks-count.ensures.value)))
    (λ v le. c.in_ok-in_second.ensures.places v (omega (arith, le, ap (λ (l : List Task). length l) c.tasks-count.ensures.value)))
    (moved c.deref.result.now c.in_ok-in_first.in_first.items c.in_ok-lasts.lasts.items c.items-items.result.now c.args.system.now.items
    c.deref.ensures.value c.items-items.ensures.value c.in_ok-lasts.ensures.lasts)
    c.in-Some.item
    (moved_other c.deref-2.result.now c.in_ok-in_second.in_second.items c.deref-3.result.now c.in_ok-lasts.lasts.items
    c.items-items.result.now c.args.system.now.items c.in-Some.item
    c.deref-2.ensures.value c.items-items.ensures.value c.deref-3.ensures.value c.in-Some.ensures)
