use Rattle.std.proofs.Common.{◌≡◌, ℕ, ◌≤◌, List, ap, refl, subst, ◌∙◌, arith}
use Rattle.std.proofs.lemmas.Result.{err_from_is_err_and}
use Rattle.mp_system.specs.System.{TaskSystem, IsSystem}
use Rattle.shared_systems.specs.SharedMemory.{shared_peak_of}
use Rattle.fences.specs.Certificates.{join_places_from}
use Rattle.fences.specs.Workers.{relieved}
use Rattle.fencing.specs.Refusal.{IsFencingRefusal}
use Rattle.fencing.specs.Rooms.{Suits}
use Rattle.fencing.proofs.Certificates.{by_fencing, certifies, has_room, is_collected}
use Rattle.fencing.proofs.certificate.made_along.Goals as goal

pub returns-in_err-workers-clause-refused : goal.returns-in_err-workers-clause-refused
returns-in_err-workers-clause-refused c =
    let system = c.args.system.now in
    let bound = c.args.bound in
    let own = c.in-Some.collected in
    let woven = c.in_ok-order.order.items in
    let refusal = c.in_err-workers.field-0.0 in
    let told = err_from_is_err_and c.from_residual-in_err-workers.result c.from_residual-in_err-workers.ensures.1 in
    let same = is_collected system c.in_ok-collected.field-0 own c.in-Some.is c.in_ok-collected.ensures.system in
    let room = has_room system c.in_ok-collected.field-0 own c.in-Some.is c.in_ok-collected.ensures.room in
    let is = c.in_ok-peak.ensures.peak.0 in
    let within : shared_peak_of system c.args.order.now ≤ bound = omega (arith, c.in_ok-peak.ensures.peak.1, c.if-peak-bound.false) in
    let along = subst (λ (l : List ℕ). IsFencingRefusal (relieved 0 own) l bound refusal) c.deref-2.ensures.value c.in_err-workers.ensures.refused in
    let refused = subst (λ (s : TaskSystem). IsFencingRefusal (relieved 0 s) woven bound refusal) same along in
    rw (told.1, told.2)
    (by_fencing system c.args.order.now woven bound refusal is within room (c.in_ok-order.ensures.traversal is) (c.in_ok-order.ensures.peak is) refused)

pub returns-clause-certified : goal.returns-clause-certified
returns-clause-certified c =
    let system = c.args.system.now in
    let own = c.in-Some.collected in
    let found = c.in_ok-workers.field-0 in
    let same = is_collected system c.in_ok-collected.field-0 own c.in-Some.is c.in_ok-collected.ensures.system in
    let room = has_room system c.in_ok-collected.field-0 own c.in-Some.is c.in_ok-collected.ensures.room in
    let suits = subst (λ (s : TaskSystem). Suits s c.args.bound c.args.workers found) same c.in_ok-workers.ensures.made in
    certifies system (subst IsSystem same c.keeps.ensures) room (λ v task high. c.state_law.ensures.collector system v c.items.ensures.system task high)
    c.args.bound c.args.workers found _ suits refl refl (c.in_ok-joins.ensures ∙ ap (join_places_from 1) c.items.ensures.value) refl refl
