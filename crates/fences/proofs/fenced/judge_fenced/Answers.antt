use Rattle.std.proofs.Common.{◌≡◌, subst, arith}
use Rattle.std.proofs.lemmas.Result.{err_from_is_err_and}
use Rattle.mp_system.specs.System.{TaskSystem, IsSystem}
use Rattle.fences.specs.Amounts.{AreHandedOn, certified_bound}
use Rattle.fences.specs.Judged.{AreAccepted, IsAmountsRefusal}
use Rattle.fences.specs.JudgedFences.{with_fences}
use Rattle.fences.specs.Workers.{relieved}
use Rattle.fences.proofs.FencedLists.{is_fenced}
use Rattle.fences.proofs.Refusals.{by_amounts}
use Rattle.fences.proofs.RelievedFences.{accepted_kept, amounts_kept, leave_kept}
use Rattle.fences.proofs.fenced.judge_fenced.Goals as goal

pub returns-in_err-certified-clause-refused : goal.returns-in_err-certified-clause-refused
returns-in_err-certified-clause-refused c =
    let p = err_from_is_err_and c.from_residual.result c.from_residual.ensures.1 in
    let system = c.args.system.now in
    let fences = c.args.fences.now in
    let room = c.args.room in
    let amounts = c.args.amounts.now in
    let refusal = c.in_err-certified.field-0.0 in
    let said = subst (λ (s : TaskSystem). IsAmountsRefusal s amounts refusal) c.requires.fenced c.in_err-certified.ensures.refused in
    let kept = amounts_kept (with_fences system fences) room amounts refusal said in
    rw (p.1, p.2) (by_amounts (relieved room system) fences amounts c.args.bound (leave_kept system room fences c.requires.leave) refusal kept)

pub returns-then-certified-bound-clause-refused : goal.returns-then-certified-bound-clause-refused
returns-then-certified-bound-clause-refused c =
    let system = c.args.system.now in
    let fences = c.args.fences.now in
    let room = c.args.room in
    let amounts = c.args.amounts.now in
    let ok = c.in_ok-certified in (
      leave_kept system room fences c.requires.leave,
      accepted_kept (with_fences system fences) room amounts (subst (λ (s : TaskSystem). AreAccepted s amounts) c.requires.fenced ok.ensures.accepted),
      subst (λ (s : TaskSystem). ok.certified ≡ certified_bound (relieved room s) amounts) c.requires.fenced ok.ensures.certified,
      c.if-certified-bound.true,
    )

pub returns-clause-certify : goal.returns-clause-certify
returns-clause-certify c =
    let system = c.args.system.now in
    let fences = c.args.fences.now in
    let room = c.args.room in
    let amounts = c.args.amounts.now in
    let ok = c.in_ok-certified in
    let certified = subst (λ (s : TaskSystem). ok.certified ≡ certified_bound (relieved room s) amounts) c.requires.fenced ok.ensures.certified in
    record {
      leave = leave_kept system room fences c.requires.leave;
      accepted = accepted_kept (with_fences system fences) room amounts (subst (λ (s : TaskSystem). AreAccepted s amounts) c.requires.fenced ok.ensures.accepted);
      within = omega (arith, certified, c.if-certified-bound.false);
    }

pub returns-clause-progress : goal.returns-clause-progress
returns-clause-progress c =
    c.progress_law.ensures (with_fences c.args.system.now c.args.fences.now) c.requires.leave.order c.requires.leave.traversal

pub returns-clause-orders : goal.returns-clause-orders
returns-clause-orders c = λ order is.
    let system = c.args.system.now in
    let room = c.args.room in
    let amounts = c.args.amounts.now in
    let fenced = with_fences system c.args.fences.now in
    let are = is_fenced system c.args.fences.now in
    let sys : IsSystem fenced = subst IsSystem c.requires.fenced c.keeps.ensures in
    let handed = subst (λ (s : TaskSystem). AreHandedOn s amounts) c.requires.fenced c.in_ok-certified.ensures.handed_on in
    let certified =
    subst (λ (s : TaskSystem). c.in_ok-certified.certified ≡ certified_bound (relieved room s) amounts) c.requires.fenced c.in_ok-certified.ensures.certified in
    let peak = c.workers_law.ensures.traversal fenced room amounts order sys.items handed is in (
      c.fenced_law.ensures.traversal system fenced order are is,
      omega (arith, peak, certified, c.fenced_law.ensures.peak system fenced order are, c.if-certified-bound.false),
    )
