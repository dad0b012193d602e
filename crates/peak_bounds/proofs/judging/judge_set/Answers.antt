use Rattle.std.proofs.Common.{ℕ, List, length, Result, ap, subst}
use Rattle.std.specs.Prelude.{IfOk, MatchResult}
use Rattle.std.proofs.lemmas.Result.{IfOk-weaker}
use Rattle.peak_bounds.specs.declared.blockers.Common.{Common}
use Rattle.peak_bounds.specs.declared.evidence.Evidence.TheVariants.{Set}
use Rattle.peak_bounds.specs.declared.evidence.Objection.{Objection}
use Rattle.peak_bounds.specs.EventSets.{BlockerValue}
use Rattle.peak_bounds.specs.Evidence.{IsObjection}
use Rattle.peak_bounds.specs.Judged.{IsFormed, IsCommon, IsFoundIn}
use Rattle.peak_bounds.proofs.Parts.{judged_set}
use Rattle.peak_bounds.proofs.judging.judge_set.Goals as goal

pub returns-in-Ok : goal.returns-in-Ok
returns-in-Ok c =
    let system = c.args.system.now in
    let set = c.args.set.now in
    let bound = c.args.bound in
    let opened = subst (λ (r : Result Common Objection).
    MatchResult r (λ common. IsFormed system set bound × IsCommon system set common) (IsObjection system (Set set) bound)) c.in-Ok.is c.in_ok-common.ensures in
    IfOk-weaker c.judge_part.result _ _ (judged_set system set bound opened.0)
    (subst (λ (n : ℕ). IfOk c.judge_part.result (IsFoundIn system set bound 0 n)) (ap (λ (l : List BlockerValue). length l) c.blockers.ensures) c.judge_part.ensures)
