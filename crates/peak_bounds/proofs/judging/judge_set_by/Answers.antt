use Rattle.std.proofs.Common.{Result, subst}
use Rattle.std.specs.Prelude.{MatchResult}
use Rattle.std.proofs.lemmas.Result.{IfOk-weaker}
use Rattle.peak_bounds.specs.declared.blockers.Common.{Common}
use Rattle.peak_bounds.specs.declared.evidence.Evidence.TheVariants.{Set}
use Rattle.peak_bounds.specs.declared.evidence.Objection.{Objection}
use Rattle.peak_bounds.specs.Evidence.{IsObjection}
use Rattle.peak_bounds.specs.Judged.{IsFormed, IsCommon}
use Rattle.peak_bounds.proofs.Parts.{judged_set}
use Rattle.peak_bounds.proofs.judging.judge_set_by.Goals as goal

pub returns-in-Ok : goal.returns-in-Ok
returns-in-Ok g c =
    let system = c.args.system.now in
    let set = c.args.set.now in
    let bound = c.args.bound in
    let opened = subst (λ (r : Result Common Objection).
    MatchResult r (λ common. IsFormed system set bound × IsCommon system set common) (IsObjection system (Set set) bound)) c.in-Ok.is c.in_ok-common.ensures in
    IfOk-weaker c.judge_parts.result _ _ (judged_set system set bound opened.0)
    c.judge_parts.ensures
