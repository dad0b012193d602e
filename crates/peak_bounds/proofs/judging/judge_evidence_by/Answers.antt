use Rattle.std.proofs.Common.{◌↔◌, sym, subst}
use Rattle.std.specs.Prelude.{IsNone, IfOk}
use Rattle.std.proofs.lemmas.Result.{IfOk-weaker}
use Rattle.peak_bounds.specs.declared.evidence.Evidence.{Evidence}
use Rattle.peak_bounds.specs.declared.evidence.Evidence.TheVariants.{Need, Set}
use Rattle.peak_bounds.specs.Evidence.{IsEvidence}
use Rattle.peak_bounds.proofs.Verdicts.{exactly, peaks_by}
use Rattle.peak_bounds.proofs.judging.judge_evidence_by.Goals as goal

pub returns-in-Need-clause-peaks : goal.returns-in-Need-clause-peaks
returns-in-Need-clause-peaks g c = peaks_by c.args.system.now (Need c.in-Need.task) c.args.bound c.judge_need.result c.keeps.ensures c.judge_need.ensures

pub returns-in-Set-clause-exact : goal.returns-in-Set-clause-exact
returns-in-Set-clause-exact g c =
    subst (λ (e : Evidence). IfOk c.judge_set_by.result (λ found. IsNone found ↔ IsEvidence c.args.system.now e c.args.bound)) (sym c.in-Set.is)
    (IfOk-weaker c.judge_set_by.result _ _ (exactly c.args.system.now (Set c.in-Set.set) c.args.bound) c.judge_set_by.ensures)

pub returns-in-Set-clause-peaks : goal.returns-in-Set-clause-peaks
returns-in-Set-clause-peaks g c =
    IfOk-weaker c.judge_set_by.result _ _ (λ found. peaks_by c.args.system.now (Set c.in-Set.set) c.args.bound found c.keeps.ensures) c.judge_set_by.ensures
