use Rattle.std.proofs.Common.{◌∙◌, ap, arith}
use Rattle.std.specs.List.{sum_by}
use Rattle.std.proofs.lemmas.List.{take_all}
use Rattle.sp_terms.specs.Values.{added_tasks}
use Rattle.sp_terms.specs.declared.position.Position.TheVariants.{Hold}
use Rattle.least_peak.proofs.TaskCounts.{one_more, no_more, tasks_counted}
use Rattle.least_peak.proofs.problem.count_tasks.Goals as goal
use Rattle.least_peak.proofs.problem.count_tasks.Goals.{in-Task, in_default}

pub loop-done-preserved : goal.loop-done-preserved
loop-done-preserved c =
    let terms = c.args.terms.now in
    let done = c.loop-done.done in
    elim c.match-at.branch [
      | in-Task w ↦ w.count-is
          ∙ one_more terms done (Hold 0) c.at.result _ _ _ _ (omega (arith, c.loop-done-test.true, c.len-done-end.ensures.value))
          (c.at.ensures (Hold 0)) w.in-Task.is c.loop-done.invariant
      | in_default w ↦ w.count-is
          ∙ no_more terms done (Hold 0) c.at.result _ (omega (arith, c.loop-done-test.true, c.len-done-end.ensures.value))
          (c.at.ensures (Hold 0)) w.in_default.not-Task c.loop-done.invariant
    ]

pub returns : goal.returns
returns c =
    let terms = c.args.terms.now in
    c.loop-done.invariant
    ∙ ap (sum_by added_tasks) (take_all c.loop-done.done terms (omega (arith, c.loop-done-test.false, c.len-done-end.ensures.value)))
    ∙ tasks_counted c.terms_law.ensures.denotes c.terms_law.ensures.only terms c.keeps.ensures
