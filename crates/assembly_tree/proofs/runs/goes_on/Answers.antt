use Rattle.std.proofs.Common.{sym, ◌∙◌}
use Rattle.std.proofs.lemmas.Bool.{eqb-true}
use Rattle.assembly_tree.proofs.RunLemmas.{goes_by_counts}
use Rattle.assembly_tree.proofs.runs.goes_on.Goals as goal
use Rattle.assembly_tree.proofs.runs.goes_on.Goals.{then-next-j, else-next-j}

pub returns-then-children-next : goal.returns-then-children-next
returns-then-children-next c =
    elim c.if-next-j.branch [
      | then-next-j w ↦ goes_by_counts c.args.parents.now c.args.counts.now c.args.children.now c.args.j c.at-next.result
          c.has_one_row_more.result c.requires.forest c.requires.children c.requires.column c.at-next.ensures.value w.if-next-j.true
          (eqb-true _ c.args.j (sym w.value-is ∙ c.if-children-next.true)) c.has_one_row_more.ensures
      | else-next-j w ↦ absurd (w.if-next-j.false (eqb-true c.at-next.result _ (sym w.value-is ∙ c.if-children-next.true)))
    ]
