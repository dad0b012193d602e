use Rattle.std.proofs.Common.{◌∙◌, ap, get_or, eqb, eq-eqb, Vec, Global}
use Rattle.std.proofs.lemmas.Bool.{ne_eqb}
use Rattle.graphs.specs.declared.arc.Arc.{Arc}
use Rattle.graphs.specs.Graph.{arc_between}
use Rattle.graphs.proofs.CountLemmas.{added-yes, added-no}
use Rattle.graphs.proofs.completed.add_first_arcs.Goals as goal
use Rattle.graphs.proofs.completed.add_first_arcs.Goals.{then-counts-v-eq0+in_ok-push, else-counts-v-eq0}

pub loop-v-preserved : goal.loop-v-preserved
loop-v-preserved c =
    let counts = c.args.counts.now in
    let place = c.loop-v.v in
    elim c.if-counts-v-eq0.branch [
      | then-counts-v-eq0+in_ok-push w ↦ ap (λ (v : Vec Arc Global). v.items) w.arcs-is ∙ w.in_ok-push.ensures.items
          ∙ added-yes (λ u. arc_between 0 u)
          (λ u. eqb (get_or counts u 0) 0) c.args.arcs.now.items c.loop-v.arcs.items place c.loop-v.auto.v c.loop-v.invariant
          (eq-eqb (get_or counts place 0) 0 w.if-counts-v-eq0.true)
      | else-counts-v-eq0 w ↦ ap (λ (v : Vec Arc Global). v.items) w.arcs-is
          ∙ added-no (λ u. arc_between 0 u)
          (λ u. eqb (get_or counts u 0) 0) c.args.arcs.now.items c.loop-v.arcs.items place c.loop-v.auto.v c.loop-v.invariant
          (ne_eqb (get_or counts place 0) 0 w.if-counts-v-eq0.false)
    ]
