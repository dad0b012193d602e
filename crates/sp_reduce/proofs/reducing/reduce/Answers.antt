use Rattle.std.proofs.Common.{◌≡◌, ◌∷◌, [], ℕ, List, sym, ap, subst, ◌∙◌}
use Rattle.std.specs.Prelude.{IsPermutation}
use Rattle.graphs.specs.declared.arc.Arc.{Arc}
use Rattle.sp_terms.specs.Values.{term_of}
use Rattle.sp_terms.specs.declared.position.Position.{Position}
use Rattle.graphs.specs.Graph.{completed_system}
use Rattle.sp_reduce.specs.declared.link.Link.{Link}
use Rattle.sp_reduce.specs.Outcome.{IsOutcome}
use Rattle.sp_reduce.specs.Reduced.{HasSystem}
use Rattle.sp_reduce.specs.Work.{pairs_of}
use Rattle.sp_reduce.proofs.Answer.{found, answer-rest}
use Rattle.sp_reduce.proofs.reducing.reduce.Goals as goal

pub write_term-requires-clause-names : goal.write_term-requires-clause-names
write_term-requires-clause-names c =
    let graph = c.args.graph.now in
    let is = c.tasks-tasks.ensures.graph in
    let left = c.in_ok-outcome.outcome in
    (found graph c.completed_arcs.result.now c.deref-2.result.now left.links.items
    left.forest.nodes.items c.deref-in-Some.result.now left.forest.pieces.items c.tasks-tasks.result.now
    c.in-Some.link c.index-root.result.now is (c.system_law.ensures graph is)
    (c.completed_law.ensures.within graph is) (c.completed_law.ensures.into graph) c.terms_law.ensures.form
    c.completed_arcs.ensures.value c.in_ok-outcome.ensures c.deref-2.ensures.value c.in-Some.ensures
    c.index-root.ensures c.deref-in-Some.ensures.value c.tasks-tasks.ensures.value).among

pub write_term-requires-clause-small : goal.write_term-requires-clause-small
write_term-requires-clause-small c =
    let graph = c.args.graph.now in
    let is = c.tasks-tasks.ensures.graph in
    let left = c.in_ok-outcome.outcome in
    (found graph c.completed_arcs.result.now c.deref-2.result.now left.links.items
    left.forest.nodes.items c.deref-in-Some.result.now left.forest.pieces.items c.tasks-tasks.result.now
    c.in-Some.link c.index-root.result.now is (c.system_law.ensures graph is)
    (c.completed_law.ensures.within graph is) (c.completed_law.ensures.into graph) c.terms_law.ensures.form
    c.completed_arcs.ensures.value c.in_ok-outcome.ensures c.deref-2.ensures.value c.in-Some.ensures
    c.index-root.ensures c.deref-in-Some.ensures.value c.tasks-tasks.ensures.value).small

pub new-requires : goal.new-requires
new-requires c =
    let graph = c.args.graph.now in
    let is = c.tasks-tasks.ensures.graph in
    let left = c.in_ok-outcome.outcome in
    (found graph c.completed_arcs.result.now c.deref-2.result.now left.links.items
    left.forest.nodes.items c.deref-in-Some.result.now left.forest.pieces.items c.tasks-tasks.result.now
    c.in-Some.link c.index-root.result.now is (c.system_law.ensures graph is)
    (c.completed_law.ensures.within graph is) (c.completed_law.ensures.into graph) c.terms_law.ensures.form
    c.completed_arcs.ensures.value c.in_ok-outcome.ensures c.deref-2.ensures.value c.in-Some.ensures
    c.index-root.ensures c.deref-in-Some.ensures.value c.tasks-tasks.ensures.value).terms
    c.in_ok-positions-in-Some.field-0.positions.items c.in_ok-positions-in-Some.ensures.positions

pub returns-in-Some-clause-reduced : goal.returns-in-Some-clause-reduced
returns-in-Some-clause-reduced c =
    let graph = c.args.graph.now in
    let is = c.tasks-tasks.ensures.graph in
    let left = c.in_ok-outcome.outcome in
    let written = c.in_ok-positions-in-Some.field-0 in
    let has = (found graph c.completed_arcs.result.now c.deref-2.result.now left.links.items
    left.forest.nodes.items c.deref-in-Some.result.now left.forest.pieces.items c.tasks-tasks.result.now
    c.in-Some.link c.index-root.result.now is (c.system_law.ensures graph is)
    (c.completed_law.ensures.within graph is) (c.completed_law.ensures.into graph) c.terms_law.ensures.form
    c.completed_arcs.ensures.value c.in_ok-outcome.ensures c.deref-2.ensures.value c.in-Some.ensures
    c.index-root.ensures c.deref-in-Some.ensures.value c.tasks-tasks.ensures.value).system
    written.positions.items written.names.items c.in_ok-positions-in-Some.ensures.positions c.in_ok-positions-in-Some.ensures.names in
    subst (λ (ps : List Position). HasSystem written.names.items (term_of ps) (completed_system graph)) (sym c.new.ensures) has

pub returns-clause-refused : goal.returns-clause-refused
returns-clause-refused c =
    let graph = c.args.graph.now in
    let left = c.in_ok-outcome.outcome in
    let links = left.links.items in
    let o = subst (λ (arcs : List Arc). IsOutcome arcs links left.forest.nodes.items left.forest.pieces.items)
    c.completed_arcs.ensures.value c.in_ok-outcome.ensures in
    let other = subst (λ (ls : List Link). pairs_of ls ≡ (0, 0) ∷ [] → ⊥) c.deref-2.ensures.value c.in-None.ensures in
    let ends : c.in_ok-ends.ends.items ≡ pairs_of links = c.in_ok-ends.ensures ∙ ap pairs_of c.deref.ensures.value in
    answer-rest graph links left.forest.nodes.items left.forest.pieces.items o other c.sort.new.self.items
    (subst (λ (es : List (ℕ × ℕ)). IsPermutation es c.sort.new.self.items) ends c.in_ok-sort-in-None.ensures.permutation)
    c.in_ok-sort-in-None.ensures.sorted
