use Rattle.std.proofs.Common.{◌∙◌, ℕ, List, ap, sym, subst, length}
use Rattle.trees.specs.Forest.{all_numbers}
use Rattle.judging.specs.Judged.{IsNaming, AreWithin}
use Rattle.judging.specs.Numbered.{task_positions}
use Rattle.judging.proofs.NumberLemmas.{names_of, forest_tasks, named_within, tasks_within}
use Rattle.judging.proofs.numbered.number_nodes.Goals as goal

pub by_name-requires-clause-names : goal.by_name-requires-clause-names
by_name-requires-clause-names c =
    let nodes = c.args.tree.now in
    let forest = c.forest_law.ensures.some nodes c.keeps.ensures in
    let named = c.in_ok-named.ensures.positions forest.0 forest.1 in
    subst IsNaming (sym (c.as_slice.ensures ∙ named.1))
    (names_of (all_numbers forest.0) (length nodes) (c.forest_law.ensures.each nodes forest.0 c.keeps.ensures forest.1))

pub by_name-requires-clause-many : goal.by_name-requires-clause-many
by_name-requires-clause-many c =
    let nodes = c.args.tree.now in
    let forest = c.forest_law.ensures.some nodes c.keeps.ensures in
    let named = c.in_ok-named.ensures.positions forest.0 forest.1 in
    ap (λ (ks : List ℕ). length ks) (c.deref.ensures.value ∙ c.in_ok-tasks.ensures) ∙ ap (λ ps. length (task_positions 1 ps)) named.0
    ∙ forest_tasks nodes forest.0 ∙ sym (ap (λ (ks : List ℕ). length ks) (c.as_slice.ensures ∙ named.1))

pub returns-clause-within : goal.returns-clause-within
returns-clause-within c =
    let nodes = c.args.tree.now in
    let forest = c.forest_law.ensures.some nodes c.keeps.ensures in
    let named = c.in_ok-named.ensures.positions forest.0 forest.1 in
    let terms = c.in_ok-named.named.terms in
    let names = subst IsNaming (sym (c.as_slice.ensures ∙ named.1))
    (names_of (all_numbers forest.0) (length nodes) (c.forest_law.ensures.each nodes forest.0 c.keeps.ensures forest.1)) in
    let tasks = c.deref.ensures.value ∙ c.in_ok-tasks.ensures in
    let many = ap (λ (ks : List ℕ). length ks) tasks ∙ ap (λ ps. length (task_positions 1 ps)) named.0
    ∙ forest_tasks nodes forest.0 ∙ sym (ap (λ (ks : List ℕ). length ks) (c.as_slice.ensures ∙ named.1)) in
    subst (AreWithin (length terms)) (sym c.in_ok-positions.ensures)
    (named_within c.as_slice.result.now c.deref.result.now names many (length terms)
    (subst (AreWithin (length terms)) (sym tasks) (tasks_within terms)))
