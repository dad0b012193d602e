use Rattle.std.proofs.Common.{ℕ, List, length, sym, subst, ◌∙◌}
use Rattle.patterns.specs.Pattern.{is_joined}
use Rattle.ordering.specs.Fill.{renumbered, parents_of, counts_of}
use Rattle.assembly_tree.specs.Supernodes.{AreColumnCounts, AreSupernodes}
use Rattle.rounds_run_tests.proofs.tests.fronts.Goals as goal

pub supernodes-requires : goal.supernodes-requires
supernodes-requires g c =
    let rows = c.in_ok-pattern.pattern in
    let numbered = c.in_ok-numbered.numbered in
    let joined = renumbered (is_joined rows) numbered.perm in
    let n = length numbered.perm in
    let fill = c.renumbered_pattern.ensures in
    let are : AreColumnCounts (parents_of joined n) (counts_of joined n) =
    c.counts_of_fill.ensures joined n (fill.pattern rows numbered.perm c.keeps.ensures) (fill.within rows numbered.perm c.keeps.ensures) in
    subst (λ (ps : List ℕ). AreColumnCounts ps c.deref.result.now) (sym c.in_ok-numbered.ensures.tree)
    (subst (AreColumnCounts (parents_of joined n)) (sym (c.deref.ensures.value ∙ c.in_ok-counts.ensures)) are)

pub run_fronts-requires-clause-supernodes : goal.run_fronts-requires-clause-supernodes
run_fronts-requires-clause-supernodes g c = λ κs lives.
    let numbered = c.in_ok-numbered.numbered in
    subst (λ (cs : List ℕ). AreSupernodes numbered.parents cs c.in_ok-assembly.assembly)
    (c.deref.ensures.value ∙ c.in_ok-counts.ensures) c.in_ok-assembly.ensures
