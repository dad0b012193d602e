use Rattle.std.proofs.Common.{◌∙◌, length}
use Rattle.symbolic.specs.FrontTree.{columns}
use Rattle.symbolic.proofs.FrontTreeLemmas.{column-counts, by-counts, by-fill}
use Rattle.symbolic.proofs.analysis.analyse.Goals as goal

pub supernodes-requires : goal.supernodes-requires
supernodes-requires c =
    let rows = c.args.pattern.now in
    let numbered = c.in_ok-numbered.numbered in
    let fill = c.renumbered_pattern.ensures in
    column-counts rows numbered.perm numbered.parents c.deref.result.now c.in_ok-numbered.ensures.tree
    (c.deref.ensures.value ∙ c.in_ok-counts.ensures)
    (c.counts_of_fill.ensures (columns rows numbered.perm) (length numbered.perm)
    (fill.pattern rows numbered.perm c.keeps.ensures) (fill.within rows numbered.perm c.keeps.ensures))

pub returns-clause-analysis : goal.returns-clause-analysis
returns-clause-analysis c =
    let numbered = c.in_ok-numbered.numbered in
    record {
      postordered = c.in_ok-numbered.ensures.order;
      supernodes = by-fill c.args.pattern.now numbered.perm numbered.parents c.deref.result.now c.in_ok-numbered.ensures.tree
          (c.deref.ensures.value ∙ c.in_ok-counts.ensures) c.in_ok-assembly.assembly c.in_ok-assembly.ensures;
    }

pub returns-clause-supernodes : goal.returns-clause-supernodes
returns-clause-supernodes c =
    let numbered = c.in_ok-numbered.numbered in
    by-counts c.args.pattern.now numbered.perm numbered.parents c.deref.result.now c.in_ok-numbered.ensures.tree
    (c.deref.ensures.value ∙ c.in_ok-counts.ensures) c.in_ok-assembly.assembly c.in_ok-assembly.ensures
