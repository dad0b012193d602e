use Rattle.std.proofs.Common.{◌∙◌, sym, ap, length}
use Rattle.std.proofs.lemmas.List.FromFn.{length-map-range_with_len}
use Rattle.ordering.specs.Fill.{parent_of}
use Rattle.assembly_tree.specs.Assembly.{AssemblyTree}
use Rattle.symbolic.specs.FrontTree.{columns}
use Rattle.reports.proofs.ColumnLemmas.{relaxed_nodes}
use Rattle.reports.proofs.commands.columns.front_columns.Goals as goal

pub returns-clause-analysis : goal.returns-clause-analysis
returns-clause-analysis c = (c.in_ok-analysis.analysis.assembly, c.in_ok-analysis.ensures.analysis, c.in_ok-assembly.ensures)

pub returns-clause-len : goal.returns-clause-len
returns-clause-len c =
    let analysis = c.in_ok-analysis.analysis in
    let perm = analysis.numbered.perm in
    let merged = relaxed_nodes c.amalgamation_is_relaxed.ensures c.args.zeros analysis.assembly c.supers-supers.ensures.assembly in
    let parents = length-map-range_with_len (parent_of (columns c.args.read.now.pattern perm) (length perm)) 1 (length perm) in
    sym (ap (λ (made : AssemblyTree). length made.nodes) c.in_ok-assembly.ensures ∙ merged
    ∙ c.in_ok-analysis.ensures.supernodes.len ∙ ap length c.in_ok-analysis.ensures.tree ∙ parents)
