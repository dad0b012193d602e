use Rattle.std.proofs.Common.{◌∙◌, arith, sym}
use Rattle.c_calls.proofs.FrontsMade.{columns_long, few_fronts, made, relaxed_assembly, relaxed_long}
use Rattle.c_calls.proofs.fronts.fronts_of_matrix.Goals as goal

pub supernodes_of-requires-clause-len : goal.supernodes_of-requires-clause-len
supernodes_of-requires-clause-len c =
    let rows = c.args.pattern.now in
    let analysis = c.in_ok-numbered.field-0 in
    let is = c.in_ok-numbered.ensures in
    let assembly = c.one_analysis.ensures.tree rows c.args.order.now
    analysis.numbered.perm analysis.assembly c.keeps.ensures c.requires.len is.analysis in
    columns_long rows analysis.numbered.perm analysis.numbered.parents _ analysis.assembly is.tree is.supernodes
    ∙ sym (relaxed_long c.amalgamation_is_relaxed.ensures c.args.options.zeros
    analysis.assembly c.in_ok-merged.merged assembly c.in_ok-merged.ensures)

pub returns-clause-fronts : goal.returns-clause-fronts
returns-clause-fronts c =
    let analysis = c.in_ok-numbered.field-0 in
    let is = c.in_ok-numbered.ensures in
    made c.args.options c.args.pattern.now c.args.order.now analysis.numbered.perm analysis.assembly c.in_ok-merged.merged c.in_ok-tree.tree
    c.in_ok-of_columns.of_columns.items is.analysis (is.len ∙ sym c.requires.len) c.in_ok-merged.ensures c.in_ok-tree.ensures
    c.in_ok-of_columns.ensures

pub returns-clause-few : goal.returns-clause-few
returns-clause-few c =
    let rows = c.args.pattern.now in
    let analysis = c.in_ok-numbered.field-0 in
    let is = c.in_ok-numbered.ensures in
    let merged = c.in_ok-merged.merged in
    let assembly = c.one_analysis.ensures.tree rows c.args.order.now
    analysis.numbered.perm analysis.assembly c.keeps.ensures c.requires.len is.analysis in
    let is_assembly = relaxed_assembly c.amalgamation_is_assembly.ensures
    c.args.options.zeros analysis.assembly merged assembly c.in_ok-merged.ensures in
    let few = few_fronts c.args.options.shape c.args.options.inplace merged c.in_ok-tree.tree is_assembly c.in_ok-tree.ensures in
    let long =
    relaxed_long c.amalgamation_is_relaxed.ensures c.args.options.zeros analysis.assembly merged assembly c.in_ok-merged.ensures in
    let columns = columns_long rows analysis.numbered.perm analysis.numbered.parents _ analysis.assembly is.tree is.supernodes in
    omega (arith, few, long, columns, is.len)
