use Rattle.std.proofs.Common.{◌∙◌, sym}
use Rattle.std.proofs.lemmas.Result.{IfOk-weaker}
use Rattle.symbolic.proofs.FrontTreeLemmas.{front-tree}
use Rattle.symbolic.proofs.analysis.front_tree.Goals as goal

pub returns : goal.returns
returns c =
    let is = c.in_ok-assembly.ensures in
    let analysis = c.in_ok-assembly.field-0 in
    IfOk-weaker c.fronts.result _ _
    (λ nodes are_fronts. front-tree c.args.options c.args.pattern.now c.args.perm.now analysis.numbered.perm analysis.assembly
    c.in_ok-merged.merged nodes is.analysis (is.len ∙ sym c.requires) c.in_ok-merged.ensures are_fronts)
    c.fronts.ensures
