use Rattle.std.proofs.Common.{sym, ap, ◌∙◌, subst}
use Rattle.trees.specs.Tree.{IsTree}
use Rattle.assembly_tree.specs.Fronts.{nodes_of_fronts}
use Rattle.assembly_tree.proofs.FrontLemmas.{fronts_tree, fronts_with, fronts_inside, parents_inside, supers_few}
use Rattle.assembly_tree.proofs.front.fronts.Goals as goal

pub shares_of-requires-clause-few : goal.shares_of-requires-clause-few
shares_of-requires-clause-few c = rw c.supers-supers.ensures.value (supers_few c.args.assembly.now c.supers-supers.ensures.assembly)

pub shares_of-requires-clause-parents : goal.shares_of-requires-clause-parents
shares_of-requires-clause-parents c = rw c.supers-supers.ensures.value (parents_inside c.args.assembly.now c.supers-supers.ensures.assembly)

pub shares_of-requires-clause-fits : goal.shares_of-requires-clause-fits
shares_of-requires-clause-fits c = rw c.supers-supers.ensures.value (fronts_inside c.args.assembly.now c.supers-supers.ensures.assembly)

pub nodes_of-requires-clause-fits : goal.nodes_of-requires-clause-fits
nodes_of-requires-clause-fits c = rw c.supers-supers.ensures.value (fronts_inside c.args.assembly.now c.supers-supers.ensures.assembly)

pub new-requires : goal.new-requires
new-requires c =
    let is = c.in_ok-nodes.ensures
    ∙ fronts_with c.args.shape c.args.inplace c.supers-supers.result.now c.deref.result.now
    (rw c.deref.ensures.value c.in_ok-shares.ensures.shares)
    ∙ ap (nodes_of_fronts c.args.shape c.args.inplace) c.supers-supers.ensures.value in
    subst IsTree (sym is) (fronts_tree c.args.shape c.args.inplace c.args.assembly.now c.supers-supers.ensures.assembly)

pub returns : goal.returns
returns c =
    c.new.ensures ∙ c.in_ok-nodes.ensures
    ∙ fronts_with c.args.shape c.args.inplace c.supers-supers.result.now c.deref.result.now
    (rw c.deref.ensures.value c.in_ok-shares.ensures.shares)
    ∙ ap (nodes_of_fronts c.args.shape c.args.inplace) c.supers-supers.ensures.value
