use Rattle.std.proofs.Common.{arith}
use Rattle.std.proofs.lemmas.List.{get_or_default}
use Rattle.std.proofs.lemmas.List.Edits.{map_over_more}
use Rattle.assembly_tree.specs.Assembly.{super_of, reparented}
use Rattle.assembly_tree.proofs.runs.name_parents.Goals as goal

pub loop-supernode-preserved : goal.loop-supernode-preserved
loop-supernode-preserved c = rw c.super_in-supernode.ensures
    (map_over_more (reparented (super_of c.args.nodes.now)) c.args.supers.now c.loop-supernode.supers
    c.loop-supernode.supernode-index _ c.loop-supernode-test.true c.loop-supernode.invariant
    (get_or_default c.loop-supernode.supers c.loop-supernode.supernode-index _ _ (omega arith)))
