use Rattle.trees.proofs.JudgedLemmas.{are_tree}
use Rattle.trees.proofs.PlainLemmas.{plain_roots, plain_shares}
use Rattle.trees.proofs.faults.first_fault.Goals as goal

pub returns-then-is_plain : goal.returns-then-is_plain
returns-then-is_plain c =
    let nodes = c.args.nodes.now in
    let plain = c.is_plain.ensures.0 c.if-is_plain.true in
    are_tree nodes c.requires (plain_roots nodes plain c.requires.each) (plain_shares nodes plain c.requires.each)
