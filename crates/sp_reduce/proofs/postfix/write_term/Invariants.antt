use Rattle.std.proofs.Common.{length}
use Rattle.sp_terms.specs.Postfix.{postfix}
use Rattle.graphs.specs.Graph.{listed_task}
use Rattle.sp_reduce.specs.Nets.{names}
use Rattle.sp_reduce.specs.Pieces.{net_at, nets_of}
use Rattle.sp_reduce.specs.Shapes.{size_of, term_of_net}
use Rattle.sp_reduce.specs.Writing.{all_sizes}
use Rattle.sp_reduce.proofs.Writings.{IsWriting}
use Rattle.sp_reduce.proofs.postfix.write_term.Given as goal

abbrev pub invariant-loop-next : goal.invariant-loop-next
invariant-loop-next l =
    let t = net_at (nets_of l.pieces) l.root in
    IsWriting (listed_task l.tasks) (length l.tasks) l.pieces (postfix (term_of_net (listed_task l.tasks) t)) (names t) (size_of t)
    l.pending.items l.written.positions.items l.written.names.items

abbrev pub decreases-loop-next : goal.decreases-loop-next
decreases-loop-next l = all_sizes (nets_of l.pieces) l.pending.items
