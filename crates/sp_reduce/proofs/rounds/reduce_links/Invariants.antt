use Rattle.std.proofs.Common.{◌≡◌, ◌+◌, ◌*◌, ◌≤◌, List, [], length, vec_len}
use Rattle.mp_system.specs.declared.system.Item.{Item}
use Rattle.sp_reduce.specs.Reductions.{ReducesTo}
use Rattle.sp_reduce.specs.Pieces.{IsCarried}
use Rattle.sp_reduce.specs.Work.{AreTasks, AreNoted, link_count, pairs_of}
use Rattle.sp_reduce.proofs.rounds.reduce_links.Given as goal

abbrev pub invariant-loop-task : goal.invariant-loop-task
invariant-loop-task l = record {
  row : ReducesTo (pairs_of l.fn.links.list) (pairs_of l.links.list);
  carried : (graph : List Item) → IsCarried graph [] l.fn.forest.pieces.items l.fn.links.list l.fn.forest.nodes.items
      → IsCarried graph [] l.forest.pieces.items l.links.list l.forest.nodes.items;
  lens : vec_len l.forest.nodes ≡ length l.links.list;
  room : vec_len l.forest.pieces + link_count l.links.list ≤ vec_len l.fn.forest.pieces + link_count l.fn.links.list;
  listed : AreTasks l.links.tasks l.todo.items;
  noted : AreNoted l.links.tasks l.links.list l.todo.items;
}

abbrev pub decreases-loop-task : goal.decreases-loop-task
decreases-loop-task l = 3 * link_count l.links.list + vec_len l.todo
