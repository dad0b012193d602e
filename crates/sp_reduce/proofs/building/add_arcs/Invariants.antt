use Rattle.std.proofs.Common.{◌≡◌, ◌≤◌, ◌+◌, ◌*◌, ◌++◌, ℕ, map, drop, length, vec_len}
use Rattle.std.specs.Prelude.{All}
use Rattle.graphs.specs.Graph.{Rises, item_of_arc}
use Rattle.sp_reduce.specs.Pieces.{IsCarried}
use Rattle.sp_reduce.specs.Reductions.{ReducesTo, ends_of}
use Rattle.sp_reduce.specs.Work.{AreLinksRanked, link_count, pairs_of}
use Rattle.sp_reduce.proofs.building.add_arcs.Given as goal

abbrev pub invariant-loop-arc : goal.invariant-loop-arc
invariant-loop-arc l = record {
  tasks : l.links.tasks ≡ l.fn.links.tasks;
  ranked : (rank : ℕ → ℕ) → All (Rises rank) l.arcs → AreLinksRanked rank l.links.list;
  carried : IsCarried (map item_of_arc l.arcs)
      (map item_of_arc (drop l.arc-index l.arcs)) l.forest.pieces.items l.links.list l.forest.nodes.items;
  row : ReducesTo (map ends_of l.arcs) (pairs_of l.links.list ++ map ends_of (drop l.arc-index l.arcs));
  lens : vec_len l.forest.nodes ≡ length l.links.list;
  few : length l.links.list ≤ l.arc-index;
  room : vec_len l.forest.pieces + link_count l.links.list ≤ 2 * l.arc-index;
}
