-- No public clause names this.
-- What is left of the arcs of a graph: links that reductions lead to, to which none applies, with the terms that they carry.
use Rattle.std.specs.Prelude.{ℕ, ◌≤◌, List, [], length, map}
use Rattle.limits.specs.Limits.{most_arcs}
use Rattle.graphs.specs.declared.arc.Arc.{Arc}
use Rattle.graphs.specs.Graph.{item_of_arc}
use Rattle.sp_reduce.specs.declared.link.Link.{Link}
use Rattle.sp_reduce.specs.declared.piece.Piece.{Piece}
use Rattle.sp_reduce.specs.NetGraphs.{IsIrreducible}
use Rattle.sp_reduce.specs.Pieces.{IsCarried}
use Rattle.sp_reduce.specs.Reductions.{ReducesTo, ends_of}
use Rattle.sp_reduce.specs.Work.{graph_of, pairs_of}

pub record IsOutcome (arcs : List Arc) (links : List Link) (nodes : List ℕ) (pieces : List Piece) : Type 0 where
  pub row : ReducesTo (map ends_of arcs) (pairs_of links)
  pub irreducible : IsIrreducible (graph_of links)
  pub carried : IsCarried (map item_of_arc arcs) [] pieces links nodes
  pub few : length links ≤ most_arcs
