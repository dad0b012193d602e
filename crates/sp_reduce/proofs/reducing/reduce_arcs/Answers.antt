use Rattle.std.proofs.Common.{ℕ, List, length, map, sym, ap, subst, arith, ◌∙◌}
use Rattle.graphs.specs.Graph.{item_of_arc}
use Rattle.sp_reduce.specs.declared.link.Link.{Link}
use Rattle.sp_reduce.specs.Outcome.{IsOutcome}
use Rattle.sp_reduce.specs.Reductions.{ends_of}
use Rattle.sp_reduce.specs.Work.{AreTasks, LinksValue, pairs_of}
use Rattle.sp_reduce.proofs.Rows.{leads-trans}
use Rattle.sp_reduce.proofs.reducing.reduce_arcs.Goals as goal

pub reduce_links-requires-clause-listed : goal.reduce_links-requires-clause-listed
reduce_links-requires-clause-listed c =
    subst (λ (n : ℕ). AreTasks n c.in_ok-todo.todo.items)
    (sym (c.in_ok-add_arcs.ensures.tasks ∙ ap (λ (l : LinksValue). l.tasks) c.in_ok-links.ensures)) c.in_ok-todo.ensures.listed

pub reduce_links-requires-clause-noted : goal.reduce_links-requires-clause-noted
reduce_links-requires-clause-noted c = λ u low high one_in one_out.
    c.in_ok-todo.ensures.each u low
    (omega (arith, high, c.in_ok-add_arcs.ensures.tasks, ap (λ (l : LinksValue). l.tasks) c.in_ok-links.ensures))

pub returns : goal.returns
returns c =
    let arcs = c.args.arcs.now in
    let first = c.add_arcs.new in
    let last = c.reduce_links.new in
    let whole : IsOutcome arcs last.links.list last.forest.nodes.items last.forest.pieces.items = record {
      row = leads-trans (map ends_of arcs) (pairs_of first.links.list)
          (pairs_of last.links.list) c.in_ok-add_arcs.ensures.row c.in_ok-reduce_links.ensures.row;
      irreducible = c.into_vec.ensures.irreducible c.in_ok-reduce_links.ensures.idle;
      carried = c.in_ok-reduce_links.ensures.carried (map item_of_arc arcs) c.in_ok-add_arcs.ensures.carried;
      few = omega (arith, c.into_vec.ensures.few, ap length c.into_vec.ensures.list);
    } in
    subst (λ (ls : List Link). IsOutcome arcs ls last.forest.nodes.items last.forest.pieces.items) (sym c.into_vec.ensures.list) whole
