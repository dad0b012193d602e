use Rattle.std.proofs.Common.{◌+◌, ◌++◌, ◌∷◌, ℕ, List, length, map, drop, get_or, refl, sym, ap, subst, arith, ◌∙◌}
use Rattle.std.proofs.lemmas.List.{append-nil, drop_all}
use Rattle.std.proofs.lemmas.List.Sorted.{IsPermutation-refl}
use Rattle.mp_system.specs.declared.system.Item.{Item}
use Rattle.graphs.specs.declared.arc.Arc.{Arc}
use Rattle.graphs.specs.Graph.{item_of_arc}
use Rattle.sp_reduce.specs.declared.link.Link.{Link}
use Rattle.sp_reduce.specs.Pieces.{IsCarried}
use Rattle.sp_reduce.specs.Reductions.{ReducesTo, in_order, ends_of}
use Rattle.sp_reduce.specs.Work.{link_count, pairs_of}
use Rattle.sp_reduce.proofs.Rows.{leads-trans}
use Rattle.sp_reduce.proofs.Outcomes.{no_arc, carried-empty, item-next, ends-next}
use Rattle.sp_reduce.proofs.building.add_arcs.Goals as goal

pub loop-arc-init : goal.loop-arc-init
loop-arc-init c = record {
  tasks = refl;
  ranked = λ rank rises x lt. absurd (omega (arith, lt, ap length c.requires.empty.0));
  carried = carried-empty (map item_of_arc c.args.arcs.now) c.args.forest.now.pieces.items
      c.args.links.now.list c.args.forest.now.nodes.items c.requires.empty.2 c.requires.empty.0 c.requires.empty.1;
  row = subst (λ (ls : List Link). ReducesTo (map ends_of c.args.arcs.now) (pairs_of ls ++ map ends_of c.args.arcs.now))
      (sym c.requires.empty.0) (in_order (IsPermutation-refl (map ends_of c.args.arcs.now)));
  lens = omega (arith, c.args.forest.now.nodes.ok.0, ap length c.requires.empty.0, ap length c.requires.empty.1);
  few = omega (arith, ap length c.requires.empty.0);
  room = omega (arith, c.args.forest.now.pieces.ok.0, ap length c.requires.empty.2, ap link_count c.requires.empty.0);
}

pub add_arc-requires-clause-within : goal.add_arc-requires-clause-within
add_arc-requires-clause-within c =
    let w = c.requires.within c.loop-arc.arc-index no_arc c.loop-arc-test.true in
    (omega (arith, w.from, c.loop-arc.invariant.tasks), omega (arith, w.to, c.loop-arc.invariant.tasks))

pub add_arc-requires-clause-ranked : goal.add_arc-requires-clause-ranked
add_arc-requires-clause-ranked c =
    let rank = c.requires.ranked.0 in
    let rises = c.requires.ranked.1 in
    (rank, (rises c.loop-arc.arc-index no_arc c.loop-arc-test.true, c.loop-arc.invariant.ranked rank rises))

pub loop-arc-preserved : goal.loop-arc-preserved
loop-arc-preserved c =
    let arcs = c.args.arcs.now in
    let i = c.loop-arc.arc-index in
    let links = c.loop-arc.links.list in
    let lt = c.loop-arc-test.true in
    record {
      tasks = c.in_ok-add_arc.ensures.tasks ∙ c.loop-arc.invariant.tasks;
      ranked = λ rank rises. c.in_ok-add_arc.ensures.ranked rank (rises i no_arc lt) (c.loop-arc.invariant.ranked rank rises);
      carried = c.in_ok-add_arc.ensures.carried (map item_of_arc arcs) (map item_of_arc (drop (i + 1) arcs))
          (subst
          (λ (xs : List Item). IsCarried (map item_of_arc arcs) xs c.loop-arc.forest.pieces.items links c.loop-arc.forest.nodes.items)
          (item-next arcs no_arc i lt) c.loop-arc.invariant.carried);
      row = leads-trans (map ends_of arcs) (pairs_of links ++ ends_of (get_or arcs i no_arc) ∷ map ends_of (drop (i + 1) arcs))
          (pairs_of c.add_arc.new.links.list ++ map ends_of (drop (i + 1) arcs))
          (subst (λ (xs : List (ℕ × ℕ)). ReducesTo (map ends_of arcs) (pairs_of links ++ xs))
          (ends-next arcs no_arc i lt) c.loop-arc.invariant.row)
          (c.in_ok-add_arc.ensures.row (map ends_of (drop (i + 1) arcs)));
      lens = c.in_ok-add_arc.ensures.lens.0;
      few = omega (arith, c.loop-arc.invariant.few, c.in_ok-add_arc.ensures.lens.1);
      room = omega (arith, c.loop-arc.invariant.room, c.in_ok-add_arc.ensures.room);
    }

pub returns-clause-carried : goal.returns-clause-carried
returns-clause-carried c =
    subst (λ (xs : List Arc). IsCarried (map item_of_arc c.args.arcs.now)
    (map item_of_arc xs) c.loop-arc.forest.pieces.items c.loop-arc.links.list c.loop-arc.forest.nodes.items)
    (drop_all c.loop-arc.arc-index c.args.arcs.now c.loop-arc-test.false) c.loop-arc.invariant.carried

pub returns-clause-row : goal.returns-clause-row
returns-clause-row c =
    subst (λ (xs : List (ℕ × ℕ)). ReducesTo (map ends_of c.args.arcs.now) xs)
    (ap (λ (xs : List Arc). pairs_of c.loop-arc.links.list ++ map ends_of xs)
    (drop_all c.loop-arc.arc-index c.args.arcs.now c.loop-arc-test.false)
    ∙ append-nil (pairs_of c.loop-arc.links.list))
    c.loop-arc.invariant.row
