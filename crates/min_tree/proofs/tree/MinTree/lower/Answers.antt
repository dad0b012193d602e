use Rattle.std.proofs.Common.{◌≡◌, ◌≤◌, ◌/◌, ◌<◌, ◌*◌, ◌+◌, min, length, take, drop, set, refl, sym, subst, arith, ap, ◌∙◌}
use Rattle.std.specs.Prelude.{slice_index}
use Rattle.std.proofs.lemmas.List.{length-take, drop-set-add, get_or-take, get_or-drop}
use Rattle.std.proofs.lemmas.Grind.{get_or_default_zero}
use Rattle.std.proofs.Math.Seq.{take-set-lt}
use Rattle.min_tree.proofs.Trees.{IsMinTreeBut, mended, lowered, leaf_set, leaves_stay, all_right}
use Rattle.min_tree.proofs.tree.MinTree.lower.Goals as goal

pub loop-at-init : goal.loop-at-init
loop-at-init c =
    let s = c.self.inside in
    let nodes = s.nodes.items in
    let at = s.leaves + c.args.place in
    let t = c.self.invariant in
    let w : c.args.place < s.count =
    let h : c.args.place < length (take s.count (drop s.leaves nodes)) = rw (← c.self.view_is) at c.requires.within in
    omega (arith, length-take s.count (drop s.leaves nodes)) in
    let len = t.len in
    let enough = t.enough in
    let old : slice_index (take s.count (drop s.leaves nodes)) c.args.place ≡ slice_index nodes at =
    get_or-take s.count (drop s.leaves nodes) c.args.place 0 w ∙ get_or-drop s.leaves nodes c.args.place 0 in
    let below : c.args.number ≤ slice_index (take s.count (drop s.leaves nodes)) c.args.place = rw (← c.self.view_is) at c.requires.low in
    let fits = t.fits at in
    record {
      depth = refl;
      width = refl;
      count = refl;
      positive = let p = t.power in omega arith;
      low = omega arith;
      tree = leaf_set s.depth s.leaves s.count nodes t at c.args.number (omega arith) (omega arith) (omega arith);
      above = lowered nodes at c.args.number (omega arith) (omega arith) (λ some. t.inner (at / 2) (omega arith) (omega arith));
      leaves = refl;
    }

pub loop-at-preserved : goal.loop-at-preserved
loop-at-preserved c =
    let f = c.loop-at.self-inside in
    let nodes = f.nodes.items in
    let at = c.loop-at.at in
    let number = c.args.number in
    let i = c.loop-at.invariant in
    let is = i.above c.loop-at-test.true in
    let len = i.tree.len in
    let low = i.low in
    let read = c.index.ensures ∙ get_or_default_zero nodes (at / 2) c.index.result.now (omega arith) in
    let below : number < slice_index nodes (at / 2) = omega (arith, c.if-index-number.false) in
    let least : number ≡ min (slice_index nodes (2 * (at / 2))) (slice_index nodes (2 * (at / 2) + 1)) = omega arith in
    record {
      depth = i.depth;
      width = i.width;
      count = i.count;
      positive = omega arith;
      low = omega arith;
      tree = subst (λ z. IsMinTreeBut (at / 2 / 2) f.depth f.leaves f.count (set nodes (at / 2) z)) (sym least)
          (mended f.depth f.leaves f.count nodes at i.tree c.loop-at-test.true low);
      above = lowered nodes (at / 2) number (omega arith) (omega arith)
          (λ some. i.tree.inner (at / 2 / 2) (omega arith) (omega arith) (λ e. absurd (omega arith)));
      leaves = leaves_stay f.depth f.leaves f.count nodes at i.tree c.loop-at-test.true low number ∙ i.leaves;
    }

pub invariant_of-self : goal.invariant_of-self
invariant_of-self c =
    let f = c.loop-at.self-inside in
    let s = c.self.inside in
    let i = c.loop-at.invariant in
    let w : c.args.place < s.count =
    let h : c.args.place < length (take s.count (drop s.leaves s.nodes.items)) = rw (← c.self.view_is) at c.requires.within in
    omega (arith, length-take s.count (drop s.leaves s.nodes.items)) in
    let t : IsMinTreeBut (c.loop-at.at / 2) s.depth s.leaves s.count f.nodes.items = rw (i.depth, i.width, i.count) at i.tree in
    let e : drop s.leaves f.nodes.items ≡ set (drop s.leaves s.nodes.items) c.args.place c.args.number =
    rw i.width at (i.leaves ∙ drop-set-add s.leaves s.nodes.items c.args.place c.args.number) in
    rw (i.depth, i.width, i.count) (all_right s.depth s.leaves s.count c.loop-at.at f.nodes.items s.nodes.items t c.loop-at-test.false
    c.args.place c.args.number w c.self.invariant.rest e)

pub returns : goal.returns
returns c =
    let f = c.loop-at.self-inside in
    let s = c.self.inside in
    let i = c.loop-at.invariant in
    let w : c.args.place < s.count =
    let h : c.args.place < length (take s.count (drop s.leaves s.nodes.items)) = rw (← c.self.view_is) at c.requires.within in
    omega (arith, length-take s.count (drop s.leaves s.nodes.items)) in
    let e : drop s.leaves f.nodes.items ≡ set (drop s.leaves s.nodes.items) c.args.place c.args.number =
    rw i.width at (i.leaves ∙ drop-set-add s.leaves s.nodes.items c.args.place c.args.number) in
    rw (← c.self.view_is, i.width, i.count) (ap (take s.count) e
    ∙ take-set-lt s.count (drop s.leaves s.nodes.items) c.args.place c.args.number w)
