use Rattle.std.proofs.Common.{◌≡◌, ◌/◌, ◌<◌, length, take, drop, set, arith, ap, ◌∙◌}
use Rattle.std.proofs.lemmas.List.{length-take, drop-set-add}
use Rattle.std.proofs.Math.Seq.{take-set-lt}
use Rattle.min_tree.proofs.Trees.{IsMinTreeBut, mended, leaves_stay, all_right}
use Rattle.min_tree.proofs.tree.MinTree.raise.Goals as goal

pub loop-at-preserved : goal.loop-at-preserved
loop-at-preserved c =
    let f = c.loop-at.self-inside in
    let i = c.loop-at.invariant in
    let least = rw c.deref.ensures.value at c.least_of_children-least.ensures in
    record {
      depth = i.depth;
      width = i.width;
      count = i.count;
      positive = omega arith;
      low = omega arith;
      tree = rw least (mended f.depth f.leaves f.count f.nodes.items c.loop-at.at i.tree c.loop-at-test.true i.low);
      leaves = leaves_stay f.depth f.leaves f.count f.nodes.items c.loop-at.at i.tree c.loop-at-test.true i.low _ ∙ i.leaves;
    }

pub invariant_of-self : goal.invariant_of-self
invariant_of-self c =
    let f = c.loop-at.self-inside in
    let s = c.self.inside in
    let i = c.loop-at.invariant in
    let w : c.args.place < s.count =
    let h : c.args.place < length (take s.count (drop s.leaves s.nodes.items)) = rw (← c.self.view_is) at c.requires in
    omega (arith, length-take s.count (drop s.leaves s.nodes.items)) in
    let t : IsMinTreeBut (c.loop-at.at / 2) s.depth s.leaves s.count f.nodes.items = rw (i.depth, i.width, i.count) at i.tree in
    let e : drop s.leaves f.nodes.items ≡ set (drop s.leaves s.nodes.items) c.args.place c.args.number =
    rw i.width at (i.leaves ∙ drop-set-add s.leaves s.nodes.items c.args.place c.args.number) in
    rw (i.depth, i.width, i.count) (all_right s.depth s.leaves s.count c.loop-at.at f.nodes.items s.nodes.items t c.loop-at-test.false
    c.args.place c.args.number w c.self.invariant.rest e)

pub returns : goal.returns
returns c =
    let f = c.loop-at.self-inside in
    let s = c.self.inside in
    let i = c.loop-at.invariant in
    let w : c.args.place < s.count =
    let h : c.args.place < length (take s.count (drop s.leaves s.nodes.items)) = rw (← c.self.view_is) at c.requires in
    omega (arith, length-take s.count (drop s.leaves s.nodes.items)) in
    let e : drop s.leaves f.nodes.items ≡ set (drop s.leaves s.nodes.items) c.args.place c.args.number =
    rw i.width at (i.leaves ∙ drop-set-add s.leaves s.nodes.items c.args.place c.args.number) in
    rw (← c.self.view_is, i.width, i.count) (ap (take s.count) e
    ∙ take-set-lt s.count (drop s.leaves s.nodes.items) c.args.place c.args.number w)
