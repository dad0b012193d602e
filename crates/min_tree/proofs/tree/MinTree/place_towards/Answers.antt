use Rattle.std.proofs.Common.{◌≤◌, ◌<◌, ◌-◌, ℕ, length, take, drop, arith, sym, subst}
use Rattle.std.specs.Prelude.{slice_index}
use Rattle.min_tree.proofs.Trees.{IsDescent, begins, root_least, has_grandchildren, two_steps, step, arrives, within_count, child_after}
use Rattle.min_tree.proofs.tree.MinTree.place_towards.Goals as goal
use Rattle.min_tree.proofs.tree.MinTree.place_towards.Goals.{then-at-self, else-at-self}

pub loop-at-init : goal.loop-at-init
loop-at-init c =
    let f = c.self.inside in
    let nodes = f.nodes.items in
    let k = c.requires.0 in
    let w : k < length (take f.count (drop f.leaves nodes)) = rw (← c.self.view_is) at c.requires.1 in
    let small : slice_index (take f.count (drop f.leaves nodes)) k ≤ c.args.bound = rw (← c.self.view_is) at c.requires.2 in
    let root = root_least f.depth f.leaves f.count nodes c.self.invariant k w in
    (f.depth, begins f.depth f.leaves f.count nodes c.self.invariant c.args.bound (omega arith))

pub grandchild_towards-at-requires : goal.grandchild_towards-at-requires
grandchild_towards-at-requires c =
    let f = c.self.inside in
    let way = c.loop-at.invariant in
    let t = c.self.invariant in
    let room = has_grandchildren f.depth f.leaves f.count f.nodes.items t c.args.bound c.loop-at.at way.0 way.1 c.loop-at-test.true in
    let len = c.self.invariant.len in
    rw c.deref.ensures.value (omega arith)

pub loop-at-preserved : goal.loop-at-preserved
loop-at-preserved c =
    let f = c.self.inside in
    let way = c.loop-at.invariant in
    let child = rw c.deref.ensures.value at c.grandchild_towards-at.ensures in
    two_steps f.depth f.leaves f.count f.nodes.items c.self.invariant c.args.bound c.loop-at.at way.0 way.1 c.loop-at-test.true
    child.0 child.1 c.grandchild_towards-at.result child.2

pub returns : goal.returns
returns c =
    let f = c.self.inside in
    let nodes = f.nodes.items in
    let way = c.loop-at.invariant in
    let k = c.requires.0 in
    let w : k < length (take f.count (drop f.leaves nodes)) = rw (← c.self.view_is) at c.requires.1 in
    let small : slice_index (take f.count (drop f.leaves nodes)) k ≤ c.args.bound = rw (← c.self.view_is) at c.requires.2 in
    let t = c.self.invariant in
    let at = c.if-at-self.at in
    let Way = IsDescent f.leaves nodes c.args.bound in
    let there : (h : ℕ) × Way at h × (f.leaves ≤ at) =
    elim c.if-at-self.branch [
      | then-at-self b ↦
          let child = rw b.deref-then-at-self.ensures.value at b.child_towards-at.ensures in
          let next = b.child_towards-at.result in
          let on = step f.depth f.leaves f.count nodes t c.args.bound c.loop-at.at way.0 way.1 b.if-at-self.true next child in
          let after = child_after nodes c.args.bound c.loop-at.at next child in
          (on.0, subst (λ k. Way k on.0) (sym b.at-is) on.1, omega (arith, after.0, b.at-is, c.loop-at-test.false))
      | else-at-self b ↦
          (way.0, subst (λ k. Way k way.0) (sym b.at-is) way.1, omega (arith, b.at-is, b.if-at-self.false))
    ] in
    let first = arrives f.depth f.leaves f.count nodes t c.args.bound at there.0 there.1 there.2 in
    rw (← c.self.view_is) (within_count f.depth f.leaves f.count nodes t c.args.bound (at - f.leaves) first k w small)
