use Rattle.std.proofs.Common.{◌≡◌, ◌+◌, ◌-◌, ◌^◌, ◌≤◌, ◌<◌, ℕ, List, length, arith, set, get_or, slice_index}
use Rattle.column_counts.specs.Leaves.{growth}
use Rattle.limits.specs.Limits.{most_order}
use Rattle.column_counts.proofs.MarkLemmas.{read_at}
use Rattle.column_counts.proofs.SumLemmas.{AreSummedTo, none_summed, summed_fits, summed_more}
use Rattle.column_counts.proofs.leaves.Leaves.sum_up.Goals as goal

-- one step in one table, as the two reads give it
more : (x a b : ℕ) (old now : List ℕ) → 0 < x → x < length now → a ≡ get_or now x a
    → b ≡ get_or now (x - 1) b → AreSummedTo x old now → AreSummedTo (x + 1) old (set now x (a + b))
more x a b old now some lt is_a is_b are =
    let here = read_at now x a lt is_a in
    let before = read_at now (x - 1) b (omega arith) is_b in
    rw (here, before) (summed_more x old now some lt are)

fits : (x a b : ℕ) (old now : List ℕ) → 0 < x → x < length now → length now ≤ most_order + 1
    → a ≡ get_or now x a → b ≡ get_or now (x - 1) b → AreSummedTo x old now
    → ((y : ℕ) → slice_index old y ≤ growth most_order) → a + b < 2 ^ 64
fits x a b old now some lt few is_a is_b are small =
    let here = read_at now x a lt is_a in
    let before = read_at now (x - 1) b (omega arith) is_b in
    let most = summed_fits x (growth most_order) old now some are small in
    omega arith

pub loop-x-init : goal.loop-x-init
loop-x-init c = record { leaves = none_summed c.args.self.now.leaves.items; meetings = none_summed c.args.self.now.meetings.items }

pub overflow_add-index_mut : goal.overflow_add-index_mut
overflow_add-index_mut c =
    let i = c.loop-x.invariant.leaves in
    let len = i.len in
    let few = c.requires.few in
    omega (
      arith,
      fits c.loop-x.x c.index_mut.result.now c.index.result.now c.args.self.now.leaves.items c.loop-x.self.leaves.items
          (omega arith) (omega arith) (omega arith)
          c.index_mut.ensures.value c.index.ensures i (λ y. (c.requires.small y).0),
    )

pub overflow_add-index_mut-in-loop-x : goal.overflow_add-index_mut-in-loop-x
overflow_add-index_mut-in-loop-x c =
    let i = c.loop-x.invariant.meetings in
    let len = i.len in
    let long = c.loop-x.invariant.leaves.len in
    let same = c.requires.len in
    let few = c.requires.few in
    omega (
      arith,
      fits c.loop-x.x c.index_mut-in-loop-x.result.now c.index-in-loop-x.result.now
          c.args.self.now.meetings.items c.loop-x.self.meetings.items (omega arith) (omega arith) (omega arith)
          c.index_mut-in-loop-x.ensures.value c.index-in-loop-x.ensures i (λ y. (c.requires.small y).1),
    )

pub loop-x-preserved : goal.loop-x-preserved
loop-x-preserved c =
    let l = c.loop-x.invariant.leaves in
    let m = c.loop-x.invariant.meetings in
    let long_l = l.len in
    let long_m = m.len in
    let same = c.requires.len in
    record {
      leaves = more c.loop-x.x c.index_mut.result.now c.index.result.now c.args.self.now.leaves.items c.loop-x.self.leaves.items
          (omega arith) (omega arith) c.index_mut.ensures.value c.index.ensures l;
      meetings = more c.loop-x.x c.index_mut-in-loop-x.result.now c.index-in-loop-x.result.now
          c.args.self.now.meetings.items c.loop-x.self.meetings.items (omega arith) (omega arith)
          c.index_mut-in-loop-x.ensures.value c.index-in-loop-x.ensures m;
    }
