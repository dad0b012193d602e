use Rattle.std.proofs.Common.{◌≡◌, ◌-◌, ◌++◌, ◌∷◌, [], ℕ, List, length, map, arith, sym, ◌∙◌, ap, slice_index}
use Rattle.std.specs.List.{range_with_len}
use Rattle.column_counts.proofs.FactorRows.{map_to}
use Rattle.column_counts.proofs.MarkLemmas.{read_at}
use Rattle.column_counts.proofs.leaves.Leaves.counts.Goals as goal

pub loop-column-preserved : goal.loop-column-preserved
loop-column-preserved c = λ count each.
    let x = c.loop-column.column in
    let t = c.args.self.now in
    let first = slice_index c.args.firsts.now x in
    let has = each x (omega arith) (omega arith) in
    let some = has.some in
    let own = has.own in
    let up = has.rising.0 in
    let up' = has.rising.1 in
    let is = has.is in
    let few = has.few in
    let lengths = c.requires.lengths in
    let long = lengths.1 in
    let long' = lengths.2 in
    let a = read_at t.leaves.items x c.index.result.now (omega arith) c.index.ensures in
    let b = read_at t.leaves.items (first - 1) c.index-in-loop-column.result.now (omega arith) c.index-in-loop-column.ensures in
    let d = read_at t.meetings.items x c.index-in-loop-column-2.result.now (omega arith) c.index-in-loop-column-2.ensures in
    let e = read_at t.meetings.items (first - 1) c.index-in-loop-column-3.result.now (omega arith) c.index-in-loop-column-3.ensures in
    let value : (c.index.result.now - c.index-in-loop-column.result.now)
    - (c.index-in-loop-column-2.result.now - c.index-in-loop-column-3.result.now) - (x - first) ≡ count x = omega arith in
    c.in_ok-push.ensures.items ∙ ap (λ (v : ℕ). c.loop-column.counts.items ++ v ∷ []) value
    ∙ ap (λ (xs : List ℕ). xs ++ count x ∷ []) (c.loop-column.invariant count each) ∙ sym (map_to count x (omega arith))

pub returns : goal.returns
returns c = λ count each.
    let some = c.requires.lengths.0 in
    let last : c.loop-column.column ≡ length c.args.firsts.now = omega arith in
    c.loop-column.invariant count each ∙ ap (λ (m : ℕ). map count (range_with_len 1 (m - 1))) last
