use Rattle.std.proofs.Common.{◌≡◌, ◌+◌, ◌-◌, ◌<◌, ℕ, length, map, arith, ap, subst, sym, ◌∙◌}
use Rattle.std.specs.List.{range_with_len}
use Rattle.std.proofs.lemmas.Result.{IfOk-weaker}
use Rattle.patterns.specs.Pattern.{is_joined}
use Rattle.ordering.specs.Fill.{renumbered, count_of, counts_of}
use Rattle.column_counts.specs.Leaves.{IsFirsts, HasCount}
use Rattle.column_counts.proofs.FactorRows.{length_parents}
use Rattle.column_counts.proofs.SpanRows.{spans, first_some}
use Rattle.column_counts.proofs.LeafCounts.{has_count}
use Rattle.column_counts.proofs.counting.counts.Goals as goal
use Rattle.column_counts.proofs.counting.counts.Goals.{After-deref-2}

long : (c : After-deref-2) → length c.args.parents.now ≡ length c.args.perm.now
long c =
    length_parents (renumbered (is_joined c.args.pattern.now) c.args.perm.now) (length c.args.perm.now) c.args.parents.now c.requires.tree

pub sum_up-requires-clause-few : goal.sum_up-requires-clause-few
sum_up-requires-clause-few c =
    omega (arith, c.take_columns.ensures.lengths.0, c.deref.ensures.len, c.in_ok-firsts.ensures.len, c.keeps.ensures.few)

have_counts : (c : After-deref-2) → (x : ℕ) → 0 < x → x < length c.deref-2.result.now
    → HasCount c.deref-2.result.now c.sum_up.new.self x
    (count_of (renumbered (is_joined c.args.pattern.now) c.args.perm.now) (length c.args.perm.now) x)
have_counts c x some lt =
    let joined = renumbered (is_joined c.args.pattern.now) c.args.perm.now in
    let n = length c.args.perm.now in
    let parents = c.args.parents.now in
    let forest = c.keeps.ensures in
    let few = forest.few in
    let same = long c in
    let firsts = c.deref.result.now in
    let len : length firsts ≡ length parents + 1 = omega (arith, c.deref.ensures.len, c.in_ok-firsts.ensures.len) in
    let is = subst (IsFirsts parents) (sym c.deref.ensures.value) c.in_ok-firsts.ensures.firsts in
    let all = c.take_columns.ensures.lengths in
    let all_leaves = all.0 in
    let all_meetings = all.1 in
    let end = c.deref-2.ensures.len in
    let made = c.in_ok-firsts.ensures.len in
    subst (λ fs. HasCount fs c.sum_up.new.self x (count_of joined n x)) (c.deref.ensures.value ∙ sym c.deref-2.ensures.value)
    (has_count joined n firsts c.take_columns.new.self c.sum_up.new.self
    c.take_columns.ensures.balanced c.sum_up.ensures.leaves c.sum_up.ensures.meetings
    (omega arith) (omega arith) (omega arith) x some (omega arith)
    (first_some parents forest firsts len is x some (omega arith)) ((spans parents forest firsts len is).own x))

pub counts-requires-clause-counts : goal.counts-requires-clause-counts
counts-requires-clause-counts c =
    (count_of (renumbered (is_joined c.args.pattern.now) c.args.perm.now) (length c.args.perm.now), have_counts c)

pub returns : goal.returns
returns c =
    let joined = renumbered (is_joined c.args.pattern.now) c.args.perm.now in
    let n = length c.args.perm.now in
    let before = (goal.at.returns c).After-deref-2 in
    let same = long before in
    let last : length c.deref-2.result.now - 1 ≡ n = omega (arith, c.deref-2.ensures.len, c.in_ok-firsts.ensures.len) in
    IfOk-weaker c.counts.result (λ v. v.items ≡ map (count_of joined n) (range_with_len 1 (length c.deref-2.result.now - 1)))
    (λ v. v.items ≡ counts_of joined n)
    (λ v e. e ∙ ap (λ (m : ℕ). map (count_of joined n) (range_with_len 1 m)) last)
    (c.counts.ensures (count_of joined n) (have_counts before))
