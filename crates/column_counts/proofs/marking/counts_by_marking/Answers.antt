use Rattle.std.proofs.Common.{◌≡◌, ◌-◌, ℕ, suc, List, [], ◌∷◌, length, take, drop, refl, ap, ◌∙◌, arith}
use Rattle.std.proofs.Math.Seq.{take-length}
use Rattle.std.proofs.lemmas.Result.{IfOk-weaker}
use Rattle.patterns.specs.Pattern.{is_joined}
use Rattle.ordering.specs.Fill.{renumbered, counts_of}
use Rattle.lists.proofs.Lists.{written}
use Rattle.column_counts.proofs.FactorRows.{are_counts}
use Rattle.column_counts.proofs.marking.counts_by_marking.Goals as goal
use Rattle.column_counts.proofs.marking.counts_by_marking.Goals.{After-mark_rows}

without_first : (xs : List ℕ) → take (length xs - 1) (drop 1 xs) ≡ drop 1 xs
without_first [] = refl
without_first (x ∷ xs) = ap (λ n. take n xs) (let e : suc (length xs) - 1 ≡ length xs = omega arith in e) ∙ take-length xs

same_len : (c : After-mark_rows) → c.in_ok-counts.counts.len ≡ length c.mark_rows.new.counts
same_len c = omega (arith, c.mark_rows.ensures.len, c.deref_mut.ensures.len)

long : (c : After-mark_rows) → length c.mark_rows.new.counts ≡ suc (length c.args.perm.now)
long c = omega (arith, c.mark_rows.ensures.len, c.in_ok-counts.ensures.len, c.len.ensures.value)

pub returns : goal.returns
returns c =
    let joined = renumbered (is_joined c.args.pattern.now) c.args.perm.now in
    let whole : c.deref.result.now ≡ c.mark_rows.new.counts =
    c.deref.ensures.value
    ∙ written c.mark_rows.new.counts (drop (length c.mark_rows.new.counts) c.in_ok-counts.counts.items) c.in_ok-counts.counts.len
    (same_len (goal.at.returns c).After-mark_rows) in
    IfOk-weaker c.from_slice.result (λ v. v.items ≡ take (length c.deref.result.now - 1) (drop 1 c.deref.result.now))
    (λ v. v.items ≡ counts_of joined (length c.args.perm.now))
    (λ v e. e ∙ without_first c.deref.result.now ∙ ap (drop 1) whole
    ∙ are_counts joined (length c.args.perm.now) c.mark_rows.new.counts
    (long (goal.at.returns c).After-mark_rows) c.mark_rows.ensures.all)
    c.from_slice.ensures.items
