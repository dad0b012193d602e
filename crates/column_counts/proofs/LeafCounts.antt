-- The leaves of the row subtrees give the counts.
use Rattle.std.proofs.Common.{add-zero, add-suc, ◌∙◌, subst, ap, ◌+◌, ◌-◌, ◌≡◌, inl, inr, ℕ, zero, suc}
use Rattle.std.proofs.Common.{◌<◌, ◌≤◌, Bool, true, false, List, length, arith, refl, slice_index}
use Rattle.std.specs.List.{range_with_len, count_by}
use Rattle.std.specs.Cmp.{both_ways}
use Rattle.std.proofs.lemmas.Bool.{cases_lt, false_from_ne_true}
use Rattle.std.proofs.lemmas.List.FromFn.{length-range_with_len}
use Rattle.std.proofs.lemmas.List.Sums.{count_by-le-length, sum_by-cons}
use Rattle.limits.specs.Limits.{most_order}
use Rattle.ordering.specs.Fill.{structure_of, count_of}
use Rattle.column_counts.specs.declared.leaves.Leaves.{Leaves}
use Rattle.column_counts.specs.Marks.{bit}
use Rattle.column_counts.specs.Leaves.{any_in, sum_in, passing, IsFirsts, AreLeaves, AreTaken, AreLeavesBefore}
use Rattle.column_counts.specs.Leaves.{AreBalanced, AreSums, HasCount, last_of}
use Rattle.column_counts.proofs.FactorRows.{IsFactor, long_parents}
use Rattle.column_counts.proofs.SumLemmas.{any_from, any_to, passing_next, passing_none, sum_in_split}
use Rattle.column_counts.proofs.SpanRows.{spans, first_some, row_from, row_to, beyond}

-- below m the test says a ≤ i
passing_low : (p : ℕ → Bool) (a m : ℕ) → ((i : ℕ) → i < m → p i ≡ true → a ≤ i)
    → ((i : ℕ) → i < m → a ≤ i → p i ≡ true) → passing p m ≡ m - a
passing_low p a zero to from = passing_none p zero (λ i lt. absurd (omega arith)) ∙ omega arith
passing_low p a (suc m) to from =
    let ih = passing_low p a m (λ i lt. to i (omega arith)) (λ i lt. from i (omega arith)) in
    let next = passing_next p m in
    elim (cases_lt m a) [
      | inl lt ↦
          (let z : bit (p m) ≡ 0 = ap bit (false_from_ne_true (p m) (λ t. let le = to m (omega arith) t in absurd (omega arith))) in
          omega arith)
      | inr le ↦ (let z : bit (p m) ≡ 1 = ap bit (from m (omega arith) le) in omega arith)
    ]

-- from x on the tests say the same
passing_high : (p s : ℕ → Bool) (x d : ℕ) → ((i : ℕ) → x ≤ i → i < x + d → p i ≡ s i)
    → (e : ℕ) → passing p x ≡ passing s x + e → passing p (x + d) ≡ passing s (x + d) + e
passing_high p s x zero same e h = rw add-zero h
passing_high p s x (suc d) same e h =
    let ih = passing_high p s x d (λ i le lt. same i le (omega arith)) e h in
    let z : bit (p (x + d)) ≡ bit (s (x + d)) = ap bit (same (x + d) (omega arith) (omega arith)) in
    let all = passing_next p (x + d) in
    let held = passing_next s (x + d) in
    rw add-suc (omega arith)

passing_count : (s : ℕ → Bool) (m : ℕ) → s 0 ≡ false → passing s (suc m) ≡ count_by s (range_with_len 1 m)
unfolding passing
passing_count s m none = let z : bit (s 0) ≡ 0 = ap bit none in sum_by-cons (λ x. bit (s x)) 0 (range_with_len 1 m) ∙ omega arith

module _ (joined : ℕ → ℕ → Bool) (n : ℕ) (parents : List ℕ) (factor : IsFactor joined n parents)
    (firsts : List ℕ) (len : length firsts ≡ n + 1) (is : IsFirsts parents firsts) where
  unreached : (x i : ℕ) → i < x → structure_of joined x i ≡ false
  unreached x i lt = false_from_ne_true (structure_of joined x i) (λ h. let le = factor.later x i h in absurd (omega arith))

  balanced : (taken : ℕ → ℕ → Bool) (last leaves meetings : ℕ → ℕ) (j : ℕ) → n < j
      → AreLeaves (slice_index firsts) (length firsts) j taken last leaves meetings → AreTaken joined (length firsts) j taken
      → (x : ℕ) → 0 < x → x ≤ n
      → sum_in leaves (slice_index firsts x) (suc x)
      ≡ count_of joined n x + (x - slice_index firsts x) + sum_in meetings (slice_index firsts x) (suc x)
  balanced taken last leaves meetings j all t entries x some le =
      let a = slice_index firsts x in
      let p : ℕ → Bool = λ i. any_in (taken i) a (suc x) in
      let same = long_parents joined n parents factor in
      let own = (spans parents factor.forest firsts (omega arith) is).own x in
      let pos = first_some parents factor.forest firsts (omega arith) is x some (omega arith) in
      let low = passing_low p a x
      (λ i lt h. let y = any_to (taken i) a (suc x) h in
      beyond joined n parents factor firsts len is i x y.0 lt y.1 (entries.sound i y.0 y.3).0)
      (λ i lt high.
      any_from (taken i) a (suc x) i high (omega arith) (entries.whole i i (omega arith) (omega arith) (omega arith) (inl refl))) in
      let nothing = passing_none (structure_of joined x) x (unreached x) in
      let high = passing_high p (structure_of joined x) x (suc n - x) (λ i far lt. both_ways (p i) (structure_of joined x i)
      (λ h. let y = any_to (taken i) a (suc x) h in
      row_from joined n parents factor firsts len is i x y.0 le far y.1 (let b = y.2 in omega arith) (entries.sound i y.0 y.3).0)
      (λ h. let y = row_to joined n parents factor firsts len is i x le far h in
      let b = y.2 in let c = y.1 in
      any_from (taken i) a (suc x) y.0 y.1 (omega arith) (entries.whole i y.0 (omega arith) (omega arith) (omega arith) y.3)))
      (x - a) (omega arith) in
      let d : x + (suc n - x) ≡ suc n = omega arith in
      let high' : passing p (suc n) ≡ passing (structure_of joined x) (suc n) + (x - a) =
      subst (λ v. passing p v ≡ passing (structure_of joined x) v + (x - a)) d high in
      let long : length firsts ≡ suc n = omega arith in
      let high'' : passing p (length firsts) ≡ passing (structure_of joined x) (suc n) + (x - a) = ap (passing p) long ∙ high' in
      let counted = passing_count (structure_of joined x) n (unreached x 0 some) in
      let b = t.balance x (omega arith) in
      omega arith

  pub are_balanced : (order : List ℕ) (t : Leaves) (j : ℕ) → n < j → AreLeavesBefore joined firsts order j t → AreBalanced joined n firsts t
  are_balanced order t j all before =
      balanced before.0 (last_of order t) (slice_index t.leaves.items) (slice_index t.meetings.items) j all before.1 before.2

-- ---- counts of sums

sums_below : (table sums : List ℕ) → AreSums table sums → (a : ℕ) → 0 < a
    → a ≤ length table → slice_index sums (a - 1) ≡ sum_in (slice_index table) 0 a
sums_below table sums are a some le = let e : suc (a - 1) ≡ a = omega arith in
    are.1 (a - 1) (omega arith) ∙ ap (sum_in (slice_index table) 0) e

pub has_count : (joined : ℕ → ℕ → Bool) (n : ℕ) (firsts : List ℕ) (t sums : Leaves) → AreBalanced joined n firsts t
    → AreSums t.leaves.items sums.leaves.items → AreSums t.meetings.items sums.meetings.items
    → length t.leaves.items ≡ n + 1 → length t.meetings.items ≡ n + 1 → n ≤ most_order
    → (x : ℕ) → 0 < x → x ≤ n → 0 < slice_index firsts x → slice_index firsts x ≤ x → HasCount firsts sums x (count_of joined n x)
has_count joined n firsts t sums balanced are_leaves are_meetings long_leaves long_meetings few x some le pos own =
    let a = slice_index firsts x in
    let low_leaves = sums_below t.leaves.items sums.leaves.items are_leaves a pos (omega arith) in
    let low_meetings = sums_below t.meetings.items sums.meetings.items are_meetings a pos (omega arith) in
    let all_leaves = are_leaves.1 x (omega arith) in
    let all_meetings = are_meetings.1 x (omega arith) in
    let two_leaves = sum_in_split (slice_index t.leaves.items) a (suc x) (omega arith) in
    let two_meetings = sum_in_split (slice_index t.meetings.items) a (suc x) (omega arith) in
    let is = balanced x some le in
    let most = count_by-le-length (structure_of joined x) (range_with_len 1 n) in
    let long = length-range_with_len 1 n in
    record {
      some = pos;
      own = own;
      rising = (omega arith, omega arith);
      is = omega arith;
      few = omega arith;
    }
