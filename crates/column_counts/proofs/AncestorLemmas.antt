-- Steps up the tree by ancestors, and steps made twice as long.
use Rattle.std.proofs.Common.{sym, ◌∙◌, subst, ap, ◌≡◌, ◌≢◌, inl, inr, ℕ, ◌<◌, ◌≤◌, arith, List, length, set, slice_index}
use Rattle.std.proofs.lemmas.Bool.{cases_eq, cases_lt}
use Rattle.std.proofs.lemmas.List.{set_past}
use Rattle.column_counts.specs.Leaves.{AreSpans, AreAncestors}
use Rattle.lists.proofs.Lists.{at_other, at_here}

-- a step made twice as long
pub doubled : (first : ℕ → ℕ) (n j z : ℕ) (ancestor ancestor' : ℕ → ℕ)
    → AreSpans first → AreAncestors first n j ancestor → 0 < ancestor z → ancestor z < j
    → ancestor' z ≡ ancestor (ancestor z) → ((x : ℕ) → x ≢ z → ancestor' x ≡ ancestor x) → AreAncestors first n j ancestor'
doubled first n j z ancestor ancestor' spans can pos below here others = record {
  rises = λ x p. elim (cases_eq x z) [
    | inl e ↦
        let k = ap ancestor' e ∙ here in
        let a = can.rises z pos in
        let b = can.rises (ancestor z) (omega arith) in
        let n = spans.nested (ancestor (ancestor z)) (ancestor z) b.1 (omega arith) in
        (omega arith, rw k (omega arith))
    | inr ne ↦ let k = others x ne in let a = can.rises x (omega arith) in (omega arith, rw k a.1)
  ];
  nearest = λ x w lt wn f le. elim (cases_eq x z) [
    | inl e ↦
        let k = ap ancestor' e ∙ here in
        let a = can.rises z pos in
        let b = can.nearest z w (omega arith) wn (omega arith) le in
        let d = can.nearest (ancestor z) w (omega arith) wn (omega arith) le in
        (omega arith, omega arith)
    | inr ne ↦ let k = others x ne in let a = can.nearest x w lt wn f le in (omega arith, omega arith)
  ];
}

pub doubled_at : (first : ℕ → ℕ) (n j : ℕ) (table : List ℕ) (z next far : ℕ)
    → z < length table → next ≡ slice_index table z → far ≡ slice_index table next
    → AreSpans first → AreAncestors first n j (slice_index table) → 0 < next
    → next < j → AreAncestors first n j (slice_index (set table z far))
doubled_at first n j table z next far lt is_next is_far spans can pos below =
    doubled first n j z (slice_index table) (slice_index (set table z far)) spans can (omega arith) (omega arith)
    (at_here table z far lt ∙ is_far ∙ ap (slice_index table) is_next) (at_other table z far)

-- one step up
pub climbed : (first : ℕ → ℕ) (n p j z next : ℕ) (ancestor : ℕ → ℕ) → next ≡ ancestor z
    → AreSpans first → AreAncestors first n j ancestor → p ≤ z → z < j → first z ≤ p
    → ((w : ℕ) → w < n → j ≤ w → first w ≤ p → z ≤ w) → 0 < next → (first next ≤ p) × ((w : ℕ) → w < n → j ≤ w → first w ≤ p → next ≤ w)
climbed first n p j z next ancestor is spans can pz zj fz least pos =
    let a = can.rises z (omega arith) in
    let n = spans.nested (ancestor z) z a.1 (omega arith) in
    rw is (omega arith, λ w wn le f. (can.nearest z w (let k = least w wn le f in omega arith) wn (omega arith) le).1)

pub set_inside : (xs : List ℕ) (i v n : ℕ) → ((x : ℕ) → slice_index xs x < n) → v < n → (x : ℕ) → slice_index (set xs i v) x < n
set_inside xs i v n h lt x =
    elim (cases_eq x i) [
      | inl e ↦ elim (cases_lt i (length xs)) [
        | inl l ↦ let k = at_here xs i v l in subst (λ y. slice_index (set xs i v) y < n) (sym e) (omega arith)
        | inr l ↦ subst (λ ys. slice_index ys x < n) (sym (set_past xs i v l)) (h x)
      ]
      | inr ne ↦ let k = at_other xs i v x ne in let y = h x in omega arith
    ]
