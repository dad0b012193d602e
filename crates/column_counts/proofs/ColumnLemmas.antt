-- A column is taken into its own row and into those of its later neighbours, one after another.
use Rattle.std.proofs.Common.{sym, subst, ◌∙◌, ◌+◌, ◌≡◌, inl, inr, ℕ, ◌<◌, ◌≤◌, Bool, true}
use Rattle.std.proofs.Common.{IsTrue, List, length, arith, refl, below_more, slice_index}
use Rattle.std.proofs.lemmas.Bool.{cases_eq}
use Rattle.elim_tree.specs.Forests.{column_in}
use Rattle.column_counts.specs.declared.leaves.Leaves.{Leaves}
use Rattle.column_counts.specs.Leaves.{IsInRow, with_entry, AreLeaves, AreTaken, HoldLeaves, AreLeavesBefore}
use Rattle.column_counts.specs.Leaves.{CanTakeColumn, AreLeavesWith, last_of}
use Rattle.column_counts.proofs.RowLeaves.{entry_old, entry_new, entry_cases}

-- what a call makes of the leaves as column j is taken into row i
abbrev pub Takes : List ℕ → List ℕ → ℕ → ℕ → Leaves → Leaves → Type 0
Takes firsts order i j t t' =
    (taken : ℕ → ℕ → Bool) → HoldLeaves firsts order j taken t → HoldLeaves firsts order j (with_entry taken i j) t'

-- .. and of a row that is none of its rows
abbrev pub LeavesOut : List ℕ → List ℕ → ℕ → Leaves → Leaves → Type 0
LeavesOut firsts order j t t' = (taken : ℕ → ℕ → Bool) → HoldLeaves firsts order j taken t → HoldLeaves firsts order j taken t'

-- the next column, where that one was taken into all of its rows
later_leaves : (first : ℕ → ℕ) (n j : ℕ) (taken : ℕ → ℕ → Bool) (last leaves meetings : ℕ → ℕ)
    → AreLeaves first n j taken last leaves meetings → AreLeaves first n (j + 1) taken last leaves meetings
later_leaves first n j taken last leaves meetings t = record {
  balance = t.balance;
  until = λ i y h. let le = t.until i y h in omega arith;
  none = t.none;
  leaf = t.leaf;
  covers = λ i y x h le. t.covers i y x h (omega arith);
}

module _ (joined : ℕ → ℕ → Bool) (firsts list order : List ℕ) (j : ℕ) (some : 0 < j)
    (t₀ : Leaves) (can : CanTakeColumn joined firsts list order j t₀) where
  with_one : (taken : ℕ → ℕ → Bool) → AreTaken joined (length firsts) j taken → (i : ℕ)
      → IsInRow joined i j → AreTaken joined (length firsts) j (with_entry taken i j)
  with_one taken old i row = record {
    sound = λ k y h. elim (entry_cases taken i j k y h) [
      | inl e ↦ old.sound k y e
      | inr q ↦ (subst (λ c. IsInRow joined k c) (sym q.1) (subst (λ r. IsInRow joined r j) (sym q.0) row), (let e = q.1 in omega arith))
    ];
    whole = λ k y pos lt most h. entry_old taken i j k y (old.whole k y pos lt most h);
  }

  pub own_row : (t : Leaves) → Takes firsts order j j t₀ t → AreLeavesWith joined firsts list order j 0 t
  own_row t takes =
      let b = can.before in
      (with_entry b.0 j j, takes b.0 b.1, with_one b.0 b.2 j (inl refl), entry_new b.0 j j, λ e lt. absurd (omega arith))

  -- the last leaf of a row is not before the first descendant of the row's own column
  pub own_leaf : j < length firsts → 0 < last_of order t₀ j → slice_index firsts j ≤ last_of order t₀ j
  own_leaf most pos =
      let b = can.before in
      can.below j (last_of order t₀ j) most (b.2.sound j (last_of order t₀ j) (b.1.leaf j pos)).0

  module _ (k i : ℕ) (is : i ≡ column_in list order k) (t : Leaves) (with : AreLeavesWith joined firsts list order j k t) where
    -- .. after some of them were taken
    pub last_leaf : i < length firsts → 0 < last_of order t i → slice_index firsts i ≤ last_of order t i
    last_leaf most pos = can.below i (last_of order t i) most (with.2.sound i (last_of order t i) (with.1.leaf i pos)).0

    pub next_row : k < length list → j ≤ i → (t' : Leaves)
        → Takes firsts order i j t t' → AreLeavesWith joined firsts list order j (k + 1) t'
    next_row lt from t' takes =
        let row : IsInRow joined i j =
        elim (cases_eq j i) [
          | inl own ↦ inl own
          | inr ne ↦ (
              let far : j < i = omega arith in
              inr (subst (λ c. IsTrue (joined c j)) (sym is) (can.sound k lt (subst (λ c. j < c) is far)), far)
              )
        ] in (
          with_entry with.0 i j,
          takes with.0 with.1,
          with_one with.0 with.2 i row,
          entry_old with.0 i j j j with.3,
          below_more (λ e. j < column_in list order e → with_entry with.0 i j (column_in list order e) j ≡ true) k
              (λ e below more. entry_old with.0 i j (column_in list order e) j (with.4 e below more))
              (λ more. subst (λ c. with_entry with.0 i j c j ≡ true) is (entry_new with.0 i j)),
        )

    pub no_row : i < j → (t' : Leaves) → LeavesOut firsts order j t t' → AreLeavesWith joined firsts list order j (k + 1) t'
    no_row low t' left_out = (
      with.0,
      left_out with.0 with.1,
      with.2,
      with.3,
      below_more (λ e. j < column_in list order e → with.0 (column_in list order e) j ≡ true) k with.4 (λ more. absurd (omega (arith, is))),
    )

  pub all_rows : (t : Leaves) → AreLeavesWith joined firsts list order j (length list) t → AreLeavesBefore joined firsts order (j + 1) t
  all_rows t with = (
    with.0,
    later_leaves (slice_index firsts) (length firsts) j with.0 (last_of order t)
        (slice_index t.leaves.items) (slice_index t.meetings.items) with.1,
    record {
      sound = with.2.sound;
      whole = λ i y pos lt most row. elim (cases_eq y j) [
        | inr ne ↦ with.2.whole i y pos (omega arith) most row
        | inl e ↦ subst (λ c. with.0 i c ≡ true) (sym e) (elim row [
          | inl own ↦ subst (λ r. with.0 r j ≡ true) (sym e ∙ own) with.3
          | inr h ↦ (
              let far = h.1 in
              let beyond : j < i = omega arith in
              let f = can.whole i beyond (subst (λ c. IsTrue (joined i c)) e h.0) in
              subst (λ r. with.0 r j ≡ true) f.2 (with.4 f.0 f.1 (subst (λ r. j < r) (sym f.2) beyond))
              )
        ])
      ];
    },
  )
