-- The trees of the earlier columns of a row are put under the column of the row, one after another.
use Rattle.std.proofs.Common.{◌≡◌, ℕ, ◌+◌, ◌<◌, ◌≤◌, List, length, slice_index, arith, sym, ◌∙◌, ap, subst, below_more, inl, inr}
use Rattle.std.proofs.lemmas.Bool.{cases_order, cases_lt}
use Rattle.std.proofs.lemmas.List.Kept.{AllPairs-from_increasing}
use Rattle.std.specs.List.Sorted.{IsStrictlyIncreasing}
use Rattle.elim_tree.specs.Reaches.{Reaches}
use Rattle.elim_tree.specs.Forests.{Rooted, CanLink, CanTake, IsTaken, IsLinked, IsInTurn, column_in}

-- an earlier column of the row may be put under k
pub can_link : (forest : Rooted) (k i column : ℕ) (row order parents ancestors parents' ancestors' : List ℕ)
    → CanTake forest k row order parents ancestors → i < length row
    → (t : IsTaken forest k row order i parents' ancestors') → column ≡ column_in row order i → column < k
    → CanLink (record { joined = forest.joined; root = t.0 }) k column parents' ancestors'
can_link forest k i column row order parents ancestors parents' ancestors' can lt t e below =
    (can.0, below, subst (λ x. Reaches forest.joined x k) (sym e) (can.1 i lt (subst (λ x. x < k) e below)), t.1)

-- one more of the row is under k
pub more_taken : (forest : Rooted) (k i column : ℕ) (row order parents ancestors : List ℕ)
    → (t : IsTaken forest k row order i parents ancestors) → column ≡ column_in row order i → (parents' ancestors' : List ℕ)
    → IsLinked (record { joined = forest.joined; root = t.0 }) k column parents' ancestors'
    → IsTaken forest k row order (i + 1) parents' ancestors'
more_taken forest k i column row order parents ancestors t e parents' ancestors' new = (
  new.0,
  new.1,
  below_more (λ j. column_in row order j < k → new.0 (column_in row order j) ≡ k) i
      (λ j b l. new.3 (column_in row order j) (t.2 j b l)) (λ _. ap new.0 (sym e) ∙ new.2),
)

-- .. and so it is where its column is not before k
pub none_taken : (forest : Rooted) (k i column : ℕ) (row order parents ancestors : List ℕ)
    → (t : IsTaken forest k row order i parents ancestors) → column ≡ column_in row order i → (column < k → ⊥)
    → IsTaken forest k row order (i + 1) parents ancestors
none_taken forest k i column row order parents ancestors t e not = (
  t.0,
  t.1,
  below_more (λ j. column_in row order j < k → t.0 (column_in row order j) ≡ k) i t.2
      (λ below. absurd (not (subst (λ x. x < k) (sym e) below))),
)

-- where the vertices of a rising row are their own columns, none is earlier past the first that is not
pub head_taken : (forest : Rooted) (k i : ℕ) (row order parents ancestors : List ℕ)
    → IsStrictlyIncreasing row → IsInTurn row order → i < length row → k ≤ slice_index row i
    → IsTaken forest k row order i parents ancestors → IsTaken forest k row order (length row) parents ancestors
head_taken forest k i row order parents ancestors rising in_turn lt from t = (
  t.0,
  t.1,
  λ j inside below. elim (cases_lt j i) [
    | inl head ↦ t.2 j head below
    | inr past ↦ (
        let own = in_turn j inside in
        elim (cases_order i j) [
          | inl same ↦ (let e = ap (slice_index row) same in absurd (omega arith))
          | inr o ↦ elim o [
            | inl before ↦ (let up = AllPairs-from_increasing row rising i j 0 before inside in absurd (omega arith))
            | inr after ↦ absurd (omega arith)
          ]
        ]
        )
  ],
)
