-- Subtrees as spans: first descendants, the parents as ancestors, and the rows of the factor.
use Rattle.std.proofs.Common.{sym, ◌∙◌, subst, ap, ◌≡◌, ◌≢◌, inl, inr, refl, ℕ, zero, suc, ◌+◌}
use Rattle.std.proofs.Common.{◌<◌, ◌≤◌, Bool, IsTrue, List, length, set, arith, slice_index}
use Rattle.std.proofs.lemmas.Bool.{cases_eq, cases_lt, or_left, eq-eqb}
use Rattle.std.proofs.lemmas.List.{get_or_past}
use Rattle.ordering.specs.Fill.{structure_of}
use Rattle.elim_tree.specs.Trees.{parent_at, IsForest, IsAbove, self, step}
use Rattle.elim_tree.specs.Postorders.{IsNumberedInPostorder}
use Rattle.column_counts.specs.Marks.{IsFactorRow}
use Rattle.column_counts.specs.Leaves.{IsFirsts, AreSpans, AreAncestors, IsInRow}
use Rattle.lists.proofs.Lists.{at_other, at_here}
use Rattle.column_counts.proofs.FactorRows.{IsFactor, long_parents, above_le, way_of, of_way, factor_row}
use Rattle.elim_tree.proofs.RowSubtrees.{above_on}

-- ---- first descendants

-- first descendants are made: each is below its column, and those of the columns before j were carried to the parents
pub record AreCarried (parents firsts : List ℕ) (j : ℕ) : Type 0 where
  pub low : (x : ℕ) → x ≤ length parents → IsAbove parents (slice_index firsts x) x
  pub carried : (c : ℕ) → c < j → 0 < parent_at parents c → slice_index firsts (parent_at parents c) ≤ slice_index firsts c

module _ (parents : List ℕ) (forest : IsForest parents) where
  pub carried_none : (firsts : List ℕ) → ((x : ℕ) → x ≤ length parents → slice_index firsts x ≡ x) → AreCarried parents firsts 1
  carried_none firsts own = record {
    low = λ x le. subst (λ y. IsAbove parents y x) (sym (own x le)) self;
    carried = λ c lt some.
        (let e : c ≡ 0 = omega arith in absurd (let none : parent_at parents c ≡ 0 = ap (parent_at parents) e in omega arith));
  }

  module _ (firsts : List ℕ) (j : ℕ) (low_j : 0 < j) (high_j : j ≤ length parents) (old : AreCarried parents firsts j) where
    -- the first of the column is less than that of the parent: it is carried up
    carried_up_to : length firsts ≡ length parents + 1 → slice_index firsts j < slice_index firsts (parent_at parents j)
        → AreCarried parents (set firsts (parent_at parents j) (slice_index firsts j)) (j + 1)
    carried_up_to len less =
        let p = parent_at parents j in
        let some : 0 < p = elim (cases_eq p 0) [
          | inl e ↦
              (let le = above_le forest (old.low 0 (omega arith)) in
              let z : slice_index firsts p ≡ slice_index firsts 0 = ap (slice_index firsts) e in omega arith)
          | inr ne ↦ omega arith
        ] in
        let up = forest.rising j some in
        let here = at_here firsts p (slice_index firsts j) (let most = up.1 in omega arith) in
        let other = at_other firsts p (slice_index firsts j) in
        record {
          low = λ x le. elim (cases_eq x p) [
            | inl e ↦ subst (λ v. IsAbove parents (slice_index (set firsts p (slice_index firsts j)) v) v)
                (sym e) (subst (λ v. IsAbove parents v p) (sym here) (above_on (old.low j high_j) some))
            | inr ne ↦ subst (λ v. IsAbove parents v x) (sym (other x ne)) (old.low x le)
          ];
          carried = λ c lt pos.
              let rise = (forest.rising c pos).0 in
              let far = up.0 in
              let apart : c ≢ p = omega arith in
              let same = other c apart in
              elim (cases_eq c j) [
                | inl e ↦ (
                    let q : parent_at parents c ≡ p = ap (parent_at parents) e in
                    let l : slice_index (set firsts p (slice_index firsts j)) (parent_at parents c) ≡ slice_index firsts j =
                    ap (slice_index (set firsts p (slice_index firsts j))) q ∙ here in
                    let r : slice_index firsts c ≡ slice_index firsts j = ap (slice_index firsts) e in
                    omega arith
                    )
                | inr ne ↦ (
                    let was = old.carried c (omega arith) pos in
                    elim (cases_eq (parent_at parents c) p) [
                      | inl q ↦ (
                          let l : slice_index (set firsts p (slice_index firsts j)) (parent_at parents c) ≡ slice_index firsts j =
                          ap (slice_index (set firsts p (slice_index firsts j))) q ∙ here in
                          let r : slice_index firsts (parent_at parents c) ≡ slice_index firsts p = ap (slice_index firsts) q in
                          omega arith
                          )
                      | inr nq ↦ (let l = other (parent_at parents c) nq in omega arith)
                    ]
                    )
              ];
        }

    pub carried_up : (p v : ℕ) → p ≡ parent_at parents j → v ≡ slice_index firsts j
        → length firsts ≡ length parents + 1 → v < slice_index firsts p → AreCarried parents (set firsts p v) (j + 1)
    carried_up p v e f len = rw (e, f) (carried_up_to len)

    pub carried_on : (p : ℕ) → p ≡ parent_at parents j → slice_index firsts p ≤ slice_index firsts j → AreCarried parents firsts (j + 1)
    carried_on p is not = record {
      low = old.low;
      carried = λ c lt pos. elim (cases_eq c j) [
        | inl e ↦ subst (λ v. slice_index firsts (parent_at parents v) ≤ slice_index firsts v)
            (sym e) (subst (λ q. slice_index firsts q ≤ slice_index firsts j) is not)
        | inr ne ↦ old.carried c (omega arith) pos
      ];
    }

  module _ (firsts : List ℕ) (all : AreCarried parents firsts (length parents + 1)) where
    below_first : {y x : ℕ} → IsAbove parents y x → x ≤ length parents
        → (slice_index firsts x ≤ slice_index firsts y) × (y ≤ length parents)
    below_first self le = (omega arith, le)
    below_first {y} {x} (step some way) le =
        let up = forest.rising y some in
        let most = up.1 in
        let far = up.0 in
        let rest = below_first way le in
        let here = all.carried y (omega arith) some in
        let low = rest.0 in (omega arith, omega arith)

    pub are_firsts : IsNumberedInPostorder parents → IsFirsts parents firsts
    are_firsts numbered x y le = (
      λ way.
          let b = below_first way le in
          let c = b.0 in
          let own = above_le forest (all.low y b.1) in
          (omega arith, above_le forest way),
      λ span. numbered (slice_index firsts x) y x (all.low x le) span.0 span.1,
    )

-- ---- spans

pub parent_low : (parents : List ℕ) → IsForest parents → (x : ℕ) → parent_at parents x ≤ length parents
parent_low parents forest x = elim (cases_eq (parent_at parents x) 0) [ inl e ↦ omega arith | inr ne ↦ (forest.rising x (omega arith)).1 ]

module _ (parents : List ℕ) (forest : IsForest parents) (firsts : List ℕ)
    (len : length firsts ≡ length parents + 1) (is : IsFirsts parents firsts) where
  past : (x : ℕ) → length parents < x → slice_index firsts x ≡ 0
  past x lt = get_or_past firsts x 0 (omega arith)

  pub spans : AreSpans (slice_index firsts)
  spans = record {
    own = λ x. elim (cases_lt (length parents) x) [ inl l ↦ (let z = past x l in omega arith) | inr l ↦ ((is x x l).0 self).0 ];
    nested = λ x y a b. elim (cases_lt (length parents) x) [
      | inl l ↦ (let z = past x l in omega arith)
      | inr l ↦ (
          let own = ((is y y (omega arith)).0 self).0 in
          let low = (is y (slice_index firsts y) (omega arith)).1 (omega arith, own) in
          ((is x (slice_index firsts y) l).0 (above_trans low ((is x y l).1 (a, b)))).0
          )
    ];
  }
    where
      above_trans : {a b c : ℕ} → IsAbove parents a b → IsAbove parents b c → IsAbove parents a c
      above_trans self way = way
      above_trans (step some rest) way = step some (above_trans rest way)

  from_zero : {x : ℕ} → IsAbove parents 0 x → x ≡ 0
  from_zero self = refl
  from_zero (step some way) = absurd (omega arith)

  pub first_some : (x : ℕ) → 0 < x → x ≤ length parents → 0 < slice_index firsts x
  first_some x some le = elim (cases_eq (slice_index firsts x) 0) [
    | inl e ↦ (let z = from_zero ((is x 0 le).1 (omega arith, omega arith)) in absurd (omega arith))
    | inr ne ↦ omega arith
  ]

  -- the parents themselves are ancestors that lead up
  pub first_ancestors : (ancestor : ℕ → ℕ) → ((x : ℕ) → x ≤ length parents → ancestor x ≡ parent_at parents x)
      → ((x : ℕ) → length parents < x → ancestor x ≡ 0) → (j : ℕ) → AreAncestors (slice_index firsts) (length firsts) j ancestor
  first_ancestors ancestor here none j = record {
    rises = λ z some. elim (cases_lt (length parents) z) [
      | inl l ↦ (let e = none z l in absurd (omega arith))
      | inr l ↦ (
          let e = here z l in
          let p : 0 < parent_at parents z = omega arith in
          let up = forest.rising z p in
          let lt = up.0 in
          (omega arith, subst (λ v. slice_index firsts v ≤ z) (sym e) (((is (parent_at parents z) z up.1).0 (step p self)).0))
          )
    ];
    nearest = λ z w lt wn f le.
        let e = here z (omega arith) in
        let k = nearest z w lt ((is w z (omega arith)).1 (f, omega arith)) in
        let a = k.0 in let b = k.1 in
        (omega arith, omega arith);
  }
    where
      nearest : (z w : ℕ) → z < w → IsAbove parents z w → (0 < parent_at parents z) × (parent_at parents z ≤ w)
      nearest z w lt self = absurd (omega arith)
      nearest z w lt (step some way) = (some, above_le forest way)

-- ---- rows

-- the way up from a column of row i comes to i
leads_to : (parents : List ℕ) (i : ℕ) (holds : ℕ → Bool) → IsFactorRow (parent_at parents) i holds
    → (room x : ℕ) → i ≤ x + room → IsTrue (holds x) → (x ≡ i → ⊥) → x ≤ i → IsAbove parents x i
leads_to parents i holds row zero x le h ne most = absurd (omega arith)
leads_to parents i holds row (suc room) x le h ne most =
    let up = row.up x h ne in
    let rise = up.1 in
    let some : 0 < parent_at parents x = omega arith in
    elim (cases_eq (parent_at parents x) i) [
      | inl e ↦ step some (subst (λ v. IsAbove parents v i) (sym e) self)
      | inr other ↦ step some (leads_to parents i holds row room (parent_at parents x) (omega arith) up.3 other up.2)
    ]

module _ (joined : ℕ → ℕ → Bool) (n : ℕ) (parents : List ℕ) (factor : IsFactor joined n parents)
    (firsts : List ℕ) (len : length firsts ≡ n + 1) (is : IsFirsts parents firsts) where
  same : length parents ≡ n
  same = long_parents joined n parents factor

  -- a row has no column before the first descendant of its own
  pub below_row : (i y : ℕ) → i < length firsts → IsInRow joined i y → slice_index firsts i ≤ y
  below_row i y lt row =
      elim row [
        | inl e ↦ (let long = same in let own = ((is i i (omega arith)).0 self).0 in omega arith)
        | inr h ↦ (
            let long = same in
            let row = factor_row joined n parents factor i (omega arith) in
            let holds = of_way joined n parents factor y i y h.1 h.0 h.1 self in
            let below = h.1 in
            ((is i y (omega arith)).0 (leads_to parents i (λ x. structure_of joined x i) row i y
            (omega arith) holds (λ e. absurd (omega arith)) (omega arith))).0
            )
      ]

  -- column x is in row i of the factor where the row has a column in its span
  pub row_from : (i x y : ℕ) → x ≤ n → x ≤ i → slice_index firsts x ≤ y → y ≤ x → IsInRow joined i y → IsTrue (structure_of joined x i)
  row_from i x y xn le a b row =
      let long = same in
      elim (cases_eq x i) [
        | inl e ↦ or_left _ _ (eq-eqb i x (sym e))
        | inr ne ↦ elim row [
          | inl e ↦ absurd (omega arith)
          | inr h ↦ of_way joined n parents factor x i y (omega arith) h.0 h.1 ((is x y (omega arith)).1 (a, b))
        ]
      ]

  pub row_to : (i x : ℕ) → x ≤ n → x ≤ i → IsTrue (structure_of joined x i)
      → (y : ℕ) × (slice_index firsts x ≤ y) × (y ≤ x) × IsInRow joined i y
  row_to i x xn le h =
      let long = same in
      elim (cases_eq x i) [
        | inl e ↦ (x, ((is x x (omega arith)).0 self).0, omega arith, inl e)
        | inr ne ↦ (
            let way = way_of joined n parents factor x i (omega arith) h in
            let span = (is x way.0 (omega arith)).0 way.3 in
            (way.0, span.0, span.1, inr (way.1, way.2))
            )
      ]

  -- and a column beyond the row, where the row's own column is in its span
  pub beyond : (i x y : ℕ) → i < x → slice_index firsts x ≤ y → IsInRow joined i y → slice_index firsts x ≤ i
  beyond i x y lt a row = elim row [ inl e ↦ omega arith | inr h ↦ (let b = h.1 in omega arith) ]
