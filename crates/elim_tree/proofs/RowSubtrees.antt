-- The rows in which a column stands, by ways up the elimination tree.
use Rattle.std.proofs.Common.{sym, ◌∙◌, subst, ◌≡◌, ◌↔◌, inl, inr, ℕ, zero, suc, ◌<◌, ◌≤◌, Bool, IsTrue, List, arith, refl}
use Rattle.std.proofs.lemmas.Bool.{cases_eq}
use Rattle.std.proofs.lemmas.List.FromFn.{length-map-range_with_len}
use Rattle.permutations.specs.Perm.{IsVertex}
use Rattle.ordering.specs.Fill.{structure_of, parent_of, parents_of, IsAdjacency, IsParent}
use Rattle.elim_tree.specs.Paths.{Path, IsWithin, IsInherited, IsInRowSubtree}
use Rattle.elim_tree.specs.Reaches.{Reaches, IsFirstReached}
use Rattle.elim_tree.specs.Trees.{parent_at, IsAbove, self, step}
use Rattle.elim_tree.proofs.Fills.{from_pattern}
use Rattle.ordering.proofs.FillLemmas.{later}
use Rattle.elim_tree.proofs.Paths.{reaches_by_path}
use Rattle.elim_tree.proofs.Children.{reaches_later, reaches_by_children, first_reaches}
use Rattle.elim_tree.proofs.Columns.{in_structure, own_row, reached_or_own, column_within, parent_is, parent_in_list, vertex_with_parent}

-- one step more at the end of a way up
pub above_on : {parents : List ℕ} {a b : ℕ} → IsAbove parents a b → 0 < parent_at parents b → IsAbove parents a (parent_at parents b)
above_on self some = step some self
above_on (step s way) some = step s (above_on way some)

-- a way up rises
pub above_le : {parents : List ℕ} {a b : ℕ} → ((x : ℕ) → 0 < parent_at parents x → x < parent_at parents x) → IsAbove parents a b → a ≤ b
above_le rises self = omega arith
above_le {parents} {a} {b} rises (step s way) = let up = rises a s in let rest = above_le rises way in omega arith

-- the parent is the first that a column reaches: what `ordering` says of it
abbrev pub ParentsAreFirst : Type 0
ParentsAreFirst = (joined : ℕ → ℕ → Bool) (n j : ℕ) → IsParent joined n j (parent_of joined n j)

-- only one is the first
pub one_first : (joined : ℕ → ℕ → Bool) (j p q : ℕ) → IsFirstReached joined j p → IsFirstReached joined j q → p ≡ q
one_first joined j zero zero one two = refl
one_first joined j (suc p) zero one two = let some = (two.least (suc p) (one.reached (omega arith))).0 in absurd (omega arith)
one_first joined j zero (suc q) one two = let some = (one.least (suc q) (two.reached (omega arith))).0 in absurd (omega arith)
one_first joined j (suc p) (suc q) one two =
    let low = (two.least (suc p) (one.reached (omega arith))).1 in
    let high = (one.least (suc q) (two.reached (omega arith))).1 in
    omega arith

module _ (parents_are_first : ParentsAreFirst) (joined : ℕ → ℕ → Bool)
    (pattern : IsAdjacency joined) (n : ℕ) (inside : IsWithin n joined) where
  pub first_is_parent : (j : ℕ) → IsFirstReached joined j (parent_of joined n j)
  first_is_parent j = parent_is joined pattern n inside j (parent_of joined n j) (parents_are_first joined n j)

  pub parent_is_first : (j p : ℕ) → IsFirstReached joined j p → parent_of joined n j ≡ p
  parent_is_first j p first = one_first joined j (parent_of joined n j) p (first_is_parent j) first

  pub first_in_list : (j : ℕ) → IsVertex n j → IsFirstReached joined j (parent_at (parents_of joined n) j)
  first_in_list j vertex = subst (λ p. IsFirstReached joined j p) (sym (parent_in_list joined n j vertex)) (first_is_parent j)

  -- ---- the structure by children

  pub by_children : (j i : ℕ) → IsVertex n j → IsTrue (structure_of joined j i) ↔ IsInherited joined n j i
  by_children j i vertex = (
    λ h. elim (cases_eq i j) [
      | inl e ↦ inl e
      | inr ne ↦
          let r = reached_or_own joined j i h ne in
          inr (elim ((reaches_by_children joined pattern j i).0 r) [
            | inl e ↦ inl e
            | inr f ↦ inr (
              f.0,
              column_within joined pattern n inside f.0 i f.3,
              parent_is_first f.0 j f.1,
              in_structure joined f.0 i f.3,
              (let lt = reaches_later joined pattern f.0 i f.3 in omega arith),
            )
          ])
    ],
    λ s. elim s [
      | inl e ↦ own_row joined j i e
      | inr t ↦ elim t [
        | inl e ↦ in_structure joined j i (from_pattern joined pattern j i e.0 e.1)
        | inr f ↦ elim (cases_eq i j) [
          | inl e ↦ own_row joined j i e
          | inr ne ↦ in_structure joined j i (first_reaches joined pattern f.0 j i
              (subst (λ p. IsFirstReached joined f.0 p) f.2 (first_is_parent f.0)) (reached_or_own joined f.0 i f.3 f.4) ne)
        ]
      ]
    ],
  )

  -- ---- row subtrees

  pub parents_rise : (x : ℕ) → 0 < parent_at (parents_of joined n) x → x < parent_at (parents_of joined n) x
  parents_rise x some =
      let vertex = subst (λ k. IsVertex k x) (length-map-range_with_len (parent_of joined n) 1 n)
      (vertex_with_parent (parents_of joined n) x some) in
      reaches_later joined pattern x (parent_at (parents_of joined n) x) ((first_in_list x vertex).reached some)

  way_to : (i m x : ℕ) → x < m → Reaches joined x i → IsInRowSubtree joined n i x
  way_to i zero x lt h = absurd (omega arith)
  way_to i (suc m) x lt h =
      elim ((reaches_by_children joined pattern x i).0 h) [
        | inl e ↦ (x, pattern.symmetric x i e.0, e.1, self)
        | inr f ↦
            let below = reaches_later joined pattern f.0 x (f.1.reached f.2) in
            let ih = way_to i m f.0 (omega arith) f.3 in
            let up : parent_at (parents_of joined n) f.0 ≡ x =
            parent_in_list joined n f.0 (column_within joined pattern n inside f.0 i f.3) ∙ parent_is_first f.0 x f.1 in
            let some = f.2 in
            (ih.0, ih.1, ih.2, subst (λ y. IsAbove (parents_of joined n) ih.0 y) up (above_on ih.3 (omega arith)))
      ]

  -- whoever is on the way up from a column that reaches i reaches i too, before i
  pub reaches_up : (i : ℕ) → {a b : ℕ} → IsAbove (parents_of joined n) a b → Reaches joined a i → b < i → Reaches joined b i
  reaches_up i self h lt = h
  reaches_up i {a} {b} (step some way) h lt =
      let le = above_le parents_rise way in
      let first = first_in_list a (column_within joined pattern n inside a i h) in
      reaches_up i way (first_reaches joined pattern a (parent_at (parents_of joined n) a) i first h (omega arith)) lt

  pub by_rows : (i x : ℕ) → x < i → IsTrue (structure_of joined x i) ↔ IsInRowSubtree joined n i x
  by_rows i x lt = (
    λ h. way_to i (suc x) x (omega arith) (reached_or_own joined x i h (omega arith)),
    λ r. in_structure joined x i (reaches_up i r.3 (from_pattern joined pattern r.0 i (pattern.symmetric i r.0 r.1) r.2) lt),
  )

pub by_paths : (joined : ℕ → ℕ → Bool) (j i : ℕ) → IsAdjacency joined → j < i → IsTrue (structure_of joined j i) ↔ Path joined j i j
by_paths joined j i pattern lt = (
  λ h. (reaches_by_path joined pattern j i lt).0 (reached_or_own joined j i h (omega arith)),
  λ p. in_structure joined j i ((reaches_by_path joined pattern j i lt).1 p),
)

pub later_rows : (joined : ℕ → ℕ → Bool) (j i : ℕ) → IsTrue (structure_of joined j i) → j ≤ i
later_rows joined j i h =
    elim (cases_eq i j) [
      | inl e ↦ omega arith
      | inr ne ↦ (let above = (later joined j j i (reached_or_own joined j i h ne)).1 in omega arith)
    ]
