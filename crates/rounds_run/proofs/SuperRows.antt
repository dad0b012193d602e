-- The rows of a supernode: of each of its columns, and what its children leave to it.
use Rattle.std.proofs.Common.{◌≡◌, ◌↔◌, ℕ, zero, suc, ◌+◌, ◌-◌, ◌<◌, ◌≤◌, inl, inr, Bool, true, not, ◌&&◌}
use Rattle.std.proofs.Common.{eqb, IsTrue, List, length, get_or, drop, refl, sym, ap, subst, ◌∙◌, arith}
use Rattle.std.proofs.lemmas.Bool.{cases_eq, cases_lt, ne_eqb, eqb-false, and_parts, and_from, not-true, not_from_false}
use Rattle.std.proofs.lemmas.List.{drop-drop}
use Rattle.std.proofs.lemmas.List.FromFn.{length-map-range_with_len}
use Rattle.std.proofs.lemmas.List.Sums.{sum_by_more}
use Rattle.patterns.specs.Pattern.{has}
use Rattle.permutations.specs.Perm.{IsVertex}
use Rattle.ordering.specs.Fill.{structure_of, parent_of, count_of, parents_of, counts_of, IsParent}
use Rattle.elim_tree.specs.Paths.{IsFromChild}
use Rattle.elim_tree.specs.Trees.{parent_at}
use Rattle.assembly_tree.specs.declared.assembly.Super.{Super}
use Rattle.assembly_tree.specs.Assembly.{IsSuper, no_super, super_at, super_of, columns_in}
use Rattle.assembly_tree.specs.Supernodes.{AreSupernodes, Continues, count_at, first_of, last_of}
use Rattle.rounds_run.specs.FrontRows.{rows_of_front}
use Rattle.rounds_run.proofs.RowLists.{Laws, has_rest, rows_next}
use Rattle.assembly_tree.proofs.CountLemmas.{count-listed}
use Rattle.elim_tree.proofs.Columns.{parent_in_list}
use Rattle.assembly_tree.proofs.RunLemmas.{last-within}

-- ---- the tables of the fill

-- ---- where the columns of a supernode stand

-- the columns up to a supernode are those before it, and its own
pub span : (supers : List Super) (s : ℕ) → IsSuper supers s → last_of supers s + 1 ≡ first_of supers s + (super_at supers s).columns
span supers zero is = absurd (omega (arith, is.0))
span supers (suc i) is =
    let back : suc i - 1 ≡ i = omega arith in
    let up : i + 1 ≡ suc i = omega arith in
    let here : (super_at supers (suc i)).columns ≡ columns_in (get_or supers i no_super) =
    ap (λ (k : ℕ). columns_in (get_or supers k no_super)) back in
    let first : first_of supers (suc i) ≡ last_of supers i + 1 = ap (λ (k : ℕ). last_of supers k + 1) back in
    let more : last_of supers (suc i) ≡ last_of supers i + columns_in (get_or supers i no_super) =
    ap (λ (k : ℕ). last_of supers k) (sym up) ∙ sum_by_more columns_in supers i no_super (omega (arith, is.1)) in
    omega (arith, here, first, more)

-- each column stands in some supernode
pub cover : (supers : List Super) (p m : ℕ) → 1 ≤ p → m ≤ length supers → p ≤ last_of supers m
    → (t : ℕ) × IsSuper supers t × (first_of supers t ≤ p) × (p ≤ last_of supers t)
cover supers p zero low few high = absurd (let none : last_of supers 0 ≡ 0 = refl in omega (arith, none))
cover supers p (suc m) low few high =
    elim (cases_lt (last_of supers m) p) [
      | inl above ↦ (
          let back : suc m - 1 ≡ m = omega arith in
          let first : first_of supers (suc m) ≡ last_of supers m + 1 = ap (λ (k : ℕ). last_of supers k + 1) back in
          (suc m, (omega arith, few), omega (arith, first), high)
          )
      | inr le ↦ cover supers p m low (omega arith) le
    ]

-- a pattern by columns, and the supernodes of its factor
module _ (joined : ℕ → ℕ → Bool) (n : ℕ) (laws : Laws joined n) (supers : List Super) (nodes : List ℕ)
    (is : AreSupernodes (parents_of joined n) (counts_of joined n) (record { supers = supers; nodes = nodes })) where
  order_is : length (parents_of joined n) ≡ n
  order_is = length-map-range_with_len (parent_of joined n) 1 n

  pub last_all : last_of supers (length supers) ≡ n
  last_all = is.total ∙ order_is

  pub column_vertex : (s j : ℕ) → IsSuper supers s → first_of supers s ≤ j → j ≤ last_of supers s → IsVertex n j
  column_vertex s j super low high = (omega (arith, low), omega (arith, high, last-within supers s, last_all))

  pub first_vertex : (s : ℕ) → IsSuper supers s → IsVertex n (first_of supers s)
  first_vertex s super = column_vertex s (first_of supers s) super (omega arith) (is.some s super)

  last_vertex : (s : ℕ) → IsSuper supers s → IsVertex n (last_of supers s)
  last_vertex s super = column_vertex s (last_of supers s) super (is.some s super) (omega arith)

  -- as many columns as the list of the first one has rows, at most
  pub columns-le : (s : ℕ) → IsSuper supers s → (super_at supers s).columns ≤ count_of joined n (first_of supers s)
  columns-le s super =
      omega (arith, is.front s super, count-listed joined n (first_of supers s) (first_vertex s super))

  -- ---- the rows of each column

  pub rows_from : (s k : ℕ) → IsSuper supers s → first_of supers s + k ≤ last_of supers s
      → rows_of_front joined n (first_of supers s + k) ≡ drop k (rows_of_front joined n (first_of supers s))
  rows_from s zero super le = ap (rows_of_front joined n) (let e : first_of supers s + zero ≡ first_of supers s = omega arith in e)
  rows_from s (suc k) super le =
      let j = first_of supers s + k in
      let here = column_vertex s j super (omega arith) (omega (arith, le)) in
      let next = column_vertex s (suc j) super (omega arith) (omega (arith, le)) in
      let goes = is.runs s j super (omega arith) (omega (arith, le)) in
      let more : suc j ≡ j + 1 = omega arith in
      let up : parent_of joined n j ≡ suc j = sym (parent_in_list joined n j here) ∙ goes.parent ∙ sym more in
      let fewer : count_of joined n j ≡ count_of joined n (suc j) + 1 = (
      let one = count-listed joined n j here in
      let two = count-listed joined n (suc j) next in
      let there = ap (λ (i : ℕ). count_at (counts_of joined n) i) more in
      omega (arith, one, two, there, goes.count)
      ) in
      let at : first_of supers s + suc k ≡ suc j = omega arith in
      let count : k + 1 ≡ suc k = omega arith in
      ap (rows_of_front joined n) at ∙ rows_next joined n laws j here next up fewer ∙ ap (drop 1) (rows_from s k super (omega (arith, le)))
      ∙ drop-drop 1 k (rows_of_front joined n (first_of supers s))
      ∙ ap (λ (i : ℕ). drop i (rows_of_front joined n (first_of supers s))) count

  -- past its columns a list has the rows of the last column but that column
  rest_is : (s : ℕ) → IsSuper supers s
      → drop (super_at supers s).columns (rows_of_front joined n (first_of supers s)) ≡ drop 1 (rows_of_front joined n (last_of supers s))
  rest_is s super =
      let count = (super_at supers s).columns in
      let long = span supers s super in
      let some = is.some s super in
      let last : first_of supers s + (count - 1) ≡ last_of supers s = omega (arith, long, some) in
      let back : count - 1 + 1 ≡ count = omega (arith, long, some) in
      ap (λ (i : ℕ). drop i (rows_of_front joined n (first_of supers s))) (sym back)
      ∙ sym (drop-drop 1 (count - 1) (rows_of_front joined n (first_of supers s)))
      ∙ ap (drop 1) (sym (rows_from s (count - 1) super (omega (arith, last))) ∙ ap (rows_of_front joined n) last)

  -- ---- children

  pub super_parent : (c : ℕ) → IsSuper supers c
      → (super_at supers c).parent ≡ super_of nodes (parent_of joined n (last_of supers c))
  super_parent c super = is.parent c super ∙ ap (super_of nodes) (parent_in_list joined n (last_of supers c) (last_vertex c super))

  -- the column in whose supernode a column stands
  stands : (s j : ℕ) → IsSuper supers s → first_of supers s ≤ j → j ≤ last_of supers s → super_of nodes j ≡ s
  stands s j super low high = is.nodes s j super low high

  covered : (p : ℕ) → IsVertex n p → (t : ℕ) × IsSuper supers t × (first_of supers t ≤ p) × (p ≤ last_of supers t)
  covered p vertex = cover supers p (length supers) vertex.0 (omega arith) (omega (arith, vertex.1, last_all))

  module _ (first_parent : (j : ℕ) → IsParent joined n j (parent_of joined n j)) where
    -- the parent of the last column of a child is the first column
    parent_first : (c s : ℕ) → IsSuper supers c → IsSuper supers s → (super_at supers c).parent ≡ s
        → parent_of joined n (last_of supers c) ≡ first_of supers s
    parent_first c s child super up =
        let p = parent_of joined n (last_of supers c) in
        let there : super_of nodes p ≡ s = sym (super_parent c child) ∙ up in
        let some : 1 ≤ p = elim (cases_eq p 0) [
          | inl e ↦ absurd (let none : super_of nodes p ≡ 0 = ap (super_of nodes) e in omega (arith, none, there, super.0))
          | inr ne ↦ omega arith
        ] in
        let reached = (first_parent (last_of supers c)).reached some in
        let own = covered p (some, reached.1) in
        let same : own.0 ≡ s = sym (stands own.0 p own.1 own.2 own.3) ∙ there in
        let low : first_of supers s ≤ p = subst (λ z. first_of supers z ≤ p) same own.2 in
        let high : p ≤ last_of supers s = subst (λ z. p ≤ last_of supers z) same own.3 in
        elim (cases_eq p (first_of supers s)) [
          | inl e ↦ e
          | inr ne ↦ absurd (
              let before : p - 1 + 1 ≡ p = omega (arith, some) in
              let goes = is.runs s (p - 1) super (omega (arith, low, ne)) (omega (arith, high, some)) in
              let listed : parent_at (parents_of joined n) (last_of supers c) ≡ p - 1 + 1 =
              parent_in_list joined n (last_of supers c) (last_vertex c child) ∙ sym before in
              let vertex = last_vertex c child in
              let only = goes.only (last_of supers c) (vertex.0, omega (arith, vertex.1, order_is)) listed in
              is.longest c child (subst (Continues (parents_of joined n) (counts_of joined n)) (sym only) goes)
              )
        ]

    -- a column whose parent is the first column is the last column of a child
    child_super : (x s : ℕ) → IsVertex n x → IsSuper supers s → parent_of joined n x ≡ first_of supers s
        → (c : ℕ) × IsSuper supers c × (last_of supers c ≡ x) × ((super_at supers c).parent ≡ s)
    child_super x s vertex super up =
        let own = covered x vertex in
        let t = own.0 in
        elim (cases_eq x (last_of supers t)) [
          | inl e ↦ (
            t,
            own.1,
            sym e,
            super_parent t own.1 ∙ ap (λ (j : ℕ). super_of nodes (parent_of joined n j)) (sym e) ∙ ap (super_of nodes) up
                ∙ stands s (first_of supers s) super (omega arith) (is.some s super),
          )
          | inr ne ↦ absurd (
              let below : x < last_of supers t = omega (arith, own.3, ne) in
              let goes = is.runs t x own.1 own.2 below in
              let next : first_of supers s ≡ x + 1 = sym up ∙ sym (parent_in_list joined n x vertex) ∙ goes.parent in
              let same : t ≡ s =
              sym (stands t (first_of supers s) own.1 (omega (arith, next, own.2)) (omega (arith, next, below)))
              ∙ stands s (first_of supers s) super (omega arith) (is.some s super) in
              let low : first_of supers s ≤ x = subst (λ z. first_of supers z ≤ x) same own.2 in
              omega (arith, next, low)
              )
        ]

    -- what the children leave to a supernode is what its first column gets from its children
    pub from_children : (s i : ℕ) → IsSuper supers s
        → ((c : ℕ) × IsSuper supers c × ((super_at supers c).parent ≡ s)
        × IsTrue (has (drop (super_at supers c).columns (rows_of_front joined n (first_of supers c))) i))
        ↔ IsFromChild joined n (first_of supers s) i
    from_children s i super = (
      λ (c, child, up, there).
          let passes : (structure_of joined (last_of supers c) i && not (eqb i (last_of supers c))) ≡ true =
          sym (has_rest joined n laws (last_of supers c) i (last_vertex c child))
          ∙ ap (λ z. has z i) (sym (rest_is c child)) ∙ there in
          let parts = and_parts (structure_of joined (last_of supers c) i) _ passes in
          (last_of supers c, last_vertex c child, parent_first c s child super up, parts.0, eqb-false i _ (not-true _ parts.1)),
      λ (x, vertex, up, there, ne).
          let own = child_super x s vertex super up in
          let c = own.0 in
          let at : structure_of joined (last_of supers c) i ≡ true = ap (λ (j : ℕ). structure_of joined j i) own.2 ∙ there in
          let other : not (eqb i (last_of supers c)) ≡ true = not_from_false _ (ne_eqb i _ (λ e. ne (e ∙ own.2))) in
          let passes = and_from _ _ at other in (
            c,
            own.1,
            own.3,
            ap (λ z. has z i) (rest_is c own.1) ∙ has_rest joined n laws (last_of supers c) i (last_vertex c own.1) ∙ passes,
          ),
    )
