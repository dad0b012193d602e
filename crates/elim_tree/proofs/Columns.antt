-- Structures, parents and tables of parents, in the words of the proofs: what a column reaches, and the first of it.
use Rattle.std.proofs.Common.{sym, ◌∙◌, ap, ◌≡◌, ◌≢◌, inl, inr, refl, ℕ, zero, suc, ◌<◌, ◌≤◌}
use Rattle.std.proofs.Common.{Bool, IsTrue, List, [], ◌∷◌, length, get_or, ◌==◌, arith}
use Rattle.std.proofs.lemmas.Bool.{cases_lt, or_cases, or_left, or_right, eqb-true, eq-eqb}
use Rattle.std.proofs.lemmas.List.{get_or_past}
use Rattle.std.proofs.lemmas.List.FromFn.{length-map-range_with_len, get_or-map-range_with_len}
use Rattle.std.proofs.lemmas.Grind.{get_or_after_one, get_or_default_zero}
use Rattle.limits.specs.Limits.{most_order}
use Rattle.permutations.specs.Perm.{IsVertex}
use Rattle.ordering.specs.Fill.{structure_of, parent_of, parents_of, IsAdjacency, IsParent}
use Rattle.elim_tree.specs.ParentTables.{parents_in, IsParentTable}
use Rattle.elim_tree.specs.Paths.{IsWithin}
use Rattle.elim_tree.specs.Reaches.{Reaches, IsFirstReached}
use Rattle.elim_tree.specs.Trees.{parent_at, IsForest}
use Rattle.elim_tree.proofs.Fills.{at_zero, within}
use Rattle.elim_tree.proofs.Children.{reaches_later}

-- ---- structures

pub in_structure : (joined : ℕ → ℕ → Bool) (j i : ℕ) → Reaches joined j i → IsTrue (structure_of joined j i)
in_structure joined j i h = or_right _ _ h

pub own_row : (joined : ℕ → ℕ → Bool) (j i : ℕ) → i ≡ j → IsTrue (structure_of joined j i)
own_row joined j i e = or_left _ _ (eq-eqb i j e)

pub reached_or_own : (joined : ℕ → ℕ → Bool) (j i : ℕ) → IsTrue (structure_of joined j i) → i ≢ j → Reaches joined j i
reached_or_own joined j i h ne = elim (or_cases (i == j) _ h) [ inl e ↦ absurd (ne (eqb-true i j e)) | inr r ↦ r ]

module _ (joined : ℕ → ℕ → Bool) (pattern : IsAdjacency joined) (n : ℕ) (inside : IsWithin n joined) where
  -- columns and rows are vertices
  pub row_within : (j i : ℕ) → Reaches joined j i → i ≤ n
  row_within j i h =
      let lt = within joined (suc n) (λ a b e. let v = (inside b a (pattern.symmetric a b e)).1 in omega arith) j j i h in
      omega arith

  pub column_within : (j i : ℕ) → Reaches joined j i → IsVertex n j
  column_within zero i h = let v = (inside zero i (at_zero joined zero i h)).0 in absurd (omega arith)
  column_within (suc j) i h =
      let le = row_within (suc j) i h in
      let lt = reaches_later joined pattern (suc j) i h in
      (omega arith, omega arith)

  -- ---- the parent is the first that is reached

  pub parent_is : (j p : ℕ) → IsParent joined n j p → IsFirstReached joined j p
  parent_is j p par = record {
    reached = λ some. let r = par.reached some in let lt = r.0 in reached_or_own joined j p r.2 (omega arith);
    least = λ i h. par.least i (reaches_later joined pattern j i h) (row_within j i h) (in_structure joined j i h);
  }

  pub first_is : (j p : ℕ) → IsFirstReached joined j p → IsParent joined n j p
  first_is j p first = record {
    reached = λ some. let r = first.reached some in (reaches_later joined pattern j p r, row_within j p r, in_structure joined j p r);
    least = λ i lt le h. first.least i (reached_or_own joined j i h (omega arith));
  }

-- ---- the list of all parents

pub parent_in_list : (joined : ℕ → ℕ → Bool) (n j : ℕ) → IsVertex n j → parent_at (parents_of joined n) j ≡ parent_of joined n j
parent_in_list joined n zero v = absurd (let some = v.0 in omega arith)
parent_in_list joined n (suc i) v = let le = v.1 in
    get_or-map-range_with_len (parent_of joined n) 1 n i (suc i) 0 (omega arith) (omega arith)

pub no_parent_beyond : (parents : List ℕ) (j : ℕ) → length parents < j → parent_at parents j ≡ 0
no_parent_beyond parents zero lt = refl
no_parent_beyond parents (suc i) lt = get_or_past parents i 0 (omega arith)

pub vertex_with_parent : (parents : List ℕ) (j : ℕ) → 0 < parent_at parents j → IsVertex (length parents) j
vertex_with_parent parents zero some = absurd (omega arith)
vertex_with_parent parents (suc i) some =
    elim (cases_lt (length parents) (suc i)) [
      | inl lt ↦ let none = no_parent_beyond parents (suc i) lt in absurd (omega arith)
      | inr le ↦ (omega arith, le)
    ]

-- a parent is the first of a column's structure, so it comes later
pub parents_rise : ((joined : ℕ → ℕ → Bool) (n j : ℕ) → IsParent joined n j (parent_of joined n j))
    → (joined : ℕ → ℕ → Bool) (n : ℕ) → 1 ≤ n → n ≤ most_order → IsForest (parents_of joined n)
parents_rise firsts joined n some few =
    let len = length-map-range_with_len (parent_of joined n) 1 n in
    record {
      some = omega (arith, len);
      few = omega (arith, len);
      rising = λ j has.
          let vertex = vertex_with_parent (parents_of joined n) j has in
          let same = parent_in_list joined n j (vertex.0, omega (arith, vertex.1, len)) in
          let first = (firsts joined n j).reached (omega (arith, has, same)) in
          (omega (arith, first.0, same), omega (arith, first.1, same, len));
    }

-- ---- tables of parents

pub in_table : (table : List ℕ) → IsParentTable table → (j : ℕ) → parent_at (parents_in table) j ≡ get_or table j 0
in_table table is zero = sym is.unused
in_table table is (suc i) = get_or_after_one table i 0 ∙ ap (λ k. get_or table k 0) (omega arith)

pub parent_within : (parents : List ℕ) → IsForest parents → (j : ℕ) → parent_at parents j ≤ length parents
parent_within parents is j =
    elim (cases_lt 0 (parent_at parents j)) [
      | inl some ↦ (is.rising j some).1
      | inr none ↦ omega arith
    ]

pub length_of_table : (table : List ℕ) → IsParentTable table → length table ≡ suc (length (parents_in table))
length_of_table [] is = let some = is.some in absurd (omega arith)
length_of_table (x ∷ xs) is = refl

pub read_within : (table : List ℕ) → IsParentTable table → (j read : ℕ)
    → j ≤ length (parents_in table) → read ≡ get_or table j read → read ≤ length (parents_in table)
read_within table is j read le e =
    let long = length_of_table table is in
    let here = get_or_default_zero table j read (omega arith) in
    let same = in_table table is j in
    let most = parent_within (parents_in table) is.forest j in
    omega arith
