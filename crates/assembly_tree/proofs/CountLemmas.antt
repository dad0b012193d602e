-- The counts of the fill: all that stands in a column but the column itself stands in its parent.
use Rattle.std.proofs.Common.{◌≡◌, ◌⊎◌, ◌↔◌, ℕ, zero, suc, ◌+◌, ◌-◌, ◌<◌, ◌≤◌, Bool, true, false}
use Rattle.std.proofs.Common.{cond, IsTrue, length, get_or, refl, sym, ap, ◌∙◌, inl, inr, arith}
use Rattle.std.specs.List.{count_by, range_with_len}
use Rattle.std.proofs.lemmas.List.Sums.{get_or-le-sum_by}
use Rattle.std.proofs.lemmas.List.FromFn.{length-range_with_len, length-map-range_with_len}
use Rattle.std.proofs.lemmas.List.FromFn.{get_or-range_with_len, get_or-map-range_with_len}
use Rattle.std.proofs.lemmas.Bool.{cases_eq, cases_Bool, eq-eqb}
use Rattle.permutations.specs.Perm.{IsVertex}
use Rattle.ordering.specs.Fill.{IsAdjacency, IsParent, structure_of, parent_of, count_of, parents_of, counts_of}
use Rattle.elim_tree.specs.Paths.{IsWithin, IsInherited}
use Rattle.assembly_tree.specs.Supernodes.{count_at, AreColumnCounts}
use Rattle.assembly_tree.proofs.ListLemmas.{count_next}
use Rattle.elim_tree.proofs.Columns.{parent_in_list}

abbrev bit : Bool → ℕ
bit b = cond b 1 0

-- ---- counts over 1 to n

-- what passes p passes q, but for v
count_but : (p q : ℕ → Bool) (v m : ℕ) → ((i : ℕ) → i ≤ m → p i ≡ true → (i ≡ v) ⊎ (q i ≡ true)) → (n : ℕ) → n ≤ m
    → (n < v → count_by p (range_with_len 1 n) ≤ count_by q (range_with_len 1 n))
    × (count_by p (range_with_len 1 n) ≤ count_by q (range_with_len 1 n) + 1)
count_but p q v m each zero le = (λ lt. omega arith, omega arith)
count_but p q v m each (suc n) le =
    let before = count_but p q v m each n (omega (arith, le)) in
    let up : suc n ≡ n + 1 = omega arith in
    let a = ap (λ (k : ℕ). count_by p (range_with_len 1 k)) up ∙ count_next p n in
    let b = ap (λ (k : ℕ). count_by q (range_with_len 1 k)) up ∙ count_next q n in
    let few : bit (p (n + 1)) ≤ 1 = elim (p (n + 1)) as (λ x. bit x ≤ 1) [ true ↦ omega arith | false ↦ omega arith ] in
    elim (cases_Bool (p (n + 1))) [
      | inr no_p ↦ (
          let none : bit (p (n + 1)) ≡ 0 = ap bit no_p in
          (λ lt. omega (arith, a, b, none, before.0 (omega (arith, lt))), omega (arith, a, b, none, before.1))
          )
      | inl passes ↦ elim (each (n + 1) (omega (arith, le)) passes) [
        | inl here ↦ (λ lt. absurd (omega (arith, lt, here)), omega (arith, a, b, few, before.0 (omega (arith, here))))
        | inr too ↦ (
            let one : bit (q (n + 1)) ≡ 1 = ap bit too in
            (λ lt. omega (arith, a, b, few, one, before.0 (omega (arith, lt))), omega (arith, a, b, few, one, before.1))
            )
      ]
    ]

count_never : (n : ℕ) → count_by (λ (i : ℕ). false) (range_with_len 1 n) ≡ 0
count_never zero = refl
count_never (suc n) =
    let up : suc n ≡ n + 1 = omega arith in
    let next = ap (λ (k : ℕ). count_by (λ (i : ℕ). false) (range_with_len 1 k)) up ∙ count_next (λ (i : ℕ). false) n in
    omega (arith, next, count_never n)

count_some : (p : ℕ → Bool) (n v : ℕ) → IsVertex n v → p v ≡ true → 1 ≤ count_by p (range_with_len 1 n)
count_some p n v is passes =
    let lt : v - 1 < length (range_with_len 1 n) = omega (arith, length-range_with_len 1 n, is.0, is.1) in
    let here : get_or (range_with_len 1 n) (v - 1) 0 ≡ v =
    get_or-range_with_len 1 n (v - 1) 0 (omega (arith, is.0, is.1)) ∙ (let e : 1 + (v - 1) ≡ v = omega (arith, is.0) in e) in
    let one : bit (p (get_or (range_with_len 1 n) (v - 1) 0)) ≡ 1 = ap (λ (k : ℕ). bit (p k)) here ∙ ap bit passes in
    omega (arith, get_or-le-sum_by (λ i. bit (p i)) (range_with_len 1 n) (v - 1) 0 lt, one)

-- ---- the tables of the fill

pub count-listed : (joined : ℕ → ℕ → Bool) (n j : ℕ) → IsVertex n j → count_at (counts_of joined n) j ≡ count_of joined n j
count-listed joined n j is = get_or-map-range_with_len (count_of joined n) 1 n (j - 1) j 0 (omega (arith, is.0, is.1)) (omega (arith, is.0))

abbrev pub ParentsAreFirst : Type 0
ParentsAreFirst = (joined : ℕ → ℕ → Bool) (n j : ℕ) → IsParent joined n j (parent_of joined n j)

abbrev pub StructuresByChildren : Type 0
StructuresByChildren = (joined : ℕ → ℕ → Bool) (n j i : ℕ) → IsAdjacency joined
    → IsWithin n joined → IsVertex n j → IsTrue (structure_of joined j i) ↔ IsInherited joined n j i

abbrev pub NoEarlierRows : Type 0
NoEarlierRows = (joined : ℕ → ℕ → Bool) (j i : ℕ) → IsTrue (structure_of joined j i) → j ≤ i

module _ (firsts : ParentsAreFirst) (by_children : StructuresByChildren) (later : NoEarlierRows)
    (joined : ℕ → ℕ → Bool) (n : ℕ) (pattern : IsAdjacency joined) (inside : IsWithin n joined) where
  own : (j : ℕ) → structure_of joined j j ≡ true
  own j = rw (eq-eqb j j refl) refl

  at_least : (j : ℕ) → IsVertex n j → 1 ≤ count_of joined n j
  at_least j is = count_some (structure_of joined j) n j is (own j)

  of_root : (j : ℕ) → IsVertex n j → parent_of joined n j ≡ 0 → count_of joined n j ≡ 1
  of_root j is root =
      let parent = firsts joined n j in
      let only : (i : ℕ) → i ≤ n → structure_of joined j i ≡ true → (i ≡ j) ⊎ (false ≡ true) = λ i le h. elim (cases_eq i j) [
        | inl e ↦ inl e
        | inr ne ↦ absurd (omega (arith, root, (parent.least i (omega (arith, ne, later joined j i h)) le h).0))
      ] in
      let most = (count_but (structure_of joined j) (λ (i : ℕ). false) j n only n (omega arith)).1 in
      omega (arith, most, count_never n, at_least j is)

  of_child : (j : ℕ) → IsVertex n j → 0 < parent_of joined n j → count_of joined n j ≤ count_of joined n (parent_of joined n j) + 1
  of_child j is some =
      let p = parent_of joined n j in
      let parent = (firsts joined n j).reached some in
      let vertex : IsVertex n p = (omega (arith, parent.0), parent.1) in
      (count_but (structure_of joined j) (structure_of joined p) j n (λ i le h. elim (cases_eq i j) [
        | inl e ↦ inl e
        | inr ne ↦ inr ((by_children joined n p i pattern inside vertex).1 (inr (inr (j, is, refl, h, ne))))
      ]) n (omega arith)).1

  pub counts_are : AreColumnCounts (parents_of joined n) (counts_of joined n)
  counts_are =
      let len_p = length-map-range_with_len (parent_of joined n) 1 n in
      let len_c = length-map-range_with_len (count_of joined n) 1 n in
      record {
        len = len_c ∙ sym len_p;
        each = λ j is. (
            let vertex : IsVertex n j = (is.0, omega (arith, is.1, len_p)) in
            let count = count-listed joined n j vertex in
            let parent = parent_in_list joined n j vertex in
            record {
              some = omega (arith, count, at_least j vertex);
              root = λ nil. count ∙ of_root j vertex (sym parent ∙ nil);
              child = λ some. (
                  let reached = (firsts joined n j).reached (omega (arith, some, parent)) in
                  let of_parent = ap (count_at (counts_of joined n)) parent
                  ∙ count-listed joined n (parent_of joined n j) (omega (arith, reached.0), reached.1) in
                  omega (arith, count, of_parent, of_child j vertex (omega (arith, some, parent)))
                  );
            }
            );
      }
