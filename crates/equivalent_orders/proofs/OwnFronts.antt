-- The fronts by rising number: each comes before its parent, and without merged fronts their columns stand by rising number too.
use Rattle.std.proofs.Common.{sym, ◌∙◌, ap, ◌≡◌, ◌⊎◌, inl, inr, ℕ, zero, suc, ◌+◌, ◌-◌, ◌<◌, ◌≤◌, ◌==◌, Bool, true, false}
use Rattle.std.proofs.Common.{List, [], ◌∷◌, ◌++◌, length, map, filter, eq-eqb, arith, refl}
use Rattle.std.specs.List.{range_with_len, flat_map}
use Rattle.std.proofs.lemmas.Bool.{ne_eqb}
use Rattle.std.proofs.lemmas.Grind.{flat_map-append}
use Rattle.std.proofs.lemmas.List.{append-nil}
use Rattle.std.proofs.lemmas.List.Elements.{filter-append}
use Rattle.lists.proofs.Lists.{range_last}
use Rattle.permutations.specs.Perm.{vertex_at}
use Rattle.permutations.proofs.IdentityLemmas.{perm_identity}
use Rattle.assembly_tree.specs.Assembly.{AssemblyTree, IsAssembly, IsSuper, super_at, super_of}
use Rattle.assembly_tree.specs.Supernodes.{first_of, last_of, AreSupernodes}
use Rattle.assembly_tree.proofs.RunLemmas.{last-more, last-within}
use Rattle.assembly_tree.proofs.SupernodeLemmas.{covered}
use Rattle.equivalent_orders.specs.Fronts.{IsFrontOrder, columns_in_front, vertices_along}
use Rattle.equivalent_orders.proofs.Listing.{by_columns}
use Rattle.equivalent_orders.proofs.Own.{along_own, place_own}

pub own_order : (a : AssemblyTree) → IsAssembly a → IsFrontOrder a.supers (range_with_len 1 (length a.supers))
own_order a is = record {
  perm = perm_identity (length a.supers);
  before = λ s is_super some.
      let up = (is.each s is_super).parent some in
      let rise = up.0 in
      let here = place_own (length a.supers) s is_super.1 in
      let there = place_own (length a.supers) ((super_at a.supers s).parent) up.1 in
      omega arith;
}

-- ---- numbers in turn

all_pass : (p : ℕ → Bool) (start n : ℕ) → ((j : ℕ) → start ≤ j → j < start + n → p j ≡ true)
    → filter p (range_with_len start n) ≡ range_with_len start n
all_pass p start zero each = refl
all_pass p start (suc n) each =
    let here = each start (omega arith) (omega arith) in
    rw here (ap (λ (xs : List ℕ). start ∷ xs) (all_pass p (start + 1) n (λ j low high. each j (omega arith) (omega arith))))

none_pass : (p : ℕ → Bool) (start n : ℕ) → ((j : ℕ) → start ≤ j → j < start + n → p j ≡ false) → filter p (range_with_len start n) ≡ []
none_pass p start zero each = refl
none_pass p start (suc n) each =
    let here = each start (omega arith) (omega arith) in
    rw here (none_pass p (start + 1) n (λ j low high. each j (omega arith) (omega arith)))

range_split : (start m n : ℕ) → range_with_len start (m + n) ≡ range_with_len start m ++ range_with_len (start + m) n
range_split start zero n =
    ap (range_with_len start) (let none : 0 + n ≡ n = omega arith in none)
    ∙ ap (λ (k : ℕ). range_with_len k n) (let same : start ≡ start + 0 = omega arith in same)
range_split start (suc m) n =
    ap (range_with_len start) (let next : suc m + n ≡ suc (m + n) = omega arith in next)
    ∙ ap (λ (xs : List ℕ). start ∷ xs) (range_split (start + 1) m n)
    ∙ ap (λ (k : ℕ). start ∷ range_with_len (start + 1) m ++ range_with_len k n)
    (let same : start + 1 + m ≡ start + suc m = omega arith in same)

-- ---- fundamental supernodes have their columns in turn

module _ (parents counts : List ℕ) (a : AssemblyTree) (r : AreSupernodes parents counts a) where
  all : last_of a.supers (length a.supers) ≡ length a.nodes
  all = r.total ∙ sym r.len

  -- a column of one front is in no other
  other_front : (s j : ℕ) → IsSuper a.supers s → 1 ≤ j → j ≤ last_of a.supers (length a.supers)
      → (j ≤ last_of a.supers (s - 1)) ⊎ (last_of a.supers s < j) → (super_of a.nodes j == s) ≡ false
  other_front s j is low high away =
      let there = covered a.supers (length a.supers) j low high in
      let t = there.0 in
      let first = there.3 in
      let last = there.4 in
      ap (λ (k : ℕ). k == s) (r.nodes t j (there.1, there.2) first last)
      ∙ ne_eqb t s (λ e. elim away [
        | inl before ↦ (
            let begins = ap (first_of a.supers) e in
            absurd (omega arith)
            )
        | inr after ↦ (
            let ends = ap (last_of a.supers) e in
            absurd (omega arith)
            )
      ])

  columns_in_turn : (s : ℕ) → IsSuper a.supers s
      → columns_in_front a s ≡ range_with_len (1 + last_of a.supers (s - 1)) ((super_at a.supers s).columns)
  columns_in_turn s is =
      let p = λ (j : ℕ). super_of a.nodes j == s in
      let before = last_of a.supers (s - 1) in
      let width = (super_at a.supers s).columns in
      let more = last-more a.supers s is.0 is.1 in
      let within = last-within a.supers s in
      let rest = length a.nodes - last_of a.supers s in
      let whole : length a.nodes ≡ before + (width + rest) = omega (arith, more, within, all) in
      ap (λ (n : ℕ). filter p (range_with_len 1 n)) whole
      ∙ ap (filter p) (range_split 1 before (width + rest))
      ∙ filter-append p (range_with_len 1 before) (range_with_len (1 + before) (width + rest))
      ∙ ap (λ (xs : List ℕ). xs ++ filter p (range_with_len (1 + before) (width + rest)))
      (none_pass p 1 before (λ j low high. other_front s j is low (omega (arith, high, more, within)) (inl (omega (arith, high)))))
      ∙ ap (filter p) (range_split (1 + before) width rest)
      ∙ filter-append p (range_with_len (1 + before) width) (range_with_len (1 + before + width) rest)
      ∙ ap (λ (xs : List ℕ). xs ++ filter p (range_with_len (1 + before + width) rest))
      (all_pass p (1 + before) width (λ j low high.
      eq-eqb (super_of a.nodes j) s (r.nodes s j is (omega (arith, low)) (omega (arith, high, more)))))
      ∙ ap (λ (xs : List ℕ). range_with_len (1 + before) width ++ xs)
      (none_pass p (1 + before + width) rest (λ j low high.
      other_front s j is (omega (arith, low)) (omega (arith, high, whole, all)) (inr (omega (arith, low, more)))))
      ∙ append-nil (range_with_len (1 + before) width)

  columns_along : (k : ℕ) → k ≤ length a.supers
      → flat_map (columns_in_front a) (range_with_len 1 k) ≡ range_with_len 1 (last_of a.supers k)
  columns_along zero le = refl
  columns_along (suc k) le =
      let s = 1 + k in
      let is : IsSuper a.supers s = (omega arith, omega arith) in
      let back : s - 1 ≡ k = omega arith in
      let next : suc k ≡ s = omega arith in
      let more : last_of a.supers s ≡ last_of a.supers k + (super_at a.supers s).columns =
      last-more a.supers s is.0 is.1 ∙ ap (λ (i : ℕ). last_of a.supers i + (super_at a.supers s).columns) back in
      ap (flat_map (columns_in_front a)) (range_last 1 k)
      ∙ flat_map-append (columns_in_front a) (range_with_len 1 k) (s ∷ [])
      ∙ ap (λ (xs : List ℕ). xs ++ (columns_in_front a s ++ [])) (columns_along k (omega arith))
      ∙ ap (λ (xs : List ℕ). range_with_len 1 (last_of a.supers k) ++ xs)
      (append-nil (columns_in_front a s) ∙ columns_in_turn s is
      ∙ ap (λ (i : ℕ). range_with_len (1 + last_of a.supers i) ((super_at a.supers s).columns)) back)
      ∙ sym (range_split 1 (last_of a.supers k) ((super_at a.supers s).columns))
      ∙ ap (range_with_len 1) (sym more) ∙ ap (λ (i : ℕ). range_with_len 1 (last_of a.supers i)) (sym next)

  pub own_columns : (perm : List ℕ) → length perm ≡ length parents → vertices_along perm a (range_with_len 1 (length a.supers)) ≡ perm
  own_columns perm len =
      by_columns perm a (range_with_len 1 (length a.supers))
      ∙ ap (map (vertex_at perm)) (columns_along (length a.supers) (omega arith))
      ∙ ap (λ (n : ℕ). map (vertex_at perm) (range_with_len 1 n)) (r.total ∙ sym len) ∙ sym (along_own perm)
