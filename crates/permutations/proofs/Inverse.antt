-- The places of an order of all columns, and the columns at its places, undo each other.
use Rattle.std.proofs.Common.{◌≡◌, ◌≢◌, ℕ, zero, suc, ◌+◌, ◌-◌, ◌<◌, ◌≤◌, All, List, ◌∷◌, length}
use Rattle.std.proofs.Common.{get_or, true, false, refl, sym, ap, subst, ◌∙◌, arith}
use Rattle.std.specs.List.{list_any}
use Rattle.std.proofs.Math.Dec.{eqb}
use Rattle.std.proofs.lemmas.Bool.{eqb-true, ne_eqb}
use Rattle.std.proofs.lemmas.List.{length-map, get_or-map, get_or_default}
use Rattle.std.proofs.lemmas.List.Elements.{All-from_get_or}
use Rattle.std.proofs.lemmas.List.Folds.{Any-from_list_any}
use Rattle.std.proofs.lemmas.Map.Keys.{IsDistinct-from_apart}
use Rattle.std.proofs.lemmas.Map.Steps.{length-le_from_distinct_below}
use Rattle.permutations.specs.Perm.{AreInverse}
use Rattle.lists.specs.Numbers.{IsNumberFrom, from_one, number_at}
use Rattle.permutations.specs.Order.{order_given}
use Rattle.permutations.specs.PlaceTables.{ArePlaced}

pub all_numbers : (base n : ℕ) (numbers places : List ℕ) → length numbers ≡ n
    → ArePlaced base n numbers places n → All (IsNumberFrom base n) numbers
all_numbers base n numbers places len placed =
    All-from_get_or (IsNumberFrom base n) numbers 0 (λ i inside.
    let at : i + 1 - 1 ≡ i = omega arith in
    subst (λ (k : ℕ). IsNumberFrom base n (get_or numbers k 0)) at (placed.fit (i + 1) (omega arith) (omega (arith, inside, len))).number)

-- numbers up to n at n + 1 places, whose places another table tells, are all of them
module _ (n : ℕ) (vertices places : List ℕ) (len : length vertices ≡ n + 1)
    (undone : (k : ℕ) → k < n + 1 → (get_or vertices k 0 < n + 1) × (get_or places (get_or vertices k 0) 0 ≡ k)) where
  apart : (i j d : ℕ) → i < j → j < length vertices → get_or vertices i d ≡ get_or vertices j d → ⊥
  apart i j d less inside e =
      let at_i = get_or_default vertices i d 0 (omega arith) in
      let at_j = get_or_default vertices j d 0 inside in
      let same = ap (λ (v : ℕ). get_or places v 0) (sym at_i ∙ e ∙ at_j) in
      omega (arith, (undone i (omega arith)).1, (undone j (omega arith)).1, same)

  within : (v : ℕ) → v < n + 1 → (k d : ℕ) → k < length (v ∷ vertices) → get_or (v ∷ vertices) k d < n + 1
  within v small zero d inside = small
  within v small (suc k) d inside = omega (arith, get_or_default vertices k d 0 (omega arith), (undone k (omega arith)).0)

  below : (v : ℕ) → v < n + 1 → (q : ℕ) → list_any (eqb q) (v ∷ vertices) ≡ true → q < n + 1
  below v small q any =
      let found = Any-from_list_any (eqb q) (v ∷ vertices) any in
      omega (arith, eqb-true q found.1 found.4, found.3, within v small found.0 found.1 found.2)

  separate : (v : ℕ) → ((k : ℕ) → k < n + 1 → get_or vertices k 0 ≢ v) → (i j d : ℕ) → i < j → j < length (v ∷ vertices)
      → eqb (get_or (v ∷ vertices) i d) (get_or (v ∷ vertices) j d) ≡ false
  separate v none i zero d less inside = absurd (omega arith)
  separate v none zero (suc j) d less inside =
      ne_eqb v (get_or vertices j d) (λ e. none j (omega arith) (get_or_default vertices j 0 d (omega arith) ∙ sym e))
  separate v none (suc i) (suc j) d less inside =
      ne_eqb (get_or vertices i d) (get_or vertices j d) (apart i j d (omega arith) (omega arith))

  -- else they would be n + 2 numbers up to n
  pub hit : (v : ℕ) → v < n + 1 → ((k : ℕ) → k < n + 1 → get_or vertices k 0 ≢ v) → ⊥
  hit v small none =
      let distinct = IsDistinct-from_apart eqb (v ∷ vertices) (separate v none) in
      omega (arith, len, length-le_from_distinct_below (v ∷ vertices) (n + 1) distinct (below v small))

module _ (base n : ℕ) (numbers places : List ℕ) (len : length numbers ≡ n) (placed : ArePlaced base n numbers places n) where
  abbrev table : List ℕ
  table = 0 ∷ order_given base numbers

  -- the vertex at a place
  at_place : (k : ℕ) → 1 ≤ k → k < n + 1 → get_or table k 0 ≡ from_one base (number_at numbers k)
  at_place zero some inside = absurd (omega arith)
  at_place (suc i) some inside =
      let at : suc i - 1 ≡ i = omega arith in
      get_or-map (from_one base) numbers i 0 0 (omega arith) ∙ ap (λ (k : ℕ). from_one base (get_or numbers k 0)) (sym at)

  table_long : length table ≡ n + 1
  table_long = omega (arith, length-map numbers (from_one base), len)

  undone : (k : ℕ) → k < n + 1 → (get_or table k 0 < n + 1) × (get_or places (get_or table k 0) 0 ≡ k)
  undone zero inside = (omega arith, placed.unused)
  undone (suc i) inside =
      let at = at_place (suc i) (omega arith) inside in
      let number = (placed.fit (suc i) (omega arith) inside).number in
      (omega (arith, at, number.0, number.1), ap (λ (v : ℕ). get_or places v 0) at ∙ placed.placed (suc i) (omega arith) inside)

  -- a vertex has a place
  has_place : (v : ℕ) → 1 ≤ v → v < n + 1 → get_or places v 0 ≢ 0
  has_place v some small e = hit n table places table_long undone v small (λ k inside is.
      let at_0 : k ≡ 0 = sym (undone k inside).1 ∙ ap (λ (u : ℕ). get_or places u 0) is ∙ e in
      let first : 0 ≡ v = subst (λ (i : ℕ). get_or table i 0 ≡ v) at_0 is in
      omega (arith, first))

  redone : (v : ℕ) → v < n + 1 → (get_or places v 0 < n + 1) × (get_or table (get_or places v 0) 0 ≡ v)
  redone zero small = (omega (arith, placed.unused), ap (λ (k : ℕ). get_or table k 0) placed.unused)
  redone (suc u) small =
      let some = has_place (suc u) (omega arith) small in
      let told = placed.told (suc u) (omega arith) (omega arith) some in
      (told.0, at_place (get_or places (suc u) 0) (omega (arith, some)) told.0 ∙ told.1)

  inverse_of_table : AreInverse table places
  inverse_of_table = record {
    some = omega arith;
    same_length = placed.len ∙ sym table_long;
    unused = refl;
    vertex = λ k inside. let is = undone k (omega (arith, table_long)) in (omega (arith, is.0, table_long), is.1);
    place = λ v inside. let is = redone v (omega (arith, table_long)) in (omega (arith, is.0, table_long), is.1);
  }

  pub inverse : (vertices : List ℕ) → vertices ≡ 0 ∷ order_given base numbers → AreInverse vertices places
  inverse vertices is = subst (λ (vs : List ℕ). AreInverse vs places) (sym is) inverse_of_table
