-- Columns that stand in arrays with their fronts, one front after another: each once, and the same as those of an assembly tree.
use Rattle.std.proofs.Common.{sym, ◌∙◌, subst, ap, ◌≡◌, ℕ, ◌+◌, ◌-◌, ◌<◌, ◌==◌, Bool}
use Rattle.std.proofs.Common.{List, [], ◌∷◌, ◌++◌, length, get_or, map, filter, arith, refl}
use Rattle.std.specs.List.{All, range_with_len, flat_map}
use Rattle.std.proofs.lemmas.Simd.{map-map}
use Rattle.std.proofs.lemmas.List.{ext_get_or, get_or-map, get_or_default, length-map, map-append}
use Rattle.std.proofs.lemmas.List.Elements.{All-head, All-tail}
use Rattle.std.proofs.lemmas.List.FromFn.{get_or-map-range_with_len, length-map-range_with_len}
use Rattle.lists.specs.Numbers.{IsNumberFrom, from_one, number_at}
use Rattle.row_table.specs.Rows.{numbers_with, row_at}
use Rattle.permutations.specs.Order.{order_given}
use Rattle.permutations.specs.Perm.{IsPerm, IsVertex, vertex_at}
use Rattle.permutations.proofs.PermLemmas.{place_of_vertex}
use Rattle.elim_tree.proofs.OnePostorder.{vertex_of}
use Rattle.assembly_tree.proofs.ListLemmas.{filter-map, pick_agree}
use Rattle.assembly_tree.specs.Assembly.{AssemblyTree, super_of}
use Rattle.equivalent_orders.specs.Arrays.{AreFrontColumns, columns_along, front_of_column, number_from}
use Rattle.equivalent_orders.specs.Fronts.{columns_in_front, front_of_vertex, vertices_in_front, vertices_along}
use Rattle.equivalent_orders.proofs.Blocks.{members, members_vertices, blocks, blocks_perm}
use Rattle.equivalent_orders.proofs.Mapped.{at_place_before}

-- ---- numbers that count from a base

pub numbers_of_order : (base : ℕ) (numbers : List ℕ) → IsPerm (length numbers) (order_given base numbers)
    → All (IsNumberFrom base (length numbers)) numbers
numbers_of_order base numbers is i d lt =
    let all = length-map numbers (from_one base) in
    let vertex = is.vertices i 0 (omega arith) in
    let at = get_or-map (from_one base) numbers i d 0 lt in
    let low = vertex.0 in
    let high = vertex.1 in
    (omega arith, omega arith)

pub from_one_same : (numbers : List ℕ) → order_given 1 numbers ≡ numbers
from_one_same [] = refl
from_one_same (x ∷ xs) =
    let here : x + 1 - 1 ≡ x = omega arith in
    ap (λ (y : ℕ). y ∷ order_given 1 xs) here ∙ ap (λ (ys : List ℕ). x ∷ ys) (from_one_same xs)

pub counted_back : (base n : ℕ) (xs : List ℕ) → All (IsVertex n) xs → order_given base (map (number_from base) xs) ≡ xs
counted_back base n [] vertices = refl
counted_back base n (x ∷ xs) vertices =
    let vx = All-head (IsVertex n) x xs vertices in
    let some = vx.0 in
    let here : x - 1 + base + 1 - base ≡ x = omega arith in
    ap (λ (y : ℕ). y ∷ order_given base (map (number_from base) xs)) here
    ∙ ap (λ (ys : List ℕ). x ∷ ys) (counted_back base n xs (All-tail (IsVertex n) x xs vertices))

-- ---- lists by places

-- a list by its places
pub by_places : (xs : List ℕ) → map (number_at xs) (range_with_len 1 (length xs)) ≡ xs
by_places xs =
    let all = length-map-range_with_len (number_at xs) 1 (length xs) in
    ext_get_or 0 (map (number_at xs) (range_with_len 1 (length xs))) xs all (λ i lt.
    let back : 1 + i - 1 ≡ i = omega arith in
    get_or-map-range_with_len (number_at xs) 1 (length xs) i (1 + i) 0 (omega arith) refl ∙ ap (λ (k : ℕ). get_or xs k 0) back)

-- functions that agree on the elements
pub flat_map_agree : (f g : ℕ → List ℕ) (xs : List ℕ) → All (λ x. f x ≡ g x) xs → flat_map f xs ≡ flat_map g xs
flat_map_agree f g [] same = refl
flat_map_agree f g (x ∷ xs) same =
    ap (λ (ys : List ℕ). ys ++ flat_map f xs) (All-head (λ y. f y ≡ g y) x xs same)
    ∙ ap (λ (ys : List ℕ). g x ++ ys) (flat_map_agree f g xs (All-tail (λ y. f y ≡ g y) x xs same))

-- ---- the places of columns in blocks, by the fronts of the columns

module _ (f : ℕ → ℕ) (columns : List ℕ) where
  abbrev pub front_at : ℕ → ℕ
  front_at k = f (number_at columns k)

  pub of_front : (s : ℕ) → map (number_at columns) (members (length columns) front_at s) ≡ filter (λ c. f c == s) columns
  of_front s =
      sym (filter-map (λ c. f c == s) (number_at columns) (range_with_len 1 (length columns)))
      ∙ ap (filter (λ c. f c == s)) (by_places columns)

  pub of_fronts : (fronts : List ℕ) → map (number_at columns) (blocks (length columns) front_at fronts)
      ≡ flat_map (λ s. filter (λ c. f c == s) columns) fronts
  of_fronts [] = refl
  of_fronts (s ∷ fronts) =
      map-append (number_at columns) (members (length columns) front_at s) (blocks (length columns) front_at fronts)
      ∙ ap (λ (xs : List ℕ). xs ++ map (number_at columns) (blocks (length columns) front_at fronts)) (of_front s)
      ∙ ap (λ (xs : List ℕ). filter (λ c. f c == s) columns ++ xs) (of_fronts fronts)

-- ---- arrays that are given

module _ (base : ℕ) (columns front_of fronts : List ℕ) (is : AreFrontColumns base columns front_of fronts) where
  pub numbers : All (IsNumberFrom base (length front_of)) columns
  numbers = subst (λ (n : ℕ). All (IsNumberFrom base n) columns) (sym is.counted.one_each)
      (numbers_of_order base columns is.columns_once)

  -- the front of the column at a place is one of the order
  pub front_fits : (k : ℕ) → IsVertex (length columns) k
      → IsVertex (length fronts) (front_of_column base front_of (number_at columns k))
  front_fits k vk =
      let low = vk.0 in
      let high = vk.1 in
      let number = numbers (k - 1) 0 (omega arith) in
      let from = number.0 in
      let below = number.1 in
      let place : number_at columns k - base + 1 - 1 ≡ number_at columns k - base = omega arith in
      subst (λ (j : ℕ). IsVertex (length fronts) (get_or front_of j 0)) place
      (is.fronts_fit (number_at columns k - base + 1) (omega arith, omega arith))

  -- there are as many as columns
  pub as_many : length (columns_along base columns front_of fronts) ≡ length columns
  as_many =
      let f = front_of_column base front_of in
      let perm = blocks_perm (length columns) (front_at f columns) (length fronts) fronts is.fronts_once front_fits in
      ap length (sym (of_fronts f columns fronts))
      ∙ length-map (blocks (length columns) (front_at f columns) fronts) (number_at columns) ∙ perm.len

-- ---- the columns of an assembly tree

module _ (base : ℕ) (perm : List ℕ) (assembly : AssemblyTree) (is : IsPerm (length perm) perm)
    (len : length perm ≡ length assembly.nodes) where
  abbrev pub told : List ℕ
  told = map (number_from base) perm

  abbrev pub fronts_told : List ℕ
  fronts_told = map (front_of_vertex perm assembly) (range_with_len 1 (length perm))

  -- the column at a place, and its front
  column_told : (k : ℕ) → IsVertex (length perm) k → number_at told k ≡ number_from base (vertex_at perm k)
  column_told k vk =
      let low = vk.0 in
      let high = vk.1 in
      get_or-map (number_from base) perm (k - 1) 0 0 (omega arith) ∙ ap (number_from base) (at_place_before perm k low)

  front_told : (k : ℕ) → IsVertex (length perm) k → front_of_column base fronts_told (number_at told k) ≡ super_of assembly.nodes k
  front_told k vk =
      let vertex = vertex_of (length perm) perm is k vk in
      let low = vertex.0 in
      let high = vertex.1 in
      let place : vertex_at perm k - 1 + base - base ≡ vertex_at perm k - 1 = omega arith in
      ap (front_of_column base fronts_told) (column_told k vk) ∙ ap (λ (j : ℕ). get_or fronts_told j 0) place
      ∙ get_or-map-range_with_len (front_of_vertex perm assembly) 1 (length perm) (vertex_at perm k - 1) (vertex_at perm k) 0
      (omega arith) (omega arith)
      ∙ ap (super_of assembly.nodes) (place_of_vertex (length perm) perm is k vk.1)

  -- the columns of a front
  front_along : (s : ℕ) → filter (λ c. front_of_column base fronts_told c == s) told
      ≡ map (number_from base) (vertices_in_front perm assembly s)
  front_along s =
      let f = front_of_column base fronts_told in
      let all : length told ≡ length perm = length-map perm (number_from base) in
      sym (of_front f told s)
      ∙ ap (λ (n : ℕ). map (number_at told) (members n (front_at f told) s)) (all ∙ len)
      ∙ pick_agree (λ j. front_at f told j == s) (λ j. super_of assembly.nodes j == s) (number_at told)
      (λ j. number_from base (vertex_at perm j)) (length assembly.nodes)
      (λ j low high. ap (λ (t : ℕ). t == s) (front_told j (low, omega (arith, high, len))))
      (λ j low high passes. column_told j (low, omega (arith, high, len)))
      ∙ sym (map-map (number_from base) (vertex_at perm) (columns_in_front assembly s))

  pub told_along : (fronts : List ℕ) → columns_along base told fronts_told fronts
      ≡ map (number_from base) (vertices_along perm assembly fronts)
  told_along [] = refl
  told_along (s ∷ fronts) =
      ap (λ (xs : List ℕ). xs ++ columns_along base told fronts_told fronts) (front_along s)
      ∙ ap (λ (xs : List ℕ). map (number_from base) (vertices_in_front perm assembly s) ++ xs) (told_along fronts)
      ∙ sym (map-append (number_from base) (vertices_in_front perm assembly s) (vertices_along perm assembly fronts))

-- ---- as the code sorts them

-- the law of the numbers with a key
abbrev pub NumbersFiltered : Type 0
NumbersFiltered =
    (keys : List ℕ) (first k : ℕ) (test : ℕ → Bool) → ((i : ℕ) → i < length keys → test (first + i) ≡ (get_or keys i 0 == k))
    → filter test (range_with_len first (length keys)) ≡ numbers_with keys first k

module _ (filtered : NumbersFiltered) (base : ℕ) (columns front_of fronts keys : List ℕ) (is : AreFrontColumns base columns front_of fronts)
    (are_keys : keys ≡ map (front_of_column base front_of) columns) where
  abbrev pub f : ℕ → ℕ
  f = front_of_column base front_of

  long : length keys ≡ length columns
  long = ap length are_keys ∙ length-map columns f

  key_at : (i : ℕ) → i < length columns → get_or keys i 0 ≡ front_at f columns (1 + i)
  key_at i lt =
      let back : i ≡ 1 + i - 1 = omega arith in
      ap (λ (xs : List ℕ). get_or xs i 0) are_keys ∙ get_or-map f columns i 0 0 lt ∙ ap (λ (k : ℕ). f (get_or columns k 0)) back

  -- each key is the number of a front
  pub keys_fit : All (λ key. key < length fronts + 1) keys
  keys_fit i d lt =
      let fits = front_fits base columns front_of fronts is (1 + i) (omega arith, omega (arith, long)) in
      let high = fits.1 in
      omega (arith, get_or_default keys i d 0 lt, key_at i (omega (arith, long)), high)

  -- the places with a key
  pub places_of : (s : ℕ) → numbers_with keys 1 s ≡ members (length columns) (front_at f columns) s
  places_of s =
      sym (filtered keys 1 s (λ j. front_at f columns j == s) (λ i lt.
      ap (λ (t : ℕ). t == s) (sym (key_at i (omega (arith, long))))))
      ∙ ap (λ (n : ℕ). filter (λ j. front_at f columns j == s) (range_with_len 1 n)) long

  -- rows of these places, where there is one for each front
  module _ (rows : List (List ℕ)) (are_rows : (k : ℕ) → k < length fronts + 1 → row_at rows k ≡ numbers_with keys 1 k) where
    row_of : (i d : ℕ) → i < length fronts
        → row_at rows (get_or fronts i d) ≡ members (length columns) (front_at f columns) (get_or fronts i d)
    row_of i d lt =
        let front = is.fronts_once.vertices i d lt in
        let high = front.1 in
        are_rows (get_or fronts i d) (omega arith) ∙ places_of (get_or fronts i d)

    pub rows_fit : All (λ s. All (IsVertex (length columns)) (row_at rows s)) fronts
    rows_fit i d lt =
        subst (λ (xs : List ℕ). All (IsVertex (length columns)) xs) (sym (row_of i d lt))
        (members_vertices (length columns) (front_at f columns) (get_or fronts i d))

    pub sorted : flat_map (λ s. map (number_at columns) (row_at rows s)) fronts ≡ columns_along base columns front_of fronts
    sorted =
        flat_map_agree (λ s. map (number_at columns) (row_at rows s)) (λ s. filter (λ c. f c == s) columns) fronts
        (λ i d lt. ap (map (number_at columns)) (row_of i d lt) ∙ of_front f columns (get_or fronts i d))
