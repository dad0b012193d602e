-- Which numbers the pairs of a grid name, and how many pairs there are.
use Rattle.std.proofs.Common.{◌≡◌, ℕ, zero, suc, ◌+◌, ◌*◌, ◌<◌, ◌≤◌, Bool, true, false, cond, List, [], ◌∷◌}
use Rattle.std.proofs.Common.{◌++◌, length, get_or, refl, sym, ap, subst, ◌∙◌, arith, length-append}
use Rattle.std.specs.Prelude.{All, nat_lt}
use Rattle.std.specs.List.{flat_map, range_with_len}
use Rattle.std.proofs.Math.Nat.{mul-le-mul_right}
use Rattle.std.proofs.lemmas.Bool.{ltb-true}
use Rattle.std.proofs.lemmas.Grind.{flat_map-append}
use Rattle.std.proofs.lemmas.List.{append-nil}
use Rattle.std.proofs.lemmas.List.Concat.{length-flat_map, flat_map-cons}
use Rattle.std.proofs.lemmas.List.Elements.{All-append}
use Rattle.std.proofs.lemmas.List.FromFn.{length-range_with_len, get_or-range_with_len}
use Rattle.std.proofs.lemmas.List.Sums.{sum_by-le}
use Rattle.limits.specs.Limits.{most_mindeg, most_entries}
use Rattle.patterns.specs.Pattern.{IsPairWithin}
use Rattle.mp_gen.specs.Grid.{grid_vertex, joins_at, joins_in_row, grid_pairs}
use Rattle.lists.proofs.Lists.{range_last}

-- ---- lists over a range

-- what holds of each number of a range
ranged : (P : ℕ → Type 0) (n : ℕ) → ((k : ℕ) → k < n → P k) → All P (range_with_len 0 n)
ranged P n each k d lt =
    let low : k < n = omega (arith, length-range_with_len 0 n) in
    let at : k ≡ get_or (range_with_len 0 n) k d = omega (arith, get_or-range_with_len 0 n k d low) in
    subst P at (each k low)

flat-all : {X A : Type 0} (P : A → Type 0) (f : X → List A) (xs : List X) → All (λ x. All P (f x)) xs → All P (flat_map f xs)
flat-all P f [] each = λ k d lt. absurd (omega arith)
flat-all P f (x ∷ xs) each =
    subst (All P) (sym (flat_map-cons f x xs))
    (All-append P (f x) (flat_map f xs) (each 0 x (omega arith)) (flat-all P f xs (λ k d lt. each (suc k) d (omega arith))))

-- a loop over a range, one number further
pub flat-more : {A : Type 0} (f : ℕ → List A) (n : ℕ) → flat_map f (range_with_len 0 (n + 1)) ≡ flat_map f (range_with_len 0 n) ++ f n
flat-more f n =
    let next : n + 1 ≡ suc n = omega arith in
    let here : 0 + n ≡ n = omega arith in
    ap (λ (k : ℕ). flat_map f (range_with_len 0 k)) next
    ∙ ap (flat_map f) (range_last 0 n ∙ ap (λ (k : ℕ). range_with_len 0 n ++ k ∷ []) here)
    ∙ flat_map-append f (range_with_len 0 n) (n ∷ [])
    ∙ ap (λ (ys : List _). flat_map f (range_with_len 0 n) ++ ys) (append-nil (f n))

-- ---- vertices and pairs

pub vertex-le : (rows cols row col : ℕ) → row < rows → col < cols → grid_vertex cols row col ≤ rows * cols
vertex-le rows cols row col r c =
    let below : suc row * cols ≤ rows * cols = mul-le-mul_right cols r in
    omega arith

single-all : {A : Type 0} (P : A → Type 0) (x : A) → P x → All P (x ∷ [])
single-all P x own zero d lt = own
single-all P x own (suc k) d lt = absurd (omega arith)

-- a list of one or none
maybe-all : {A : Type 0} (P : A → Type 0) (b : Bool) (x : A) → (b ≡ true → P x) → All P (cond b (x ∷ []) [])
maybe-all P true x own = single-all P x (own refl)
maybe-all P false x own = λ k d lt. absurd (omega arith)

maybe-few : {A : Type 0} (b : Bool) (x : A) → length (cond b (x ∷ []) []) ≤ 1
maybe-few true x = omega arith
maybe-few false x = omega arith

joins-within : (rows cols row col : ℕ) → row < rows → col < cols → All (IsPairWithin (rows * cols)) (joins_at rows cols row col)
unfolding joins_at
joins-within rows cols row col r c =
    let here = vertex-le rows cols row col r c in
    let right : nat_lt (col + 1) cols ≡ true → grid_vertex cols row (col + 1) ≤ rows * cols
    = λ e. vertex-le rows cols row (col + 1) r (ltb-true _ _ e) in
    let lower : nat_lt (row + 1) rows ≡ true → grid_vertex cols (row + 1) col ≤ rows * cols
    = λ e. vertex-le rows cols (row + 1) col (ltb-true _ _ e) c in
    All-append (IsPairWithin (rows * cols)) _ _
    (maybe-all (IsPairWithin (rows * cols)) _ _ (λ e. ((omega arith, here), (omega arith, right e))))
    (maybe-all (IsPairWithin (rows * cols)) _ _ (λ e. ((omega arith, here), (omega arith, lower e))))

joins-few : (rows cols row col : ℕ) → length (joins_at rows cols row col) ≤ 2
unfolding joins_at
joins-few rows cols row col =
    let right = maybe-few {A = ℕ × ℕ} (nat_lt (col + 1) cols) (grid_vertex cols row col, grid_vertex cols row (col + 1)) in
    let lower = maybe-few {A = ℕ × ℕ} (nat_lt (row + 1) rows) (grid_vertex cols row col, grid_vertex cols (row + 1) col) in
    omega (arith, length-append {A = ℕ × ℕ}, right, lower)

row-few : (rows cols row : ℕ) → length (joins_in_row rows cols row) ≤ cols * 2
unfolding joins_in_row
row-few rows cols row =
    let xs = range_with_len 0 cols in
    let most = sum_by-le (λ col. length (joins_at rows cols row col)) 2 xs (λ k d lt. joins-few rows cols row (get_or xs k d)) in
    omega (arith, length-flat_map (joins_at rows cols row) xs, most, length-range_with_len 0 cols)

pub grid-few : (rows cols : ℕ) → rows * cols ≤ most_mindeg → length (grid_pairs rows cols) ≤ most_entries
unfolding grid_pairs
grid-few rows cols few =
    let xs = range_with_len 0 rows in
    let most = sum_by-le (λ row. length (joins_in_row rows cols row)) (cols * 2) xs (λ k d lt. row-few rows cols (get_or xs k d)) in
    let all : length xs * (cols * 2) ≡ rows * (cols * 2) = ap (λ (k : ℕ). k * (cols * 2)) (length-range_with_len 0 rows) in
    omega (arith, length-flat_map (joins_in_row rows cols) xs, most, all, few)

row-within : (rows cols row : ℕ) → row < rows → All (IsPairWithin (rows * cols)) (joins_in_row rows cols row)
unfolding joins_in_row
row-within rows cols row r =
    flat-all (IsPairWithin (rows * cols)) (joins_at rows cols row) (range_with_len 0 cols)
    (ranged (λ col. All (IsPairWithin (rows * cols)) (joins_at rows cols row col)) cols (λ col c. joins-within rows cols row col r c))

pub grid-within : (rows cols : ℕ) → All (IsPairWithin (rows * cols)) (grid_pairs rows cols)
unfolding grid_pairs
grid-within rows cols =
    flat-all (IsPairWithin (rows * cols)) (joins_in_row rows cols) (range_with_len 0 rows)
    (ranged (λ row. All (IsPairWithin (rows * cols)) (joins_in_row rows cols row)) rows (λ row r. row-within rows cols row r))

-- after all rows
pub all-joins : (rows cols row : ℕ) (pairs : List (ℕ × ℕ)) → rows ≤ row → row ≤ rows
    → pairs ≡ flat_map (joins_in_row rows cols) (range_with_len 0 row) → pairs ≡ grid_pairs rows cols
unfolding grid_pairs
all-joins rows cols row pairs low high e =
    let end : row ≡ rows = omega arith in
    e ∙ ap (λ (k : ℕ). flat_map (joins_in_row rows cols) (range_with_len 0 k)) end
