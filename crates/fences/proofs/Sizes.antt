-- Sums of sizes, and lists of numbers beside the items.
use Rattle.std.proofs.Common.{◌≡◌, ◌≢◌, ℕ, zero, suc, ◌+◌, ◌-◌, ◌<◌, ◌≤◌, Bool, true, false, cond, eqb, List, [], ◌∷◌, ◌++◌, length, map, take, get_or, set, refl, ap, arith, add-one, ⊎_elim, get_or-set_same, get_or-set_other}
use Rattle.std.specs.Prelude.{All, sum, replicate}
use Rattle.std.specs.List.{sum_by, zip, range_with_len}
use Rattle.std.proofs.lemmas.List.Elements.{All-head, All-tail, All-cons, All-nil}
use Rattle.std.proofs.lemmas.List.Sums.{sum_by-cons, sum_by-append, sum_by_more_le_part, sum_by-le-sum_by}
use Rattle.std.proofs.lemmas.Bool.{cases_eq, eq-eqb, ne_eqb}
use Rattle.mp_system.specs.declared.system.Item.{Item}
use Rattle.mp_system.specs.System.{size_if, size_where, item_size}
use Rattle.fences.specs.Amounts.{with_size}

pub size_if-le : (test : Item → Bool) (item : Item) → size_if test item ≤ item_size item
size_if-le test item = elim (test item) as (λ b. cond b item.size 0 ≤ item.size) [ true ↦ omega arith | false ↦ omega arith ]

pub size_where-le : (test : Item → Bool) (items : List Item) → size_where test items ≤ sum_by item_size items
size_where-le test items = sum_by-le-sum_by (size_if test) item_size items (size_if-le test)

-- the sizes so far and that of the next item
pub size_fits : (test : Item → Bool) (items : List Item) (i : ℕ) (d : Item) → i < length items → test (get_or items i d) ≡ true →
    size_where test (take i items) + (get_or items i d).size ≤ sum_by item_size items
size_fits test items i d w is =
    let part = sum_by_more_le_part (size_if test) item_size items i d w (size_if-le test) in
    let here : size_if test (get_or items i d) ≡ (get_or items i d).size = ap (λ (b : Bool). cond b (get_or items i d).size 0) is in
    omega (arith, part, here)

pub none_there : (n i : ℕ) → ◌≡◌ {A = ℕ} (get_or (replicate n 0) i 0) 0
none_there zero i = refl
none_there (suc n) zero = refl
none_there (suc n) (suc i) = none_there n i

-- one number raised
pub raised : (xs : List ℕ) (t x : ℕ) → 1 ≤ t → t ≤ length xs → (u : ℕ) → 1 ≤ u
    → get_or (set xs (t - 1) (get_or xs (t - 1) 0 + x)) (u - 1) 0 ≡ get_or xs (u - 1) 0 + cond (eqb t u) x 0
raised xs t x low high u low_u =
    ⊎_elim
    (λ e. let e' : eqb t u ≡ true = eq-eqb t u e in
    let lt : t - 1 < length xs = omega arith in
    rw (e', ← e) (get_or-set_same xs (t - 1) (get_or xs (t - 1) 0 + x) 0 lt))
    (λ n. let e' : eqb t u ≡ false = ne_eqb t u n in
    let ne : u - 1 ≢ t - 1 = λ z. n (omega arith) in
    let a = get_or-set_other xs (t - 1) (u - 1) (get_or xs (t - 1) 0 + x) 0 ne in
    rw e' (omega (arith, a)))
    (cases_eq t u)

-- ---- items beside their amounts

pub all_covered : (items : List Item) (amounts : List ℕ) → length amounts ≡ length items → ((k : ℕ) (d : Item) → k < length items → (get_or items k d).size ≤ get_or amounts k 0)
    → All (λ p. p.0.size ≤ p.1) (zip items amounts)
all_covered [] amounts long each = All-nil (λ p. p.0.size ≤ p.1)
all_covered (item ∷ items) [] long each = absurd cc
all_covered (item ∷ items) (f ∷ amounts) long each =
    All-cons (λ p. p.0.size ≤ p.1) (item, f) (zip items amounts) (each 0 item (omega arith))
    (all_covered items amounts (omega (arith, long)) (λ k d lt. each (suc k) d (omega arith)))

pub covered_at : (items : List Item) (amounts : List ℕ) → length amounts ≡ length items → All (λ p. p.0.size ≤ p.1) (zip items amounts) → (k : ℕ) (d : Item) → k < length items
    → (get_or items k d).size ≤ get_or amounts k 0
covered_at [] amounts long all k d lt = absurd (omega arith)
covered_at (item ∷ items) [] long all k d lt = absurd cc
covered_at (item ∷ items) (f ∷ amounts) long all zero d lt = All-head (λ p. p.0.size ≤ p.1) (item, f) (zip items amounts) all
covered_at (item ∷ items) (f ∷ amounts) long all (suc k) d lt = covered_at items amounts (omega (arith, long)) (All-tail (λ p. p.0.size ≤ p.1) (item, f) (zip items amounts) all) k d (omega arith)

carried_next : (items : List Item) (amounts : List ℕ) (i : ℕ) (d : Item) → i < length items → i < length amounts
    → map with_size (zip (take (suc i) items) (take (suc i) amounts)) ≡ map with_size (zip (take i items) (take i amounts)) ++ with_size (get_or items i d, get_or amounts i 0) ∷ []
carried_next [] amounts i d lt lt' = absurd (omega arith)
carried_next (item ∷ items) [] i d lt lt' = absurd (omega arith)
carried_next (item ∷ items) (f ∷ amounts) zero d lt lt' = refl
carried_next (item ∷ items) (f ∷ amounts) (suc i) d lt lt' = ap (λ (l : List Item). with_size (item, f) ∷ l) (carried_next items amounts i d (omega arith) (omega arith))

pub carried_more : (items : List Item) (amounts : List ℕ) (i : ℕ) (d : Item) → i < length items → i < length amounts
    → map with_size (zip (take (i + 1) items) (take (i + 1) amounts)) ≡ map with_size (zip (take i items) (take i amounts)) ++ with_size (get_or items i d, get_or amounts i 0) ∷ []
carried_more items amounts i d lt lt' = rw add-one (carried_next items amounts i d lt lt')

-- the items carry the amounts
pub carried_total : (items : List Item) (amounts : List ℕ) → length amounts ≡ length items → sum_by item_size (map with_size (zip items amounts)) ≡ sum amounts
carried_total [] [] long = refl
carried_total [] (f ∷ amounts) long = absurd cc
carried_total (item ∷ items) [] long = absurd cc
carried_total (item ∷ items) (f ∷ amounts) long =
    omega (arith, sum_by-cons item_size (with_size (item, f)) (map with_size (zip items amounts)), sum_by-cons (λ (x : ℕ). x) f amounts, carried_total items amounts (omega (arith, long)))

-- ---- sums over the first tasks

range_more : (a n : ℕ) → range_with_len a (suc n) ≡ range_with_len a n ++ (a + n) ∷ []
range_more a zero = let e : a + 0 ≡ a = omega arith in rw e refl
range_more a (suc n) = let e : a + suc n ≡ a + 1 + n = omega arith in rw e (ap (λ (l : List ℕ). a ∷ l) (range_more (a + 1) n))

pub sum_range_more : (f : ℕ → ℕ) (n : ℕ) → sum_by f (range_with_len 1 (n + 1)) ≡ sum_by f (range_with_len 1 n) + f (n + 1)
sum_range_more f n =
    let whole : range_with_len 1 (n + 1) ≡ range_with_len 1 n ++ (1 + n) ∷ [] = rw add-one (range_more 1 n) in
    let last : 1 + n ≡ n + 1 = omega arith in
    omega (arith, ap (sum_by f) whole, sum_by-append f (range_with_len 1 n) ((1 + n) ∷ []), sum_by-cons f (1 + n) [], ap f last)

pub sum_range_le : (f : ℕ → ℕ) (a i n : ℕ) → i ≤ n → sum_by f (range_with_len a i) ≤ sum_by f (range_with_len a n)
sum_range_le f a zero n le = omega arith
sum_range_le f a (suc i) zero le = absurd (omega arith)
sum_range_le f a (suc i) (suc n) le = omega (arith, sum_by-cons f a (range_with_len (a + 1) i), sum_by-cons f a (range_with_len (a + 1) n), sum_range_le f (a + 1) i n (omega arith))
