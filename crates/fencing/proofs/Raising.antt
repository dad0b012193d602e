-- What the items hand on: their sizes, and what is taken along them.
use Rattle.std.proofs.Common.{◌≡◌, ℕ, zero, suc, ◌+◌, ◌<◌, ◌≤◌, Bool, true, false, cond, eqb, eq-eqb, Option, None, Some, List, [], ◌∷◌, length, get_or, set, take, map, refl, sym, ap, subst, ◌∙◌, arith, ⊎_elim, get_or-set_same, get_or-set_other}
use Rattle.std.specs.Prelude.{All, sum}
use Rattle.std.specs.List.{filter, fold, sum_by, zip}
use Rattle.std.proofs.lemmas.Bool.{cases_eq, ne_eqb}
use Rattle.std.proofs.lemmas.List.{get_or-map, length-map, length-set}
use Rattle.std.proofs.lemmas.List.Elements.{All-head, All-tail, All-take}
use Rattle.std.proofs.lemmas.List.Sums.{get_or-le-sum_by, sum-map, sum_by-cons, sum_by-set, sum_by_more_le}
use Rattle.mp_system.specs.declared.system.Item.{Item}
use Rattle.mp_system.specs.System.{item_size, size_if, size_where}
use Rattle.fences.specs.Amounts.{with_size}
use Rattle.fencing.specs.declared.ledger.Taking.{Taking}
use Rattle.fencing.specs.Takings.{IsCarried, amount_to, fences_left, handed_along, is_fence, item_at, item_of, is_none, raised_at, raised_by, taken_by, taking_amount}

-- a test that looks only at the tasks of an item
abbrev pub of_ends : (Option ℕ → Option ℕ → Bool) → Item → Bool
of_ends f item = f item.from item.to

-- a sum over what passes a test
pub sum_filter : {X : Type 0} (g : X → ℕ) (p : X → Bool) (x : X) (xs : List X) → sum_by g (filter p (x ∷ xs)) ≡ cond (p x) (g x) 0 + sum_by g (filter p xs)
sum_filter g p x xs =
    elim (p x) as (λ b. sum_by g (cond b (x ∷ filter p xs) (filter p xs)) ≡ cond b (g x) 0 + sum_by g (filter p xs)) [
      | true ↦ sum_by-cons g x (filter p xs)
      | false ↦ omega arith
    ]

-- ---- one taking

raised_long : (along : Option ℕ) (amount : ℕ) (amounts : List ℕ) → length (raised_at along amount amounts) ≡ length amounts
raised_long None amount amounts = refl
raised_long (Some index) amount amounts = length-set amounts index (get_or amounts index 0 + amount)

raised_low : (along : Option ℕ) (amount : ℕ) (amounts : List ℕ) (k : ℕ) → k < length amounts → get_or amounts k 0 ≤ get_or (raised_at along amount amounts) k 0
raised_low None amount amounts k lt = omega arith
raised_low (Some index) amount amounts k lt =
    ⊎_elim
    (λ (same : k ≡ index). let here = get_or-set_same amounts k (get_or amounts k 0 + amount) 0 lt in subst (λ (i : ℕ). get_or amounts k 0 ≤ get_or (set amounts i (get_or amounts i 0 + amount)) k 0) same (omega (arith, here)))
    (λ other. let there = get_or-set_other amounts index k (get_or amounts index 0 + amount) 0 other in omega (arith, there))
    (cases_eq k index)

-- whether something is taken along this item
abbrev pub is_at : ℕ → Option ℕ → Bool
is_at k None = false
is_at k (Some index) = eqb k index

raised_high : (along : Option ℕ) (amount : ℕ) (amounts : List ℕ) (k : ℕ) → k < length amounts → get_or (raised_at along amount amounts) k 0 ≤ get_or amounts k 0 + cond (is_at k along) amount 0
raised_high None amount amounts k lt = omega arith
raised_high (Some index) amount amounts k lt =
    ⊎_elim
    (λ (same : k ≡ index).
    let here = get_or-set_same amounts k (get_or amounts k 0 + amount) 0 lt in
    let yes : cond (eqb k k) amount 0 ≡ amount = rw (eq-eqb k k refl) refl in
    subst (λ (i : ℕ). get_or (set amounts i (get_or amounts i 0 + amount)) k 0 ≤ get_or amounts k 0 + cond (eqb k i) amount 0) same (omega (arith, here, yes)))
    (λ other. let there = get_or-set_other amounts index k (get_or amounts index 0 + amount) 0 other in omega (arith, there))
    (cases_eq k index)

raised_sum : (along : Option ℕ) (amount : ℕ) (amounts : List ℕ) → ((i : ℕ) → along ≡ Some i → i < length amounts)
    → sum (raised_at along amount amounts) + cond (is_none along) amount 0 ≡ sum amounts + amount
raised_sum None amount amounts within = refl
raised_sum (Some index) amount amounts within =
    omega (arith, sum_by-set (λ (x : ℕ). x) amounts index (get_or amounts index 0 + amount) 0 (within index refl))

-- what the items carry then
module _ (f : Option ℕ → Option ℕ → Bool) where
  abbrev pub weight : List Item → List ℕ → ℕ
  weight items amounts = size_where (of_ends f) (map with_size (zip items amounts))

  set_weight : (items : List Item) (amounts : List ℕ) (k x : ℕ) → k < length items → length amounts ≡ length items
      → weight items (set amounts k (get_or amounts k 0 + x)) ≡ weight items amounts + cond (f (item_at items k).from (item_at items k).to) x 0
  set_weight [] amounts k x lt long = absurd (omega arith)
  set_weight (item ∷ items) [] k x lt long = absurd cc
  set_weight (item ∷ items) (y ∷ amounts) zero x lt long =
      let split : cond (f item.from item.to) (y + x) 0 ≡ cond (f item.from item.to) y 0 + cond (f item.from item.to) x 0 =
      elim (f item.from item.to) as (λ b. cond b (y + x) 0 ≡ cond b y 0 + cond b x 0) [ true ↦ refl | false ↦ refl ] in
      omega (
        arith,
        split,
        sum_by-cons (size_if (of_ends f)) (with_size (item, y + x)) (map with_size (zip items amounts)),
        sum_by-cons (size_if (of_ends f)) (with_size (item, y)) (map with_size (zip items amounts)),
      )
  set_weight (item ∷ items) (y ∷ amounts) (suc k) x lt long =
      omega (
        arith,
        set_weight items amounts k x (omega arith) (omega (arith, long)),
        sum_by-cons (size_if (of_ends f)) (with_size (item, y)) (map with_size (zip items (set amounts k (get_or amounts k 0 + x)))),
        sum_by-cons (size_if (of_ends f)) (with_size (item, y)) (map with_size (zip items amounts)),
      )

  raised_weight : (items : List Item) (amounts : List ℕ) (from to amount : ℕ) (along : Option ℕ) → length amounts ≡ length items
      → IsCarried items (record { from = from; to = to; amount = amount; along = along })
      → weight items (raised_at along amount amounts) + cond (is_none along) (cond (f (Some from) (Some to)) amount 0) 0 ≡ weight items amounts + cond (f (Some from) (Some to)) amount 0
  raised_weight items amounts from to amount None long carried = refl
  raised_weight items amounts from to amount (Some index) long carried =
      let at = carried index refl in
      let ends : f (item_at items index).from (item_at items index).to ≡ f (Some from) (Some to) = rw (at.1, at.2) refl in
      let part : cond (f (item_at items index).from (item_at items index).to) amount 0 ≡ cond (f (Some from) (Some to)) amount 0 = ap (λ (b : Bool). cond b amount 0) ends in
      omega (arith, part, set_weight items amounts index amount at.0 long)

-- ---- all takings

module _ (items : List Item) where
  all_long : (takings : List Taking) (amounts : List ℕ) → length (fold raised_by amounts takings) ≡ length amounts
  all_long [] amounts = refl
  all_long (t ∷ takings) amounts = all_long takings (raised_by amounts t) ∙ raised_long t.along t.amount amounts

  all_low : (takings : List Taking) (amounts : List ℕ) (k : ℕ) → k < length amounts → get_or amounts k 0 ≤ get_or (fold raised_by amounts takings) k 0
  all_low [] amounts k lt = omega arith
  all_low (t ∷ takings) amounts k lt =
      omega (arith, raised_low t.along t.amount amounts k lt, all_low takings (raised_by amounts t) k (omega (arith, lt, raised_long t.along t.amount amounts)))

  abbrev pub amount_at : ℕ → Taking → ℕ
  amount_at k t = cond (is_at k t.along) t.amount 0

  all_high : (takings : List Taking) (amounts : List ℕ) (k : ℕ) → k < length amounts → get_or (fold raised_by amounts takings) k 0 ≤ get_or amounts k 0 + sum_by (amount_at k) takings
  all_high [] amounts k lt = omega arith
  all_high (t ∷ takings) amounts k lt =
      omega (
        arith,
        raised_high t.along t.amount amounts k lt,
        all_high takings (raised_by amounts t) k (omega (arith, lt, raised_long t.along t.amount amounts)),
        sum_by-cons (amount_at k) t takings,
      )

  all_sum : (takings : List Taking) (amounts : List ℕ) → length amounts ≡ length items → All (IsCarried items) takings
      → sum (fold raised_by amounts takings) + sum_by taking_amount (fences_left takings) ≡ sum amounts + sum_by taking_amount takings
  all_sum [] amounts long carried = refl
  all_sum (t ∷ takings) amounts long carried =
      let here = All-head (IsCarried items) t takings carried in
      omega (
        arith,
        raised_sum t.along t.amount amounts (λ i e. (let at = here i e in omega (arith, at.0, long))),
        all_sum takings (raised_by amounts t) (raised_long t.along t.amount amounts ∙ long) (All-tail (IsCarried items) t takings carried),
        sum_filter taking_amount is_fence t takings,
        sum_by-cons taking_amount t takings,
      )

  module _ (f : Option ℕ → Option ℕ → Bool) where
    abbrev pub share_of : Taking → ℕ
    share_of t = size_if (of_ends f) (item_of t)

    all_weight : (takings : List Taking) (amounts : List ℕ) → length amounts ≡ length items → All (IsCarried items) takings
        → weight f items (fold raised_by amounts takings) + sum_by share_of (fences_left takings) ≡ weight f items amounts + sum_by share_of takings
    all_weight [] amounts long carried = refl
    all_weight (t ∷ takings) amounts long carried =
        omega (
          arith,
          raised_weight f items amounts t.from t.to t.amount t.along long (All-head (IsCarried items) t takings carried),
          all_weight takings (raised_by amounts t) (raised_long t.along t.amount amounts ∙ long) (All-tail (IsCarried items) t takings carried),
          sum_filter share_of is_fence t takings,
          sum_by-cons share_of t takings,
        )

-- what is taken along an item is taken by its consumer
along_by : (items : List Item) (k v : ℕ) → (item_at items k).to ≡ Some v → (takings : List Taking) → All (IsCarried items) takings → sum_by (amount_at items k) takings ≤ taken_by takings v
along_by items k v to [] carried = omega arith
along_by items k v to (t ∷ takings) carried =
    omega (
      arith,
      one t.along (All-head (IsCarried items) t takings carried),
      along_by items k v to takings (All-tail (IsCarried items) t takings carried),
      sum_by-cons (amount_at items k) t takings,
      sum_by-cons (amount_to v) t takings,
    )
  where
    one : (along : Option ℕ) → IsCarried items (record { from = t.from; to = t.to; amount = t.amount; along = along }) → cond (is_at k along) t.amount 0 ≤ cond (eqb t.to v) t.amount 0
    one None carried' = omega arith
    one (Some index) carried' =
        ⊎_elim
        (λ (same : k ≡ index).
        let at = carried' index refl in
        let aimed : Some t.to ≡ Some v = sym at.2 ∙ ap (λ (i : ℕ). (item_at items i).to) (sym same) ∙ to in
        let is : t.to ≡ v = cc in
        rw (eq-eqb k index same, eq-eqb t.to v is) (omega arith))
        (λ other. rw (ne_eqb k index other) (omega arith))
        (cases_eq k index)

-- and along one that no task consumes nothing is taken
along_none : (items : List Item) (k : ℕ) → (item_at items k).to ≡ None → (takings : List Taking) → All (IsCarried items) takings → sum_by (amount_at items k) takings ≡ 0
along_none items k to [] carried = refl
along_none items k to (t ∷ takings) carried =
    omega (
      arith,
      one t.along (All-head (IsCarried items) t takings carried),
      along_none items k to takings (All-tail (IsCarried items) t takings carried),
      sum_by-cons (amount_at items k) t takings,
    )
  where
    one : (along : Option ℕ) → IsCarried items (record { from = t.from; to = t.to; amount = t.amount; along = along }) → ◌≡◌ {A = ℕ} (cond (is_at k along) t.amount 0) 0
    one None carried' = refl
    one (Some index) carried' =
        ⊎_elim
        (λ (same : k ≡ index).
        let at = carried' index refl in
        let aimed : Some t.to ≡ None = sym at.2 ∙ ap (λ (i : ℕ). (item_at items i).to) (sym same) ∙ to in
        absurd cc)
        (λ other. rw (ne_eqb k index other) refl)
        (cases_eq k index)

-- ---- from the sizes on

pub along_long : (items : List Item) (takings : List Taking) → length (handed_along items takings) ≡ length items
along_long items takings = all_long items takings (map item_size items) ∙ length-map items item_size

size_at : (items : List Item) (k : ℕ) (d : Item) → k < length items → get_or (map item_size items) k 0 ≡ (get_or items k d).size
size_at items k d lt = get_or-map item_size items k d 0 lt

pub along_low : (items : List Item) (takings : List Taking) (k : ℕ) (d : Item) → k < length items → (get_or items k d).size ≤ get_or (handed_along items takings) k 0
along_low items takings k d lt = omega (arith, size_at items k d lt, all_low items takings (map item_size items) k (omega (arith, lt, length-map items item_size)))

-- no more than the size, and what the consumer takes
pub along_high : (items : List Item) (takings : List Taking) (k v : ℕ) (d : Item) → k < length items → All (IsCarried items) takings → (item_at items k).to ≡ Some v
    → get_or (handed_along items takings) k 0 ≤ (get_or items k d).size + taken_by takings v
along_high items takings k v d lt carried to =
    omega (arith, size_at items k d lt, all_high items takings (map item_size items) k (omega (arith, lt, length-map items item_size)), along_by items k v to takings carried)

pub along_only : (items : List Item) (takings : List Taking) (k : ℕ) (d : Item) → k < length items → All (IsCarried items) takings → (item_at items k).to ≡ None
    → get_or (handed_along items takings) k 0 ≤ (get_or items k d).size
along_only items takings k d lt carried to =
    omega (arith, size_at items k d lt, all_high items takings (map item_size items) k (omega (arith, lt, length-map items item_size)), along_none items k to takings carried)

pub along_sum : (items : List Item) (takings : List Taking) → All (IsCarried items) takings
    → sum (handed_along items takings) + sum_by taking_amount (fences_left takings) ≡ sum_by item_size items + sum_by taking_amount takings
along_sum items takings carried = omega (arith, all_sum items takings (map item_size items) (length-map items item_size) carried, sum-map item_size items)

-- one more taking fits
pub one_fits : (items : List Item) (takings : List Taking) (i : ℕ) (d : Taking) (k : ℕ) → All (IsCarried items) takings → i < length takings → k < length items
    → get_or (handed_along items (take i takings)) k 0 + (get_or takings i d).amount ≤ sum_by item_size items + sum_by taking_amount takings
one_fits items takings i d k carried lt low =
    let so_far = take i takings in
    omega (
      arith,
      get_or-le-sum_by (λ (x : ℕ). x) (handed_along items so_far) k 0 (omega (arith, low, along_long items so_far)),
      along_sum items so_far (All-take (IsCarried items) i takings carried),
      sum_by_more_le taking_amount takings i d lt,
    )

sizes_carry : (items : List Item) → map with_size (zip items (map item_size items)) ≡ items
sizes_carry [] = refl
sizes_carry (item ∷ items) = ap (λ (l : List Item). item ∷ l) (sizes_carry items)

-- for each test of ends, what items and fences carry is what the items and all takings are
pub along_weight : (f : Option ℕ → Option ℕ → Bool) (items : List Item) (takings : List Taking) → All (IsCarried items) takings
    → weight f items (handed_along items takings) + sum_by (share_of items f) (fences_left takings) ≡ size_where (of_ends f) items + sum_by (share_of items f) takings
along_weight f items takings carried =
    omega (arith, all_weight items f takings (map item_size items) (length-map items item_size) carried, ap (size_where (of_ends f)) (sizes_carry items))
