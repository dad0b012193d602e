-- Lists that are mapped or filtered, and counts over 1 to n.
use Rattle.std.proofs.Common.{◌≡◌, ℕ, zero, suc, ◌+◌, ◌<◌, ◌≤◌, Bool, true, false, cond, List, [], ◌∷◌, ◌++◌}
use Rattle.std.proofs.Common.{length, get_or, take, map, filter, fold, refl, sym, ap, ◌∙◌, inl, inr, arith}
use Rattle.std.specs.List.{sum_by, count_by, range_with_len}
use Rattle.std.proofs.lemmas.List.{take-map, map-append, map-id}
use Rattle.std.proofs.lemmas.List.Elements.{filter-append}
use Rattle.std.proofs.lemmas.List.FromFn.{length-range_with_len, get_or-range_with_len, map-range_with_len_more}
use Rattle.std.proofs.lemmas.List.Sums.{sum-map, fold_push, sum_by_push, sum_by-cons}
use Rattle.std.proofs.lemmas.Bool.{cases_Bool}
use Rattle.lists.proofs.Lists.{sum_by-map}

pub sum_by-take-map : {X Y : Type 0} (f : Y → ℕ) (g : X → Y) (n : ℕ) (xs : List X)
    → sum_by f (take n (map g xs)) ≡ sum_by (λ x. f (g x)) (take n xs)
sum_by-take-map f g n xs = ap (sum_by f) (take-map g n xs) ∙ sum_by-map f g (take n xs)

pub filter-map : {X Y : Type 0} (p : Y → Bool) (g : X → Y) (xs : List X) → filter p (map g xs) ≡ map g (filter (λ x. p (g x)) xs)
filter-map p g [] = refl
filter-map {X} {Y} p g (x ∷ xs) =
    elim (p (g x)) as (λ b. cond b (g x ∷ filter p (map g xs)) (filter p (map g xs))
    ≡ map g (cond b (x ∷ filter (λ y. p (g y)) xs) (filter (λ y. p (g y)) xs))) [
      | true ↦ ap (λ (ys : List Y). g x ∷ ys) (filter-map p g xs)
      | false ↦ filter-map p g xs
    ]

pub sum_by-filter : {X : Type 0} (f : X → ℕ) (p : X → Bool) (xs : List X) → sum_by f (filter p xs) ≡ sum_by (λ x. cond (p x) (f x) 0) xs
sum_by-filter f p [] = refl
sum_by-filter f p (x ∷ xs) =
    elim (p x) as (λ b. sum_by f (cond b (x ∷ filter p xs) (filter p xs)) ≡ cond b (f x) 0 + sum_by (λ y. cond (p y) (f y) 0) xs) [
      | true ↦ omega (arith, sum_by-cons f x (filter p xs), sum_by-filter f p xs)
      | false ↦ omega (arith, sum_by-filter f p xs)
    ] ∙ sym (sum_by-cons (λ y. cond (p y) (f y) 0) x xs)

-- functions that agree at each element
pub map_agree : {X Y : Type 0} (f g : X → Y) (d : X) (xs : List X)
    → ((i : ℕ) → i < length xs → f (get_or xs i d) ≡ g (get_or xs i d)) → map f xs ≡ map g xs
map_agree f g d [] same = refl
map_agree {X} {Y} f g d (x ∷ xs) same = ap (λ (y : Y). y ∷ map f xs) (same zero (omega arith))
    ∙ ap (λ (ys : List Y). g x ∷ ys) (map_agree f g d xs (λ i lt. same (suc i) (omega arith)))

pub sum_by_agree : {X : Type 0} (f g : X → ℕ) (d : X) (xs : List X)
    → ((i : ℕ) → i < length xs → f (get_or xs i d) ≡ g (get_or xs i d)) → sum_by f xs ≡ sum_by g xs
sum_by_agree f g d xs same = sym (sum-map f xs) ∙ ap (sum_by (λ x. x)) (map_agree f g d xs same) ∙ sum-map g xs

-- ---- 1 to n

pub range_more : (i : ℕ) → range_with_len 1 (i + 1) ≡ range_with_len 1 i ++ (i + 1) ∷ []
range_more i = sym (map-id (range_with_len 1 (i + 1))) ∙ map-range_with_len_more (λ (x : ℕ). x) 1 i (i + 1) (omega arith)
    ∙ ap (λ (ys : List ℕ). ys ++ (i + 1) ∷ []) (map-id (range_with_len 1 i))

pub fold_next : {A : Type 0} (f : A → ℕ → A) (a : A) (i : ℕ)
    → fold f a (range_with_len 1 (i + 1)) ≡ f (fold f a (range_with_len 1 i)) (i + 1)
fold_next f a i = ap (fold f a) (range_more i) ∙ fold_push f a (range_with_len 1 i) (i + 1)

pub count_next : (p : ℕ → Bool) (n : ℕ) → count_by p (range_with_len 1 (n + 1)) ≡ count_by p (range_with_len 1 n) + cond (p (n + 1)) 1 0
count_next p n = ap (count_by p) (range_more n) ∙ sum_by_push (λ i. cond (p i) 1 0) (range_with_len 1 n) (n + 1)

pick_more : {X : Type 0} (p : ℕ → Bool) (f : ℕ → X) (n : ℕ)
    → map f (filter p (range_with_len 1 (n + 1))) ≡ map f (filter p (range_with_len 1 n)) ++ map f (cond (p (n + 1)) ((n + 1) ∷ []) [])
pick_more p f n =
    ap (λ (ns : List ℕ). map f (filter p ns)) (range_more n) ∙ ap (map f) (filter-append p (range_with_len 1 n) ((n + 1) ∷ []))
    ∙ map-append f (filter p (range_with_len 1 n)) (cond (p (n + 1)) ((n + 1) ∷ []) [])

pub sum_of_picked_more : (p : ℕ → Bool) (f : ℕ → ℕ) (n : ℕ)
    → sum_by f (filter p (range_with_len 1 (n + 1))) ≡ sum_by f (filter p (range_with_len 1 n)) + cond (p (n + 1)) (f (n + 1)) 0
sum_of_picked_more p f n =
    let g = λ (k : ℕ). cond (p k) (f k) 0 in
    let more = ap (sum_by g) (range_more n) ∙ sum_by_push g (range_with_len 1 n) (n + 1) in
    omega (arith, more, sum_by-filter f p (range_with_len 1 (n + 1)), sum_by-filter f p (range_with_len 1 n))

-- tests that agree, and functions that agree at what passes
pub pick_agree : {X : Type 0} (p q : ℕ → Bool) (f g : ℕ → X) (n : ℕ) → ((s : ℕ) → 1 ≤ s → s ≤ n → p s ≡ q s)
    → ((s : ℕ) → 1 ≤ s → s ≤ n → q s ≡ true → f s ≡ g s) → map f (filter p (range_with_len 1 n)) ≡ map g (filter q (range_with_len 1 n))
pick_agree p q f g zero tests same = refl
pick_agree {X} p q f g (suc n) tests same =
    let up : suc n ≡ n + 1 = omega arith in
    let before = pick_agree p q f g n (λ s low high. tests s low (omega arith)) (λ s low high. same s low (omega arith)) in
    let last : map f (cond (p (n + 1)) ((n + 1) ∷ []) []) ≡ map g (cond (q (n + 1)) ((n + 1) ∷ []) []) =
    ap (λ (b : Bool). map f (cond b ((n + 1) ∷ []) [])) (tests (n + 1) (omega arith) (omega arith)) ∙ (elim (cases_Bool (q (n + 1))) [
      | inl passes ↦ ap (λ (b : Bool). map f (cond b ((n + 1) ∷ []) [])) passes
          ∙ ap (λ (x : X). x ∷ []) (same (n + 1) (omega arith) (omega arith) passes)
          ∙ sym (ap (λ (b : Bool). map g (cond b ((n + 1) ∷ []) [])) passes)
      | inr not ↦ ap (λ (b : Bool). map f (cond b ((n + 1) ∷ []) [])) not ∙ sym (ap (λ (b : Bool). map g (cond b ((n + 1) ∷ []) [])) not)
    ]) in
    ap (λ (k : ℕ). map f (filter p (range_with_len 1 k))) up ∙ pick_more p f n
    ∙ ap (λ (xs : List X). xs ++ map f (cond (p (n + 1)) ((n + 1) ∷ []) [])) before
    ∙ ap (λ (xs : List X). map g (filter q (range_with_len 1 n)) ++ xs) last
    ∙ sym (ap (λ (k : ℕ). map g (filter q (range_with_len 1 k))) up ∙ pick_more q g n)

pub count_agree : (p q : ℕ → Bool) (n : ℕ) → ((s : ℕ) → 1 ≤ s → s ≤ n → p s ≡ q s)
    → count_by p (range_with_len 1 n) ≡ count_by q (range_with_len 1 n)
count_agree p q n tests =
    sum_by_agree (λ s. cond (p s) 1 0) (λ s. cond (q s) 1 0) 0 (range_with_len 1 n) (λ i lt.
    let within : i < n = omega (arith, lt, length-range_with_len 1 n) in
    let here : get_or (range_with_len 1 n) i 0 ≡ 1 + i = get_or-range_with_len 1 n i 0 within in
    ap (λ (b : Bool). cond b 1 0) (tests (get_or (range_with_len 1 n) i 0) (omega (arith, here)) (omega (arith, here, within))))
