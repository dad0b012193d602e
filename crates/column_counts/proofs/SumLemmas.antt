-- Tests and sums over a span.
use Rattle.std.proofs.Common.{sym, ◌∙◌, subst, ap, ◌+◌, ◌*◌, ◌≡◌, ◌≢◌, ◌⊎◌, inl, inr, ℕ, zero, suc, ◌<◌, ◌≤◌, Bool, true}
use Rattle.std.proofs.Common.{false, arith, refl, List, [], ◌∷◌, ◌++◌, get_or, length, set, slice_index, ◌-◌, length-set}
use Rattle.std.specs.List.{range_with_len, sum_by, count_by}
use Rattle.std.proofs.Math.Nat.{mul-suc}
use Rattle.std.proofs.lemmas.Bool.{cases_eq, cases_lt, false_from_ne_true}
use Rattle.std.proofs.lemmas.List.Folds.{list_any_at, Any-from_list_any}
use Rattle.std.proofs.lemmas.List.FromFn.{get_or-range_with_len, length-range_with_len}
use Rattle.std.proofs.lemmas.List.Sums.{sum_by_push}
use Rattle.column_counts.specs.Marks.{bit}
use Rattle.column_counts.specs.Leaves.{any_in, sum_in, passing}
use Rattle.lists.proofs.Lists.{at_other, at_here}

pub range_more : (a m : ℕ) → range_with_len a (suc m) ≡ range_with_len a m ++ (a + m) ∷ []
range_more a zero = ap (λ (x : ℕ). x ∷ []) (omega arith)
range_more a (suc m) =
    ap (λ (xs : List ℕ). a ∷ xs) (range_more (a + 1) m ∙ ap (λ (x : ℕ). range_with_len (a + 1) m ++ x ∷ []) (omega arith))

pub any_from : (p : ℕ → Bool) (a n y : ℕ) → a ≤ y → y < n → p y ≡ true → any_in p a n ≡ true
unfolding any_in
any_from p a n y le lt h =
    let here : get_or (range_with_len a (n - a)) (y - a) 0 ≡ y = get_or-range_with_len a (n - a) (y - a) 0 (omega arith) ∙ omega arith in
    let long = length-range_with_len a (n - a) in
    list_any_at p (range_with_len a (n - a)) (y - a) 0 (omega arith) (subst (λ v. p v ≡ true) (sym here) h)

pub any_to : (p : ℕ → Bool) (a n : ℕ) → any_in p a n ≡ true → (y : ℕ) × (a ≤ y) × (y < n) × (p y ≡ true)
unfolding any_in
any_to p a n h =
    let f = Any-from_list_any p (range_with_len a (n - a)) h in
    let long = length-range_with_len a (n - a) in
    let within : f.0 < n - a = omega (arith, f.2) in
    let at : f.1 ≡ a + f.0 = sym f.3 ∙ get_or-range_with_len a (n - a) f.0 f.1 within in
    (f.1, omega arith, omega arith, f.4)

pub sum_in_at : (h : ℕ → ℕ) (a n : ℕ) → a ≤ n → sum_in h a (suc n) ≡ h n + sum_in h a n
unfolding sum_in
sum_in_at h a n le =
    let more : suc n - a ≡ suc (n - a) = omega arith in
    let last : h (a + (n - a)) ≡ h n = ap h (omega arith) in
    let sum : sum_by h (range_with_len a (n - a) ++ (a + (n - a)) ∷ []) ≡ sum_in h a n + h (a + (n - a)) =
    sum_by_push h (range_with_len a (n - a)) (a + (n - a)) in
    ap (λ (m : ℕ). sum_by h (range_with_len a m)) more ∙ ap (sum_by h) (range_more a (n - a)) ∙ omega arith

pub sum_in_below : (h : ℕ → ℕ) (a n : ℕ) → n < a → sum_in h a (suc n) ≡ sum_in h a n
unfolding sum_in
sum_in_below h a n lt = let same : suc n - a ≡ n - a = omega arith in ap (λ (m : ℕ). sum_by h (range_with_len a m)) same

pub sum_in_zero : (h : ℕ → ℕ) (a : ℕ) → sum_in h a zero ≡ 0
unfolding sum_in
sum_in_zero h a = let none : zero - a ≡ zero = omega arith in ap (λ (m : ℕ). sum_by h (range_with_len a m)) none

-- a sum where one term has grown by one
pub sum_in_out : (h h' : ℕ → ℕ) (c a n : ℕ) → ((d : ℕ) → d ≢ c → h' d ≡ h d) → (c < a ⊎ (n ≤ c)) → sum_in h' a n ≡ sum_in h a n
sum_in_out h h' c a zero same out = sum_in_zero h' a ∙ sym (sum_in_zero h a)
sum_in_out h h' c a (suc n) same out =
    let ih = sum_in_out h h' c a n same (elim out [ inl l ↦ inl l | inr r ↦ inr (omega arith) ]) in
    elim (cases_lt n a) [
      | inl lt ↦ sum_in_below h' a n lt ∙ ih ∙ sym (sum_in_below h a n lt)
      | inr le ↦
          let ne : n ≢ c = elim out [ inl l ↦ omega arith | inr r ↦ omega arith ] in
          let x = same n ne in
          let l = sum_in_at h' a n le in let r = sum_in_at h a n le in omega arith
    ]

pub sum_in_more : (h h' : ℕ → ℕ) (c a n : ℕ) → ((d : ℕ) → d ≢ c → h' d ≡ h d)
    → h' c ≡ h c + 1 → a ≤ c → c < n → sum_in h' a n ≡ sum_in h a n + 1
sum_in_more h h' c a zero same here le lt = absurd (omega arith)
sum_in_more h h' c a (suc n) same here le lt =
    elim (cases_eq n c) [
      | inl e ↦
          let l = sum_in_at h' a n (omega arith) in let r = sum_in_at h a n (omega arith) in
          let s = sum_in_out h h' c a n same (inr (omega arith)) in
          let x : h' n ≡ h n + 1 = subst (λ v. h' v ≡ h v + 1) (sym e) here in
          omega arith
      | inr ne ↦
          let l = sum_in_at h' a n (omega arith) in let r = sum_in_at h a n (omega arith) in
          let ih = sum_in_more h h' c a n same here le (omega arith) in
          let x = same n ne in
          omega arith
    ]

-- a count is a sum of ones
passing_sum : (p : ℕ → Bool) (n : ℕ) → passing p n ≡ sum_in (λ i. bit (p i)) 0 n
unfolding passing sum_in
passing_sum p n = let all : n ≡ n - 0 = omega arith in ap (λ (m : ℕ). count_by p (range_with_len 0 m)) all

pub passing_next : (p : ℕ → Bool) (n : ℕ) → passing p (suc n) ≡ bit (p n) + passing p n
passing_next p n = let all = passing_sum p (suc n) in
    let at = sum_in_at (λ i. bit (p i)) 0 n (omega arith) in
    let rest = passing_sum p n in
    omega arith

pub passing_same : (p q : ℕ → Bool) (n : ℕ) → ((i : ℕ) → p i ≡ q i) → passing p n ≡ passing q n
passing_same p q n same =
    passing_sum p n ∙ sum_in_out (λ i. bit (q i)) (λ i. bit (p i)) n 0 n (λ i ne. ap bit (same i)) (inr (omega arith))
    ∙ sym (passing_sum q n)

pub passing_more : (p q : ℕ → Bool) (i n : ℕ) → i < n → p i ≡ false
    → q i ≡ true → ((k : ℕ) → k ≢ i → q k ≡ p k) → passing q n ≡ passing p n + 1
passing_more p q i n lt hp hq same =
    let was : bit (p i) ≡ 0 = ap bit hp in
    let now : bit (q i) ≡ 1 = ap bit hq in
    let more = sum_in_more (λ i. bit (p i)) (λ i. bit (q i)) i 0 n (λ k ne. ap bit (same k ne)) (omega arith) (omega arith) lt in
    let before = passing_sum p n in
    let after = passing_sum q n in
    omega arith

-- a span that ends before it begins
pub sum_in_past : (h : ℕ → ℕ) (a n : ℕ) → n ≤ a → sum_in h a n ≡ 0
sum_in_past h a zero le = sum_in_zero h a
sum_in_past h a (suc n) le = sum_in_below h a n (omega arith) ∙ sum_in_past h a n (omega arith)

-- a sum in two parts
pub sum_in_split : (h : ℕ → ℕ) (a m : ℕ) → a ≤ m → sum_in h 0 m ≡ sum_in h 0 a + sum_in h a m
sum_in_split h a zero le = let e : a ≡ 0 = omega arith in
    let z = sum_in_zero h 0 in
    let y = sum_in_zero h a in
    subst (λ b. sum_in h 0 zero ≡ sum_in h 0 b + sum_in h a zero) (sym e) (omega arith)
sum_in_split h a (suc m) le =
    let all = sum_in_at h 0 m (omega arith) in
    elim (cases_lt m a) [
      | inl last ↦ (
          let e : a ≡ suc m = omega arith in
          subst (λ b. sum_in h 0 (suc m) ≡ sum_in h 0 b + sum_in h b (suc m)) (sym e)
          (let z = sum_in_past h (suc m) (suc m) (omega arith) in omega arith)
          )
      | inr more ↦ (let part = sum_in_at h a m more in let ih = sum_in_split h a m more in omega arith)
    ]

pub sum_in_bound : (h : ℕ → ℕ) (b n : ℕ) → ((x : ℕ) → h x ≤ b) → sum_in h 0 n ≤ b * n
sum_in_bound h b zero most = let z = sum_in_zero h 0 in omega arith
sum_in_bound h b (suc n) most = let e = sum_in_at h 0 n (omega arith) in
    let ih = sum_in_bound h b n most in
    let m = most n in
    let d : b * suc n ≡ b * n + b = mul-suc b n in
    omega arith

pub sum_in_none : (h : ℕ → ℕ) (a n : ℕ) → ((x : ℕ) → h x ≡ 0) → sum_in h a n ≡ 0
sum_in_none h a zero none = sum_in_zero h a
sum_in_none h a (suc n) none =
    let ih = sum_in_none h a n none in
    elim (cases_lt n a) [
      | inl lt ↦ sum_in_below h a n lt ∙ ih
      | inr le ↦ (let e = sum_in_at h a n le in let z = none n in omega arith)
    ]

pub passing_none : (p : ℕ → Bool) (m : ℕ) → ((i : ℕ) → i < m → p i ≡ false) → passing p m ≡ 0
passing_none p zero h = passing_sum p zero ∙ sum_in_zero (λ i. bit (p i)) 0
passing_none p (suc m) h =
    let z : bit (p m) ≡ 0 = ap bit (h m (omega arith)) in
    let ih = passing_none p m (λ i lt. h i (omega arith)) in
    let next = passing_next p m in
    omega arith

pub any_in_none : (a n : ℕ) → any_in (λ y. false) a n ≡ false
any_in_none a n = false_from_ne_true (any_in (λ y. false) a n) (λ h. let y = any_to (λ y. false) a n h in absurd (let f = y.3 in cc))

-- ---- a table becomes its sums

-- the entries before x are sums, and the others are as they were
pub record AreSummedTo (x : ℕ) (old now : List ℕ) : Type 0 where
  pub len : length now ≡ length old
  pub done : (y : ℕ) → y < x → slice_index now y ≡ sum_in (slice_index old) 0 (suc y)
  pub rest : (y : ℕ) → x ≤ y → slice_index now y ≡ slice_index old y

pub none_summed : (table : List ℕ) → AreSummedTo 1 table table
none_summed table = record {
  len = refl;
  done = λ y lt.
      let e : y ≡ 0 = omega arith in
      let one = sum_in_at (slice_index table) 0 0 (omega arith) in
      let none = sum_in_zero (slice_index table) 0 in
      subst (λ x. slice_index table x ≡ sum_in (slice_index table) 0 (suc x)) (sym e) (omega arith);
  rest = λ y le. refl;
}

-- the sum before a place
pub sum_before : (x : ℕ) (old now : List ℕ) → 0 < x → AreSummedTo x old now → slice_index now (x - 1) ≡ sum_in (slice_index old) 0 x
sum_before x old now some are = let e : suc (x - 1) ≡ x = omega arith in are.done (x - 1) (omega arith) ∙ ap (sum_in (slice_index old) 0) e

pub summed_fits : (x bound : ℕ) (old now : List ℕ) → 0 < x → AreSummedTo x old now
    → ((y : ℕ) → slice_index old y ≤ bound) → slice_index now x + slice_index now (x - 1) ≤ bound * x + bound
summed_fits x bound old now some are small =
    let before = sum_before x old now some are in
    let most = sum_in_bound (slice_index old) bound x small in
    let here = are.rest x (omega arith) in
    let one = small x in
    omega arith

pub summed_more : (x : ℕ) (old now : List ℕ) → 0 < x → x < length now → AreSummedTo x old now
    → AreSummedTo (x + 1) old (set now x (slice_index now x + slice_index now (x - 1)))
summed_more x old now some lt are =
    let sum = slice_index now x + slice_index now (x - 1) in
    let before = sum_before x old now some are in
    let same = are.rest x (omega arith) in
    let one = sum_in_at (slice_index old) 0 x (omega arith) in
    let here = at_here now x sum lt in
    record {
      len = length-set now x sum ∙ are.len;
      done = λ y far. elim (cases_eq y x) [
        | inl e ↦ subst (λ z. slice_index (set now x sum) z ≡ sum_in (slice_index old) 0 (suc z)) (sym e) (omega arith)
        | inr ne ↦ at_other now x sum y ne ∙ are.done y (omega arith)
      ];
      rest = λ y le. at_other now x sum y (omega arith) ∙ are.rest y (omega arith);
    }
