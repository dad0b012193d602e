-- Degrees: counted by vertices, by a list, and before and after an elimination.
use Rattle.std.proofs.Common.{◌≡◌, ◌≢◌, ℕ, zero, suc, ◌+◌, ◌<◌, ◌≤◌, inl, inr, Bool, true, false, not, cond, List}
use Rattle.std.proofs.Common.{[], ◌∷◌, length, refl, sym, ap, ◌∙◌, arith, subst, IsTrue, eqb, ◌||◌, get_or}
use Rattle.std.specs.List.{All, range_with_len, count_by}
use Rattle.std.proofs.lemmas.Bool.{cases_eq, cases_Bool, both_ways, eq-eqb, ne_eqb, eqb-true, or_cases, or_left}
use Rattle.std.proofs.lemmas.List.Sums.{sum_by_push}
use Rattle.std.proofs.lemmas.List.Elements.{All-head, All-tail, All-from_get_or}
use Rattle.std.proofs.lemmas.List.Kept.{AllPairs-from_increasing}
use Rattle.elimination.specs.Elimination.{eliminate, IsAdjacency, IsVertex, times, degree_of}
use Rattle.elimination.proofs.VertexLists.{times-cons, times-here}
use Rattle.patterns.proofs.NumberLists.{has_at}
use Rattle.patterns.specs.Pattern.{has, neighbours_of, is_joined, IsPattern}
use Rattle.elimination.specs.Twins.{is_near}
use Rattle.elimination.proofs.Eliminations.{keep_old}
use Rattle.elimination.proofs.ListFacts.{has_one, has_own, has_left, has_right, has_cases, times_some, rising_once}
use Rattle.lists.proofs.Bools.{same_bool}
use Rattle.lists.proofs.Lists.{range_last}

abbrev pub bit : Bool → ℕ
bit b = cond b 1 0

-- how many of 1 to n pass
pub counted : (ℕ → Bool) → ℕ → ℕ
counted p zero = 0
counted p (suc n) = counted p n + bit (p (suc n))

pub counted_zero : (p : ℕ → Bool) → counted p 0 ≡ 0
unfolding counted
counted_zero p = refl

pub counted_last : (p : ℕ → Bool) (n : ℕ) → counted p (suc n) ≡ counted p n + bit (p (suc n))
unfolding counted
counted_last p n = refl

pub counted_is : (p : ℕ → Bool) (n : ℕ) → counted p n ≡ count_by p (range_with_len 1 n)
unfolding counted
counted_is p zero = refl
counted_is p (suc n) =
    let e : 1 + n ≡ suc n = omega arith in
    let r = range_last 1 n in
    let s = sum_by_push (λ x. bit (p x)) (range_with_len 1 n) (1 + n) in
    let k = ap (count_by p) r in
    let f = ap (λ z. bit (p z)) e in
    let i = counted_is p n in
    omega arith

counted_le : (p : ℕ → Bool) (n : ℕ) → counted p n ≤ n
unfolding counted
counted_le p zero = omega arith
counted_le p (suc n) = let i = counted_le p n in elim (cases_Bool (p (suc n))) [ inl e ↦ rw e (omega arith) | inr e ↦ rw e (omega arith) ]

-- a test that passes less
counted_more : (p r : ℕ → Bool) (n : ℕ) → ((y : ℕ) → p y ≡ true → r y ≡ true) → counted p n ≤ counted r n
unfolding counted
counted_more p r zero h = omega arith
counted_more p r (suc n) h =
    let i = counted_more p r n h in
    elim (cases_Bool (p (suc n))) [
      | inl e ↦ rw (e, h (suc n) e) (omega arith)
      | inr e ↦ rw e (omega arith)
    ]

-- .. but at one number
module _ (p r : ℕ → Bool) (x : ℕ) (h : (y : ℕ) → y ≢ x → p y ≡ true → r y ≡ true) where
  counted_before : (n : ℕ) → n < x → counted p n ≤ counted r n
  unfolding counted
  counted_before zero lt = omega arith
  counted_before (suc n) lt =
      let i = counted_before n (omega arith) in
      let ne : suc n ≢ x = λ e. absurd (omega arith) in
      elim (cases_Bool (p (suc n))) [
        | inl e ↦ rw (e, h (suc n) ne e) (omega arith)
        | inr e ↦ rw e (omega arith)
      ]

  counted_but : (n : ℕ) → counted p n ≤ counted r n + 1
  unfolding counted
  counted_but zero = omega arith
  counted_but (suc n) =
      elim (cases_eq (suc n) x) [
        | inl e ↦ (
            let i = counted_before n (omega arith) in
            elim (cases_Bool (p (suc n))) [ inl t ↦ rw t (omega arith) | inr f ↦ rw f (omega arith) ]
            )
        | inr ne ↦ (
            let i = counted_but n in
            elim (cases_Bool (p (suc n))) [ inl t ↦ rw (t, h (suc n) ne t) (omega arith) | inr f ↦ rw f (omega arith) ]
            )
      ]

-- one vertex more
module _ (p r : ℕ → Bool) (x : ℕ) (same : (y : ℕ) → y ≢ x → p y ≡ r y) (in' : p x ≡ true) (out : r x ≡ false) where
  one_before : (n : ℕ) → n < x → counted p n ≡ counted r n
  unfolding counted
  one_before zero lt = refl
  one_before (suc n) lt =
      let i = one_before n (omega arith) in
      let ne : suc n ≢ x = λ e. absurd (omega arith) in
      let s = ap bit (same (suc n) ne) in
      omega arith

  one_more : (n : ℕ) → 0 < x → x ≤ n → counted p n ≡ 1 + counted r n
  unfolding counted
  one_more zero some le = absurd (omega arith)
  one_more (suc n) some le =
      elim (cases_eq (suc n) x) [
        | inl e ↦ (
            let i = one_before n (omega arith) in
            let a : bit (p (suc n)) ≡ 1 = ap bit (ap p e ∙ in') in
            let b : bit (r (suc n)) ≡ 0 = ap bit (ap r e ∙ out) in
            omega arith
            )
        | inr ne ↦ (
            let i = one_more n some (omega arith) in
            let s = ap bit (same (suc n) ne) in
            omega arith
            )
      ]

counted_none : (n : ℕ) → counted (has []) n ≡ 0
unfolding counted
counted_none zero = refl
counted_none (suc n) = let i = counted_none n in omega arith

-- a list of vertices, each once, is as long as there are vertices in it
length_counted : (n : ℕ) (xs : List ℕ) → All (IsVertex n) xs → ((x : ℕ) → times xs x ≤ 1) → length xs ≡ counted (has xs) n
length_counted n [] vertices once = sym (counted_none n)
length_counted n (x ∷ xs) vertices once =
    let v = All-head (IsVertex n) x xs vertices in
    let rest = length_counted n xs (All-tail (IsVertex n) x xs vertices)
    (λ y. let k = times-cons y x xs in let l = times-cons x y xs in let m = once y in omega arith) in
    let fresh : has xs x ≡ false = elim (cases_Bool (has xs x)) [
      | inl t ↦ absurd (let k = times-here x x xs refl in let m = times_some xs x t in let o = once x in omega arith)
      | inr f ↦ f
    ] in
    let other : (y : ℕ) → y ≢ x → has (x ∷ xs) y ≡ has xs y = λ y ne. elim (cases_Bool (has xs y)) [
      | inl t ↦ has_right (x ∷ []) xs y t ∙ sym t
      | inr f ↦ elim (cases_Bool (has (x ∷ xs) y)) [
        | inl t ↦ elim (has_cases (x ∷ []) xs y t) [ inl o ↦ absurd (ne (sym (has_one x y o))) | inr o ↦ absurd (both_ways _ f o) ]
        | inr g ↦ g ∙ sym f
      ]
    ] in
    let more = one_more (has (x ∷ xs)) (has xs) x other (has_left (x ∷ []) xs x (has_own x)) fresh n v.0 v.1 in
    omega arith

-- where fewer than n pass, one of them does not
some_fails : (p : ℕ → Bool) (n : ℕ) → counted p n < n → (w : ℕ) × IsVertex n w × (p w ≡ false)
unfolding counted
some_fails p zero lt = absurd (omega arith)
some_fails p (suc n) lt =
    elim (cases_Bool (p (suc n))) [
      | inr f ↦ (suc n, (omega arith, omega arith), f)
      | inl t ↦ (
          let one : bit (p (suc n)) ≡ 1 = ap bit t in
          let r = some_fails p n (omega arith) in
          let le = r.1.1 in
          (r.0, (r.1.0, omega arith), r.2)
          )
    ]

-- a list of fewer than n vertices leaves one out
pub left_out : (n : ℕ) (xs : List ℕ) → All (IsVertex n) xs → ((x : ℕ) → times xs x ≤ 1) → length xs < n
    → (w : ℕ) × IsVertex n w × (has xs w ≡ false)
left_out n xs vertices once lt = let e = length_counted n xs vertices once in some_fails (has xs) n (omega arith)

-- a test that passes no more than another, and yet as often, is the same
counted_full : (p r : ℕ → Bool) (n : ℕ) → ((y : ℕ) → p y ≡ true → r y ≡ true) → counted r n ≤ counted p n → (y : ℕ) → IsVertex n y
    → p y ≡ r y
unfolding counted
counted_full p r zero h le y v = absurd (let a = v.0 in let b = v.1 in omega arith)
counted_full p r (suc n) h le y v =
    let i = counted_more p r n h in
    let yn = v.1 in
    elim (cases_Bool (p (suc n))) [
      | inl t ↦ (
          let a : bit (p (suc n)) ≡ 1 = ap bit t in
          let b : bit (r (suc n)) ≡ 1 = ap bit (h (suc n) t) in
          elim (cases_eq y (suc n)) [
            | inl e ↦ ap p e ∙ t ∙ sym (h (suc n) t) ∙ ap r (sym e)
            | inr ne ↦ counted_full p r n h (omega arith) y (v.0, omega arith)
          ]
          )
      | inr f ↦ (
          let a : bit (p (suc n)) ≡ 0 = ap bit f in
          elim (cases_Bool (r (suc n))) [
            | inl t ↦ absurd (let b : bit (r (suc n)) ≡ 1 = ap bit t in omega arith)
            | inr f' ↦ (
                let b : bit (r (suc n)) ≡ 0 = ap bit f' in
                elim (cases_eq y (suc n)) [
                  | inl e ↦ ap p e ∙ f ∙ sym f' ∙ ap r (sym e)
                  | inr ne ↦ counted_full p r n h (omega arith) y (v.0, omega arith)
                ]
                )
          ]
          )
    ]

-- ---- degrees

pub degree_le : (left : ℕ → ℕ → Bool) (n v : ℕ) → degree_of left n v ≤ n
degree_le left n v = let e = counted_is (left v) n in let l = counted_le (left v) n in omega arith

-- in a pattern the degree is the length of the row
pub row_degree : (rows : List (List ℕ)) (v : ℕ) → IsPattern rows → IsVertex (length rows) v
    → length (neighbours_of rows v) ≡ degree_of (is_joined rows) (length rows) v
row_degree rows v p vertex =
    let row = neighbours_of rows v in
    let vertices : All (IsVertex (length rows)) row = All-from_get_or (IsVertex (length rows)) row 0
    (λ i lt. p.inside v (get_or row i 0) (has_at row i lt)) in
    length_counted (length rows) row vertices (rising_once row (AllPairs-from_increasing row (p.rising v)))
    ∙ counted_is (is_joined rows v) (length rows)

-- of a neighbour of v the degree falls by one at most
pub degree_near : (left : ℕ → ℕ → Bool) (n v w : ℕ) → w ≢ v → degree_of left n w ≤ degree_of (eliminate left v) n w + 1
degree_near left n v w ne =
    let a = counted_is (left w) n in
    let b = counted_is (eliminate left v w) n in
    let l = counted_but (left w) (eliminate left v w) v (λ y other h. keep_old left v w y ne other h) n in
    omega arith

-- of any other vertex it does not fall
pub degree_far : (left : ℕ → ℕ → Bool) (n v w : ℕ) → w ≢ v → left w v ≡ false → degree_of left n w ≤ degree_of (eliminate left v) n w
degree_far left n v w ne far =
    let a = counted_is (left w) n in
    let b = counted_is (eliminate left v w) n in
    let l = counted_more (left w) (eliminate left v w) n (λ y h. keep_old left v w y ne
    (λ e. both_ways _ far (subst (λ z. IsTrue (left w z)) e h)) h) in
    omega arith

-- ---- a vertex with its neighbours

pub near_count : (left : ℕ → ℕ → Bool) (n v : ℕ) → IsAdjacency left → IsVertex n v → counted (is_near left v) n ≡ 1 + counted (left v) n
near_count left n v p vertex =
    one_more (is_near left v) (left v) v (λ y ne. ap (λ b. b || left v y) (ne_eqb v y (λ e. ne (sym e))))
    (or_left _ _ (eq-eqb v v refl)) (elim (cases_Bool (left v v)) [ inl t ↦ absurd (p.irreflexive v t) | inr f ↦ f ]) n vertex.0 vertex.1

-- twins have one degree
pub degree_twins : (left : ℕ → ℕ → Bool) (n v w : ℕ) → IsAdjacency left → IsVertex n v → IsVertex n w
    → ((z : ℕ) → is_near left v z ≡ is_near left w z) → degree_of left n v ≡ degree_of left n w
degree_twins left n v w p vv vw same =
    let e : is_near left v ≡ is_near left w = λ i. λ z. same z i in
    let a = near_count left n v p vv in
    let b = near_count left n w p vw in
    let c = ap (λ t. counted t n) e in
    let d = counted_is (left v) n in
    let f = counted_is (left w) n in
    omega arith

-- a list of a vertex and its neighbours, each once
pub degree_near_listed : (left : ℕ → ℕ → Bool) (n v : ℕ) (xs : List ℕ) → IsAdjacency left → IsVertex n v → All (IsVertex n) xs
    → ((x : ℕ) → times xs x ≤ 1) → ((x : ℕ) → has xs x ≡ is_near left v x)
    → length xs ≡ degree_of left n v + 1
degree_near_listed left n v xs p vertex vertices once same =
    let e : has xs ≡ is_near left v = λ i. λ x. same x i in
    let a = length_counted n xs vertices once in
    let b = ap (λ t. counted t n) e in
    let c = near_count left n v p vertex in
    let d = counted_is (left v) n in
    omega arith

-- a vertex whose neighbours are all near another, and are not fewer, is its twin
pub twins_by_degree : (left : ℕ → ℕ → Bool) (n t v : ℕ) → IsAdjacency left → IsVertex n t → IsVertex n v
    → ((a x : ℕ) → IsTrue (left a x) → IsVertex n x)
    → ((z : ℕ) → IsTrue (is_near left t z) → IsTrue (is_near left v z)) → degree_of left n v ≤ degree_of left n t → (z : ℕ)
    → is_near left t z ≡ is_near left v z
twins_by_degree left n t v p vt vv within sub le z =
    let a = near_count left n t p vt in
    let b = near_count left n v p vv in
    let c = counted_is (left t) n in
    let d = counted_is (left v) n in
    let beyond : (u : ℕ) → IsVertex n u → IsTrue (is_near left u z) → IsVertex n z = λ u vu h. elim (or_cases (eqb u z) _ h) [
      | inl e ↦ subst (IsVertex n) (eqb-true u z e) vu
      | inr l ↦ within u z l
    ] in
    let full = counted_full (is_near left t) (is_near left v) n sub (omega arith) z in
    same_bool (is_near left t z) (is_near left v z) (sub z) (λ h. full (beyond v vv h) ∙ h)

-- ---- a rest in which all are joined

flipped : (p : ℕ → Bool) → ℕ → Bool
flipped p x = not (p x)

counted_flipped : (p : ℕ → Bool) (n : ℕ) → counted (flipped p) n + counted p n ≡ n
unfolding counted flipped
counted_flipped p zero = refl
counted_flipped p (suc n) =
    let i = counted_flipped p n in
    elim (cases_Bool (p (suc n))) [ inl t ↦ rw t (omega arith) | inr f ↦ rw f (omega arith) ]

-- a vertex that has as many neighbours as are left besides it has them all
pub joined_to_all : (left : ℕ → ℕ → Bool) (n u : ℕ) (gone : List ℕ) → IsAdjacency left → All (IsVertex n) gone
    → ((x : ℕ) → times gone x ≤ 1) → IsVertex n u → has gone u ≡ false
    → ((x : ℕ) → IsTrue (left u x) → has gone x ≡ false) → n ≤ degree_of left n u + length gone + 1 → (x : ℕ) → IsVertex n x
    → has gone x ≡ false → is_near left u x ≡ true
unfolding flipped
joined_to_all left n u gone p vertices once vertex fresh alive many x vx out =
    let a = near_count left n u p vertex in
    let b = counted_is (left u) n in
    let c = counted_flipped (has gone) n in
    let d = length_counted n gone vertices once in
    let sub : (y : ℕ) → is_near left u y ≡ true → flipped (has gone) y ≡ true = λ y h. elim (or_cases (eqb u y) _ h) [
      | inl e ↦ ap not (subst (λ z. has gone z ≡ false) (eqb-true u y e) fresh)
      | inr l ↦ ap not (alive y l)
    ] in
    counted_full (is_near left u) (flipped (has gone)) n sub (omega arith) x vx ∙ ap not out
