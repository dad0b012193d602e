-- The readers of an item: they rise, so each stands once; how many are left, and when none is.
use Rattle.std.proofs.Common.{◌≡◌, ℕ, ◌+◌, ◌<◌, ◌≤◌, Bool, true, false, cond, not, ◌&&◌, ◌||◌, eqb, eq-eqb, List, [], ◌∷◌, length}
use Rattle.std.proofs.Common.{refl, sym, ap, ◌∙◌, arith, inl, inr}
use Rattle.std.specs.Prelude.{count_by}
use Rattle.std.specs.List.{filter, list_any, list_all}
use Rattle.std.specs.List.Sorted.{IsStrictlyIncreasing}
use Rattle.std.proofs.lemmas.List.Sums.{sum_by-cons, length-filter}
use Rattle.std.proofs.lemmas.Bool.{cases_eq, cases_Bool, ne_eqb}
use Rattle.std.proofs.Math.Bool.{or-false}
use Rattle.std.proofs.Math.Path.{fun_ext}
use Rattle.lists.proofs.Lists.{rising-tail}
use Rattle.mp_system.specs.Step.{AddsTask}

-- ---- each stands once

none_before : (x : ℕ) (xs : List ℕ) → IsStrictlyIncreasing (x ∷ xs) → (t : ℕ) → t ≤ x → list_any (λ c. eqb c t) xs ≡ false
none_before x [] rising t le = refl
none_before x (y ∷ ys) rising t le =
    let up : x < y = rising 0 (omega arith) in
    rw (ne_eqb y t (λ e. omega arith)) (none_before y ys (rising-tail x (y ∷ ys) rising) t (omega arith))

pub filter_once : (xs : List ℕ) → IsStrictlyIncreasing xs → (t : ℕ)
    → filter (λ c. eqb c t) xs ≡ cond (list_any (λ c. eqb c t) xs) (t ∷ []) []
filter_once [] rising t = refl
filter_once (x ∷ xs) rising t =
    let rest = filter_once xs (rising-tail x xs rising) t in
    elim (cases_eq x t) [
      | inl same ↦
          let none : filter (λ c. eqb c t) xs ≡ [] =
          rest ∙ ap (λ (b : Bool). cond b (t ∷ []) []) (none_before x xs rising t (omega arith)) in
          rw (eq-eqb x t same, none) (ap (λ (k : ℕ). k ∷ []) same)
      | inr other ↦ rw (ne_eqb x t other) rest
    ]

pub count_once : (xs : List ℕ) → IsStrictlyIncreasing xs → (t : ℕ)
    → count_by (λ c. eqb c t) xs ≡ cond (list_any (λ c. eqb c t) xs) 1 0
count_once xs rising t =
    sym (length-filter (λ c. eqb c t) xs) ∙ ap (λ (ys : List ℕ). length ys) (filter_once xs rising t) ∙ one (list_any (λ c. eqb c t) xs)
  where
    one : (b : Bool) → length (cond b (t ∷ []) []) ≡ cond b 1 0
    one true = refl
    one false = refl

-- ---- how many are left

pub left_at_first : (to : List ℕ) → count_by (λ c. not false) to ≡ length to
left_at_first [] = refl
left_at_first (c ∷ to) = omega (arith, left_at_first to, sum_by-cons (λ (d : ℕ). cond (not false) 1 0) c to)

none_left : (done : ℕ → Bool) (to : List ℕ) → list_all done to ≡ eqb (count_by (λ c. not (done c)) to) 0
none_left done [] = refl
none_left done (c ∷ to) = elim (cases_Bool (done c)) [
  | inl is ↦
      let first : list_all done (c ∷ to) ≡ list_all done to = rw is refl in
      let none : ◌≡◌ {A = ℕ} (cond (not (done c)) 1 0) 0 = rw is refl in
      let same : count_by (λ d. not (done d)) to ≡ count_by (λ d. not (done d)) (c ∷ to) =
      omega (arith, none, sum_by-cons (λ d. cond (not (done d)) 1 0) c to) in
      first ∙ none_left done to ∙ ap (λ (n : ℕ). eqb n 0) same
  | inr off ↦
      let first : list_all done (c ∷ to) ≡ false = rw off refl in
      let one : ◌≡◌ {A = ℕ} (cond (not (done c)) 1 0) 1 = rw off refl in
      first
      ∙ sym (ne_eqb (count_by (λ d. not (done d)) (c ∷ to)) 0 (λ e. omega (arith, one, sum_by-cons (λ d. cond (not (done d)) 1 0) c to)))
]

module _ (done later : ℕ → Bool) (t : ℕ) (fresh : done t ≡ false) (adds : AddsTask done t later) where
  reader_later : (c : ℕ) → ◌≡◌ {A = ℕ} (cond (not (later c)) 1 0 + cond (eqb c t) 1 0) (cond (not (done c)) 1 0)
  reader_later c = elim (cases_eq c t) [
    | inl same ↦ rw (adds c, eq-eqb c t same, ap done same ∙ fresh) refl
    | inr other ↦ rw (adds c, ne_eqb c t other, or-false (done c)) (omega arith)
  ]

  -- one less where the task reads it
  pub left_later : (to : List ℕ) → count_by (λ c. not (later c)) to + count_by (λ c. eqb c t) to ≡ count_by (λ c. not (done c)) to
  left_later [] = refl
  left_later (c ∷ to) =
      omega (
        arith,
        reader_later c,
        left_later to,
        sum_by-cons (λ d. cond (not (later d)) 1 0) c to,
        sum_by-cons (λ d. cond (eqb d t) 1 0) c to,
        sum_by-cons (λ d. cond (not (done d)) 1 0) c to,
      )

  -- the task is the last reader where one was left
  pub last_is : (to : List ℕ) → IsStrictlyIncreasing to →
      (list_any (λ c. eqb c t) to && list_all (λ c. done c || eqb c t) to)
      ≡ (list_any (λ c. eqb c t) to && eqb (count_by (λ c. not (done c)) to) 1)
  last_is to rising = elim (cases_Bool (list_any (λ c. eqb c t) to)) [
    | inl reads ↦
        let once : ◌≡◌ {A = ℕ} (cond (list_any (λ c. eqb c t) to) 1 0) 1 = rw reads refl in
        let less : count_by (λ c. not (done c)) to ≡ count_by (λ c. not (later c)) to + 1 =
        omega (arith, left_later to, count_once to rising t, once) in
        let same : list_all (λ c. done c || eqb c t) to ≡ list_all later to =
        sym (ap (λ (f : ℕ → Bool). list_all f to) (all_adds)) in
        rw (reads, same, none_left later to, less) (up (count_by (λ c. not (later c)) to))
    | inr off ↦ rw off refl
  ]
    where
      all_adds : later ≡ (λ c. done c || eqb c t)
      all_adds = fun_ext adds

      up : (n : ℕ) → eqb n 0 ≡ eqb (n + 1) 1
      up n = elim (cases_eq n 0) [
        | inl e ↦ rw (eq-eqb n 0 e, eq-eqb (n + 1) 1 (omega arith)) refl
        | inr o ↦ rw (ne_eqb n 0 o, ne_eqb (n + 1) 1 (λ e. o (omega arith))) refl
      ]
