-- Tasks that stand in a list, and the first and the last of them that pass a test.
use Rattle.std.proofs.Common.{◌≡◌, ◌≢◌, ℕ, ◌-◌, ◌≤◌, Bool, true, false, cond, ◌||◌, eqb, eq-eqb, leb, ◌⊎◌, inl, inr, List, [], ◌∷◌, ◌++◌}
use Rattle.std.proofs.Common.{length, get_or, refl, sym, ap, ◌∙◌, arith}
use Rattle.std.specs.List.{count_by}
use Rattle.std.proofs.lemmas.Bool.{and_parts, cases_eq, ne_eqb, cases_lt, leb-true, cases_Bool}
use Rattle.std.proofs.lemmas.List.{get_or_past}
use Rattle.std.proofs.lemmas.List.Sums.{sum_by-cons, sum_by-append}
use Rattle.mp_system.specs.Memory.{stands_in}
use Rattle.mp_system.specs.Replay.{is_marked}

pub or_assoc : (a b c : Bool) → ((a || b) || c) ≡ (a || (b || c))
or_assoc true b c = refl
or_assoc false b c = refl

pub neither : (a b : Bool) → (a || b) ≡ false → (a ≡ false) × (b ≡ false)
neither false false e = (refl, refl)
neither false true e = absurd cc
neither true b e = absurd cc

-- what stands in a list, before and after one of its tasks
pub stands_in-head : (v : ℕ) (rest : List ℕ) → stands_in (v ∷ rest) v ≡ true
stands_in-head v rest = rw (eq-eqb v v refl) refl

pub stands_in-append : (xs ys : List ℕ) (v : ℕ) → stands_in (xs ++ ys) v ≡ (stands_in xs v || stands_in ys v)
stands_in-append [] ys v = refl
stands_in-append (x ∷ xs) ys v = ap (λ (b : Bool). eqb x v || b) (stands_in-append xs ys v) ∙ sym (or_assoc (eqb x v) (stands_in xs v) (stands_in ys v))

-- a list is split at a task that stands in it
pub record Split (xs : List ℕ) (v : ℕ) : Type 0 where
  pub before : List ℕ
  pub rest : List ℕ
  pub split : xs ≡ before ++ v ∷ rest

pub split_at : (xs : List ℕ) (v : ℕ) → stands_in xs v ≡ true → Split xs v
split_at [] v e = absurd cc
split_at (x ∷ xs) v e = elim (cases_eq x v) [
  | inl same ↦ record { before = []; rest = xs; split = ap (λ (y : ℕ). y ∷ xs) same }
  | inr other ↦ (
      let later = split_at xs v (let e' : stands_in xs v ≡ true = rw (ne_eqb x v other) at e in e') in
      record { before = x ∷ later.before; rest = later.rest; split = ap (λ (l : List ℕ). x ∷ l) later.split })
]

-- ---- the first and the last task that passes a test

pub record FirstOf (test : ℕ → Bool) (xs : List ℕ) : Type 0 where
  pub before : List ℕ
  pub task : ℕ
  pub rest : List ℕ
  pub split : xs ≡ before ++ task ∷ rest
  pub passes : test task ≡ true
  pub none : (u : ℕ) → stands_in before u ≡ true → test u ≡ false

pub record LastOf (test : ℕ → Bool) (xs : List ℕ) : Type 0 where
  pub before : List ℕ
  pub task : ℕ
  pub rest : List ℕ
  pub split : xs ≡ before ++ task ∷ rest
  pub passes : test task ≡ true
  pub none : (u : ℕ) → stands_in rest u ≡ true → test u ≡ false

none_cons : (test : ℕ → Bool) (x : ℕ) (xs : List ℕ) → test x ≡ false → ((u : ℕ) → stands_in xs u ≡ true → test u ≡ false)
    → (u : ℕ) → stands_in (x ∷ xs) u ≡ true → test u ≡ false
none_cons test x xs here later u e = elim (cases_eq x u) [
  | inl same ↦ rw (← same) here
  | inr other ↦ later u (let e' : stands_in xs u ≡ true = rw (ne_eqb x u other) at e in e')
]

first_cons : (test : ℕ → Bool) (x : ℕ) (xs : List ℕ) → test x ≡ false → FirstOf test xs → FirstOf test (x ∷ xs)
first_cons test x xs fails later = record {
  before = x ∷ later.before;
  task = later.task;
  rest = later.rest;
  split = ap (λ (l : List ℕ). x ∷ l) later.split;
  passes = later.passes;
  none = none_cons test x later.before fails later.none;
}

pub first_of : (test : ℕ → Bool) (xs : List ℕ) (v : ℕ) → stands_in xs v ≡ true → test v ≡ true → FirstOf test xs
first_of test [] v stands passes = absurd cc
first_of test (x ∷ xs) v stands passes = elim (cases_Bool (test x)) [
  | inl passed ↦ record { before = []; task = x; rest = xs; split = refl; passes = passed; none = λ u e. absurd cc }
  | inr failed ↦ (
      let other : x ≢ v = λ same. (let e : test x ≡ true = ap test same ∙ passes in let f : true ≡ false = sym e ∙ failed in cc) in
      let stands_later : stands_in xs v ≡ true = rw (ne_eqb x v other) at stands in
      first_cons test x xs failed (first_of test xs v stands_later passes))
]

any_or_none : (test : ℕ → Bool) (xs : List ℕ) → LastOf test xs ⊎ ((u : ℕ) → stands_in xs u ≡ true → test u ≡ false)
any_or_none test [] = inr (λ u e. absurd cc)
any_or_none test (x ∷ xs) = elim (any_or_none test xs) [
  | inl last ↦ inl (record { before = x ∷ last.before; task = last.task; rest = last.rest; split = ap (λ (l : List ℕ). x ∷ l) last.split; passes = last.passes; none = last.none })
  | inr none ↦ elim (cases_Bool (test x)) [
    | inl passed ↦ inl (record { before = []; task = x; rest = xs; split = refl; passes = passed; none = none })
    | inr failed ↦ inr (none_cons test x xs failed none)
  ]
]

pub last_of : (test : ℕ → Bool) (xs : List ℕ) (v : ℕ) → stands_in xs v ≡ true → test v ≡ true → LastOf test xs
last_of test xs v stands passes = elim (any_or_none test xs) [
  | inl last ↦ last
  | inr none ↦ absurd (let f : true ≡ false = sym passes ∙ none v stands in cc)
]

-- ---- counts

pub counted : (xs : List ℕ) (v : ℕ) → 1 ≤ count_by (λ u. eqb u v) xs → stands_in xs v ≡ true
counted [] v some = absurd (omega arith)
counted (x ∷ xs) v some = elim (cases_eq x v) [
  | inl same ↦ rw (eq-eqb x v same) refl
  | inr other ↦ (
      let none : ◌≡◌ {A = ℕ} (cond (eqb x v) 1 0) 0 = rw (ne_eqb x v other) refl in
      rw (ne_eqb x v other) (counted xs v (omega (arith, none, sum_by-cons (λ u. cond (eqb u v) 1 0) x xs))))
]

stood : (xs : List ℕ) (v : ℕ) → stands_in xs v ≡ true → 1 ≤ count_by (λ u. eqb u v) xs
stood [] v e = absurd cc
stood (x ∷ xs) v e = elim (cases_eq x v) [
  | inl same ↦ (
      let one : ◌≡◌ {A = ℕ} (cond (eqb x v) 1 0) 1 = rw (eq-eqb x v same) refl in
      omega (arith, one, sum_by-cons (λ u. cond (eqb u v) 1 0) x xs))
  | inr other ↦ (
      let e' : stands_in xs v ≡ true = rw (ne_eqb x v other) at e in
      omega (arith, stood xs v e', sum_by-cons (λ u. cond (eqb u v) 1 0) x xs))
]

-- a task that stands once stands neither before nor after itself
pub record Alone (done left : List ℕ) (v : ℕ) : Type 0 where
  pub before : stands_in done v ≡ false
  pub after : stands_in left v ≡ false

pub alone : (before rest : List ℕ) (v : ℕ) → count_by (λ u. eqb u v) (before ++ v ∷ rest) ≡ 1 → Alone before rest v
alone before rest v once =
    let parts = sum_by-append (λ u. cond (eqb u v) 1 0) before (v ∷ rest) in
    let here : ◌≡◌ {A = ℕ} (cond (eqb v v) 1 0) 1 = rw (eq-eqb v v refl) refl in
    let more = sum_by-cons (λ u. cond (eqb u v) 1 0) v rest in
    record {
      before = elim (cases_Bool (stands_in before v)) [ inl passed ↦ absurd (omega (arith, once, parts, here, more, stood before v passed)) | inr failed ↦ failed ];
      after = elim (cases_Bool (stands_in rest v)) [ inl passed ↦ absurd (omega (arith, once, parts, here, more, stood rest v passed)) | inr failed ↦ failed ];
    }

-- ---- marks

-- what is marked is a task's
pub marked_within : (marks : List Bool) (v : ℕ) → is_marked marks v ≡ true → (1 ≤ v) × (v ≤ length marks)
marked_within marks v e =
    let parts = and_parts (leb 1 v) (get_or marks (v - 1) false) e in
    let low = leb-true 1 v parts.0 in (
      low,
      elim (cases_lt (v - 1) (length marks)) [
        | inl within ↦ omega arith
        | inr past ↦ absurd (let f : true ≡ false = sym parts.1 ∙ get_or_past marks (v - 1) false past in cc)
      ],
    )
