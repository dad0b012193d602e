-- The names of one system's tasks are the tasks of the other, each once.
use Rattle.std.proofs.Common.{◌≡◌, ℕ, zero, suc, ◌+◌, ◌-◌, ◌<◌, ◌≤◌, cond, eqb, eq-eqb, List, []}
use Rattle.std.proofs.Common.{◌∷◌, length, get_or, refl, sym, ap, subst, ◌∙◌, arith, inl, inr}
use Rattle.std.proofs.Math.ListN.{get_or-eq_default}
use Rattle.std.proofs.lemmas.List.{get_or-map, length-map}
use Rattle.std.proofs.lemmas.List.Elements.{All-get_or}
use Rattle.std.proofs.lemmas.List.Folds.{list_any_at}
use Rattle.std.proofs.lemmas.Bool.{cases_eq, cases_lt, ne_eqb}
use Rattle.mp_system.specs.System.{TaskSystem, IsTask, task_at}
use Rattle.mp_system.specs.Renaming.{name_in, IsRenamed}
use Rattle.mp_system.proofs.Counts.{count_of, count_of-cons, counted, length-from_once}

-- ---- lists

counted_at : (xs : List ℕ) (v i : ℕ) → i < length xs → get_or xs i 0 ≡ v → 1 ≤ count_of xs v
counted_at xs v i lt here = counted xs v (list_any_at (λ u. eqb u v) xs i 0 lt (eq-eqb (get_or xs i 0) v here))

-- a number that stands once has one place
same_place : (xs : List ℕ) (v i j : ℕ) → count_of xs v ≤ 1 → i < length xs → j < length xs → get_or xs i 0 ≡ v → get_or xs j 0 ≡ v → i ≡ j
same_place [] v i j few i_lt j_lt at_i at_j = absurd (omega arith)
same_place (x ∷ xs) v zero zero few i_lt j_lt at_i at_j = refl
same_place (x ∷ xs) v zero (suc j) few i_lt j_lt at_i at_j =
    let one : ◌≡◌ {A = ℕ} (cond (eqb x v) 1 0) 1 = rw (eq-eqb x v at_i) in
    absurd (omega (arith, one, count_of-cons x xs v, counted_at xs v j (omega arith) at_j))
same_place (x ∷ xs) v (suc i) zero few i_lt j_lt at_i at_j =
    let one : ◌≡◌ {A = ℕ} (cond (eqb x v) 1 0) 1 = rw (eq-eqb x v at_j) in
    absurd (omega (arith, one, count_of-cons x xs v, counted_at xs v i (omega arith) at_i))
same_place (x ∷ xs) v (suc i) (suc j) few i_lt j_lt at_i at_j =
    ap suc (same_place xs v i j (omega (arith, count_of-cons x xs v)) (omega arith) (omega arith) at_i at_j)

-- a number that is counted has a place
place : (xs : List ℕ) (v : ℕ) → 1 ≤ count_of xs v → (i : ℕ) × (i < length xs) × (get_or xs i 0 ≡ v)
place [] v some = absurd (omega arith)
place (x ∷ xs) v some = elim (cases_eq x v) [
  | inl same ↦ (0, omega arith, same)
  | inr other ↦ (
      let none : ◌≡◌ {A = ℕ} (cond (eqb x v) 1 0) 0 = rw (ne_eqb x v other) in
      let later = place xs v (omega (arith, none, count_of-cons x xs v)) in
      (suc later.0, omega (arith, later.1), later.2)
      )
]

-- ---- names

pub same_eqb : (names : List ℕ) (u v : ℕ) → (name_in names u ≡ name_in names v → u ≡ v) → eqb (name_in names u) (name_in names v) ≡ eqb u v
same_eqb names u v back = elim (cases_eq u v) [
  | inl same ↦ eq-eqb (name_in names u) (name_in names v) (ap (name_in names) same) ∙ sym (eq-eqb u v same)
  | inr other ↦ ne_eqb (name_in names u) (name_in names v) (λ e. other (back e)) ∙ sym (ne_eqb u v other)
]

-- the name of a number that is not 0
name_at : (names : List ℕ) (k : ℕ) → 1 ≤ k → name_in names k ≡ get_or names (k - 1) 0
name_at names k low = rw (ne_eqb k 0 (λ e. omega arith))

module _ (names : List ℕ) (own named : TaskSystem) (same : IsRenamed names own named) where
  own_length : length own.tasks ≡ length names
  own_length = ap length same.tasks ∙ length-map names (task_at named)

  named_length : length names ≡ length named.tasks
  named_length = length-from_once (length named.tasks) names same.within (λ v low high. same.once v (low, high))

  -- a task's name is a task
  pub task_name : (k : ℕ) → IsTask own k → IsTask named (name_in names k)
  task_name k task = subst (IsTask named) (sym (name_at names k task.0))
      (All-get_or (IsTask named) names (k - 1) 0 (omega (arith, own_length)) same.within)

  -- and nothing else has a task's name
  pub name_task : (k : ℕ) → IsTask named (name_in names k) → IsTask own k
  name_task k task = elim (cases_eq k 0) [
    | inl none ↦ absurd (let zero_is : name_in names k ≡ 0 = rw (eq-eqb k 0 none) in omega (arith, task.0, zero_is))
    | inr some ↦ elim (cases_lt (length names) k) [
      | inl past ↦ absurd (omega (arith, task.0, name_at names k (omega arith), get_or-eq_default names 0 {n = k - 1} (omega arith)))
      | inr within ↦ (omega arith, omega (arith, own_length))
    ]
  ]

  -- two numbers with one task's name are one
  pub name_once : (u v : ℕ) → IsTask own v → name_in names u ≡ name_in names v → u ≡ v
  name_once u v task e =
      let task_u : IsTask own u = name_task u (subst (IsTask named) (sym e) (task_name v task)) in
      let places = same_place names (name_in names v) (u - 1) (v - 1)
      (omega (arith, same.once (name_in names v) (task_name v task))) (omega (arith, own_length)) (omega (arith, own_length))
      (sym (name_at names u task_u.0) ∙ e) (sym (name_at names v task.0)) in
      omega (arith, places, task.0, task_u.0)

  -- each task has its number in the other system
  pub named_task : (v : ℕ) → IsTask named v → (k : ℕ) × IsTask own k × (name_in names k ≡ v)
  named_task v task =
      let there = place names v (omega (arith, same.once v task)) in
      let here : there.0 + 1 - 1 ≡ there.0 = omega arith in (
        there.0 + 1,
        (omega arith, omega (arith, own_length, there.1)),
        name_at names (there.0 + 1) (omega arith) ∙ ap (λ (i : ℕ). get_or names i 0) here ∙ there.2,
      )

  pub task_same : (v : ℕ) → IsTask own v → task_at named (name_in names v) ≡ task_at own v
  task_same v task =
      ap (task_at named) (name_at names v task.0)
      ∙ sym (get_or-map (task_at named) names (v - 1) 0 (record { extra = 0; share = 0; time = 0 }) (omega (arith, own_length)))
      ∙ sym (ap (λ l. get_or l (v - 1) (record { extra = 0; share = 0; time = 0 })) same.tasks)
