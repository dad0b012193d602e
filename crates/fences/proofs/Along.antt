-- The memories along a traversal are those of moments: at most one task runs.
use Rattle.std.proofs.Common.{◌≡◌, ℕ, ◌≤◌, true, false, cond, eqb, eq-eqb, List, [], ◌∷◌, ◌++◌, append_assoc, length, refl, subst, sym, ap, ◌∙◌, arith, inl, inr, ⊎_elim}
use Rattle.std.specs.Prelude.{All, count_by}
use Rattle.std.specs.List.{sum_by}
use Rattle.std.proofs.lemmas.List.Elements.{All-head, All-tail}
use Rattle.std.proofs.lemmas.List.Sums.{sum_by-cons, sum_by-append}
use Rattle.std.proofs.lemmas.List.Folds.{list_any-append}
use Rattle.std.proofs.lemmas.Bool.{or_cases, or_left, eqb-true, cases_Bool}
use Rattle.mp_system.specs.System.{TaskSystem, IsTask, IsItemWithin, need_of}
use Rattle.mp_system.specs.Memory.{stands_in, is_ready}
use Rattle.mp_system.specs.Peak.{IsMemoryAlong}
use Rattle.mp_system.specs.Traversal.{IsTraversal}
use Rattle.fences.specs.Moments.{IsMoment, numbers_of}
use Rattle.fences.specs.Amounts.{AreHandedOn, certified_bound}
use Rattle.fences.proofs.Going.{ReadyMore}
use Rattle.fences.proofs.Swaps.{count_of, once_in_range}
use Rattle.fences.proofs.Cuts.{used-le}

-- what stands in a list stands at a place
pub stands_split : (tasks : List ℕ) (v : ℕ) → stands_in tasks v ≡ true → (a b : List ℕ) × (tasks ≡ a ++ v ∷ b)
stands_split [] v e = absurd cc
stands_split (u ∷ tasks) v e =
    ⊎_elim
    (λ s. ([], tasks, ap (λ w. w ∷ tasks) (eqb-true u v s)))
    (λ r. let later = stands_split tasks v r in (u ∷ later.0, later.1, ap (λ (l : List ℕ). u ∷ l) later.2))
    (or_cases (eqb u v) (stands_in tasks v) e)

pub counted : (xs : List ℕ) (v : ℕ) → stands_in xs v ≡ true → 1 ≤ count_by (λ u. eqb u v) xs
counted [] v e = absurd cc
counted (x ∷ xs) v e =
    ⊎_elim
    (λ s. let one : ◌≡◌ {A = ℕ} (cond (eqb x v) 1 0) 1 = rw s in omega (arith, one, sum_by-cons (λ u. cond (eqb u v) 1 0) x xs))
    (λ r. omega (arith, counted xs v r, sum_by-cons (λ u. cond (eqb u v) 1 0) x xs))
    (or_cases (eqb x v) (stands_in xs v) e)

-- the need of one task is among the sum over all
need_among : (f : ℕ → ℕ) (v : ℕ) (ns : List ℕ) → count_of ns v ≡ 1 → f v ≤ sum_by (λ u. cond (eqb u v) (f u) 0) ns
need_among f v [] one = absurd (omega (arith, one))
need_among f v (x ∷ xs) one =
    ⊎_elim
    (λ s. let same : v ≡ x = eqb-true v x s in let here : cond (eqb x v) (f x) 0 ≡ f v = rw (eq-eqb x v (sym same), same) refl in
    omega (arith, here, sum_by-cons (λ u. cond (eqb u v) (f u) 0) x xs))
    (λ r. let none : ◌≡◌ {A = ℕ} (cond (eqb v x) 1 0) 0 = rw r in
    omega (arith, need_among f v xs (omega (arith, none, one, sum_by-cons (λ u. cond (eqb v u) 1 0) x xs)), sum_by-cons (λ u. cond (eqb u v) (f u) 0) x xs))
    (cases_Bool (eqb v x))

pub task_of : (system : TaskSystem) (before rest : List ℕ) (v : ℕ) → All (IsTask system) (before ++ v ∷ rest) → IsTask system v
task_of system [] rest v all = All-head (IsTask system) v rest all
task_of system (u ∷ before) rest v all = task_of system before rest v (All-tail (IsTask system) u (before ++ v ∷ rest) all)

none_used : (f : ℕ → ℕ) (ns : List ℕ) → sum_by (λ u. cond false (f u) 0) ns ≡ 0
none_used f [] = refl
none_used f (x ∷ xs) = omega (arith, sum_by-cons (λ u. cond false (f u) 0) x xs, none_used f xs)

module _ (more : ReadyMore) (system : TaskSystem) (order : List ℕ) (is : IsTraversal system order) where
  pub done_ready : (before rest : List ℕ) → order ≡ before ++ rest → (v : ℕ) → stands_in before v ≡ true → is_ready system (stands_in before) v ≡ true
  done_ready before rest split v e =
      let at = stands_split before v e in
      let whole : order ≡ at.0 ++ v ∷ (at.1 ++ rest) = split ∙ ap (λ (l : List ℕ). l ++ rest) at.2 ∙ append_assoc at.0 (v ∷ at.1) rest in
      let grows : (u : ℕ) → stands_in at.0 u ≡ true → stands_in before u ≡ true =
      λ u h. ap (λ (l : List ℕ). stands_in l u) at.2 ∙ list_any-append (λ w. eqb w u) at.0 (v ∷ at.1) ∙ or_left (stands_in at.0 u) (stands_in (v ∷ at.1) u) h in
      more system (stands_in at.0) (stands_in before) v grows (is.after_suppliers at.0 (at.1 ++ rest) v whole)

  state_is : (before rest : List ℕ) → order ≡ before ++ rest → IsMoment system (record { done = stands_in before; running = λ _. false })
  state_is before rest split = record { once = λ v e. absurd cc; running_ready = λ v e. absurd cc; done_ready = done_ready before rest split }

  module _ (before rest : List ℕ) (v : ℕ) (split : order ≡ before ++ v ∷ rest) where
    task : IsTask system v
    task = task_of system before rest v (subst (All (IsTask system)) split is.tasks)

    fresh : stands_in before v ≡ false
    fresh =
        let test : ℕ → ℕ = λ u. cond (eqb u v) 1 0 in
        let here : ◌≡◌ {A = ℕ} (cond (eqb v v) 1 0) 1 = rw (eq-eqb v v refl) in
        ⊎_elim
        (λ s. absurd (omega (arith, here, counted before v s, is.once v task, ap (sum_by test) split, sum_by-append test before (v ∷ rest), sum_by-cons test v rest)))
        (λ n. n)
        (cases_Bool (stands_in before v))

    running_is : IsMoment system (record { done = stands_in before; running = λ u. eqb u v })
    running_is = record {
      once = λ u e. rw (eqb-true u v e) fresh;
      running_ready = λ u e. rw (eqb-true u v e) (is.after_suppliers before rest v split);
      done_ready = done_ready before (v ∷ rest) split;
    }

  pub along-le : (amounts : List ℕ) → All (IsItemWithin system) system.items → AreHandedOn system amounts → (memory : ℕ) → IsMemoryAlong system order memory → memory ≤ certified_bound system amounts
  along-le amounts within handed memory (inl (before, rest, split, is_memory)) =
      omega (arith, is_memory, used-le system amounts (record { done = stands_in before; running = λ _. false }) within handed (state_is before rest split), none_used (need_of system) (numbers_of system))
  along-le amounts within handed memory (inr (before, rest, v, split, is_memory)) =
      let v_task = task before rest v split in
      omega (
        arith,
        is_memory,
        used-le system amounts (record { done = stands_in before; running = λ u. eqb u v }) within handed (running_is before rest v split),
        need_among (need_of system) v (numbers_of system) (once_in_range 1 (length system.tasks) v v_task.0 (omega (arith, v_task.1))),
      )
