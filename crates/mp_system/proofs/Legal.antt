-- An order without a fault is a traversal, and the other way round.
use Rattle.std.proofs.Common.{◌≡◌, ℕ, ◌+◌, ◌≤◌, Bool, true, false, cond, not, ◌||◌, eqb, eq-eqb, List, [], ◌∷◌, ◌++◌, length}
use Rattle.std.proofs.Common.{append_assoc, length-append, refl, sym, ap, subst, ◌∙◌, arith, Option, Some, None, inl, inr}
use Rattle.std.specs.Prelude.{All}
use Rattle.std.specs.Option.{option_map_or}
use Rattle.std.proofs.lemmas.List.{append-nil}
use Rattle.std.proofs.lemmas.List.Folds.{list_any-append}
use Rattle.std.proofs.lemmas.List.Sums.{sum_by-append}
use Rattle.std.proofs.lemmas.List.Elements.{All-head, All-tail, All-nil, All-cons}
use Rattle.std.proofs.lemmas.Bool.{cases_eq, ne_eqb, and_parts, leb-true, le-leb, lt-ltb, le-ltb, cases_Bool, cases_lt}
use Rattle.std.proofs.Math.Bool.{or-true}
use Rattle.mp_system.specs.declared.system.OrderKind.{OrderKind}
use Rattle.mp_system.specs.declared.system.OrderKind.TheVariants.{Unknown, Repeated, TooEarly, Missing}
use Rattle.mp_system.specs.System.{TaskSystem, IsTask}
use Rattle.mp_system.specs.Memory.{stands_in, is_ready}
use Rattle.mp_system.specs.Traversal.{IsTraversal, is_task, fault_of, first_fault, first_fault_after}
use Rattle.lists.proofs.Bools.{or_false}
use Rattle.mp_system.proofs.Counts.{count_of, count_of-cons, counted, once-from_length, length-from_once}

-- ---- what stands in a list with one more task

eqb_comm : (u v : ℕ) → eqb u v ≡ eqb v u
eqb_comm u v = elim (cases_eq u v) [
  | inl same ↦ eq-eqb u v same ∙ sym (eq-eqb v u (sym same))
  | inr other ↦ ne_eqb u v other ∙ sym (ne_eqb v u (λ e. other (sym e)))
]

pub stands_in-push : (before : List ℕ) (v u : ℕ) → stands_in (before ++ v ∷ []) u ≡ (stands_in before u || eqb u v)
stands_in-push before v u =
    list_any-append (λ w. eqb w u) before (v ∷ []) ∙ ap (λ (b : Bool). stands_in before u || b) (or_false (eqb v u) ∙ eqb_comm v u)

-- ---- one task

-- the task can come next
pub record CanFollow (system : TaskSystem) (before : List ℕ) (v : ℕ) : Type 0 where
  pub task : IsTask system v
  pub fresh : stands_in before v ≡ false
  pub ready : is_ready system (stands_in before) v ≡ true

is_task-true : (system : TaskSystem) (v : ℕ) → is_task system v ≡ true → IsTask system v
is_task-true system v e = let parts = and_parts _ _ e in (leb-true 1 v parts.0, leb-true v (length system.tasks) parts.1)

pub true-is_task : (system : TaskSystem) (v : ℕ) → IsTask system v → is_task system v ≡ true
true-is_task system v task = rw (le-leb 1 v task.0, le-leb v (length system.tasks) task.1)

no_fault : (task done ready : Bool)
    → ◌≡◌ {A = Option OrderKind} (cond (not task) (Some Unknown) (cond done (Some Repeated) (cond (not ready) (Some TooEarly) None))) None
    → (task ≡ true) × (done ≡ false) × (ready ≡ true)
no_fault false done ready e = absurd cc
no_fault true true ready e = absurd cc
no_fault true false false e = absurd cc
no_fault true false true e = (refl, refl, refl)

pub can_follow : (system : TaskSystem) (before : List ℕ) (v : ℕ) → fault_of system (stands_in before) v ≡ None → CanFollow system before v
can_follow system before v none =
    let tests = no_fault (is_task system v) (stands_in before v) (is_ready system (stands_in before) v) none in
    record { task = is_task-true system v tests.0; fresh = tests.1; ready = tests.2 }

pub none-fault_of : (system : TaskSystem) (before : List ℕ) (v : ℕ)
    → CanFollow system before v → fault_of system (stands_in before) v ≡ None
none-fault_of system before v can = rw (true-is_task system v can.task, can.fresh, can.ready)

-- ---- one task after the other

IsLegal : TaskSystem → List ℕ → List ℕ → Type 0
IsLegal system before [] = Unit {0}
IsLegal system before (v ∷ rest) = CanFollow system before v × IsLegal system (before ++ v ∷ []) rest

both_none : {T U : Type 0} (f : T → U) (o : Option T) (d : Option U) → option_map_or (λ k. Some (f k)) o d ≡ None → (o ≡ None) × (d ≡ None)
both_none f None d e = (refl, e)
both_none f (Some k) d e = absurd cc

longer : (before : List ℕ) (v : ℕ) → length (before ++ v ∷ []) ≡ length before + 1
longer before v = length-append before (v ∷ [])

legal-from_none : (system : TaskSystem) (before rest : List ℕ) → first_fault_after system before rest ≡ None
    → IsLegal system before rest × (length system.tasks ≤ length before + length rest)
unfolding IsLegal
legal-from_none system before [] none = (
  tt,
  elim (cases_lt (length before) (length system.tasks)) [
    | inl few ↦
        absurd (let e : ◌≡◌ {A = Option (ℕ × OrderKind)} (Some (length before + 1, Missing)) None = rw (lt-ltb _ _ few) at none in cc)
    | inr enough ↦ omega arith
  ],
)
legal-from_none system before (v ∷ rest) none =
    let parts = both_none (λ kind. (length before + 1, kind)) (fault_of system (stands_in before) v)
    (first_fault_after system (before ++ v ∷ []) rest) none in
    let later = legal-from_none system (before ++ v ∷ []) rest parts.1 in
    ((can_follow system before v parts.0, later.0), omega (arith, later.1, longer before v))

none-from_legal : (system : TaskSystem) (before rest : List ℕ) → IsLegal system before rest
    → length system.tasks ≤ length before + length rest → first_fault_after system before rest ≡ None
unfolding IsLegal
none-from_legal system before [] legal enough = rw (le-ltb (length before) (length system.tasks) (omega arith))
none-from_legal system before (v ∷ rest) legal enough =
    rw (none-fault_of system before v legal.0) (none-from_legal system (before ++ v ∷ []) rest legal.1 (omega (arith, longer before v)))

legal-tasks : (system : TaskSystem) (before rest : List ℕ) → IsLegal system before rest → All (IsTask system) rest
unfolding IsLegal
legal-tasks system before [] legal = All-nil (IsTask system)
legal-tasks system before (v ∷ rest) legal =
    All-cons (IsTask system) v rest legal.0.task (legal-tasks system (before ++ v ∷ []) rest legal.1)

record Few (before rest : List ℕ) (v : ℕ) : Type 0 where
  once : count_of rest v ≤ 1
  stood : stands_in before v ≡ true → count_of rest v ≡ 0

legal-few : (system : TaskSystem) (before rest : List ℕ) (v : ℕ) → IsLegal system before rest → Few before rest v
unfolding IsLegal
legal-few system before [] v legal = record { once = omega arith; stood = λ e. refl }
legal-few system before (x ∷ rest) v legal =
    let later = legal-few system (before ++ x ∷ []) rest v legal.1 in
    elim (cases_eq x v) [
      | inl same ↦ (
          let one : ◌≡◌ {A = ℕ} (cond (eqb x v) 1 0) 1 = rw (eq-eqb x v same) in
          let there : stands_in (before ++ x ∷ []) v ≡ true =
          stands_in-push before x v ∙ rw (eq-eqb v x (sym same)) (or-true (stands_in before v)) in
          record {
            once = omega (arith, one, count_of-cons x rest v, later.stood there);
            stood = λ e. absurd (let fresh : stands_in before v ≡ false = ap (stands_in before) (sym same) ∙ legal.0.fresh in cc);
          }
          )
      | inr other ↦ (
          let none : ◌≡◌ {A = ℕ} (cond (eqb x v) 1 0) 0 = rw (ne_eqb x v other) in
          record {
            once = omega (arith, none, count_of-cons x rest v, later.once);
            stood = λ e. omega (arith, none, count_of-cons x rest v, later.stood (stands_in-push before x v ∙ rw e));
          }
          )
    ]

legal-ready : (system : TaskSystem) (done before : List ℕ) (v : ℕ) (rest : List ℕ)
    → IsLegal system done (before ++ v ∷ rest) → is_ready system (stands_in (done ++ before)) v ≡ true
unfolding IsLegal
legal-ready system done [] v rest legal = rw append-nil (legal.0.ready)
legal-ready system done (x ∷ before) v rest legal =
    rw (← append_assoc done (x ∷ []) before) (legal-ready system (done ++ x ∷ []) before v rest legal.1)

-- ---- the law

pub traversal-from_none : (system : TaskSystem) (order : List ℕ) → first_fault system order ≡ None → IsTraversal system order
traversal-from_none system order none =
    let legal = legal-from_none system [] order none in
    let tasks = legal-tasks system [] order legal.0 in
    record {
      once = λ v task. once-from_length (length system.tasks) order tasks
          (λ u. (legal-few system [] order u legal.0).once) (omega (arith, legal.1)) v task.0 task.1;
      tasks = tasks;
      after_suppliers = λ before rest v split. legal-ready system [] before v rest (subst (IsLegal system []) split legal.0);
    }

module _ (system : TaskSystem) (order : List ℕ) (traversal : IsTraversal system order) where
  fresh-once : (before rest : List ℕ) (v : ℕ) → order ≡ before ++ v ∷ rest → IsTask system v → stands_in before v ≡ false
  fresh-once before rest v split task = elim (cases_Bool (stands_in before v)) [
    | inl stood ↦ absurd (
        let parts = sum_by-append (λ u. cond (eqb u v) 1 0) before (v ∷ rest) in
        let here : ◌≡◌ {A = ℕ} (cond (eqb v v) 1 0) 1 = rw (eq-eqb v v refl) in
        omega (
          arith,
          parts,
          here,
          count_of-cons v rest v,
          counted before v stood,
          traversal.once v task,
          ap (λ (l : List ℕ). count_of l v) split,
        ))
    | inr fresh ↦ fresh
  ]

  legal-from_traversal : (before rest : List ℕ) → order ≡ before ++ rest → All (IsTask system) rest → IsLegal system before rest
  unfolding IsLegal
  legal-from_traversal before [] split tasks = tt
  legal-from_traversal before (v ∷ rest) split tasks =
      let task = All-head (IsTask system) v rest tasks in (
        record { task = task; fresh = fresh-once before rest v split task; ready = traversal.after_suppliers before rest v split },
        legal-from_traversal (before ++ v ∷ []) rest
            (split ∙ sym (append_assoc before (v ∷ []) rest)) (All-tail (IsTask system) v rest tasks),
      )

  pub traversal-length : length order ≡ length system.tasks
  traversal-length = length-from_once (length system.tasks) order traversal.tasks (λ v low high. traversal.once v (low, high))

  pub none-from_traversal : first_fault system order ≡ None
  none-from_traversal =
      none-from_legal system [] order (legal-from_traversal [] order refl traversal.tasks) (omega (arith, traversal-length))
