-- Orders without the collectors.
use Rattle.std.proofs.Common.{◌≡◌, ℕ, ◌+◌, ◌≤◌, Bool, true, false, cond, ◌||◌, eqb, leb, List, [], ◌∷◌, ◌++◌, length}
use Rattle.std.proofs.Common.{length-append, append_assoc, refl, sym, ap, subst, ◌∙◌, arith, inl, inr}
use Rattle.std.specs.Prelude.{All, count_by, replicate}
use Rattle.std.proofs.lemmas.List.{append-nil}
use Rattle.std.proofs.lemmas.List.Folds.{list_any-append}
use Rattle.std.proofs.lemmas.List.Sums.{sum_by-cons}
use Rattle.std.proofs.lemmas.List.Elements.{All-head, All-tail, All-nil, All-cons, filter-append}
use Rattle.std.proofs.lemmas.Bool.{cases_Bool, ne_eqb, eqb-true, leb-true, leb-false, or_left}
use Rattle.mp_system.specs.System.{TaskSystem, IsTask}
use Rattle.mp_system.specs.Memory.{is_ready, state_memory, stands_in, peak_from, peak_of}
use Rattle.mp_system.specs.Traversal.{IsTraversal}
use Rattle.shared_systems.specs.Shared.{SharedTaskSystem, HasTask}
use Rattle.shared_systems.specs.SharedMemory.{shared_memory, has_inputs, shared_peak_from, shared_peak_of}
use Rattle.shared_systems.specs.SharedTraversal.{IsSharedTraversal}
use Rattle.shared_systems.specs.Collected.{is_shared, collector, collected, dropped}
use Rattle.shared_systems.specs.Bounds.{IsSharedItemWithin}
use Rattle.shared_systems.proofs.States.{memory_below, need_same, ready_same, memory_same, has_inputs_same}

-- ---- what stands in a list

pub record Stood (before : List ℕ) (u : ℕ) : Type 0 where
  pub first : List ℕ
  pub last : List ℕ
  pub split : before ≡ first ++ u ∷ last

stood_more : (x u : ℕ) (before : List ℕ) → Stood before u → Stood (x ∷ before) u
stood_more x u before there = record { first = x ∷ there.first; last = there.last; split = ap (λ (l : List ℕ). x ∷ l) there.split }

pub stood : (before : List ℕ) (u : ℕ) → stands_in before u ≡ true → Stood before u
stood [] u e = absurd cc
stood (x ∷ before) u e = elim (cases_Bool (eqb x u)) [
  | inl here ↦ record { first = []; last = before; split = ap (λ (w : ℕ). w ∷ before) (eqb-true x u here) }
  | inr other ↦ stood_more x u before (stood before u (let e' : stands_in before u ≡ true = rw other at e in e'))
]

-- in the states of a traversal every done task was ready
pub traversal_closed : ((system : TaskSystem) (done later : ℕ → Bool) (v : ℕ)
    → ((u : ℕ) → done u ≡ true → later u ≡ true) → is_ready system done v ≡ true → is_ready system later v ≡ true)
    → (system : TaskSystem) (order before rest : List ℕ) → IsTraversal system order → order ≡ before ++ rest
    → (u : ℕ) → stands_in before u ≡ true → is_ready system (stands_in before) u ≡ true
traversal_closed stays system order before rest traversal split u e =
    let there = stood before u e in
    let whole : order ≡ there.first ++ u ∷ (there.last ++ rest) =
    split ∙ ap (λ (l : List ℕ). l ++ rest) there.split ∙ append_assoc there.first (u ∷ there.last) rest in
    stays system (stands_in there.first) (stands_in before) u
    (λ w h. ap (λ (l : List ℕ). stands_in l w) there.split ∙ list_any-append (λ z. eqb z w) there.first (u ∷ there.last)
    ∙ or_left (stands_in there.first w) (stands_in (u ∷ there.last) w) h)
    (traversal.after_suppliers there.first (there.last ++ rest) u whole)

module _ (system : SharedTaskSystem) where
  -- ---- the order

  pub stands_dropped : (before : List ℕ) (u : ℕ) → u ≤ length system.tasks → stands_in (dropped system before) u ≡ stands_in before u
  stands_dropped [] u low = refl
  stands_dropped (x ∷ before) u low = elim (cases_Bool (leb x (length system.tasks))) [
    | inl kept ↦ rw kept (ap (λ (b : Bool). eqb x u || b) (stands_dropped before u low))
    | inr left ↦ rw (left, ne_eqb x u (λ e. omega (arith, leb-false x (length system.tasks) left))) (stands_dropped before u low)
  ]

  pub count_dropped : (order : List ℕ) (u : ℕ) → u ≤ length system.tasks
      → count_by (λ w. eqb w u) (dropped system order) ≡ count_by (λ w. eqb w u) order
  count_dropped [] u low = refl
  count_dropped (x ∷ order) u low = elim (cases_Bool (leb x (length system.tasks))) [
    | inl kept ↦ rw kept (omega (
      arith,
      sum_by-cons (λ w. cond (eqb w u) 1 0) x (dropped system order),
      sum_by-cons (λ w. cond (eqb w u) 1 0) x order,
      count_dropped order u low,
    ))
    | inr left ↦ rw left (
        let none : ◌≡◌ {A = ℕ} (cond (eqb x u) 1 0) 0 = rw (ne_eqb x u (λ e. omega (arith, leb-false x (length system.tasks) left))) in
        omega (arith, none, sum_by-cons (λ w. cond (eqb w u) 1 0) x order, count_dropped order u low))
  ]

  tasks_dropped : (order : List ℕ) → All (IsTask (collected system)) order → All (HasTask system) (dropped system order)
  tasks_dropped [] tasks = All-nil (HasTask system)
  tasks_dropped (x ∷ order) tasks =
      let here = All-head (IsTask (collected system)) x order tasks in
      let later = tasks_dropped order (All-tail (IsTask (collected system)) x order tasks) in
      elim (cases_Bool (leb x (length system.tasks))) [
        | inl kept ↦ rw kept (All-cons (HasTask system) x (dropped system order) (here.0, leb-true x (length system.tasks) kept) later)
        | inr left ↦ rw left later
      ]

  -- a list that is cut before v where the collectors are left out is cut there
  record Cut (order before : List ℕ) (v : ℕ) : Type 0 where
    first : List ℕ
    last : List ℕ
    split : order ≡ first ++ v ∷ last
    first_is : dropped system first ≡ before
    kept : v ≤ length system.tasks

  cut_here : (x v : ℕ) (order : List ℕ) → x ≡ v → leb x (length system.tasks) ≡ true → Cut (x ∷ order) [] v
  cut_here x v order same kept = record {
    first = [];
    last = order;
    split = ap (λ (w : ℕ). w ∷ order) same;
    first_is = refl;
    kept = omega (arith, leb-true x (length system.tasks) kept);
  }

  cut_kept : (x u v : ℕ) (order before : List ℕ) → x ≡ u
      → leb x (length system.tasks) ≡ true → Cut order before v → Cut (x ∷ order) (u ∷ before) v
  cut_kept x u v order before same kept there = record {
    first = x ∷ there.first;
    last = there.last;
    split = ap (λ (l : List ℕ). x ∷ l) there.split;
    first_is = rw kept (ap (λ (l : List ℕ). x ∷ l) there.first_is ∙ ap (λ (w : ℕ). w ∷ before) same);
    kept = there.kept;
  }

  cut_left : (x v : ℕ) (order before : List ℕ) → leb x (length system.tasks) ≡ false → Cut order before v → Cut (x ∷ order) before v
  cut_left x v order before left there = record {
    first = x ∷ there.first;
    last = there.last;
    split = ap (λ (l : List ℕ). x ∷ l) there.split;
    first_is = rw left there.first_is;
    kept = there.kept;
  }

  cut_at : (x : ℕ) (order before : List ℕ) (v : ℕ) (rest : List ℕ)
      → leb x (length system.tasks) ≡ true → x ∷ dropped system order ≡ before ++ v ∷ rest
      → ((b : List ℕ) → dropped system order ≡ b ++ v ∷ rest → Cut order b v) → Cut (x ∷ order) before v
  cut_at x order [] v rest kept e later = cut_here x v order (cc) kept
  cut_at x order (u ∷ before) v rest kept e later = cut_kept x u v order before (cc) kept (later before (cc))

  cut : (order before : List ℕ) (v : ℕ) (rest : List ℕ) → dropped system order ≡ before ++ v ∷ rest → Cut order before v
  cut [] [] v rest e = absurd cc
  cut [] (u ∷ before) v rest e = absurd cc
  cut (x ∷ order) before v rest e = elim (cases_Bool (leb x (length system.tasks))) [
    | inl kept ↦
        (let e' : x ∷ dropped system order ≡ before ++ v ∷ rest = rw kept at e in
        cut_at x order before v rest kept e' (λ b h. cut order b v rest h))
    | inr left ↦
        (let e' : dropped system order ≡ before ++ v ∷ rest = rw left at e in cut_left x v order before left (cut order before v rest e'))
  ]

  dropped_push : (before : List ℕ) (v : ℕ) → leb v (length system.tasks) ≡ true
      → dropped system (before ++ v ∷ []) ≡ dropped system before ++ v ∷ []
  dropped_push before v kept = filter-append (λ u. leb u (length system.tasks)) before (v ∷ []) ∙ rw kept refl

  dropped_skip : (before : List ℕ) (v : ℕ) → leb v (length system.tasks) ≡ false → dropped system (before ++ v ∷ []) ≡ dropped system before
  dropped_skip before v left =
      filter-append (λ u. leb u (length system.tasks)) before (v ∷ []) ∙ rw left (append-nil (dropped system before))

  -- ---- the laws

  module _ (within : All (IsSharedItemWithin (length system.tasks)) system.items)
      (order : List ℕ) (traversal : IsTraversal (collected system) order) where
    pub traversal_dropped : IsSharedTraversal system (dropped system order)
    traversal_dropped = record {
      once = λ v task. count_dropped order v task.1
          ∙ traversal.once v (task.0, omega (arith, length-append system.tasks (replicate (count_by is_shared system.items) collector)));
      tasks = tasks_dropped order traversal.tasks;
      after_suppliers = λ before rest v split. (
          let at = cut order before v rest split in
          let ready : has_inputs system (stands_in at.first) v ≡ true =
          sym (ready_same (stands_in at.first) v (length system.tasks + 1) system.items (omega (arith, at.kept)))
          ∙ traversal.after_suppliers at.first at.last v at.split in
          let same : has_inputs system (stands_in (dropped system at.first)) v ≡ has_inputs system (stands_in at.first) v =
          has_inputs_same system (stands_in (dropped system at.first)) (stands_in at.first)
          (λ u task. stands_dropped at.first u task.1) v system.items within in
          subst (λ (l : List ℕ). has_inputs system (stands_in l) v ≡ true) at.first_is (same ∙ ready)
          );
    }

    module _ (closed : (before rest : List ℕ) → order ≡ before ++ rest → (u : ℕ)
        → stands_in before u ≡ true → is_ready (collected system) (stands_in before) u ≡ true) where
      state_below : (before rest : List ℕ) → order ≡ before ++ rest
          → shared_memory system (stands_in (dropped system before)) ≤ state_memory (collected system) (stands_in before)
      state_below before rest split =
          omega (
            arith,
            memory_same system (stands_in (dropped system before)) (stands_in before)
                (λ u task. stands_dropped before u task.1) system.items within,
            memory_below (stands_in before) (length system.tasks + 1) system.items (closed before rest split),
          )

      peak_below : (before rest : List ℕ) → order ≡ before ++ rest → All (IsTask (collected system)) rest
          → shared_peak_from system (dropped system before) (dropped system rest) ≤ peak_from (collected system) before rest
      peak_below before [] split tasks = state_below before [] split
      peak_below before (v ∷ rest) split tasks =
          let later = peak_below (before ++ v ∷ []) rest (split ∙ sym (append_assoc before (v ∷ []) rest))
          (All-tail (IsTask (collected system)) v rest tasks) in
          let here = state_below before (v ∷ rest) split in
          elim (cases_Bool (leb v (length system.tasks))) [
            | inl kept ↦ (
                let later' : shared_peak_from system (dropped system before ++ v ∷ []) (dropped system rest)
                ≤ peak_from (collected system) (before ++ v ∷ []) rest =
                subst (λ (l : List ℕ). shared_peak_from system l (dropped system rest)
                ≤ peak_from (collected system) (before ++ v ∷ []) rest)
                (dropped_push before v kept) later in
                let need =
                need_same system v ((All-head (IsTask (collected system)) v rest tasks).0, leb-true v (length system.tasks) kept) in
                rw kept (omega (arith, here, later', need))
                )
            | inr left ↦ (
                let later' : shared_peak_from system (dropped system before) (dropped system rest)
                ≤ peak_from (collected system) (before ++ v ∷ []) rest =
                subst (λ (l : List ℕ). shared_peak_from system l (dropped system rest)
                ≤ peak_from (collected system) (before ++ v ∷ []) rest)
                (dropped_skip before v left) later in
                rw left (omega (arith, later'))
                )
          ]

      pub peak_dropped : shared_peak_of system (dropped system order) ≤ peak_of (collected system) order
      peak_dropped = peak_below [] order refl traversal.tasks
