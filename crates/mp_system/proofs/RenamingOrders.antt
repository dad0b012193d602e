-- Traversals of two systems that are the same up to names, and their peaks.
use Rattle.std.proofs.Common.{◌≡◌, ℕ, Bool, true, false, cond, List, [], ◌∷◌, ◌++◌, map}
use Rattle.std.proofs.Common.{Option, Some, None, refl, sym, ap, subst, ◌∙◌, arith}
use Rattle.std.specs.Prelude.{All, option_map}
use Rattle.std.proofs.lemmas.List.{map-append}
use Rattle.std.proofs.lemmas.List.Elements.{All-nil, All-cons, All-head, All-tail}
use Rattle.mp_system.specs.declared.system.Task.{Task}
use Rattle.mp_system.specs.System.{TaskSystem, IsTask, is_named, is_output, outputs_of}
use Rattle.mp_system.specs.Memory.{is_done_or, is_present, stands_in, state_memory, running_memory, peak_from, peak_of, is_ready}
use Rattle.mp_system.specs.Traversal.{IsTraversal, IsLeast}
use Rattle.mp_system.specs.Renaming.{name_in, IsRenamed}
use Rattle.mp_system.proofs.Counts.{count_of, count_of-cons}
use Rattle.mp_system.proofs.RenamingNames.{same_eqb, task_name, name_task, name_once, named_task, task_same}
use Rattle.mp_system.proofs.RenamingItems.{size_where_same, supplied_same}

-- ---- lists

-- a list whose image is cut before v is cut there too
record Cut (f : ℕ → ℕ) (xs before : List ℕ) (v : ℕ) : Type 0 where
  first : List ℕ
  here : ℕ
  last : List ℕ
  split : xs ≡ first ++ here ∷ last
  first_is : map f first ≡ before
  here_is : f here ≡ v

cut_more : (f : ℕ → ℕ) (x u : ℕ) (xs before : List ℕ) (v : ℕ) → f x ≡ u → Cut f xs before v → Cut f (x ∷ xs) (u ∷ before) v
cut_more f x u xs before v head later = record {
  first = x ∷ later.first;
  here = later.here;
  last = later.last;
  split = ap (λ (l : List ℕ). x ∷ l) later.split;
  first_is = rw (head, later.first_is);
  here_is = later.here_is;
}

cut : (f : ℕ → ℕ) (xs before : List ℕ) (v : ℕ) (rest : List ℕ) → map f xs ≡ before ++ v ∷ rest → Cut f xs before v
cut f [] [] v rest e = absurd cc
cut f [] (u ∷ before) v rest e = absurd cc
cut f (x ∷ xs) [] v rest e = record { first = []; here = x; last = xs; split = refl; first_is = refl; here_is = cc }
cut f (x ∷ xs) (u ∷ before) v rest e = cut_more f x u xs before v (cc) (cut f xs before v rest (cc))

All-append : (P : ℕ → Type 0) (xs : List ℕ) (v : ℕ) (ys : List ℕ) → All P (xs ++ v ∷ ys) → All P xs × P v
All-append P [] v ys each = (All-nil P, All-head P v ys each)
All-append P (x ∷ xs) v ys each =
    let later = All-append P xs v ys (All-tail P x (xs ++ v ∷ ys) each) in
    (All-cons P x xs (All-head P x (xs ++ v ∷ ys) each) later.0, later.1)

All-push : (P : ℕ → Type 0) (xs : List ℕ) (v : ℕ) → All P xs → P v → All P (xs ++ v ∷ [])
All-push P [] v each here = All-cons P v [] here (All-nil P)
All-push P (x ∷ xs) v each here = All-cons P x (xs ++ v ∷ []) (All-head P x xs each) (All-push P xs v (All-tail P x xs each) here)

module _ (names : List ℕ) (own named : TaskSystem) (same : IsRenamed names own named) where
  -- ---- a state

  -- the same tasks are done
  module _ (done later : ℕ → Bool) (agree : (u : ℕ) → later (name_in names u) ≡ done u) where
    done_same : (otherwise : Bool) (who : Option ℕ)
        → is_done_or otherwise later (option_map (name_in names) who) ≡ is_done_or otherwise done who
    done_same otherwise None = refl
    done_same otherwise (Some u) = agree u

    state_same : state_memory named later ≡ state_memory own done
    state_same = size_where_same (name_in names) own.items named.items same.items (is_present done) (is_present later)
        (λ item. rw (done_same true item.from, done_same false item.to))

    module _ (v : ℕ) (task : IsTask own v) where
      named_same : (who : Option ℕ) → is_named (option_map (name_in names) who) (name_in names v) ≡ is_named who v
      named_same None = refl
      named_same (Some u) = same_eqb names u v (name_once names own named same u v task)

      ready_same : is_ready named later (name_in names v) ≡ is_ready own done v
      ready_same = supplied_same (name_in names) own.items named.items same.items done later v (name_in names v)
          (λ item. rw (named_same item.to, done_same true item.from))

      outputs_same : outputs_of named (name_in names v) ≡ outputs_of own v
      outputs_same = size_where_same (name_in names) own.items named.items same.items
          (is_output v) (is_output (name_in names v)) (λ item. named_same item.from)

      running_same : running_memory named later (name_in names v) ≡ running_memory own done v
      running_same =
          let extra = ap (λ (t : Task). t.extra) (task_same names own named same v task) in
          let share = ap (λ (t : Task). t.share) (task_same names own named same v task) in
          omega (arith, state_same, outputs_same, extra, share)

  -- ---- the state after some tasks

  stands_same : (before : List ℕ) → All (IsTask own) before → (u : ℕ)
      → stands_in (map (name_in names) before) (name_in names u) ≡ stands_in before u
  stands_same [] tasks u = refl
  stands_same (x ∷ before) tasks u =
      let task = All-head (IsTask own) x before tasks in
      rw (
        same_eqb names x u (λ e. sym (name_once names own named same u x task (sym e))),
        stands_same before (All-tail (IsTask own) x before tasks) u,
      )

  peak_from_same : (before rest : List ℕ) → All (IsTask own) before → All (IsTask own) rest
      → peak_from named (map (name_in names) before) (map (name_in names) rest) ≡ peak_from own before rest
  peak_from_same before [] done_tasks tasks =
      state_same (stands_in before) (stands_in (map (name_in names) before)) (stands_same before done_tasks)
  peak_from_same before (v ∷ rest) done_tasks tasks =
      let task = All-head (IsTask own) v rest tasks in
      let agree = stands_same before done_tasks in
      let later : peak_from named (map (name_in names) before ++ name_in names v ∷ []) (map (name_in names) rest)
      ≡ peak_from own (before ++ v ∷ []) rest =
      ap (λ (l : List ℕ). peak_from named l (map (name_in names) rest)) (sym (map-append (name_in names) before (v ∷ [])))
      ∙ peak_from_same (before ++ v ∷ []) rest (All-push (IsTask own) before v done_tasks task) (All-tail (IsTask own) v rest tasks) in
      omega (
        arith,
        state_same (stands_in before) (stands_in (map (name_in names) before)) agree,
        running_same (stands_in before) (stands_in (map (name_in names) before)) agree v task,
        later,
      )

  pub peak_same : (order : List ℕ) → IsTraversal own order → peak_of named (map (name_in names) order) ≡ peak_of own order
  peak_same order traversal = peak_from_same [] order (All-nil (IsTask own)) traversal.tasks

  -- ---- traversals

  tasks_named : (order : List ℕ) → All (IsTask own) order → All (IsTask named) (map (name_in names) order)
  tasks_named [] tasks = All-nil (IsTask named)
  tasks_named (v ∷ order) tasks =
      All-cons (IsTask named) (name_in names v) (map (name_in names) order)
      (task_name names own named same v (All-head (IsTask own) v order tasks))
      (tasks_named order (All-tail (IsTask own) v order tasks))

  tasks_own : (order : List ℕ) → All (IsTask named) (map (name_in names) order) → All (IsTask own) order
  tasks_own [] tasks = All-nil (IsTask own)
  tasks_own (v ∷ order) tasks =
      All-cons (IsTask own) v order
      (name_task names own named same v (All-head (IsTask named) (name_in names v) (map (name_in names) order) tasks))
      (tasks_own order (All-tail (IsTask named) (name_in names v) (map (name_in names) order) tasks))

  count_same : (order : List ℕ) (v : ℕ) → IsTask own v → count_of (map (name_in names) order) (name_in names v) ≡ count_of order v
  count_same [] v task = refl
  count_same (x ∷ order) v task =
      let one = ap {B = ℕ} (λ (b : Bool). cond b 1 0) (same_eqb names x v (name_once names own named same x v task)) in
      omega (
        arith,
        one,
        count_of-cons (name_in names x) (map (name_in names) order) (name_in names v),
        count_of-cons x order v,
        count_same order v task,
      )

  -- what is ready after some tasks of an order of tasks
  module _ (order : List ℕ) (tasks : All (IsTask own) order) where
    ready_after : (before : List ℕ) (v : ℕ) (rest : List ℕ) → order ≡ before ++ v ∷ rest
        → is_ready named (stands_in (map (name_in names) before)) (name_in names v) ≡ is_ready own (stands_in before) v
    ready_after before v rest split =
        let parts = All-append (IsTask own) before v rest (subst (All (IsTask own)) split tasks) in
        ready_same (stands_in before) (stands_in (map (name_in names) before)) (stands_same before parts.0) v parts.1

  pub traversal_named : (order : List ℕ) → IsTraversal own order → IsTraversal named (map (name_in names) order)
  traversal_named order traversal = record {
    once = λ v task. (
        let there = named_task names own named same v task in
        ap (count_of (map (name_in names) order)) (sym there.2) ∙ count_same order there.0 there.1 ∙ traversal.once there.0 there.1
        );
    tasks = tasks_named order traversal.tasks;
    after_suppliers = λ before rest v split. (
        let at = cut (name_in names) order before v rest split in
        let ready : is_ready named (stands_in (map (name_in names) at.first)) (name_in names at.here) ≡ true =
        ready_after order traversal.tasks at.first at.here at.last at.split ∙ traversal.after_suppliers at.first at.last at.here at.split in
        subst (λ (l : List ℕ). is_ready named (stands_in l) v ≡ true) at.first_is
        (subst (λ (w : ℕ). is_ready named (stands_in (map (name_in names) at.first)) w ≡ true) at.here_is ready)
        );
  }

  pub traversal_own : (order : List ℕ) → IsTraversal named (map (name_in names) order) → IsTraversal own order
  traversal_own order traversal =
      let tasks = tasks_own order traversal.tasks in
      record {
        once = λ v task. sym (count_same order v task) ∙ traversal.once (name_in names v) (task_name names own named same v task);
        tasks = tasks;
        after_suppliers = λ before rest v split.
            sym (ready_after order tasks before v rest split)
            ∙ traversal.after_suppliers (map (name_in names) before) (map (name_in names) rest)
            (name_in names v) (ap (map (name_in names)) split ∙ map-append (name_in names) before (v ∷ rest));
      }

  -- ---- each traversal

  unnamed : (order : List ℕ) → All (IsTask named) order → (own_order : List ℕ) × (order ≡ map (name_in names) own_order)
  unnamed [] tasks = ([], refl)
  unnamed (v ∷ order) tasks =
      let there = named_task names own named same v (All-head (IsTask named) v order tasks) in
      let later = unnamed order (All-tail (IsTask named) v order tasks) in
      (there.0 ∷ later.0, rw (there.2) (ap (λ (l : List ℕ). v ∷ l) later.1))

  pub each_traversal : (order : List ℕ) → IsTraversal named order
      → (own_order : List ℕ) × IsTraversal own own_order × (order ≡ map (name_in names) own_order)
  each_traversal order traversal =
      let there = unnamed order traversal.tasks in
      (there.0, traversal_own there.0 (subst (IsTraversal named) there.1 traversal), there.1)

  pub least_named : (peak : ℕ) → IsLeast own peak → IsLeast named peak
  least_named peak least = record {
    order = map (name_in names) least.order;
    traversal = traversal_named least.order least.traversal;
    attained = peak_same least.order least.traversal ∙ least.attained;
    least = λ other traversal. (
        let there = each_traversal other traversal in
        omega (arith, least.least there.0 there.1, peak_same there.0 there.1, ap (peak_of named) there.2)
        );
  }

  pub least_own : (peak : ℕ) → IsLeast named peak → IsLeast own peak
  least_own peak least =
      let there = each_traversal least.order least.traversal in
      record {
        order = there.0;
        traversal = there.1;
        attained = sym (peak_same there.0 there.1) ∙ sym (ap (peak_of named) there.2) ∙ least.attained;
        least = λ other traversal.
            omega (arith, least.least (map (name_in names) other) (traversal_named other traversal), peak_same other traversal);
      }
