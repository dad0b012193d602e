-- The woven order of a traversal: each collector stands in it once, each task is ready, and the peak is no higher.
use Rattle.std.proofs.Common.{◌≡◌, ℕ, ◌+◌, ◌-◌, ◌<◌, ◌≤◌, Bool, true, false, cond, not, ◌&&◌, ◌||◌, eqb, leb, List, [], ◌∷◌, ◌++◌, length}
use Rattle.std.proofs.Common.{get_or, length-append, append_assoc, Option, Some, None, refl, sym, ap, subst, ◌∙◌, arith, inl, inr}
use Rattle.std.specs.Prelude.{All, count_by, replicate}
use Rattle.std.specs.List.{list_all, list_any}
use Rattle.std.specs.Option.{ForSome}
use Rattle.std.proofs.lemmas.List.{append-nil, get_or-append_right, get_or-replicate, length-replicate}
use Rattle.std.proofs.lemmas.List.Folds.{list_any-append, list_all-append}
use Rattle.std.proofs.lemmas.List.Sums.{sum_by-cons}
use Rattle.std.proofs.lemmas.List.Elements.{All-head, All-tail, All-nil, All-cons, All-append, filter-append}
use Rattle.std.proofs.lemmas.Bool.{cases_lt, ne_eqb, and_parts, and_from, le-leb, lt-leb}
use Rattle.mp_system.specs.declared.system.Task.{Task}
use Rattle.mp_system.specs.System.{TaskSystem, IsTask, is_named, size_where, outputs_of, task_at}
use Rattle.mp_system.specs.Memory.{is_present, is_ready, state_memory, stands_in, peak_from, peak_of}
use Rattle.mp_system.specs.Traversal.{IsTraversal}
use Rattle.shared_systems.specs.Shared.{SharedTaskSystem, SharedItem, HasTask, HasOwnShare, shared_size_if}
use Rattle.shared_systems.specs.Shared.{shared_size_where, is_made_by, is_read_by, shared_task_at}
use Rattle.shared_systems.specs.SharedMemory.{is_made, are_done, is_held, shared_memory, has_inputs, shared_peak_from, shared_peak_of}
use Rattle.shared_systems.specs.SharedTraversal.{IsSharedTraversal}
use Rattle.shared_systems.specs.Collected.{is_shared, collector, kept_item, wait_items, next_from, items_from, collected, dropped}
use Rattle.shared_systems.specs.Woven.{is_due, due_after, woven_from, woven}
use Rattle.shared_systems.specs.Bounds.{IsSharedItemWithin}
use Rattle.shared_systems.proofs.ItemParts.{is_supplied, item_counts, item_same, item_ready, item_collected, item_made, several_done}
use Rattle.shared_systems.proofs.States.{next_ge, need_same, task_same, inputs_same, outputs_same, ready_same, memory_same, has_inputs_same}
use Rattle.shared_systems.proofs.States.{made_same, are_done_same, all_done_same, still_done, still_has_inputs}
use Rattle.shared_systems.proofs.WithoutCollectors.{stood, count_dropped}
use Rattle.shared_systems.proofs.Collectors.{Each, count_of, count_of-cons, count_of-append, one_if, none_if}
use Rattle.shared_systems.proofs.Collectors.{uncounted_above, stands_counted, each_map, each_make, each_both}
use Rattle.shared_systems.proofs.Collectors.{each_at, due_all, due_range, due_counts, next_shared}
use Rattle.shared_systems.proofs.Steps.{AllReady, all_ready_nil, all_ready_cons, all_ready_append, all_ready_at, all_ready_once}
use Rattle.shared_systems.proofs.Steps.{NeedsNothing, peak_without, after_running, stands_push, stands_more}

-- ---- states in which each collector is done where all readers of its item are

memory_each : (done : ℕ → Bool) (k : ℕ) (xs : List SharedItem) → Each (λ j x. done j ≡ are_done done x.readers) k xs
    → shared_size_where (is_held done) xs ≡ size_where (is_present done) (items_from k xs)
memory_each done k [] each = refl
memory_each done k (x ∷ xs) each =
    omega (
      arith,
      sum_by-cons (shared_size_if (is_held done)) x xs,
      item_counts (is_present done) k x (items_from (next_from k x) xs),
      item_same done k x each.0,
      memory_each done (next_from k x) xs each.1,
    )

-- the collectors whose items are made, with all readers done, are ready
module _ (system : SharedTaskSystem) (done : ℕ → Bool) where
  unused : (v : ℕ) (to : List ℕ) → length system.tasks < v → All (HasTask system) to → list_any (λ c. eqb c v) to ≡ false
  unused v [] lt within = refl
  unused v (c ∷ to) lt within =
      let here = All-head (HasTask system) c to within in
      rw (ne_eqb c v (λ e. omega arith)) (unused v to lt (All-tail (HasTask system) c to within))

  unused_by : (v : ℕ) (x : SharedItem) → length system.tasks < v
      → IsSharedItemWithin (length system.tasks) x → (not (is_read_by v x) || is_made done x) ≡ true
  unused_by v x lt within = ap (λ (b : Bool). not b || is_made done x) (unused v x.readers lt within.readers)

  no_consumer : (v : ℕ) (xs : List SharedItem) → length system.tasks < v
      → All (IsSharedItemWithin (length system.tasks)) xs → list_all (λ x. not (is_read_by v x) || is_made done x) xs ≡ true
  no_consumer v [] lt within = refl
  no_consumer v (x ∷ xs) lt within =
      and_from (not (is_read_by v x) || is_made done x) (list_all (λ y. not (is_read_by v y) || is_made done y) xs)
      (unused_by v x lt (All-head (IsSharedItemWithin (length system.tasks)) x xs within))
      (no_consumer v xs lt (All-tail (IsSharedItemWithin (length system.tasks)) x xs within))

  collectors_ready : (k : ℕ) (xs : List SharedItem) → length system.tasks < k → All (IsSharedItemWithin (length system.tasks)) xs
      → Each (λ j x. is_made done x ≡ true → list_all done x.readers ≡ true → list_all (is_supplied done j) (items_from k xs) ≡ true) k xs
  collectors_ready k [] lt within = tt
  collectors_ready k (x ∷ xs) lt within =
      let own = kept_item k x ∷ wait_items k x in
      let rest = items_from (next_from k x) xs in
      let later = All-tail (IsSharedItemWithin (length system.tasks)) x xs within in (
        λ shared made all. (
            let others : list_all (is_supplied done k) rest ≡ true =
            ready_same done k (next_from k x) xs (omega (arith, next_shared k x shared)) ∙ no_consumer k xs lt later in
            list_all-append (is_supplied done k) own rest
            ∙ and_from (list_all (is_supplied done k) own)
            (list_all (is_supplied done k) rest) (item_collected done k x made all) others
            ),
        each_map (λ j y. is_made done y ≡ true → list_all done y.readers ≡ true → list_all (is_supplied done j) rest ≡ true)
            (λ j y. is_made done y ≡ true → list_all done y.readers ≡ true → list_all (is_supplied done j) (own ++ rest) ≡ true)
            (λ y. Unit {0}) (next_from k x)
            (λ j y low shared unit ready made all. (
            let first : list_all (is_supplied done j) own ≡ true =
            item_ready done k j x (λ x_shared same. omega (arith, next_shared k x x_shared))
            ∙ unused_by j x (omega (arith, next_ge k x)) (All-head (IsSharedItemWithin (length system.tasks)) x xs within) in
            list_all-append (is_supplied done j) own rest
            ∙ and_from (list_all (is_supplied done j) own) (list_all (is_supplied done j) rest) first (ready made all)
            ))
            (next_from k x) xs (omega arith) (λ i d inside. tt) (collectors_ready (next_from k x) xs (omega (arith, next_ge k x)) later),
      )

  -- shared items whose readers are done are made, if each done task was ready
  each_made : (k : ℕ) (xs : List SharedItem) → ((v : ℕ) → done v ≡ true → list_all (λ x. not (is_read_by v x) || is_made done x) xs ≡ true)
      → Each (λ j x. list_all done x.readers ≡ true → is_made done x ≡ true) k xs
  each_made k [] closed = tt
  each_made k (x ∷ xs) closed =
      let parts = λ (v : ℕ) (e : done v ≡ true).
      and_parts (not (is_read_by v x) || is_made done x) (list_all (λ y. not (is_read_by v y) || is_made done y) xs) (closed v e) in
      (λ shared all. item_made done x shared all (λ v e. (parts v e).0), each_made (next_from k x) xs (λ v e. (parts v e).1))

-- ---- what collectors need

unmade : (system : SharedTaskSystem) (v : ℕ) (from : Option ℕ)
    → length system.tasks < v → ForSome from (HasTask system) → is_named from v ≡ false
unmade system v None lt within = refl
unmade system v (Some u) lt within = (let task = within u refl in ne_eqb u v (λ e. omega arith))

makes_nothing : (system : SharedTaskSystem) (v : ℕ) (xs : List SharedItem) → length system.tasks < v
    → All (IsSharedItemWithin (length system.tasks)) xs → shared_size_where (is_made_by v) xs ≡ 0
makes_nothing system v [] lt within = refl
makes_nothing system v (x ∷ xs) lt within =
    let here = All-head (IsSharedItemWithin (length system.tasks)) x xs within in
    let none : shared_size_if (is_made_by v) x ≡ 0 = rw (unmade system v x.from lt here.producer) refl in
    omega (
      arith,
      none,
      sum_by-cons (shared_size_if (is_made_by v)) x xs,
      makes_nothing system v xs lt (All-tail (IsSharedItemWithin (length system.tasks)) x xs within),
    )

module _ (system : SharedTaskSystem) (within : All (IsSharedItemWithin (length system.tasks)) system.items) where
  pub collector_at : (v : ℕ) → length system.tasks + 1 ≤ v
      → v < length system.tasks + 1 + count_by is_shared system.items → task_at (collected system) v ≡ collector
  collector_at v low high =
      let none : Task = record { extra = 0; share = 0; time = 0 } in
      get_or-append_right system.tasks (replicate (count_by is_shared system.items) collector)
      (length system.tasks) (v - 1) none refl (omega arith)
      ∙ get_or-replicate (count_by is_shared system.items) (v - 1 - length system.tasks) collector none (omega arith)

  pub needs_nothing : (v : ℕ) → length system.tasks + 1 ≤ v
      → v < length system.tasks + 1 + count_by is_shared system.items → NeedsNothing (collected system) v
  needs_nothing v low high =
      let is = collector_at v low high in
      let extra = ap (λ (t : Task). t.extra) is in
      let outputs : outputs_of (collected system) v ≡ 0 =
      outputs_same v (length system.tasks + 1) system.items ∙ makes_nothing system v system.items (omega arith) within in
      (omega (arith, extra, outputs), outputs)

  pub task_count : length (collected system).tasks ≡ length system.tasks + count_by is_shared system.items
  task_count = length-append system.tasks (replicate (count_by is_shared system.items) collector)
      ∙ ap (λ (n : ℕ). length system.tasks + n) (length-replicate (count_by is_shared system.items) collector)

  -- ---- the order so far, and the order so far with its collectors

  record Agree (mixed before : List ℕ) : Type 0 where
    low : (u : ℕ) → u ≤ length system.tasks → stands_in mixed u ≡ stands_in before u
    counts : Each (λ k x. count_of mixed k ≡ cond (are_done (stands_in before) x.readers) 1 0) (length system.tasks + 1) system.items

  none_done : (to : List ℕ) → are_done (stands_in []) to ≡ false
  none_done [] = refl
  none_done (c ∷ to) = refl

  agree_start : Agree [] []
  agree_start = record {
    low = λ u le. refl;
    counts = each_make (λ k x. count_of [] k ≡ cond (are_done (stands_in []) x.readers) 1 0) (λ x. Unit {0})
        (λ k x shared unit. rw (none_done x.readers) refl) (length system.tasks + 1) system.items (λ i d lt. tt);
  }

  agree_memory : (mixed before : List ℕ) → Agree mixed before
      → state_memory (collected system) (stands_in mixed) ≡ shared_memory system (stands_in before)
  agree_memory mixed before agree =
      let each : Each (λ k x. stands_in mixed k ≡ are_done (stands_in mixed) x.readers) (length system.tasks + 1) system.items =
      each_map (λ k x. count_of mixed k ≡ cond (are_done (stands_in before) x.readers) 1 0)
      (λ k x. stands_in mixed k ≡ are_done (stands_in mixed) x.readers) (IsSharedItemWithin (length system.tasks)) 0
      (λ k x le shared own is.
      stands_counted mixed k (are_done (stands_in before) x.readers) is
      ∙ are_done_same system (stands_in before) (stands_in mixed) (λ u task. sym (agree.low u task.1)) x.readers own.readers)
      (length system.tasks + 1) system.items (omega arith) within agree.counts in
      sym (memory_each (stands_in mixed) (length system.tasks + 1) system.items each)
      ∙ memory_same system (stands_in mixed) (stands_in before) (λ u task. agree.low u task.1) system.items within

  one_more : (a l : Bool) → (a ≡ true → l ≡ true) → ◌≡◌ {A = ℕ} (cond a 1 0 + cond (l && not a) 1 0) (cond l 1 0)
  one_more true true h = refl
  one_more true false h = absurd (let e = h refl in cc)
  one_more false true h = refl
  one_more false false h = refl

  agree_step : (mixed before : List ℕ) (v : ℕ) → v ≤ length system.tasks
      → Agree mixed before → Agree (mixed ++ (v ∷ due_after system before v)) (before ++ v ∷ [])
  agree_step mixed before v task agree =
      let due = due_after system before v in
      let done = stands_in before in
      let later = stands_in (before ++ v ∷ []) in
      let n = length system.tasks in
      record {
        low = λ u le. (
            let none : count_of due u ≡ 0 = uncounted_above due u
            (λ i d inside. (let range = due_range done later (n + 1) system.items i d inside in omega (arith, range.0))) in
            let out : stands_in due u ≡ false = stands_counted due u false none in
            list_any-append (λ w. eqb w u) mixed (v ∷ due)
            ∙ ap (λ (b : Bool). stands_in mixed u || (eqb v u || b)) out
            ∙ ap (λ (b : Bool). b || (eqb v u || false)) (agree.low u le)
            ∙ sym (list_any-append (λ w. eqb w u) before (v ∷ []))
            );
        counts = each_map (λ k x. (count_of mixed k ≡ cond (are_done done x.readers) 1 0)
            × (count_of due k ≡ cond (are_done later x.readers && not (are_done done x.readers)) 1 0))
            (λ k x. count_of (mixed ++ (v ∷ due)) k ≡ cond (are_done later x.readers) 1 0) (λ x. Unit {0}) (n + 1)
            (λ k x le shared unit both. (
            let more = one_more (are_done done x.readers) (are_done later x.readers)
            (still_done done later (λ u. stands_more before (v ∷ []) u) x.readers) in
            omega (arith, more, both.0, both.1, count_of-append mixed (v ∷ due) k, count_of-cons v due k, none_if v k (λ e. omega arith))
            ))
            (n + 1) system.items (omega arith) (λ i d lt. tt)
            (each_both (λ k x. count_of mixed k ≡ cond (are_done done x.readers) 1 0)
            (λ k x. count_of due k ≡ cond (are_done later x.readers && not (are_done done x.readers)) 1 0) (n + 1) system.items
            agree.counts (due_counts done later (n + 1) system.items));
      }

  agree_all : (mixed before rest : List ℕ) → All (HasTask system) rest
      → Agree mixed before → Agree (mixed ++ woven_from system before rest) (before ++ rest)
  agree_all mixed before [] tasks agree =
      subst (λ (l : List ℕ). Agree l (before ++ [])) (sym (append-nil mixed)) (subst (Agree mixed) (sym (append-nil before)) agree)
  agree_all mixed before (v ∷ rest) tasks agree =
      let here = All-head (HasTask system) v rest tasks in
      let later = agree_all (mixed ++ (v ∷ due_after system before v)) (before ++ v ∷ []) rest
      (All-tail (HasTask system) v rest tasks) (agree_step mixed before v here.1 agree) in
      subst (λ (l : List ℕ). Agree l (before ++ v ∷ rest))
      (append_assoc mixed (v ∷ due_after system before v) (woven_from system (before ++ v ∷ []) rest))
      (subst (Agree ((mixed ++ (v ∷ due_after system before v)) ++ woven_from system (before ++ v ∷ []) rest))
      (append_assoc before (v ∷ []) rest) later)

  -- ---- the collectors left out again

  dropped_above : (ds : List ℕ) → All (λ d. length system.tasks < d) ds → dropped system ds ≡ []
  dropped_above [] above = refl
  dropped_above (d ∷ ds) above =
      let here = All-head (λ e. length system.tasks < e) d ds above in
      rw (lt-leb d (length system.tasks) here) (dropped_above ds (All-tail (λ e. length system.tasks < e) d ds above))

  due_above_tasks : (before : List ℕ) (v : ℕ) → All (λ d. length system.tasks < d) (due_after system before v)
  due_above_tasks before v i d inside =
      let range = due_range (stands_in before) (stands_in (before ++ v ∷ [])) (length system.tasks + 1) system.items i d inside in
      omega (arith, range.0)

  pub dropped_woven : (before rest : List ℕ) → All (HasTask system) rest → dropped system (woven_from system before rest) ≡ rest
  dropped_woven before [] tasks = refl
  dropped_woven before (v ∷ rest) tasks =
      let here = All-head (HasTask system) v rest tasks in
      let none = dropped_above (due_after system before v) (due_above_tasks before v) in
      filter-append (λ u. leb u (length system.tasks)) (v ∷ due_after system before v) (woven_from system (before ++ v ∷ []) rest)
      ∙ rw (le-leb v (length system.tasks) here.1, none, dropped_woven (before ++ v ∷ []) rest (All-tail (HasTask system) v rest tasks))
      refl

  woven_tasks : (before rest : List ℕ) → All (HasTask system) rest → All (IsTask (collected system)) (woven_from system before rest)
  woven_tasks before [] tasks = All-nil (IsTask (collected system))
  woven_tasks before (v ∷ rest) tasks =
      let here = All-head (HasTask system) v rest tasks in
      let due : All (IsTask (collected system)) (due_after system before v) =
      λ i d inside. (
      let range = due_range (stands_in before) (stands_in (before ++ v ∷ [])) (length system.tasks + 1) system.items i d inside in
      (omega (arith, range.0), omega (arith, range.1, task_count))) in
      All-append (IsTask (collected system)) (v ∷ due_after system before v) (woven_from system (before ++ v ∷ []) rest)
      (All-cons (IsTask (collected system)) v (due_after system before v) (here.0, omega (arith, here.1, task_count)) due)
      (woven_tasks (before ++ v ∷ []) rest (All-tail (HasTask system) v rest tasks))

  -- ---- traversals

  module _ (stays : (system : TaskSystem) (done later : ℕ → Bool) (v : ℕ)
      → ((u : ℕ) → done u ≡ true → later u ≡ true) → is_ready system done v ≡ true → is_ready system later v ≡ true)
      (order : List ℕ) (traversal : IsSharedTraversal system order) where
    order_closed : (before rest : List ℕ) → order ≡ before ++ rest → (u : ℕ)
        → stands_in before u ≡ true → has_inputs system (stands_in before) u ≡ true
    order_closed before rest split u e =
        let there = stood before u e in
        let whole : order ≡ there.first ++ u ∷ (there.last ++ rest) =
        split ∙ ap (λ (l : List ℕ). l ++ rest) there.split ∙ append_assoc there.first (u ∷ there.last) rest in
        still_has_inputs (stands_in there.first) (stands_in before)
        (λ w h. ap (λ (l : List ℕ). stands_in l w) there.split ∙ stands_more there.first (u ∷ there.last) w h)
        u system.items (traversal.after_suppliers there.first (there.last ++ rest) u whole)

    task_ready : (mixed before : List ℕ) (v : ℕ) (rest : List ℕ) → Agree mixed before → HasTask system v
        → order ≡ before ++ v ∷ rest → is_ready (collected system) (stands_in mixed) v ≡ true
    task_ready mixed before v rest agree task split =
        ready_same (stands_in mixed) v (length system.tasks + 1) system.items (omega (arith, task.1))
        ∙ has_inputs_same system (stands_in mixed) (stands_in before) (λ u is. agree.low u is.1) v system.items within
        ∙ traversal.after_suppliers before rest v split

    due_ready : (mixed before : List ℕ) (v : ℕ) (rest : List ℕ) → Agree mixed before → HasTask system v → order ≡ before ++ v ∷ rest
        → All (λ d. is_ready (collected system) (stands_in (mixed ++ v ∷ [])) d ≡ true) (due_after system before v)
    due_ready mixed before v rest agree task split =
        let done = stands_in (mixed ++ v ∷ []) in
        let later = stands_in (before ++ v ∷ []) in
        let n = length system.tasks in
        let same : (u : ℕ) → HasTask system u → later u ≡ done u =
        λ u is. stands_push before v u ∙ ap (λ (b : Bool). b || eqb v u) (sym (agree.low u is.1)) ∙ sym (stands_push mixed v u) in
        let made = each_made system later (n + 1) system.items
        (order_closed (before ++ v ∷ []) rest (split ∙ sym (append_assoc before (v ∷ []) rest))) in
        let ready = collectors_ready system done (n + 1) system.items (omega arith) within in
        due_all (stands_in before) later (λ d. is_ready (collected system) done d ≡ true) (n + 1) system.items
        (each_map
        (λ j x. (list_all later x.readers ≡ true → is_made later x ≡ true)
        × (is_made done x ≡ true → list_all done x.readers ≡ true
        → list_all (is_supplied done j) (items_from (n + 1) system.items) ≡ true))
        (λ j x. is_due (stands_in before) later x ≡ true → is_ready (collected system) done j ≡ true)
        (IsSharedItemWithin (length system.tasks)) 0
        (λ j x low shared own both due. (
        let last = (and_parts (is_shared x) (are_done later x.readers && not (are_done (stands_in before) x.readers)) due).1 in
        let all : list_all later x.readers ≡ true = sym (several_done later x.readers shared)
        ∙ (and_parts (are_done later x.readers) (not (are_done (stands_in before) x.readers)) last).0 in
        both.1 (sym (made_same system later done same x.from own.producer) ∙ both.0 all)
        (sym (all_done_same system later done same x.readers own.readers) ∙ all)
        ))
        (n + 1) system.items (omega arith) within
        (each_both (λ j x. list_all later x.readers ≡ true → is_made later x ≡ true)
        (λ j x. is_made done x ≡ true → list_all done x.readers ≡ true
        → list_all (is_supplied done j) (items_from (n + 1) system.items) ≡ true)
        (n + 1) system.items made ready))

    woven_ready : (mixed before rest : List ℕ) → Agree mixed before → order ≡ before ++ rest
        → All (HasTask system) rest → AllReady (collected system) mixed (woven_from system before rest)
    woven_ready mixed before [] agree split tasks = all_ready_nil (collected system) mixed
    woven_ready mixed before (v ∷ rest) agree split tasks =
        let task = All-head (HasTask system) v rest tasks in
        let due = due_after system before v in
        let more = woven_from system (before ++ v ∷ []) rest in
        let later = woven_ready (mixed ++ (v ∷ due)) (before ++ v ∷ []) rest (agree_step mixed before v task.1 agree)
        (split ∙ sym (append_assoc before (v ∷ []) rest)) (All-tail (HasTask system) v rest tasks) in
        all_ready_cons (collected system) mixed v (due ++ more) (task_ready mixed before v rest agree task split)
        (all_ready_append (collected system) (mixed ++ v ∷ []) due more
        (all_ready_once stays (collected system) (mixed ++ v ∷ []) due (due_ready mixed before v rest agree task split))
        (subst (λ (l : List ℕ). AllReady (collected system) l more) (sym (append_assoc mixed (v ∷ []) due)) later))

    all_stand : (to : List ℕ) → All (HasTask system) to → list_all (stands_in order) to ≡ true
    all_stand [] tasks = refl
    all_stand (c ∷ to) tasks =
        and_from (stands_in order c) (list_all (stands_in order) to)
        (stands_counted order c true (traversal.once c (All-head (HasTask system) c to tasks)))
        (all_stand to (All-tail (HasTask system) c to tasks))

    woven_once : (v : ℕ) → IsTask (collected system) v → count_of (woven system order) v ≡ 1
    woven_once v task = elim (cases_lt (length system.tasks) v) [
      | inl above ↦ (
          let agree = agree_all [] [] order traversal.tasks agree_start in
          let each : Each (λ k x. count_of (woven system order) k ≡ 1) (length system.tasks + 1) system.items =
          each_map (λ k x. count_of (woven system order) k ≡ cond (are_done (stands_in order) x.readers) 1 0)
          (λ k x. count_of (woven system order) k ≡ 1) (IsSharedItemWithin (length system.tasks)) 0
          (λ k x low shared own is. is
          ∙ ap {B = ℕ} (λ (b : Bool). cond b 1 0) (several_done (stands_in order) x.readers shared ∙ all_stand x.readers own.readers))
          (length system.tasks + 1) system.items (omega arith) within agree.counts in
          (each_at (λ k x. count_of (woven system order) k ≡ 1)
          (length system.tasks + 1) system.items each v (omega arith) (omega (arith, task.1, task_count))).1
          )
      | inr below ↦ (
          sym (count_dropped system (woven system order) v below)
          ∙ ap (λ (l : List ℕ). count_of l v) (dropped_woven [] order traversal.tasks) ∙ traversal.once v (task.0, below)
          )
    ]

    pub traversal_woven : IsTraversal (collected system) (woven system order)
    traversal_woven = record {
      once = woven_once;
      tasks = woven_tasks [] order traversal.tasks;
      after_suppliers = λ before rest v split.
          all_ready_at (collected system) [] before v rest
          (subst (AllReady (collected system) []) split (woven_ready [] [] order agree_start refl traversal.tasks));
    }

    -- ---- the peak

    fresh : (before rest : List ℕ) (v : ℕ) → order ≡ before ++ v ∷ rest → HasTask system v → stands_in before v ≡ false
    fresh before rest v split task =
        let whole = ap (λ (l : List ℕ). count_of l v) split in
        stands_counted before v false
        (omega (arith, whole, traversal.once v task, count_of-append before (v ∷ rest) v, count_of-cons v rest v, one_if v v refl))

    module _ (shares : (v : ℕ) → HasTask system v → HasOwnShare system v) where
      woven_peak : (mixed before rest : List ℕ) → Agree mixed before → order ≡ before ++ rest → All (HasTask system) rest
          → peak_from (collected system) mixed (woven_from system before rest) ≤ shared_peak_from system before rest
      woven_peak mixed before [] agree split tasks = omega (arith, agree_memory mixed before agree)
      woven_peak mixed before (v ∷ rest) agree split tasks =
          let task = All-head (HasTask system) v rest tasks in
          let due = due_after system before v in
          let more = woven_from system (before ++ v ∷ []) rest in
          let most = shared_peak_from system before (v ∷ rest) in
          let state = agree_memory mixed before agree in
          let need = need_same system v task in
          let later = woven_peak (mixed ++ (v ∷ due)) (before ++ v ∷ []) rest (agree_step mixed before v task.1 agree)
          (split ∙ sym (append_assoc before (v ∷ []) rest)) (All-tail (HasTask system) v rest tasks) in
          let share = ap (λ (t : Task). t.share) (task_same system v task) in
          let extra = ap (λ (t : Task). t.extra) (task_same system v task) in
          let fits = shares v task in
          let out = outputs_same v (length system.tasks + 1) system.items in
          let after = after_running (collected system) mixed v
          (agree.low v task.1 ∙ fresh before rest v split task) (task_ready mixed before v rest agree task split)
          (shared_task_at system v).share (shared_task_at system v).extra
          (omega (arith, fits.0, inputs_same v (length system.tasks + 1) system.items (omega (arith, task.1))))
          (omega (arith, fits.1, out)) (omega (arith, need, out)) in
          let within_most : peak_from (collected system) (mixed ++ v ∷ []) (due ++ more) ≤ most =
          peak_without (collected system) (mixed ++ v ∷ []) due more most
          (λ i d inside. (
          let range = due_range (stands_in before) (stands_in (before ++ v ∷ [])) (length system.tasks + 1) system.items i d inside in
          needs_nothing (get_or due i d) range.0 range.1))
          (omega (arith, after, state, need))
          (subst (λ (l : List ℕ). peak_from (collected system) l more ≤ most)
          (sym (append_assoc mixed (v ∷ []) due)) (omega (arith, later))) in
          omega (arith, within_most, state, need)

      pub peak_woven : peak_of (collected system) (woven system order) ≤ shared_peak_of system order
      peak_woven = woven_peak [] [] order agree_start refl traversal.tasks
