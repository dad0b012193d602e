-- An order of the system with its joins put in, each right after the last of its tasks: it is a traversal, with no higher peak.
use Rattle.std.proofs.Common.{◌≡◌, ◌≢◌, ℕ, zero, suc, ◌+◌, ◌-◌, ◌≤◌, Bool, true, false, cond, ◌&&◌, ◌||◌, eqb, leb, List, [], ◌∷◌}
use Rattle.std.proofs.Common.{◌++◌, length, get_or, append_assoc, refl, sym, ap, subst, ◌∙◌, arith, inl, inr}
use Rattle.std.specs.Prelude.{All}
use Rattle.std.proofs.lemmas.List.{append-nil}
use Rattle.std.proofs.lemmas.List.Folds.{list_any-append}
use Rattle.std.proofs.lemmas.List.Elements.{All-head, All-tail, All-nil, All-cons, All-append, filter-append}
use Rattle.std.proofs.lemmas.Bool.{cases_Bool, cases_eq, cases_lt, or_cases, eq-eqb, ne_eqb, eqb-true, le-leb, lt-leb}
use Rattle.lists.proofs.Bools.{same_bool, or_false}
use Rattle.mp_system.specs.Memory.{stands_in}
use Rattle.shared_systems.specs.Shared.{SharedTaskSystem, HasTask, HasOwnShare, shared_need_of}
use Rattle.shared_systems.specs.SharedMemory.{shared_memory, shared_running, has_inputs, shared_peak_from, shared_peak_of}
use Rattle.shared_systems.specs.SharedTraversal.{IsSharedTraversal}
use Rattle.shared_systems.specs.Bounds.{IsSharedSystem}
use Rattle.shared_systems.proofs.States.{memory_same, has_inputs_same}
use Rattle.shared_systems.proofs.Collectors.{count_of, count_of-cons, count_of-append, one_if, none_if, stands_counted}
use Rattle.shared_systems.proofs.WithoutCollectors.{count_dropped}
use Rattle.shared_systems.proofs.Steps.{stands_push, stands_more}
use Rattle.shared_systems.proofs.Endings.{memory_later, own_freed}
use Rattle.joined_systems.specs.Joins.{AreSafeJoins, join_of, join_count}
use Rattle.joined_systems.specs.Joined.{join_task, joined, without_joins}
use Rattle.joined_systems.proofs.JoinNumbers.{all_at, all_from, join-le}
use Rattle.joined_systems.proofs.JoinedSystems.{task_count, need_is, share_is, join_need}
use Rattle.joined_systems.proofs.Inputs.{AllHave, have_nil, have_cons, have_at, closed, all_read}
use Rattle.joined_systems.proofs.JoinedStates.{all_of, of_join, held_is, has_task, has_join}

-- the join after task v, which runs after those of `before`, where v is the last of its tasks
abbrev pub due : ℕ → List ℕ → List ℕ → ℕ → List ℕ
due n joins before v = cond (all_of joins (stands_in (before ++ v ∷ [])) (join_of joins v)) (join_task n (join_of joins v)) []

abbrev pub woven_from : ℕ → List ℕ → List ℕ → List ℕ → List ℕ
woven_from n joins before [] = []
woven_from n joins before (v ∷ rest) = (v ∷ due n joins before v) ++ woven_from n joins (before ++ v ∷ []) rest

abbrev pub woven : ℕ → List ℕ → List ℕ → List ℕ
woven n joins order = woven_from n joins [] order

-- ---- what is due

due_count : (n k j : ℕ) (b : Bool) → 1 ≤ k → count_of (cond b (join_task n j) []) (n + k) ≡ cond (b && eqb j k) 1 0
due_count n k j false some = refl
due_count n k zero true some = sym (none_if zero k (λ e. omega arith))
due_count n k (suc i) true some =
    count_of-cons (n + suc i) [] (n + k) ∙ elim (cases_eq (suc i) k) [
      | inl same ↦ omega (arith, one_if (n + suc i) (n + k) (omega arith), one_if (suc i) k same)
      | inr other ↦ omega (arith, none_if (n + suc i) (n + k) (λ e. other (omega arith)), none_if (suc i) k other)
    ]

due_low : (n v j : ℕ) (b : Bool) → v ≤ n → stands_in (cond b (join_task n j) []) v ≡ false
due_low n v j false le = refl
due_low n v zero true le = refl
due_low n v (suc k) true le = rw (ne_eqb (n + suc k) v (λ e. omega arith)) refl

due_without : (n j : ℕ) (b : Bool) → without_joins n (cond b (join_task n j) []) ≡ []
due_without n j false = refl
due_without n zero true = refl
due_without n (suc k) true = rw (lt-leb (n + suc k) n (omega arith)) refl

due_all : (P : ℕ → Type 0) (n j : ℕ) (b : Bool) → (1 ≤ j → P (n + j)) → All P (cond b (join_task n j) [])
due_all P n j false h = All-nil P
due_all P n zero true h = All-nil P
due_all P n (suc k) true h = All-cons P (n + suc k) [] (h (omega arith)) (All-nil P)

due_have : (system : SharedTaskSystem) (mixed more : List ℕ) (n j : ℕ) (b : Bool)
    → (b ≡ true → 1 ≤ j → has_inputs system (stands_in mixed) (n + j) ≡ true)
    → AllHave system (mixed ++ cond b (join_task n j) []) more → AllHave system mixed (cond b (join_task n j) [] ++ more)
due_have system mixed more n j false h later = subst (λ (l : List ℕ). AllHave system l more) (append-nil mixed) later
due_have system mixed more n zero true h later = subst (λ (l : List ℕ). AllHave system l more) (append-nil mixed) later
due_have system mixed more n (suc k) true h later = have_cons system mixed (n + suc k) more (h refl (omega arith)) later

due_peak : (system : SharedTaskSystem) (mixed more : List ℕ) (n j : ℕ) (b : Bool) (most : ℕ)
    → (1 ≤ j → shared_need_of system (n + j) ≡ 0) → shared_memory system (stands_in mixed) ≤ most
    → shared_peak_from system (mixed ++ cond b (join_task n j) []) more ≤ most
    → shared_peak_from system mixed (cond b (join_task n j) [] ++ more) ≤ most
due_peak system mixed more n j false most need state later =
    subst (λ (l : List ℕ). shared_peak_from system l more ≤ most) (append-nil mixed) later
due_peak system mixed more n zero true most need state later =
    subst (λ (l : List ℕ). shared_peak_from system l more ≤ most) (append-nil mixed) later
due_peak system mixed more n (suc k) true most need state later = omega (arith, need (omega arith), state, later)

-- after a task whose share fits the memory is no greater than while it ran
after_running : (system : SharedTaskSystem) (done later : ℕ → Bool) (v : ℕ) → done v ≡ false → has_inputs system done v ≡ true
    → ((u : ℕ) → done u ≡ true → has_inputs system done u ≡ true) → ((u : ℕ) → later u ≡ (done u || eqb u v)) → HasOwnShare system v
    → shared_memory system later ≤ shared_running system done v
after_running system done later v fresh has each adds own =
    omega (arith, memory_later system done later v fresh has each adds, own_freed system done v, own.0, own.1)

module _ (system : SharedTaskSystem) (joins : List ℕ) (is : IsSharedSystem system) (safe : AreSafeJoins system joins) where
  -- ---- the order so far, and the order so far with its joins

  record Agree (mixed before : List ℕ) : Type 0 where
    low : (u : ℕ) → u ≤ length system.tasks → stands_in mixed u ≡ stands_in before u
    counts : (k : ℕ) → 1 ≤ k → k ≤ join_count joins
        → count_of mixed (length system.tasks + k) ≡ cond (all_of joins (stands_in before) k) 1 0

  some_left : (before : List ℕ) (v k : ℕ) → HasTask system v → join_of joins v ≡ k → stands_in before v ≡ false
      → all_of joins (stands_in before) k ≡ false
  some_left before v k task is_k fresh = elim (cases_Bool (all_of joins (stands_in before) k)) [
    | inl all ↦ absurd (let e = of_join system joins safe (stands_in before) v k task is_k all in cc)
    | inr not_all ↦ not_all
  ]

  agree_start : Agree [] []
  agree_start = record {
    low = λ u le. refl;
    counts = λ k some high. (
        let there = safe.used k some high in
        rw (some_left [] there.0 k there.1.0 there.1.1 refl) refl
        );
  }

  joins_stand : (mixed before : List ℕ) → Agree mixed before → (k : ℕ) → 1 ≤ k → k ≤ join_count joins
      → stands_in mixed (length system.tasks + k) ≡ all_of joins (stands_in before) k
  joins_stand mixed before agree k some high =
      stands_counted mixed (length system.tasks + k) (all_of joins (stands_in before) k) (agree.counts k some high)

  others_same : (before : List ℕ) (v k : ℕ) → join_of joins v ≢ k
      → all_of joins (stands_in (before ++ v ∷ [])) k ≡ all_of joins (stands_in before) k
  others_same before v k other =
      let same : (i : ℕ) → get_or joins i 0 ≡ k → stands_in (before ++ v ∷ []) (1 + i) ≡ stands_in before (1 + i) =
      λ i e. (
      let place : 1 + i - 1 ≡ i = omega arith in
      let apart : v ≡ 1 + i → ⊥ = λ w. other (ap (λ (z : ℕ). get_or joins (z - 1) 0) w ∙ ap (λ (z : ℕ). get_or joins z 0) place ∙ e) in
      stands_push before v (1 + i)
      ∙ ap (λ (b : Bool). stands_in before (1 + i) || b) (ne_eqb v (1 + i) apart) ∙ or_false (stands_in before (1 + i))) in
      same_bool (all_of joins (stands_in (before ++ v ∷ [])) k) (all_of joins (stands_in before) k)
      (λ all. all_from (stands_in before) joins 1 k
      (λ i lt e. sym (same i e) ∙ all_at (stands_in (before ++ v ∷ [])) joins 1 k i lt e all))
      (λ all. all_from (stands_in (before ++ v ∷ [])) joins 1 k (λ i lt e. same i e ∙ all_at (stands_in before) joins 1 k i lt e all))

  agree_step : (mixed before : List ℕ) (v : ℕ) → HasTask system v → stands_in before v ≡ false
      → Agree mixed before → Agree (mixed ++ (v ∷ due (length system.tasks) joins before v)) (before ++ v ∷ [])
  agree_step mixed before v task fresh agree =
      let n = length system.tasks in
      let j = join_of joins v in
      let new = due n joins before v in
      record {
        low = λ u le. (
            list_any-append (λ w. eqb w u) mixed (v ∷ new)
            ∙ ap (λ (b : Bool). stands_in mixed u || (eqb v u || b)) (due_low n u j (all_of joins (stands_in (before ++ v ∷ [])) j) le)
            ∙ ap (λ (b : Bool). b || (eqb v u || false)) (agree.low u le)
            ∙ sym (list_any-append (λ w. eqb w u) before (v ∷ []))
            );
        counts = λ k some high. (
            let now = due_count n k j (all_of joins (stands_in (before ++ v ∷ [])) j) some in
            let none = none_if v (n + k) (λ e. omega (arith, task.1)) in
            let whole = count_of-append mixed (v ∷ new) (n + k) in
            let front = count_of-cons v new (n + k) in
            elim (cases_eq j k) [
              | inl same ↦ (
                  let old : all_of joins (stands_in before) k ≡ false = some_left before v k task same fresh in
                  let old' : ◌≡◌ {A = ℕ} (cond (all_of joins (stands_in before) k) 1 0) 0 = rw old refl in
                  let new' : ◌≡◌ {A = ℕ} (cond (all_of joins (stands_in (before ++ v ∷ [])) j && eqb j k) 1 0)
                  (cond (all_of joins (stands_in (before ++ v ∷ [])) k) 1 0) =
                  rw (eq-eqb j k same) (ap {B = ℕ} (λ (b : Bool). cond b 1 0)
                  (and_one (all_of joins (stands_in (before ++ v ∷ [])) j) ∙ ap (all_of joins (stands_in (before ++ v ∷ []))) same)) in
                  omega (arith, now, none, whole, front, agree.counts k some high, old', new')
                  )
              | inr other ↦ (
                  let kept : ◌≡◌ {A = ℕ} (cond (all_of joins (stands_in (before ++ v ∷ [])) k) 1 0)
                  (cond (all_of joins (stands_in before) k) 1 0) =
                  ap {B = ℕ} (λ (b : Bool). cond b 1 0) (others_same before v k other) in
                  let new' : ◌≡◌ {A = ℕ} (cond (all_of joins (stands_in (before ++ v ∷ [])) j && eqb j k) 1 0) 0 =
                  rw (ne_eqb j k other) (ap {B = ℕ} (λ (b : Bool). cond b 1 0) (and_none (all_of joins (stands_in (before ++ v ∷ [])) j))) in
                  omega (arith, now, none, whole, front, agree.counts k some high, kept, new')
                  )
            ]
            );
      }
    where
      and_one : (b : Bool) → (b && true) ≡ b
      and_one true = refl
      and_one false = refl

      and_none : (b : Bool) → (b && false) ≡ false
      and_none true = refl
      and_none false = refl

  pub without_woven : (before rest : List ℕ) → All (HasTask system) rest
      → without_joins (length system.tasks) (woven_from (length system.tasks) joins before rest) ≡ rest
  without_woven before [] tasks = refl
  without_woven before (v ∷ rest) tasks =
      let n = length system.tasks in
      let here = All-head (HasTask system) v rest tasks in
      let none = due_without n (join_of joins v) (all_of joins (stands_in (before ++ v ∷ [])) (join_of joins v)) in
      filter-append (λ u. leb u n) (v ∷ due n joins before v) (woven_from n joins (before ++ v ∷ []) rest)
      ∙ rw (le-leb v n here.1, none, without_woven (before ++ v ∷ []) rest (All-tail (HasTask system) v rest tasks)) refl

  woven_tasks : (before rest : List ℕ) → All (HasTask system) rest
      → All (HasTask (joined joins system)) (woven_from (length system.tasks) joins before rest)
  woven_tasks before [] tasks = All-nil (HasTask (joined joins system))
  woven_tasks before (v ∷ rest) tasks =
      let n = length system.tasks in
      let j = join_of joins v in
      let here = All-head (HasTask system) v rest tasks in
      let count = task_count system joins in
      All-append (HasTask (joined joins system)) (v ∷ due n joins before v) (woven_from n joins (before ++ v ∷ []) rest)
      (All-cons (HasTask (joined joins system)) v (due n joins before v) (here.0, omega (arith, here.1, count))
      (due_all (HasTask (joined joins system)) n j (all_of joins (stands_in (before ++ v ∷ [])) j)
      (λ some. (omega (arith, some), omega (arith, join-le joins (v - 1), count)))))
      (woven_tasks (before ++ v ∷ []) rest (All-tail (HasTask system) v rest tasks))

  -- ---- traversals

  module _ (order : List ℕ) (traversal : IsSharedTraversal system order) where
    fresh_in : (before rest : List ℕ) (v : ℕ) → order ≡ before ++ v ∷ rest → HasTask system v → stands_in before v ≡ false
    fresh_in before rest v split task =
        let whole = ap (λ (l : List ℕ). count_of l v) split in
        stands_counted before v false
        (omega (arith, whole, traversal.once v task, count_of-append before (v ∷ rest) v, count_of-cons v rest v, one_if v v refl))

    next_split : (before rest : List ℕ) (v : ℕ) → order ≡ before ++ v ∷ rest → order ≡ (before ++ v ∷ []) ++ rest
    next_split before rest v split = split ∙ sym (append_assoc before (v ∷ []) rest)

    agree_all : (mixed before rest : List ℕ) → All (HasTask system) rest → order ≡ before ++ rest
        → Agree mixed before → Agree (mixed ++ woven_from (length system.tasks) joins before rest) (before ++ rest)
    agree_all mixed before [] tasks split agree =
        subst (λ (l : List ℕ). Agree l (before ++ [])) (sym (append-nil mixed)) (subst (Agree mixed) (sym (append-nil before)) agree)
    agree_all mixed before (v ∷ rest) tasks split agree =
        let n = length system.tasks in
        let here = All-head (HasTask system) v rest tasks in
        let later = agree_all (mixed ++ (v ∷ due n joins before v)) (before ++ v ∷ []) rest
        (All-tail (HasTask system) v rest tasks) (next_split before rest v split)
        (agree_step mixed before v here (fresh_in before rest v split here) agree) in
        subst (λ (l : List ℕ). Agree l (before ++ v ∷ rest))
        (append_assoc mixed (v ∷ due n joins before v) (woven_from n joins (before ++ v ∷ []) rest))
        (subst (Agree ((mixed ++ (v ∷ due n joins before v)) ++ woven_from n joins (before ++ v ∷ []) rest))
        (append_assoc before (v ∷ []) rest) later)

    before_has : (before rest : List ℕ) (v : ℕ) → order ≡ before ++ v ∷ rest → has_inputs system (stands_in before) v ≡ true
    before_has before rest v split = traversal.after_suppliers before rest v split

    memory_is : (mixed before rest : List ℕ) → order ≡ before ++ rest → Agree mixed before
        → shared_memory (joined joins system) (stands_in mixed) ≡ shared_memory system (stands_in before)
    memory_is mixed before rest split agree =
        sym (held_is system joins safe (stands_in before) (stands_in mixed) (λ u task. agree.low u task.1) (joins_stand mixed before agree)
        (closed system order before rest traversal split) system.items is.items (all_read system.items))
        ∙ memory_same system (stands_in mixed) (stands_in before) (λ u task. agree.low u task.1) system.items is.items

    task_has : (mixed before rest : List ℕ) (v : ℕ) → order ≡ before ++ v ∷ rest → HasTask system v → Agree mixed before
        → has_inputs (joined joins system) (stands_in mixed) v ≡ true
    task_has mixed before rest v split task agree =
        let has = before_has before rest v split in
        has_task system joins safe (stands_in before) (stands_in mixed) (λ u is_task. agree.low u is_task.1) (joins_stand mixed before agree)
        (closed system order before (v ∷ rest) traversal split) v task.1 has system.items is.items (all_read system.items)
        (has_inputs_same system (stands_in mixed) (stands_in before) (λ u is_task. agree.low u is_task.1) v system.items is.items ∙ has)

    join_has : (mixed before rest : List ℕ) (v : ℕ) → order ≡ before ++ v ∷ rest → HasTask system v → Agree mixed before
        → all_of joins (stands_in (before ++ v ∷ [])) (join_of joins v) ≡ true → 1 ≤ join_of joins v
        → has_inputs (joined joins system) (stands_in (mixed ++ v ∷ [])) (length system.tasks + join_of joins v) ≡ true
    join_has mixed before rest v split task agree all some =
        let n = length system.tasks in
        let k = join_of joins v in
        let later = stands_in (mixed ++ v ∷ []) in
        let own : (u : ℕ) → HasTask system u → join_of joins u ≡ k → (later u ≡ true) × (has_inputs system (stands_in before) u ≡ true) =
        λ u is_task e. (
        let stands : (stands_in before u || eqb v u) ≡ true = sym (stands_push before v u)
        ∙ of_join system joins safe (stands_in (before ++ v ∷ [])) u k is_task e all in (
          stands_push mixed v u ∙ ap (λ (b : Bool). b || eqb v u) (agree.low u is_task.1) ∙ stands,
          elim (or_cases (stands_in before u) (eqb v u) stands) [
            | inl old ↦ closed system order before (v ∷ rest) traversal split u old
            | inr new ↦ subst (λ (w : ℕ). has_inputs system (stands_in before) w ≡ true) (eqb-true v u new) (before_has before rest v split)
          ],
        )) in
        has_join system joins safe (stands_in before) later
        (λ u is_task e. stands_more mixed (v ∷ []) u (agree.low u is_task.1 ∙ e))
        (λ i from to e. stands_more mixed (v ∷ []) (n + i) (joins_stand mixed before agree i from to ∙ e))
        k some (join-le joins (v - 1)) own system.items is.items (all_read system.items) (λ u has. has)

    woven_have : (mixed before rest : List ℕ) → Agree mixed before → order ≡ before ++ rest → All (HasTask system) rest
        → AllHave (joined joins system) mixed (woven_from (length system.tasks) joins before rest)
    woven_have mixed before [] agree split tasks = have_nil (joined joins system) mixed
    woven_have mixed before (v ∷ rest) agree split tasks =
        let n = length system.tasks in
        let j = join_of joins v in
        let all = all_of joins (stands_in (before ++ v ∷ [])) j in
        let task = All-head (HasTask system) v rest tasks in
        let more = woven_from n joins (before ++ v ∷ []) rest in
        let later = woven_have (mixed ++ (v ∷ due n joins before v)) (before ++ v ∷ []) rest
        (agree_step mixed before v task (fresh_in before rest v split task) agree)
        (next_split before rest v split) (All-tail (HasTask system) v rest tasks) in
        have_cons (joined joins system) mixed v (due n joins before v ++ more) (task_has mixed before rest v split task agree)
        (due_have (joined joins system) (mixed ++ v ∷ []) more n j all
        (λ e some. join_has mixed before rest v split task agree e some)
        (subst (λ (l : List ℕ). AllHave (joined joins system) l more) (sym (append_assoc mixed (v ∷ []) (due n joins before v))) later))

    all_stand : (k : ℕ) → all_of joins (stands_in order) k ≡ true
    all_stand k = all_from (stands_in order) joins 1 k
        (λ i lt e. stands_counted order (1 + i) true (traversal.once (1 + i) (omega arith, omega (arith, lt, safe.len))))

    woven_once : (v : ℕ) → HasTask (joined joins system) v → count_of (woven (length system.tasks) joins order) v ≡ 1
    woven_once v task = elim (cases_lt (length system.tasks) v) [
      | inl above ↦ (
          let n = length system.tasks in
          let agree = agree_all [] [] order traversal.tasks refl agree_start in
          let name : n + (v - n) ≡ v = omega arith in
          let one = agree.counts (v - n) (omega arith) (omega (arith, task.1, task_count system joins)) in
          let one' : count_of (woven n joins order) (n + (v - n)) ≡ 1 = rw (all_stand (v - n)) at one in
          subst (λ (w : ℕ). count_of (woven n joins order) w ≡ 1) name one'
          )
      | inr below ↦ (
          sym (count_dropped system (woven (length system.tasks) joins order) v below)
          ∙ ap (λ (l : List ℕ). count_of l v) (without_woven [] order traversal.tasks) ∙ traversal.once v (task.0, below)
          )
    ]

    pub traversal_woven : IsSharedTraversal (joined joins system) (woven (length system.tasks) joins order)
    traversal_woven = record {
      once = woven_once;
      tasks = woven_tasks [] order traversal.tasks;
      after_suppliers = λ before rest v split. have_at (joined joins system) [] before v rest
          (subst (AllHave (joined joins system) []) split (woven_have [] [] order agree_start refl traversal.tasks));
    }

    -- ---- the peak

    woven_peak : (mixed before rest : List ℕ) → Agree mixed before → order ≡ before ++ rest
        → woven (length system.tasks) joins order ≡ mixed ++ woven_from (length system.tasks) joins before rest → All (HasTask system) rest
        → shared_peak_from (joined joins system) mixed (woven_from (length system.tasks) joins before rest)
        ≤ shared_peak_from system before rest
    woven_peak mixed before [] agree split whole tasks = omega (arith, memory_is mixed before [] split agree)
    woven_peak mixed before (v ∷ rest) agree split whole tasks =
        let n = length system.tasks in
        let j = join_of joins v in
        let all = all_of joins (stands_in (before ++ v ∷ [])) j in
        let task = All-head (HasTask system) v rest tasks in
        let fresh = fresh_in before rest v split task in
        let new = due n joins before v in
        let more = woven_from n joins (before ++ v ∷ []) rest in
        let most = shared_peak_from system before (v ∷ rest) in
        let state = memory_is mixed before (v ∷ rest) split agree in
        let need = need_is system joins v task in
        let later = woven_peak (mixed ++ (v ∷ new)) (before ++ v ∷ []) rest (agree_step mixed before v task fresh agree)
        (next_split before rest v split) (whole ∙ sym (append_assoc mixed (v ∷ new) more)) (All-tail (HasTask system) v rest tasks) in
        let after = after_running (joined joins system) (stands_in mixed) (stands_in (mixed ++ v ∷ [])) v
        (agree.low v task.1 ∙ fresh) (task_has mixed before rest v split task agree)
        (closed (joined joins system) (woven n joins order) mixed (woven_from n joins before (v ∷ rest)) traversal_woven whole)
        (λ u. stands_push mixed v u ∙ ap (λ (b : Bool). stands_in mixed u || b) (flip v u)) (share_is system joins v task (is.shares v task)) in
        let within_most : shared_peak_from (joined joins system) (mixed ++ v ∷ []) (new ++ more) ≤ most =
        due_peak (joined joins system) (mixed ++ v ∷ []) more n j all most
        (λ some. join_need system joins j some (join-le joins (v - 1)) is.items) (omega (arith, after, state, need))
        (subst (λ (l : List ℕ). shared_peak_from (joined joins system) l more ≤ most)
        (sym (append_assoc mixed (v ∷ []) new)) (omega (arith, later))) in
        omega (arith, within_most, state, need)
      where
        flip : (a b : ℕ) → eqb a b ≡ eqb b a
        flip a b = elim (cases_eq a b) [
          | inl e ↦ eq-eqb a b e ∙ sym (eq-eqb b a (sym e))
          | inr o ↦ ne_eqb a b o ∙ sym (ne_eqb b a (λ e. o (sym e)))
        ]

    pub peak_woven : shared_peak_of (joined joins system) (woven (length system.tasks) joins order) ≤ shared_peak_of system order
    peak_woven = woven_peak [] [] order agree_start refl refl traversal.tasks
