-- Tasks that run one after the other from the start to a state, with the memory below the bound, listed last first; and how a task that may be
-- put off is run last.
use Rattle.std.proofs.Common.{◌≡◌, ◌≢◌, ℕ, zero, suc, ◌+◌, ◌-◌, ◌<◌, ◌≤◌, Bool, true, false, ◌&&◌, ◌||◌, not, eqb, eq-eqb, ltb, lt-ltb, leb, List, [], ◌∷◌, length, get_or, replicate}
use Rattle.std.proofs.Common.{refl, sym, ap, subst, ◌∙◌, arith, inl, inr}
use Rattle.std.specs.List.{list_any}
use Rattle.std.proofs.lemmas.List.{length-replicate}
use Rattle.std.proofs.lemmas.List.Elements.{All-get_or}
use Rattle.std.proofs.lemmas.List.Folds.{list_any_at}
use Rattle.lists.proofs.Bools.{false_of_not, or_true}
use Rattle.std.proofs.lemmas.Bool.{cases_eq, cases_lt, ne_eqb, and_parts, leb-true, false_from_ne_true}
use Rattle.mp_system.specs.System.{is_named}
use Rattle.mp_system.specs.Replay.{is_marked}
use Rattle.shared_systems.specs.Shared.{SharedTaskSystem, is_made_by, is_read_by, shared_item_at}
use Rattle.shared_systems.specs.SharedMemory.{has_inputs, is_made, shared_running, shared_peak_of}
use Rattle.shared_systems.specs.SharedTraversal.{IsSharedTraversal}
use Rattle.shared_systems.specs.Bounds.{IsSharedSystem, IsSharedItemWithin}
use Rattle.shared_systems.proofs.KeySums.{no_item}
use Rattle.state_search.specs.States.{none_done, all_done, without, memory_in, memory_before, has_successor, can_be_last, may_wait, IsLookedAt, end, back, waits, any}
use Rattle.state_search.specs.Runs.{Runs, IsStepBelow, with_done, AreAllDone}
use Rattle.state_search.proofs.ListTests.{any_place, all_at, first_of}
use Rattle.state_search.proofs.TaskMarks.{none_marked, mark_parts, mark_inside, without_marks, without_both, done_back, done_adds, done_length, is_all}
use Rattle.state_search.proofs.ItemMarks.{Loses, made_less, inputs_more, inputs_still, reads_none, free_less, memory_submodular}
use Rattle.state_search.proofs.Runs.{runs_low, runs_done, runs_step, runs_rest, runs_of}

-- task v was run last, with the memory below the bound meanwhile
pub record IsStepTo (system : SharedTaskSystem) (bound : ℕ) (marks : List Bool) (v : ℕ) : Type 0 where
  pub done : is_marked marks v ≡ true
  pub ready : has_inputs system (is_marked (without marks v)) v ≡ true
  pub below : shared_running system (is_marked (without marks v)) v < bound

abbrev pub Reaches : SharedTaskSystem → ℕ → List Bool → List ℕ → Type 0
Reaches system bound marks [] = marks ≡ none_done system
Reaches system bound marks (v ∷ rest) = IsStepTo system bound marks v × Reaches system bound (without marks v) rest

pub record ReachesShorter (system : SharedTaskSystem) (bound : ℕ) (marks : List Bool) (long : List ℕ) : Type 0 where
  pub order : List ℕ
  pub reaches : Reaches system bound marks order
  pub shorter : length order < length long

pub loses : (marks : List Bool) (v : ℕ) → is_marked marks v ≡ true → Loses (is_marked marks) v (is_marked (without marks v))
loses marks v done u = let inside = mark_inside marks v done in without_marks marks v inside.0 inside.1 u

pub stays : (marks : List Bool) (v u : ℕ) → is_marked marks v ≡ true → is_marked marks u ≡ true → u ≢ v → is_marked (without marks v) u ≡ true
stays marks v u done here other = loses marks v done u ∙ rw (here, ne_eqb u v other) refl

none_of : (system : SharedTaskSystem) (marks : List Bool) (v : ℕ) → marks ≡ none_done system → is_marked marks v ≡ true → ⊥
none_of system marks v none done =
    let f : false ≡ true = sym (none_marked (length system.tasks) v) ∙ ap (λ (m : List Bool). is_marked m v) (sym none) ∙ done in cc

-- ---- a task that may be put off

module _ (system : SharedTaskSystem) (bound : ℕ) where
  module _ (marks : List Bool) (x v : ℕ) (x_done : is_marked marks x ≡ true) (v_done : is_marked marks v ≡ true) (apart : x ≢ v)
      (free : has_successor system marks v ≡ false) (raises : memory_before system marks v ≤ memory_in system marks) where
    v_stays : is_marked (without marks x) v ≡ true
    v_stays = stays marks x v x_done v_done (λ e. apart (sym e))

    -- without both there is no more memory than without the first alone
    memory_less : memory_before system (without marks x) v ≤ memory_in system (without marks x)
    memory_less =
        omega (
          arith,
          raises,
          memory_submodular (is_marked marks) (is_marked (without marks x)) (is_marked (without marks v)) (is_marked (without (without marks x) v)) x v
              (loses marks x x_done) (loses marks v v_done) (loses (without marks x) v v_stays) apart system,
        )

    free_still : has_successor system (without marks x) v ≡ false
    free_still = free_less (is_marked marks) (is_marked (without marks x)) x v (loses marks x x_done) system.items free

    -- the last task runs as well without task v
    step_still : IsStepTo system bound marks x → IsStepTo system bound (without marks v) x
    step_still step = record {
      done = stays marks v x v_done x_done apart;
      ready = subst (λ (m : List Bool). has_inputs system (is_marked m) x ≡ true) (without_both marks x v)
          (inputs_still (is_marked (without marks x)) (is_marked (without (without marks x) v)) v (loses (without marks x) v v_stays) system x
          (reads_none (is_marked marks) v x system.items free x_done) step.ready);
      below = subst (λ (m : List Bool). shared_running system (is_marked m) x < bound) (without_both marks x v)
          (omega (arith, memory_less, step.below));
    }

  -- a task that no task that is done needs, and before which there was no more memory, can be left out
  pub put_off : (order : List ℕ) (marks : List Bool) (v : ℕ) → Reaches system bound marks order → is_marked marks v ≡ true
      → has_successor system marks v ≡ false → memory_before system marks v ≤ memory_in system marks
      → ReachesShorter system bound (without marks v) order
  put_off [] marks v reaches done free raises = absurd (none_of system marks v reaches done)
  put_off (x ∷ rest) marks v reaches done free raises = elim (cases_eq x v) [
    | inl same ↦ record {
      order = rest;
      reaches = subst (λ (u : ℕ). Reaches system bound (without marks u) rest) same reaches.1;
      shorter = omega arith;
    }
    | inr apart ↦ (
        let x_done = reaches.0.done in
        let on = put_off rest (without marks x) v reaches.1 (v_stays marks x v x_done done apart free raises)
        (free_still marks x v x_done done apart free raises) (memory_less marks x v x_done done apart free raises) in
        record {
          order = x ∷ on.order;
          reaches = (
            step_still marks x v x_done done apart free raises reaches.0,
            subst (λ (m : List Bool). Reaches system bound m on.order) (without_both marks x v) on.reaches,
          );
          shorter = omega (arith, on.shorter);
        })
  ]

  -- ---- the last task has no successor

  -- all is made that a task that is done reads
  has_all : (order : List ℕ) (marks : List Bool) → Reaches system bound marks order → (w : ℕ) → is_marked marks w ≡ true
      → has_inputs system (is_marked marks) w ≡ true
  has_all [] marks reaches w done = absurd (none_of system marks w reaches done)
  has_all (x ∷ rest) marks reaches w done =
      let x_done = reaches.0.done in
      inputs_more (is_marked marks) (is_marked (without marks x)) x (loses marks x x_done) system w
      (elim (cases_eq w x) [
        | inl same ↦ subst (λ (u : ℕ). has_inputs system (is_marked (without marks x)) u ≡ true) (sym same) reaches.0.ready
        | inr other ↦ has_all rest (without marks x) reaches.1 w (stays marks x w x_done done other)
      ])

  -- an item that the last task made, and that another task that is done reads, was made without it
  none_made : (rest : List ℕ) (marks : List Bool) (x : ℕ) → Reaches system bound marks (x ∷ rest) → (i : ℕ) → i < length system.items
      → (w : ℕ) → is_made_by x (shared_item_at system.items i) ≡ true → is_read_by w (shared_item_at system.items i) ≡ true
      → is_made_by w (shared_item_at system.items i) ≡ false → is_marked marks w ≡ true → ⊥
  none_made rest marks x reaches i lt w made reads apart done =
      let item = shared_item_at system.items i in
      let x_done = reaches.0.done in
      let other : w ≢ x = λ same. (let f : true ≡ false = sym made ∙ ap (λ (u : ℕ). is_made_by u item) (sym same) ∙ apart in cc) in
      let inputs = has_all rest (without marks x) reaches.1 w (stays marks x w x_done done other) in
      let here = all_at (λ y. not (is_read_by w y) || is_made (is_marked (without marks x)) y) no_item system.items i lt inputs in
      let less = made_less (is_marked marks) (is_marked (without marks x)) x (loses marks x x_done) item.from in
      let told : is_made (is_marked (without marks x)) item ≡ true = second (is_read_by w item) (is_made (is_marked (without marks x)) item) reads here in
      let gone : is_made (is_marked (without marks x)) item ≡ false = less ∙ last (is_made (is_marked marks) item) (is_made_by x item) made in
      let f : true ≡ false = sym told ∙ gone in cc
    where
      second : (a b : Bool) → a ≡ true → (not a || b) ≡ true → b ≡ true
      second true b e f = f
      second false b e f = absurd cc

      last : (a b : Bool) → b ≡ true → (a && not b) ≡ false
      last true true e = refl
      last false true e = refl
      last a false e = absurd cc

  last_free : IsSharedSystem system → (rest : List ℕ) (marks : List Bool) (x : ℕ) → Reaches system bound marks (x ∷ rest)
      → has_successor system marks x ≡ false
  last_free is rest marks x reaches = false_from_ne_true (has_successor system marks x) (λ some.
      let taken = any_place (λ i. is_made_by x i && list_any (is_marked marks) i.readers) no_item system.items some in
      let item = shared_item_at system.items taken.0 in
      let parts = and_parts (is_made_by x item) (list_any (is_marked marks) item.readers) taken.2 in
      let reader = any_place (is_marked marks) 0 item.readers parts.1 in
      let w = get_or item.readers reader.0 0 in
      let within = All-get_or (IsSharedItemWithin (length system.tasks)) system.items taken.0 no_item taken.1 is.items in
      none_made rest marks x reaches taken.0 taken.1 w parts.0
      (list_any_at (λ c. eqb c w) item.readers reader.0 0 reader.1 (eq-eqb w w refl))
      (All-get_or (λ c. is_named item.from c ≡ false) item.readers reader.0 0 reader.1 within.apart) reader.2)

  -- ---- the start is looked at

  waits_marked : (marks : List Bool) (v : ℕ) → may_wait system bound marks v ≡ true → is_marked marks v ≡ true
  waits_marked marks v e =
      let parts = and_parts (can_be_last system bound marks v) (leb (memory_before system marks v) (memory_in system marks)) e in
      (and_parts (is_marked marks v) (not (has_successor system marks v) && ltb (shared_running system (is_marked (without marks v)) v) bound) parts.0).0

  -- a task that is no task may not wait
  pub none_waits : (marks : List Bool) → ((w : ℕ) → w < length marks + 1 → may_wait system bound marks w ≡ false)
      → (w : ℕ) → may_wait system bound marks w ≡ false
  none_waits marks none w = elim (cases_lt w (length marks + 1)) [
    | inl inside ↦ none w inside
    | inr past ↦ false_from_ne_true (may_wait system bound marks w) (λ waits.
        let inside = mark_inside marks w (waits_marked marks w waits) in omega (arith, inside.1, past))
  ]

  last_can : IsSharedSystem system → (rest : List ℕ) (marks : List Bool) (x : ℕ) → Reaches system bound marks (x ∷ rest)
      → can_be_last system bound marks x ≡ true
  last_can is rest marks x reaches =
      rw (reaches.0.done, last_free is rest marks x reaches, lt-ltb (shared_running system (is_marked (without marks x)) x) bound reaches.0.below) refl

  put_off_waits : (order : List ℕ) (marks : List Bool) (v : ℕ) → Reaches system bound marks order → may_wait system bound marks v ≡ true
      → ReachesShorter system bound (without marks v) order
  put_off_waits order marks v reaches e =
      let parts = and_parts (can_be_last system bound marks v) (leb (memory_before system marks v) (memory_in system marks)) e in
      let running = ltb (shared_running system (is_marked (without marks v)) v) bound in
      let last = and_parts (is_marked marks v) (not (has_successor system marks v) && running) parts.0 in
      let free = and_parts (not (has_successor system marks v)) running last.1 in
      put_off order marks v reaches last.0 (false_of_not (has_successor system marks v) free.0)
      (leb-true (memory_before system marks v) (memory_in system marks) parts.1)

  start_looked_at : IsSharedSystem system → (n : ℕ) (order : List ℕ) (marks : List Bool) → length order < n → Reaches system bound marks order
      → IsLookedAt system bound marks → IsLookedAt system bound (none_done system)
  start_looked_at is zero order marks short reaches looked = absurd (omega arith)
  start_looked_at is (suc n) [] marks short reaches looked = subst (IsLookedAt system bound) reaches looked
  start_looked_at is (suc n) (x ∷ rest) marks short reaches looked = elim (first_of (may_wait system bound marks) (length marks + 1)) [
    | inl first ↦ (
        let on = put_off_waits (x ∷ rest) marks first.0 reaches first.1 in
        start_looked_at is n on.order (without marks first.0) (omega (arith, on.shorter, short)) on.reaches
        (back looked (waits (record { waits = first.1; lowest = first.2 }))))
    | inr none ↦
        start_looked_at is n rest (without marks x) (omega (arith, short)) reaches.1
        (back looked (any (none_waits marks none) (last_can is rest marks x reaches)))
  ]

  -- ---- a traversal below the bound reaches the end

  pub record ReachesEnd : Type 0 where
    pub order : List ℕ
    pub reaches : Reaches system bound (all_done system) order
    pub low : memory_in system (all_done system) < bound

  marks_all : (marks : List Bool) → length marks ≡ length system.tasks → AreAllDone system marks → marks ≡ all_done system
  marks_all marks len all =
      is_all marks (λ i lt.
      let done = mark_parts marks (i + 1) (all (i + 1) (omega arith, omega (arith, lt, len))) in
      let same : i + 1 - 1 ≡ i = omega arith in
      ap (λ (k : ℕ). get_or marks k false) (sym same) ∙ done.1)
      ∙ ap (λ (n : ℕ). replicate n true) len

  step_to : (marks : List Bool) (v : ℕ) → length marks ≡ length system.tasks → IsStepBelow system bound marks v
      → IsStepTo system bound (with_done marks v) v
  step_to marks v len step =
      let same = done_back marks v step.task.0 step.waits in
      record {
        done = done_adds marks v step.task.0 (omega (arith, step.task.1, len)) v ∙ rw (eq-eqb v v refl) (or_true (is_marked marks v));
        ready = subst (λ (m : List Bool). has_inputs system (is_marked m) v ≡ true) (sym same) step.ready;
        below = subst (λ (m : List Bool). shared_running system (is_marked m) v < bound) (sym same) step.below;
      }

  reaches_on : (rest : List ℕ) (marks : List Bool) (before : List ℕ) → length marks ≡ length system.tasks → Runs system bound marks rest
      → Reaches system bound marks before → ReachesEnd
  reaches_on [] marks before len runs reaches =
      let all = marks_all marks len (runs_done system bound marks runs) in
      record {
        order = before;
        reaches = subst (λ (m : List Bool). Reaches system bound m before) all reaches;
        low = subst (λ (m : List Bool). memory_in system m < bound) all (runs_low system bound marks [] runs);
      }
  reaches_on (v ∷ rest) marks before len runs reaches =
      let step = runs_step system bound marks v rest runs in
      reaches_on rest (with_done marks v) (v ∷ before) (done_length marks v ∙ len) (runs_rest system bound marks v rest runs)
      (step_to marks v len step, subst (λ (m : List Bool). Reaches system bound m before) (sym (done_back marks v step.task.0 step.waits)) reaches)

  -- where the start is not looked at, no order has a peak below the bound
  pub none_below : IsSharedSystem system → ¬ IsLookedAt system bound (none_done system) → (order : List ℕ) → IsSharedTraversal system order
      → bound ≤ shared_peak_of system order
  none_below is none order traversal = elim (cases_lt (shared_peak_of system order) bound) [
    | inl low ↦ absurd (
        let reached = reaches_on order (none_done system) [] (length-replicate (length system.tasks) false)
        (runs_of system bound order traversal low) refl in
        none (start_looked_at is (length reached.order + 1) reached.order (all_done system) (omega arith) reached.reaches (end reached.low)))
    | inr high ↦ high
  ]
