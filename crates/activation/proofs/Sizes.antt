-- Sums of sizes stay within the whole.
use Rattle.std.proofs.Common.{◌≡◌, ℕ, ◌+◌, ◌-◌, ◌<◌, ◌≤◌, true, List, [], ◌∷◌, length, get_or, sym, ap, subst, arith, ◌∙◌, Option, Some, None}
use Rattle.std.specs.Prelude.{All}
use Rattle.std.specs.List.{sum_by}
use Rattle.std.proofs.lemmas.Bool.{eqb-true}
use Rattle.std.proofs.lemmas.List.{get_or_default}
use Rattle.std.proofs.lemmas.List.Elements.{All-get_or, All-head}
use Rattle.std.proofs.lemmas.List.Sums.{get_or-le-sum_by}
use Rattle.limits.specs.Limits.{most_size, most_time, most_total, most_uses}
use Rattle.mp_system.specs.declared.system.Task.{Task}
use Rattle.mp_system.specs.System.{IsTaskWithin, is_named}
use Rattle.shared_systems.specs.Shared.{SharedTaskSystem, SharedItem, HasTask, HasOwnShare, shared_item_at, shared_task_at, only}
use Rattle.shared_systems.specs.Shared.{is_read_by_alone, is_made_by, own_inputs_of, shared_outputs_of}
use Rattle.shared_systems.specs.Bounds.{IsSharedSystem, IsSharedItemWithin, reader_count}
use Rattle.shared_systems.proofs.KeySums.{where-le, no_item}
use Rattle.activation.specs.Schedule.{task_entry}
use Rattle.activation.proofs.Numbers.{number_at}

-- what the task at a place keeps to
pub record TaskFacts (s : SharedTaskSystem) (task : Task) (k : ℕ) : Type 0 where
  pub extra : task.extra ≤ most_size
  pub time : (1 ≤ task.time) × (task.time ≤ most_time)
  pub inputs : task.share ≤ own_inputs_of s (k + 1)
  pub whole : task.share ≤ task.extra + shared_outputs_of s (k + 1)
  pub few_inputs : own_inputs_of s (k + 1) ≤ most_total
  pub few_outputs : shared_outputs_of s (k + 1) ≤ most_total

pub task_facts : (s : SharedTaskSystem) → IsSharedSystem s → (tasks : List Task) → tasks ≡ s.tasks
    → (k : ℕ) (d : Task) → k < length tasks → TaskFacts s (get_or tasks k d) k
task_facts s sys tasks same k d w =
    let w' : k < length s.tasks = omega (arith, ap length same) in
    let e : k + 1 - 1 ≡ k = omega arith in
    let is : shared_task_at s (k + 1) ≡ get_or tasks k d =
    ap (λ j. get_or s.tasks j (record { extra = 0; share = 0; time = 0 })) e
    ∙ get_or_default s.tasks k (record { extra = 0; share = 0; time = 0 }) d w' ∙ ap (λ ts. get_or ts k d) (sym same) in
    let kept = All-get_or IsTaskWithin s.tasks k d w' sys.tasks in
    let kept' : IsTaskWithin (get_or tasks k d) = subst (λ ts. IsTaskWithin (get_or ts k d)) (sym same) kept in
    let shares : HasOwnShare s (k + 1) = sys.shares (k + 1) (omega arith, omega arith) in
    let less : (shared_task_at s (k + 1)).share ≡ (get_or tasks k d).share = ap (λ t. t.share) is in
    let more : (shared_task_at s (k + 1)).extra ≡ (get_or tasks k d).extra = ap (λ t. t.extra) is in
    record {
      extra = kept'.extra;
      time = kept'.time;
      inputs = omega (arith, shares.0, less);
      whole = omega (arith, shares.1, less, more);
      few_inputs = omega (arith, sys.total, where-le (is_read_by_alone (k + 1)) s.items);
      few_outputs = omega (arith, sys.total, where-le (is_made_by (k + 1)) s.items);
    }

-- a table of places is one of tasks
pub of_task : (P : ℕ → ℕ → Type 0) (xs : List ℕ) (n : ℕ)
    → ((k : ℕ) → k < n → P (get_or xs k 0) (k + 1)) → (t : ℕ) → 1 ≤ t → t ≤ n → P (task_entry xs t) t
of_task P xs n all t low high =
    let e : t - 1 + 1 ≡ t = omega arith in
    let h = all (t - 1) (omega arith) in
    subst (λ x. P x t) (number_at xs t low) (subst (λ u. P (get_or xs (t - 1) 0) u) e h)

named_some : (o : Option ℕ) (t : ℕ) → is_named o t ≡ true → o ≡ Some t
named_some None t h = cc
named_some (Some u) t h = ap Some (eqb-true u t h)

only_one : (P : ℕ → Type 0) (to : List ℕ) → All P to → (t : ℕ) → is_named (only to) t ≡ true → P t
only_one P [] all t h = absurd cc
only_one P (c ∷ []) all t h = subst P (eqb-true c t h) (All-head P c [] all)
only_one P (c ∷ d ∷ cs) all t h = absurd cc

-- the tasks that an item names
module _ (s : SharedTaskSystem) (sys : IsSharedSystem s) (items : List SharedItem) (same : items ≡ s.items) (i : ℕ) (w : i < length items) where
  pub kept : IsSharedItemWithin (length s.tasks) (shared_item_at items i)
  kept = All-get_or (IsSharedItemWithin (length s.tasks)) items i no_item w
      (subst (All (IsSharedItemWithin (length s.tasks))) (sym same) sys.items)

  pub only_reader_is_task : (t : ℕ) → is_named (only (shared_item_at items i).readers) t ≡ true → HasTask s t
  only_reader_is_task t h = only_one (HasTask s) (shared_item_at items i).readers kept.readers t h

  pub producer_is_task : (t : ℕ) → is_named (shared_item_at items i).from t ≡ true → HasTask s t
  producer_is_task t h = kept.producer t (named_some (shared_item_at items i).from t h)

  -- an item has few readers
  pub few_readers : length (shared_item_at items i).readers ≤ most_uses
  few_readers = omega (arith, get_or-le-sum_by reader_count items i no_item w, ap (sum_by reader_count) same, sys.few_uses)
