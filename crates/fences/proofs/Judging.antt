-- What the judge of amounts reads, and that its sums fit.
use Rattle.std.proofs.Common.{◌≡◌, ℕ, zero, suc, ◌+◌, ◌-◌, ◌*◌, ◌^◌, ◌<◌, ◌≤◌, max, Bool, true, false, List, [], ◌∷◌, length, map, get_or, sym, ap, subst, ◌∙◌, arith, Option}
use Rattle.std.specs.Prelude.{All, sum}
use Rattle.std.specs.List.{sum_by, zip, range_with_len}
use Rattle.std.specs.Option.{ForSome}
use Rattle.std.proofs.lemmas.List.{get_or_read, get_or_default}
use Rattle.std.proofs.lemmas.List.Elements.{All-get_or, All-head, All-tail}
use Rattle.std.proofs.lemmas.List.FromFn.{length-range_with_len}
use Rattle.std.proofs.lemmas.List.Sums.{sum_by-cons}
use Rattle.limits.specs.Limits.{most_size, most_total}
use Rattle.mp_system.specs.declared.system.Item.{Item}
use Rattle.mp_system.specs.declared.system.Task.{Task}
use Rattle.mp_system.specs.System.{TaskSystem, IsSystem, IsTask, IsTaskWithin, HasShare, task_at, is_input, is_output, inputs_of, outputs_of, size_where, item_size}
use Rattle.mp_system.specs.Memory.{is_done_or, is_present, state_memory}
use Rattle.fences.specs.Moments.{numbers_of}
use Rattle.fences.specs.Amounts.{AreHandedOn, with_size, carrying, received_by, handed_on_by, drawn_by}
use Rattle.fences.specs.TaskSums.{HasEnds, AreSums}
use Rattle.fences.specs.Workers.{relieved}
use Rattle.fences.proofs.Swaps.{count_of, once_in_range, swap}
use Rattle.fences.proofs.Cuts.{carried}
use Rattle.fences.proofs.Sizes.{size_where-le, carried_total, sum_range_le, sum_range_more}
use Rattle.fences.proofs.Relieving.{extra_same, need_less}

-- ---- tables of sums at the place of a task

module _ (count : ℕ) (items : List Item) (inputs outputs : List ℕ) (are : AreSums count items inputs outputs) (k x : ℕ) (lt : k < count) where
  next : k + 1 - 1 ≡ k
  next = omega arith

  pub read_input : x ≡ get_or inputs k x → x ≡ size_where (is_input (k + 1)) items
  read_input read = get_or_read inputs k x (omega (arith, are.inputs_long)) read 0 ∙ sym (ap (λ j. get_or inputs j 0) next) ∙ are.inputs_are (k + 1) (omega arith)

  pub read_output : x ≡ get_or outputs k x → x ≡ size_where (is_output (k + 1)) items
  read_output read = get_or_read outputs k x (omega (arith, are.outputs_long)) read 0 ∙ sym (ap (λ j. get_or outputs j 0) next) ∙ are.outputs_are (k + 1) (omega arith)

-- ---- the task at a place

pub record TaskFacts (s : TaskSystem) (task : Task) (k : ℕ) : Type 0 where
  pub is : task_at s (k + 1) ≡ task
  pub extra : task.extra ≤ most_size
  pub whole : task.share ≤ task.extra + outputs_of s (k + 1)
  pub few_inputs : inputs_of s (k + 1) ≤ most_total
  pub few_outputs : outputs_of s (k + 1) ≤ most_total

pub task_facts : (s : TaskSystem) → IsSystem s → (tasks : List Task) → tasks ≡ s.tasks → (k : ℕ) (d : Task) → k < length tasks → TaskFacts s (get_or tasks k d) k
task_facts s sys tasks same k d w =
    let w' : k < length s.tasks = omega (arith, ap (length {A = Task}) same) in
    let e : k + 1 - 1 ≡ k = omega arith in
    let is : task_at s (k + 1) ≡ get_or tasks k d =
    ap (λ j. get_or s.tasks j (record { extra = 0; share = 0; time = 0 })) e ∙ get_or_default s.tasks k (record { extra = 0; share = 0; time = 0 }) d w' ∙ ap (λ (ts : List Task). get_or ts k d) (sym same) in
    let kept = All-get_or IsTaskWithin s.tasks k d w' sys.tasks in
    let kept' : IsTaskWithin (get_or tasks k d) = subst (λ (ts : List Task). IsTaskWithin (get_or ts k d)) (sym same) kept in
    let shares : HasShare s (k + 1) = sys.shares (k + 1) (omega arith, omega arith) in
    let less : (task_at s (k + 1)).share ≡ (get_or tasks k d).share = ap (λ (t : Task). t.share) is in
    let more : (task_at s (k + 1)).extra ≡ (get_or tasks k d).extra = ap (λ (t : Task). t.extra) is in
    record {
      is = is;
      extra = kept'.extra;
      whole = omega (arith, shares.1, less, more);
      few_inputs = omega (arith, sys.total, size_where-le (is_input (k + 1)) s.items);
      few_outputs = omega (arith, sys.total, size_where-le (is_output (k + 1)) s.items);
    }

-- ---- sums over all tasks

sums_le4 : (a b c d e : ℕ → ℕ) → ((v : ℕ) → e v ≤ a v + b v + c v + d v) → (ns : List ℕ) → sum_by e ns ≤ sum_by a ns + sum_by b ns + sum_by c ns + sum_by d ns
sums_le4 a b c d e each [] = omega arith
sums_le4 a b c d e each (x ∷ xs) = omega (arith, each x, sums_le4 a b c d e each xs, sum_by-cons a x xs, sum_by-cons b x xs, sum_by-cons c x xs, sum_by-cons d x xs, sum_by-cons e x xs)

sum_const_le : (f : ℕ → ℕ) → ((v : ℕ) → f v ≤ most_size) → (ns : List ℕ) → sum_by f ns ≤ length ns * most_size
sum_const_le f each [] = omega arith
sum_const_le f each (x ∷ xs) = omega (arith, each x, sum_const_le f each xs, sum_by-cons f x xs)

extra_le : (tasks : List Task) (i : ℕ) → All IsTaskWithin tasks → (get_or tasks i (record { extra = 0; share = 0; time = 0 })).extra ≤ most_size
extra_le [] i all = omega arith
extra_le (task ∷ tasks) zero all = (All-head IsTaskWithin task tasks all).extra
extra_le (task ∷ tasks) (suc i) all = extra_le tasks i (All-tail IsTaskWithin task tasks all)

drawn_parts : (input extra output share handed_on received : ℕ) → max (input + (extra + output - share)) handed_on - received ≤ input + extra + output + handed_on
drawn_parts input extra output share handed_on received = omega arith

module _ (system : TaskSystem) (sys : IsSystem system) (amounts : List ℕ) (is : AreHandedOn system amounts) (few : sum amounts ≤ 2 ^ 62) where
  pub own_ends : All (HasEnds (length system.tasks)) system.items
  own_ends i d lt = let h = sys.items i d lt in record { producer = h.producer; consumer = h.consumer }

  pub amounts_ends : All (HasEnds (length system.tasks)) (carrying system amounts).items
  amounts_ends = carried system (HasEnds (length system.tasks)) (λ item f h. record { producer = h.producer; consumer = h.consumer }) system.items amounts own_ends

  pub amounts_total : sum_by item_size (carrying system amounts).items ≤ 2 ^ 62
  amounts_total = omega (arith, few, carried_total system.items amounts is.long)

  once : (o : Option ℕ) → ForSome o (IsTask system) → ForSome o (λ u. count_of (numbers_of system) u ≡ 1)
  once o within u e = let task = within u e in once_in_range 1 (length system.tasks) u task.0 (omega (arith, task.1))

  -- what all tasks have of the items is no more than all of them
  all_inputs : (items : List Item) → All (HasEnds (length system.tasks)) items → sum_by (λ v. size_where (is_input v) items) (numbers_of system) ≤ sum_by item_size items
  all_inputs items ends =
      let test : Item → Bool = λ item. is_done_or false (λ _. true) item.to in
      let whole : sum_by (λ v. size_where (is_input v) items) (numbers_of system) ≡ size_where test items = swap (λ _. true) (λ i. i.to) (numbers_of system) items (λ i d lt. once _ ((ends i d lt).consumer)) in
      omega (arith, whole, size_where-le test items)

  all_outputs : (items : List Item) → All (HasEnds (length system.tasks)) items → sum_by (λ v. size_where (is_output v) items) (numbers_of system) ≤ sum_by item_size items
  all_outputs items ends =
      let test : Item → Bool = λ item. is_done_or false (λ _. true) item.from in
      let whole : sum_by (λ v. size_where (is_output v) items) (numbers_of system) ≡ size_where test items = swap (λ _. true) (λ i. i.from) (numbers_of system) items (λ i d lt. once _ ((ends i d lt).producer)) in
      omega (arith, whole, size_where-le test items)

  all_drawn : (room : ℕ) → sum_by (drawn_by (relieved room system) amounts) (numbers_of system) ≤ 3 * 2 ^ 60 + 2 ^ 62
  all_drawn room =
      let less = relieved room system in
      let parts = sums_le4 (inputs_of system) (λ v. (task_at less v).extra) (outputs_of system) (handed_on_by system amounts) (drawn_by less amounts)
      (λ v. drawn_parts (inputs_of system v) (task_at less v).extra (outputs_of system v) (task_at less v).share (handed_on_by system amounts v) (received_by system amounts v)) (numbers_of system) in
      let extras = sum_const_le (λ v. (task_at less v).extra) (λ v. omega (arith, extra_same room system.tasks (v - 1), extra_le system.tasks (v - 1) sys.tasks)) (numbers_of system) in
      omega (arith, parts, extras, length-range_with_len 1 (length system.tasks), sys.few_tasks, sys.total, all_inputs system.items own_ends, all_outputs system.items own_ends, all_outputs (carrying system amounts).items amounts_ends, amounts_total)

  -- the sum over the first tasks fits
  pub value_fits : (room k : ℕ) → k ≤ length system.tasks → state_memory (carrying system amounts) (λ _. false) + sum_by (drawn_by (relieved room system) amounts) (range_with_len 1 k) ≤ 2 ^ 63 + 3 * 2 ^ 60
  value_fits room k le =
      omega (arith, all_drawn room, sum_range_le (drawn_by (relieved room system) amounts) 1 k (length system.tasks) le, size_where-le (is_present (λ _. false)) (carrying system amounts).items, amounts_total)

-- ---- the check

-- what a task adds to the bound
pub record AddsDrawn (system : TaskSystem) (amounts : List ℕ) (room i value a b f g : ℕ) (task : Task) : Type 0 where
  pub share : task.share ≤ task.extra + b
  pub fits : a + (task.extra + b) < 2 ^ 64
  pub next : value + (max (a + (task.extra + b - task.share - room)) g - f) ≡ state_memory (carrying system amounts) (λ _. false) + sum_by (drawn_by (relieved room system) amounts) (range_with_len 1 (i + 1))
  pub next_fits : value + (max (a + (task.extra + b - task.share - room)) g - f) < 2 ^ 64

module _ (system : TaskSystem) (sys : IsSystem system) (amounts : List ℕ) (is : AreHandedOn system amounts) (few : sum amounts ≤ 2 ^ 62)
    (tasks : List Task) (same_tasks : tasks ≡ system.tasks) (items : List Item) (same : items ≡ system.items)
    (carried : List Item) (carried_is : carried ≡ map with_size (zip items amounts)) where
  carries : carried ≡ (carrying system amounts).items
  carries = carried_is ∙ ap (λ (l : List Item). map with_size (zip l amounts)) same

  many : length system.tasks ≡ length tasks
  many = sym (ap (length {A = Task}) same_tasks)

  pub carried_ends : All (HasEnds (length tasks)) carried
  carried_ends =
      let kept : All (HasEnds (length system.tasks)) carried = subst (All (HasEnds (length system.tasks))) (sym carries) (amounts_ends system sys amounts is few) in
      subst (λ n. All (HasEnds n) carried) many kept

  pub carried_few : sum_by item_size carried ≤ 2 ^ 62
  carried_few = omega (arith, ap (sum_by item_size) carries, amounts_total system sys amounts is few)

  pub adds_drawn : (inputs outputs received handed_on : List ℕ) → AreSums (length tasks) items inputs outputs → AreSums (length tasks) carried received handed_on
      → (room i value a b f g : ℕ) (d : Task) → i < length tasks → a ≡ get_or inputs i a → b ≡ get_or outputs i b → f ≡ get_or received i f → g ≡ get_or handed_on i g
      → value ≡ state_memory (carrying system amounts) (λ _. false) + sum_by (drawn_by (relieved room system) amounts) (range_with_len 1 i)
      → AddsDrawn system amounts room i value a b f g (get_or tasks i d)
  adds_drawn inputs outputs received handed_on sizes handed room i value a b f g d lt a_read b_read f_read g_read was =
      let facts = task_facts system sys tasks same_tasks i d lt in
      let a' : a ≡ inputs_of system (i + 1) = read_input (length tasks) items inputs outputs sizes i a lt a_read ∙ ap (size_where (is_input (i + 1))) same in
      let b' : b ≡ outputs_of system (i + 1) = read_output (length tasks) items inputs outputs sizes i b lt b_read ∙ ap (size_where (is_output (i + 1))) same in
      let f' : f ≡ received_by system amounts (i + 1) = read_input (length tasks) carried received handed_on handed i f lt f_read ∙ ap (size_where (is_input (i + 1))) carries in
      let g' : g ≡ handed_on_by system amounts (i + 1) = read_output (length tasks) carried received handed_on handed i g lt g_read ∙ ap (size_where (is_output (i + 1))) carries in
      let extra = ap (λ (t : Task). t.extra) facts.is in
      let share = ap (λ (t : Task). t.share) facts.is in
      let less = need_less system room (i + 1) (omega arith, omega (arith, lt, many)) in
      let drawn : max (a + ((get_or tasks i d).extra + b - (get_or tasks i d).share - room)) g - f ≡ drawn_by (relieved room system) amounts (i + 1) = omega (arith, a', b', f', g', extra, share, less) in
      let next : value + (max (a + ((get_or tasks i d).extra + b - (get_or tasks i d).share - room)) g - f) ≡ state_memory (carrying system amounts) (λ _. false) + sum_by (drawn_by (relieved room system) amounts) (range_with_len 1 (i + 1)) =
      omega (arith, was, drawn, sum_range_more (drawn_by (relieved room system) amounts) i) in
      record {
        share = omega (arith, facts.whole, b');
        fits = omega (arith, facts.extra, facts.few_outputs, facts.few_inputs, a', b');
        next = next;
        next_fits = omega (arith, next, value_fits system sys amounts is few room (i + 1) (omega (arith, lt, many)));
      }
