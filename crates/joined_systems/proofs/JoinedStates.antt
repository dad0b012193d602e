-- A state of the system, and one of the joined system in which a join is done where all its tasks are: the memory is the same, and so is who
-- has its inputs.
use Rattle.std.proofs.Common.{◌≡◌, ℕ, ◌+◌, ◌-◌, ◌≤◌, Bool, true, cond, not, ◌&&◌, ◌||◌, eqb, List, [], ◌∷◌, ◌++◌}
use Rattle.std.proofs.Common.{length, get_or, Option, Some, None, refl, sym, ap, subst, ◌∙◌, arith, inl, inr}
use Rattle.std.specs.Prelude.{All}
use Rattle.std.specs.List.{flat_map, list_all, list_any}
use Rattle.std.specs.Str.{bytes_eq}
use Rattle.std.proofs.lemmas.List.Sums.{sum_by-cons}
use Rattle.std.proofs.lemmas.List.Elements.{All-head, All-tail}
use Rattle.std.proofs.lemmas.Slice.Eq.{bytes_eq-Decides}
use Rattle.std.proofs.lemmas.Bool.{cases_Bool, and_parts, and_from, or_left, eq-eqb}
use Rattle.mp_system.specs.Memory.{is_done_or}
use Rattle.graphs.specs.Graph.{IsAmong}
use Rattle.shared_systems.specs.Shared.{SharedTaskSystem, SharedItem, HasTask, shared_size_if, shared_size_where, is_read_by}
use Rattle.shared_systems.specs.SharedMemory.{is_made, are_done, is_held, has_inputs}
use Rattle.shared_systems.specs.Paths.{reads_from}
use Rattle.shared_systems.specs.Bounds.{IsSharedItemWithin}
use Rattle.shared_systems.proofs.States.{all_done_same, are_done_same}
use Rattle.joined_systems.specs.Joins.{AreSafeJoins, join_of, tasks_of, join_count}
use Rattle.joined_systems.specs.Joined.{join_between, join_after, join_task, released, joined_item}
use Rattle.joined_systems.proofs.JoinNumbers.{all_at, all_from, join-le}
use Rattle.joined_systems.proofs.JoinedItems.{through_is, done_released, is_given, given_after, given_join, read_released, join_reads}
use Rattle.joined_systems.proofs.JoinedSystems.{where_cons, all_cons}
use Rattle.joined_systems.proofs.Inputs.{made_of, supplier_done, IsReadIn}

-- whether all tasks of a join are done
abbrev pub all_of : List ℕ → (ℕ → Bool) → ℕ → Bool
all_of joins done k = list_all done (tasks_of joins k)

-- ---- the joins of an item

pub record Between (joins : List ℕ) (from : Option ℕ) (to : List ℕ) : Type 0 where
  pub producer : ℕ
  pub reader : ℕ
  pub others : List ℕ
  pub from_is : from ≡ Some producer
  pub to_is : to ≡ reader ∷ others
  pub join_is : join_between joins from to ≡ join_of joins producer

pub between : (joins : List ℕ) (from : Option ℕ) (to : List ℕ) → 1 ≤ join_between joins from to → Between joins from to
between joins None to some = absurd (omega arith)
between joins (Some u) [] some = absurd (omega arith)
between joins (Some u) (c ∷ cs) some = record {
  producer = u;
  reader = c;
  others = cs;
  from_is = refl;
  to_is = refl;
  join_is = refl;
}

pub record After (joins to : List ℕ) : Type 0 where
  pub reader : ℕ
  pub others : List ℕ
  pub to_is : to ≡ reader ∷ others
  pub join_is : join_after joins to ≡ join_of joins reader
  pub tasks_are : to ≡ tasks_of joins (join_after joins to)

pub after : (joins to : List ℕ) → 1 ≤ join_after joins to → After joins to
after joins [] some = absurd (omega arith)
after joins (c ∷ []) some = absurd (omega arith)
after joins (c ∷ d ∷ cs) some = elim (cases_Bool (bytes_eq (c ∷ d ∷ cs) (tasks_of joins (join_of joins c)))) [
  | inl same ↦ (
      let is : join_after joins (c ∷ d ∷ cs) ≡ join_of joins c = rw same refl in
      record {
        reader = c;
        others = d ∷ cs;
        to_is = refl;
        join_is = is;
        tasks_are = (bytes_eq-Decides (c ∷ d ∷ cs) (tasks_of joins (join_of joins c))).0 same ∙ ap (tasks_of joins) (sym is);
      })
  | inr other ↦ absurd (
      let is : join_after joins (c ∷ d ∷ cs) ≡ 0 = rw other refl in
      omega (arith, is, some))
]

head_read : (c : ℕ) (cs to : List ℕ) → to ≡ c ∷ cs → list_any (λ d. eqb d c) to ≡ true
head_read c cs to is = ap (list_any (λ d. eqb d c)) is ∙ or_left (eqb c c) (list_any (λ d. eqb d c) cs) (eq-eqb c c refl)

head_done : (done : ℕ → Bool) (c : ℕ) (cs to : List ℕ) → to ≡ c ∷ cs → list_all done to ≡ true → done c ≡ true
head_done done c cs to is all = (and_parts (done c) (list_all done cs) (ap (list_all done) (sym is) ∙ all)).0

done_all : (done : ℕ → Bool) (c : ℕ) (cs to : List ℕ) → to ≡ c ∷ cs → are_done done to ≡ list_all done to
done_all done c cs to is = ap (are_done done) is ∙ sym (ap (list_all done) is)

module _ (system : SharedTaskSystem) (joins : List ℕ) (safe : AreSafeJoins system joins) (done : ℕ → Bool) where
  -- a done join has each of its tasks done
  pub of_join : (v k : ℕ) → HasTask system v → join_of joins v ≡ k → all_of joins done k ≡ true → done v ≡ true
  of_join v k task is all =
      let place : 1 + (v - 1) ≡ v = omega (arith, task.0) in
      subst (λ (u : ℕ). done u ≡ true) place (all_at done joins 1 k (v - 1) (omega (arith, task.0, task.1, safe.len)) is all)

  -- where a task has its inputs, the joins before it are done
  pub past_join : (x : SharedItem) (v : ℕ) → IsSharedItemWithin (length system.tasks) x → IsReadIn system.items x
      → 1 ≤ join_between joins x.from x.readers → is_read_by v x ≡ true → has_inputs system done v ≡ true
      → all_of joins done (join_between joins x.from x.readers) ≡ true
  past_join x v within read some reads has =
      let is = between joins x.from x.readers some in
      let u = is.producer in
      let supplies : reads_from system u v ≡ true = read u v is.from_is reads in
      all_from done joins 1 (join_between joins x.from x.readers) (λ i lt e. (
      let place : 1 + i - 1 ≡ i = omega arith in
      let has_task : HasTask system (1 + i) = (omega arith, omega (arith, lt, safe.len)) in
      let join : join_of joins (1 + i) ≡ join_of joins u = ap (λ (z : ℕ). get_or joins z 0) place ∙ e ∙ is.join_is in
      let same = safe.same u (1 + i) (within.producer u is.from_is) has_task (λ none. omega (arith, none, is.join_is, some)) (sym join) v in
      supplier_done done (1 + i) v system.items has (sym same ∙ supplies)
      ))

  module _ (mixed : ℕ → Bool) (low : (u : ℕ) → HasTask system u → mixed u ≡ done u)
      (joins_are : (k : ℕ) → 1 ≤ k → k ≤ join_count joins → mixed (length system.tasks + k) ≡ all_of joins done k) where
    joined_before : (x : SharedItem) → 1 ≤ join_between joins x.from x.readers
        → mixed (length system.tasks + join_between joins x.from x.readers) ≡ all_of joins done (join_between joins x.from x.readers)
    joined_before x some =
        let is = between joins x.from x.readers some in
        joins_are (join_between joins x.from x.readers) some (omega (arith, is.join_is, join-le joins (is.producer - 1)))

    made_before : (x : SharedItem) → IsSharedItemWithin (length system.tasks) x → 1 ≤ join_between joins x.from x.readers
        → all_of joins done (join_between joins x.from x.readers) ≡ true → is_made mixed x ≡ true
    made_before x within some all =
        let is = between joins x.from x.readers some in
        let task = within.producer is.producer is.from_is in
        ap (is_done_or true mixed) is.from_is ∙ low is.producer task
        ∙ of_join is.producer (join_between joins x.from x.readers) task (sym is.join_is) all

    module _ (each : (u : ℕ) → done u ≡ true → has_inputs system done u ≡ true) where
      passed : (x : SharedItem) → IsSharedItemWithin (length system.tasks) x → IsReadIn system.items x
          → 1 ≤ join_between joins x.from x.readers → are_done mixed x.readers ≡ true
          → mixed (length system.tasks + join_between joins x.from x.readers) ≡ true
      passed x within read some all =
          let is = between joins x.from x.readers some in
          let all' : list_all done x.readers ≡ true = sym (done_all done is.reader is.others x.readers is.to_is)
          ∙ sym (are_done_same system mixed done low x.readers within.readers) ∙ all in
          joined_before x some
          ∙ past_join x is.reader within read some (head_read is.reader is.others x.readers is.to_is)
          (each is.reader (head_done done is.reader is.others x.readers is.to_is all'))

      gone : (x : SharedItem) → IsSharedItemWithin (length system.tasks) x → 1 ≤ join_after joins x.readers
          → list_all mixed x.readers ≡ true → mixed (length system.tasks + join_after joins x.readers) ≡ true
      gone x within some all =
          let is = after joins x.readers some in
          joins_are (join_after joins x.readers) some (omega (arith, is.join_is, join-le joins (is.reader - 1)))
          ∙ ap (list_all done) (sym is.tasks_are) ∙ sym (all_done_same system mixed done low x.readers within.readers) ∙ all

      pub held_is : (xs : List SharedItem) → All (IsSharedItemWithin (length system.tasks)) xs → All (IsReadIn system.items) xs
          → shared_size_where (is_held mixed) xs
          ≡ shared_size_where (is_held mixed) (flat_map (joined_item (length system.tasks) joins) xs)
      held_is [] within read = refl
      held_is (x ∷ xs) within read =
          let n = length system.tasks in
          let here = All-head (IsSharedItemWithin n) x xs within in
          let seen = All-head (IsReadIn system.items) x xs read in
          let used : are_done mixed (x.readers ++ join_task n (join_after joins x.readers)) ≡ are_done mixed x.readers =
          done_released mixed n joins x.readers (gone x here) in
          let same : shared_size_if (is_held mixed) (released n joins x) ≡ shared_size_if (is_held mixed) x =
          ap (λ (b : Bool). cond (is_made mixed x && not b) x.size 0) used in
          let whole = through_is mixed n (join_between joins x.from x.readers) (released n joins x)
          (λ some there. made_before x here some (sym (joined_before x some) ∙ there))
          (λ some all. passed x here seen some (sym used ∙ all)) in
          omega (
            arith,
            same,
            whole,
            where_cons n joins (is_held mixed) x xs,
            held_is xs (All-tail (IsSharedItemWithin n) x xs within) (All-tail (IsReadIn system.items) x xs read),
            sum_by-cons (shared_size_if (is_held mixed)) x xs,
          )

      -- a task that has its inputs has them in the joined system
      pub has_task : (v : ℕ) → v ≤ length system.tasks → has_inputs system done v ≡ true
          → (xs : List SharedItem) → All (IsSharedItemWithin (length system.tasks)) xs → All (IsReadIn system.items) xs
          → list_all (is_given mixed v) xs ≡ true
          → list_all (is_given mixed v) (flat_map (joined_item (length system.tasks) joins) xs) ≡ true
      has_task v le has [] within read given = refl
      has_task v le has (x ∷ xs) within read given =
          let n = length system.tasks in
          let here = All-head (IsSharedItemWithin n) x xs within in
          let seen = All-head (IsReadIn system.items) x xs read in
          let parts = and_parts (is_given mixed v x) (list_all (is_given mixed v) xs) given in
          let reads : is_read_by v (released n joins x) ≡ is_read_by v x = read_released n v (join_after joins x.readers) x.readers le in
          all_cons n joins (is_given mixed v) x xs
          ∙ and_from (list_all (is_given mixed v) (joined_item n joins x))
          (list_all (is_given mixed v) (flat_map (joined_item n joins) xs))
          (given_after mixed n v (join_between joins x.from x.readers) (released n joins x) le
          (ap (λ (b : Bool). not b || is_made mixed x) reads ∙ parts.0)
          (λ some e. joined_before x some ∙ past_join x v here seen some (sym reads ∙ e) has))
          (has_task v le has xs (All-tail (IsSharedItemWithin n) x xs within) (All-tail (IsReadIn system.items) x xs read) parts.1)

  -- a join has its inputs where all its tasks are done, and these had theirs before
  module _ (later : ℕ → Bool) (low : (u : ℕ) → HasTask system u → done u ≡ true → later u ≡ true)
      (joins_are : (k : ℕ) → 1 ≤ k → k ≤ join_count joins → all_of joins done k ≡ true → later (length system.tasks + k) ≡ true)
      (k : ℕ) (some : 1 ≤ k) (high : k ≤ join_count joins)
      (own : (v : ℕ) → HasTask system v → join_of joins v ≡ k → (later v ≡ true) × (has_inputs system done v ≡ true)) where
    own_made : (x : SharedItem) → IsSharedItemWithin (length system.tasks) x → join_between joins x.from x.readers ≡ k → is_made later x ≡ true
    own_made x within e =
        let is = between joins x.from x.readers (omega (arith, e, some)) in
        ap (is_done_or true later) is.from_is ∙ (own is.producer (within.producer is.producer is.from_is) (sym is.join_is ∙ e)).0

    still_made : (from : Option ℕ) → ((u : ℕ) → from ≡ Some u → HasTask system u) → is_done_or true done from ≡ true
        → is_done_or true later from ≡ true
    still_made None task e = refl
    still_made (Some u) task e = low u (task u refl) e

    last_given : (x : SharedItem) → IsSharedItemWithin (length system.tasks) x → IsReadIn system.items x
        → ((v : ℕ) → has_inputs system done v ≡ true → is_given done v x ≡ true) → join_after joins x.readers ≡ k
        → (is_made later x ≡ true)
        × (1 ≤ join_between joins x.from x.readers → later (length system.tasks + join_between joins x.from x.readers) ≡ true)
    last_given x within read given e =
        let is = after joins x.readers (omega (arith, e, some)) in
        let c = is.reader in
        let reads = head_read c is.others x.readers is.to_is in
        let task = All-head (IsAmong (length system.tasks)) c is.others (subst (All (IsAmong (length system.tasks))) is.to_is within.readers) in
        let has = (own c task (sym is.join_is ∙ e)).1 in (
          still_made x.from within.producer (made_of (is_read_by c x) (is_made done x) (given c has) reads),
          λ before. (
              let there = between joins x.from x.readers before in
              joins_are (join_between joins x.from x.readers) before (omega (arith, there.join_is, join-le joins (there.producer - 1)))
              (past_join x c within read before reads has)
              ),
        )

    pub has_join : (xs : List SharedItem) → All (IsSharedItemWithin (length system.tasks)) xs → All (IsReadIn system.items) xs
        → ((v : ℕ) → has_inputs system done v ≡ true → list_all (is_given done v) xs ≡ true)
        → list_all (is_given later (length system.tasks + k)) (flat_map (joined_item (length system.tasks) joins) xs) ≡ true
    has_join [] within read given = refl
    has_join (x ∷ xs) within read given =
        let n = length system.tasks in
        let here = All-head (IsSharedItemWithin n) x xs within in
        let seen = All-head (IsReadIn system.items) x xs read in
        let parts = λ (v : ℕ) (e : has_inputs system done v ≡ true). and_parts (is_given done v x) (list_all (is_given done v) xs) (given v e) in
        all_cons n joins (is_given later (n + k)) x xs
        ∙ and_from (list_all (is_given later (n + k)) (joined_item n joins x))
        (list_all (is_given later (n + k)) (flat_map (joined_item n joins) xs))
        (given_join later n k (join_between joins x.from x.readers) (released n joins x) (own_made x here)
        (λ e. last_given x here seen (λ v has. (parts v has).0) (join_reads n k (join_after joins x.readers) x.readers some here.readers e)))
        (has_join xs (All-tail (IsSharedItemWithin n) x xs within) (All-tail (IsReadIn system.items) x xs read) (λ v has. (parts v has).1))
