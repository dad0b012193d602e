-- Which tasks come after which: by uses of items, one step at a time.
use Rattle.std.proofs.Common.{◌≡◌, ◌⊎◌, ℕ, suc, ◌<◌, Bool, true, false, not, ◌&&◌, ◌||◌, eqb, eq-eqb, inl, inr, List, [], ◌∷◌, length, map}
use Rattle.std.proofs.Common.{get_or, Option, Some, None, refl, ap, subst, ◌∙◌, arith}
use Rattle.std.specs.Prelude.{All}
use Rattle.std.specs.List.{list_all, list_any}
use Rattle.std.proofs.lemmas.Bool.{eqb-true, and_parts, and_from, or_cases, or_left, or_right, cases_Bool}
use Rattle.std.proofs.lemmas.List.Elements.{All-head, All-tail}
use Rattle.std.proofs.lemmas.List.Folds.{list_any-append, list_any_at}
use Rattle.mp_system.specs.System.{is_named}
use Rattle.mp_system.specs.Memory.{is_done_or}
use Rattle.graphs.specs.Graph.{IsAmong}
use Rattle.shared_systems.specs.Shared.{SharedTaskSystem, SharedItem, HasTask, is_made_by, is_read_by}
use Rattle.shared_systems.specs.SharedMemory.{is_made, has_inputs}
use Rattle.shared_systems.specs.Bounds.{IsSharedItemWithin, IsSharedSystem}
use Rattle.shared_systems.specs.Paths.{reads_from, ComesAfter, reads, over}
use Rattle.peak_bounds.specs.declared.uses.Use.{Use}
use Rattle.peak_bounds.specs.Moments.{uses_for, item_uses, uses_of, is_made_for_use, is_used_by, feeds, is_fed}

-- the place of the first element that passes a test
pub found_at : {X : Type 0} (test : X → Bool) (xs : List X) (d : X) → list_any test xs ≡ true
    → (k : ℕ) × (k < length xs) × (test (get_or xs k d) ≡ true)
found_at test [] d e = absurd cc
found_at test (x ∷ xs) d e = elim (or_cases (test x) (list_any test xs) e) [
  | inl here ↦ (0, omega arith, here)
  | inr later ↦ (let found = found_at test xs d later in (suc found.0, omega (arith, found.1), found.2))
]

pub is_the : (named : Option ℕ) (u : ℕ) → is_named named u ≡ true → named ≡ Some u
is_the None u e = absurd cc
is_the (Some w) u e = ap (λ (t : ℕ). Some t) (eqb-true w u e)

abbrev pub no_use : Use
no_use = record { from = None; to = None }

-- ---- a task reads from another, where a use is between them

abbrev pub is_between : ℕ → ℕ → Use → Bool
is_between u v a_use = is_made_for_use u a_use && is_used_by v a_use

both_or : (m a b : Bool) → ((m && a) || (m && b)) ≡ (m && (a || b))
both_or true a b = refl
both_or false a b = refl

nobody : (m : Bool) → ((m && false) || false) ≡ (m && false)
nobody true = refl
nobody false = refl

module _ (u v : ℕ) where
  between_each : (from : Option ℕ) (readers : List ℕ)
      → list_any (is_between u v) (map (λ reader. record { from = from; to = Some reader }) readers)
      ≡ (is_named from u && list_any (λ c. eqb c v) readers)
  between_each from [] = none (is_named from u) where
    none : (m : Bool) → false ≡ (m && false)
    none true = refl
    none false = refl
  between_each from (c ∷ cs) =
      ap (λ (b : Bool). (is_named from u && eqb c v) || b) (between_each from cs)
      ∙ both_or (is_named from u) (eqb c v) (list_any (λ d. eqb d v) cs)

  between_item : (from : Option ℕ) (readers : List ℕ)
      → list_any (is_between u v) (uses_for from readers) ≡ (is_named from u && list_any (λ c. eqb c v) readers)
  between_item from [] = nobody (is_named from u)
  between_item from (c ∷ cs) = between_each from (c ∷ cs)

  pub between_is : (items : List SharedItem)
      → list_any (is_between u v) (uses_of items) ≡ list_any (λ x. is_made_by u x && is_read_by v x) items
  between_is [] = refl
  between_is (x ∷ items) =
      list_any-append (is_between u v) (item_uses x) (uses_of items)
      ∙ ap (λ (b : Bool). b || list_any (is_between u v) (uses_of items)) (between_item x.from x.readers)
      ∙ ap (λ (b : Bool). (is_made_by u x && is_read_by v x) || b) (between_is items)

module _ (system : SharedTaskSystem) (test : ℕ → Bool) (u v : ℕ) (e : reads_from system u v ≡ true) where
  pub use_at : (k : ℕ) × (k < length (uses_of system.items)) × (is_between u v (get_or (uses_of system.items) k no_use) ≡ true)
  use_at = found_at (is_between u v) (uses_of system.items) no_use (between_is u v system.items ∙ e)

  -- what passes the test reads what u makes, or makes what v reads
  pub feeds_by : test v ≡ true → feeds system test u ≡ true
  feeds_by passes =
      let a_use = get_or (uses_of system.items) use_at.0 no_use in
      let ends = and_parts (is_made_for_use u a_use) (is_used_by v a_use) use_at.2 in
      list_any_at (λ a. is_made_for_use u a && is_done_or false test a.to) (uses_of system.items) use_at.0 no_use use_at.1
      (and_from (is_made_for_use u a_use) (is_done_or false test a_use.to) ends.0
      (ap (is_done_or false test) (is_the a_use.to v ends.1) ∙ passes))

  pub fed_by : test u ≡ true → is_fed system test v ≡ true
  fed_by passes =
      let a_use = get_or (uses_of system.items) use_at.0 no_use in
      let ends = and_parts (is_made_for_use u a_use) (is_used_by v a_use) use_at.2 in
      list_any_at (λ a. is_used_by v a && is_done_or false test a.from) (uses_of system.items) use_at.0 no_use use_at.1
      (and_from (is_used_by v a_use) (is_done_or false test a_use.from) ends.1
      (ap (is_done_or false test) (is_the a_use.from u ends.0) ∙ passes))

-- ---- a task has what it reads, where all are done from which it reads

inputs_from : (items : List SharedItem) (done : ℕ → Bool) (v : ℕ)
    → ((u : ℕ) → list_any (λ x. is_made_by u x && is_read_by v x) items ≡ true → done u ≡ true)
    → list_all (λ x. not (is_read_by v x) || is_made done x) items ≡ true
inputs_from [] done v each = refl
inputs_from (x ∷ items) done v each =
    and_from (not (is_read_by v x) || is_made done x) (list_all (λ y. not (is_read_by v y) || is_made done y) items)
    (elim (cases_Bool (is_read_by v x)) [
      | inl read ↦ or_right (not (is_read_by v x)) (is_made done x) (made x.from (λ u from.
          each u (or_left (is_made_by u x && is_read_by v x) (list_any (λ y. is_made_by u y && is_read_by v y) items)
          (and_from (is_made_by u x) (is_read_by v x) (ap (λ (o : Option ℕ). is_named o u) from ∙ eq-eqb u u refl) read))))
      | inr unread ↦ or_left (not (is_read_by v x)) (is_made done x) (ap not unread)
    ])
    (inputs_from items done v (λ u e.
    each u (or_right (is_made_by u x && is_read_by v x) (list_any (λ y. is_made_by u y && is_read_by v y) items) e)))
  where
    made : (from : Option ℕ) → ((u : ℕ) → from ≡ Some u → done u ≡ true) → is_done_or true done from ≡ true
    made None each = refl
    made (Some u) each = each u refl

pub has_inputs_by : (system : SharedTaskSystem) (done : ℕ → Bool) (v : ℕ) → ((u : ℕ) → reads_from system u v ≡ true → done u ≡ true)
    → has_inputs system done v ≡ true
has_inputs_by system done v each = inputs_from system.items done v each

-- ---- both are tasks

reader_task : (n v : ℕ) (readers : List ℕ) → All (IsAmong n) readers → list_any (λ c. eqb c v) readers ≡ true → IsAmong n v
reader_task n v [] each e = absurd cc
reader_task n v (c ∷ cs) each e = elim (or_cases (eqb c v) (list_any (λ d. eqb d v) cs) e) [
  | inl here ↦ subst (IsAmong n) (eqb-true c v here) (All-head (IsAmong n) c cs each)
  | inr later ↦ reader_task n v cs (All-tail (IsAmong n) c cs each) later
]

reads_tasks : (n u v : ℕ) (xs : List SharedItem) → All (IsSharedItemWithin n) xs
    → list_any (λ x. is_made_by u x && is_read_by v x) xs ≡ true → IsAmong n u × IsAmong n v
reads_tasks n u v [] within e = absurd cc
reads_tasks n u v (x ∷ xs) within e =
    elim (or_cases (is_made_by u x && is_read_by v x) (list_any (λ y. is_made_by u y && is_read_by v y) xs) e) [
      | inl here ↦ (
          let item = All-head (IsSharedItemWithin n) x xs within in
          let ends = and_parts (is_made_by u x) (is_read_by v x) here in
          (item.producer u (is_the x.from u ends.0), reader_task n v x.readers item.readers ends.1))
      | inr later ↦ reads_tasks n u v xs (All-tail (IsSharedItemWithin n) x xs within) later
    ]

module _ (system : SharedTaskSystem) (is : IsSharedSystem system) where
  pub maker_task : (u v : ℕ) → reads_from system u v ≡ true → HasTask system u
  maker_task u v e = (reads_tasks (length system.tasks) u v system.items is.items e).0

  pub taker_task : (u v : ℕ) → reads_from system u v ≡ true → HasTask system v
  taker_task u v e = (reads_tasks (length system.tasks) u v system.items is.items e).1

-- ---- steps

pub joined : (system : SharedTaskSystem) (u v w : ℕ) → ComesAfter system u v → ComesAfter system v w → ComesAfter system u w
joined system u v w first (reads e) = over first e
joined system u v w first (over {w = x} path e) = over (joined system u v x first path) e

-- the first step, and what is left
pub first_step : (system : SharedTaskSystem) (u v : ℕ) → ComesAfter system u v
    → (w : ℕ) × (reads_from system u w ≡ true) × ((w ≡ v) ⊎ ComesAfter system w v)
first_step system u v (reads e) = (v, e, inl refl)
first_step system u v (over {w} path e) =
    let step = first_step system u w path in (
      step.0,
      step.1,
      elim step.2 [
        | inl same ↦ inr (reads (ap (λ (x : ℕ). reads_from system x v) same ∙ e))
        | inr left ↦ inr (over left e)
      ],
    )
