-- A task that comes after another stands after it, in each list in which all tasks stand after those that they read from.
use Rattle.std.proofs.Common.{◌≡◌, ℕ, ◌≤◌, Bool, true, false, not, ◌&&◌, ◌||◌, eqb, List, [], ◌∷◌, ◌++◌, map, length}
use Rattle.std.proofs.Common.{Option, Some, None, unwrap_or, append_assoc, refl, sym, ap, subst, ◌∙◌, arith, inl, inr}
use Rattle.std.specs.Prelude.{All}
use Rattle.std.specs.List.{list_all, list_any}
use Rattle.std.proofs.Math.Seq.{take-append_seam, drop-append_seam}
use Rattle.std.proofs.lemmas.Bool.{cases_Bool, cases_eq, and_parts, or_cases, eqb-true, true_from_ne_false}
use Rattle.std.proofs.lemmas.List.Elements.{All-head, All-tail, All-take, All-drop}
use Rattle.mp_system.specs.System.{is_named}
use Rattle.mp_system.specs.Memory.{is_done_or, stands_in}
use Rattle.mp_system.proofs.Counts.{uncounted}
use Rattle.graphs.specs.declared.arc.Arc.{Arc}
use Rattle.graphs.specs.Graph.{IsAmong, AreSupplied, arc_between}
use Rattle.graphs.proofs.Standing.{stands-left}
use Rattle.shared_systems.specs.Shared.{SharedTaskSystem, SharedItem, HasTask, is_made_by, is_read_by}
use Rattle.shared_systems.specs.SharedMemory.{is_made, has_inputs}
use Rattle.shared_systems.specs.SharedTraversal.{IsSharedTraversal}
use Rattle.shared_systems.specs.Bounds.{IsSharedItemWithin, IsSharedSystem, item_arcs, use_arcs}
use Rattle.shared_systems.proofs.WithoutCollectors.{stood}
use Rattle.shared_systems.specs.Paths.{reads_from, ComesAfter, reads, over, StandsBefore}
use Rattle.carried_graphs.specs.Carried.{IsLastReader}

-- ---- what a ready task reads is made

pub is_the : (from : Option ℕ) (u : ℕ) → is_named from u ≡ true → from ≡ Some u
is_the None u e = absurd cc
is_the (Some w) u e = ap (λ (t : ℕ). Some t) (eqb-true w u e)

maker_done : (done : ℕ → Bool) (u v : ℕ) (x : SharedItem) → (not (is_read_by v x) || is_made done x) ≡ true
    → (is_made_by u x && is_read_by v x) ≡ true → done u ≡ true
maker_done done u v x supplied e =
    let parts = and_parts (is_made_by u x) (is_read_by v x) e in
    let made : is_made done x ≡ true = rw parts.1 at supplied in
    subst (λ (from : Option ℕ). is_done_or true done from ≡ true) (is_the x.from u parts.0) made

supplier_done : (done : ℕ → Bool) (u v : ℕ) (xs : List SharedItem) → list_all (λ x. not (is_read_by v x) || is_made done x) xs ≡ true
    → list_any (λ x. is_made_by u x && is_read_by v x) xs ≡ true → done u ≡ true
supplier_done done u v [] ready e = absurd cc
supplier_done done u v (x ∷ xs) ready e =
    let parts = and_parts (not (is_read_by v x) || is_made done x) (list_all (λ y. not (is_read_by v y) || is_made done y) xs) ready in
    elim (or_cases (is_made_by u x && is_read_by v x) (list_any (λ y. is_made_by u y && is_read_by v y) xs) e) [
      | inl here ↦ maker_done done u v x parts.0 here
      | inr later ↦ supplier_done done u v xs parts.1 later
    ]

-- in a state in which the suppliers of all done tasks are done, so is each task that a done one comes after
pub after_done : (system : SharedTaskSystem) (done : ℕ → Bool) → ((v : ℕ) → done v ≡ true → has_inputs system done v ≡ true)
    → (u v : ℕ) → ComesAfter system u v → done v ≡ true → done u ≡ true
after_done system done closed u v (reads e) there = supplier_done done u v system.items (closed v there) e
after_done system done closed u v (over {w} path e) there =
    after_done system done closed u w path (supplier_done done w v system.items (closed v there) e)

-- ---- lists in which all tasks stand after those that they read from

pub record KeepsReads (system : SharedTaskSystem) (list : List ℕ) : Type 0 where
  pub each : (before rest : List ℕ) (u v : ℕ) → list ≡ before ++ v ∷ rest → reads_from system u v ≡ true → stands_in before u ≡ true

module _ (system : SharedTaskSystem) (list : List ℕ) (keeps : KeepsReads system list) where
  pub follows : (u v : ℕ) → ComesAfter system u v → (before rest : List ℕ) → list ≡ before ++ v ∷ rest → stands_in before u ≡ true
  follows u v (reads e) before rest split = keeps.each before rest u v split e
  follows u v (over {w} path e) before rest split =
      let there = stood before w (keeps.each before rest w v split e) in
      let whole : list ≡ there.first ++ w ∷ (there.last ++ v ∷ rest) =
      split ∙ ap (λ (l : List ℕ). l ++ v ∷ rest) there.split ∙ append_assoc there.first (w ∷ there.last) (v ∷ rest) in
      ap (λ (l : List ℕ). stands_in l u) there.split
      ∙ stands-left there.first (w ∷ there.last) u (follows u w path there.first (there.last ++ v ∷ rest) whole)

pub traversal_keeps : (system : SharedTaskSystem) (order : List ℕ) → IsSharedTraversal system order → KeepsReads system order
traversal_keeps system order traversal = record {
  each = λ before rest u v split e. supplier_done (stands_in before) u v system.items (traversal.after_suppliers before rest v split) e;
}

-- ---- a list of tasks after their suppliers, by arcs

-- what a list of arcs asks for in a state
abbrev pub IsSuppliedBy : (ℕ → Bool) → ℕ → Arc → Type 0
IsSuppliedBy done v arc = arc.to ≡ v → 1 ≤ arc.from → done arc.from ≡ true

pub all_parts : {X : Type 0} (P : X → Type 0) (xs ys : List X) → All P (xs ++ ys) → All P xs × All P ys
all_parts P xs ys all = (
  subst (All P) (take-append_seam xs ys) (All-take P (length xs) (xs ++ ys) all),
  subst (All P) (drop-append_seam xs ys) (All-drop P (length xs) (xs ++ ys) all),
)

arc_done : (done : ℕ → Bool) (u v : ℕ) (readers : List ℕ) → 1 ≤ u
    → All (IsSuppliedBy done v) (map (arc_between u) readers) → list_any (λ c. eqb c v) readers ≡ true → done u ≡ true
arc_done done u v [] some each e = absurd cc
arc_done done u v (c ∷ cs) some each e = elim (or_cases (eqb c v) (list_any (λ d. eqb d v) cs) e) [
  | inl here ↦ All-head (IsSuppliedBy done v) (arc_between u c) (map (arc_between u) cs) each (eqb-true c v here) some
  | inr later ↦ arc_done done u v cs some (All-tail (IsSuppliedBy done v) (arc_between u c) (map (arc_between u) cs) each) later
]

item_done : (n : ℕ) (done : ℕ → Bool) (u v : ℕ) (x : SharedItem) → IsSharedItemWithin n x
    → All (IsSuppliedBy done v) (item_arcs x) → (is_made_by u x && is_read_by v x) ≡ true → done u ≡ true
item_done n done u v x within each e =
    let parts = and_parts (is_made_by u x) (is_read_by v x) e in
    let made = is_the x.from u parts.0 in
    arc_done done u v x.readers (within.producer u made).0
    (subst (λ (from : Option ℕ). All (IsSuppliedBy done v) (map (arc_between (unwrap_or from 0)) x.readers)) made each) parts.1

items_done : (n : ℕ) (done : ℕ → Bool) (u v : ℕ) (xs : List SharedItem) → All (IsSharedItemWithin n) xs
    → All (IsSuppliedBy done v) (use_arcs xs) → list_any (λ x. is_made_by u x && is_read_by v x) xs ≡ true → done u ≡ true
items_done n done u v [] within each e = absurd cc
items_done n done u v (x ∷ xs) within each e =
    let parts = all_parts (IsSuppliedBy done v) (item_arcs x) (use_arcs xs) each in
    elim (or_cases (is_made_by u x && is_read_by v x) (list_any (λ y. is_made_by u y && is_read_by v y) xs) e) [
      | inl here ↦ item_done n done u v x (All-head (IsSharedItemWithin n) x xs within) parts.0 here
      | inr later ↦ items_done n done u v xs (All-tail (IsSharedItemWithin n) x xs within) parts.1 later
    ]

supplied_keeps : (system : SharedTaskSystem) (list : List ℕ) → IsSharedSystem system
    → AreSupplied (use_arcs system.items) list → KeepsReads system list
supplied_keeps system list is supplied = record {
  each = λ before rest u v split e.
      items_done (length system.tasks) (stands_in before) u v system.items is.items (supplied.each before rest v split) e;
}

-- ---- no task comes after itself

pub reader_task : (n v : ℕ) (readers : List ℕ) → All (IsAmong n) readers → list_any (λ c. eqb c v) readers ≡ true → IsAmong n v
reader_task n v [] each e = absurd cc
reader_task n v (c ∷ cs) each e = elim (or_cases (eqb c v) (list_any (λ d. eqb d v) cs) e) [
  | inl here ↦ subst (IsAmong n) (eqb-true c v here) (All-head (IsAmong n) c cs each)
  | inr later ↦ reader_task n v cs (All-tail (IsAmong n) c cs each) later
]

reads_task : (n u v : ℕ) (xs : List SharedItem) → All (IsSharedItemWithin n) xs
    → list_any (λ x. is_made_by u x && is_read_by v x) xs ≡ true → IsAmong n v
reads_task n u v [] within e = absurd cc
reads_task n u v (x ∷ xs) within e =
    elim (or_cases (is_made_by u x && is_read_by v x) (list_any (λ y. is_made_by u y && is_read_by v y) xs) e) [
      | inl here ↦
          reader_task n v x.readers (All-head (IsSharedItemWithin n) x xs within).readers
          (and_parts (is_made_by u x) (is_read_by v x) here).1
      | inr later ↦ reads_task n u v xs (All-tail (IsSharedItemWithin n) x xs within) later
    ]

after_task : (system : SharedTaskSystem) → IsSharedSystem system → (u v : ℕ) → ComesAfter system u v → HasTask system v
after_task system is u v (reads e) = reads_task (length system.tasks) u v system.items is.items e
after_task system is u v (over {w} path e) = reads_task (length system.tasks) w v system.items is.items e

pub joined : (system : SharedTaskSystem) (u v w : ℕ) → ComesAfter system u v → ComesAfter system v w → ComesAfter system u w
joined system u v w first (reads e) = over first e
joined system u v w first (over {w = x} path e) = over (joined system u v x first path) e

-- where a number stands first
record StoodFirst (list : List ℕ) (u : ℕ) : Type 0 where
  first : List ℕ
  last : List ℕ
  split : list ≡ first ++ u ∷ last
  new : stands_in first u ≡ false

stood_first : (list : List ℕ) (u : ℕ) → stands_in list u ≡ true → StoodFirst list u
stood_first [] u e = absurd cc
stood_first (x ∷ list) u e = elim (cases_Bool (eqb x u)) [
  | inl here ↦ record { first = []; last = list; split = ap (λ (w : ℕ). w ∷ list) (eqb-true x u here); new = refl }
  | inr other ↦ (
      let there = stood_first list u (let e' : stands_in list u ≡ true = rw other at e in e') in
      record {
        first = x ∷ there.first;
        last = there.last;
        split = ap (λ (l : List ℕ). x ∷ l) there.split;
        new = rw other there.new;
      })
]

not_itself : (system : SharedTaskSystem) → IsSharedSystem system → (u : ℕ) → ComesAfter system u u → ⊥
not_itself system is u path =
    let can = is.ordered u (after_task system is u u path) in
    let there = stood_first can.list u can.stands in
    let before = follows system can.list (supplied_keeps system can.list is can.supplied) u u path there.first there.last there.split in
    absurd (cc (sym there.new ∙ before))

-- ---- the laws

pub stands_before : (system : SharedTaskSystem) (order : List ℕ) (u v : ℕ) → IsSharedSystem system
    → IsSharedTraversal system order → ComesAfter system u v → StandsBefore order u v
stands_before system order u v is traversal path =
    let task = after_task system is u v path in
    let there = stood order v (true_from_ne_false (stands_in order v)
    (λ missing. omega (arith, uncounted order v missing, traversal.once v task))) in
    record {
      before = there.first;
      rest = there.last;
      split = there.split;
      stands = follows system order (traversal_keeps system order traversal) u v path there.first there.last there.split;
    }

pub same_last : (system : SharedTaskSystem) (x : SharedItem) (z other : ℕ) → IsSharedSystem system
    → IsLastReader system x z → IsLastReader system x other → z ≡ other
same_last system x z other is last other_last = elim (cases_eq z other) [
  | inl same ↦ same
  | inr apart ↦ absurd (not_itself system is z (joined system z other z
      (other_last.others z last.reads apart) (last.others other other_last.reads (λ e. apart (sym e)))))
]
