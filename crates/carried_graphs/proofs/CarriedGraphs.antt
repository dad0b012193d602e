-- The carried graph is within the limits of graphs, where it has few enough arcs.
use Rattle.std.proofs.Common.{◌≡◌, ℕ, zero, suc, ◌<◌, ◌≤◌, Bool, true, false, cond, eqb, eq-eqb, List, [], ◌∷◌, ◌++◌, map, length}
use Rattle.std.proofs.Common.{Option, Some, None, unwrap_or, refl, sym, ap, subst, ◌∙◌, arith, inl, inr}
use Rattle.std.specs.Prelude.{All}
use Rattle.std.specs.List.{sum_by, filter}
use Rattle.std.specs.Option.{ForSome}
use Rattle.std.proofs.lemmas.Bool.{cases_Bool, or_cases, or_left, or_right, eqb-true, ne_eqb}
use Rattle.std.proofs.lemmas.List.Elements.{All-head, All-tail, All-nil, All-cons, All-append}
use Rattle.limits.specs.Limits.{most_size, most_arcs}
use Rattle.lists.proofs.Bools.{eqb_same}
use Rattle.mp_system.specs.declared.system.Task.{Task}
use Rattle.mp_system.specs.System.{is_named}
use Rattle.mp_system.specs.Memory.{stands_in}
use Rattle.graphs.specs.declared.arc.Arc.{Arc}
use Rattle.graphs.specs.Graph.{IsAmong, IsArcWithin, IsGraph, CanBeOrdered, arc_between, arc_size, size_into, size_out_of}
use Rattle.graphs.specs.Graph.{is_into, is_out_of}
use Rattle.graphs.specs.Judged.{IsPlain, HasFewArcs}
use Rattle.shared_systems.specs.Shared.{SharedTaskSystem, SharedItem, is_made_by, is_read_by_alone, only, shared_size_if, shared_size_where}
use Rattle.shared_systems.specs.Bounds.{IsSharedSystem, shared_size, item_arcs as uses_of_item, use_arcs}
use Rattle.carried_graphs.specs.Carried.{AreLastReaders, reader_arc, arcs_to, item_arcs, carried_arcs, carried}
use Rattle.carried_graphs.proofs.Following.{IsSuppliedBy, all_parts}
use Rattle.carried_graphs.proofs.ArcSums.{arc, IsCarriable, item_sum, EachPair, pair_head, pair_tail, sums_same, sums_above, carriable}

-- ---- each arc

size_within : (b : Bool) (size : ℕ) → size ≤ most_size → cond b size 0 ≤ most_size
size_within true size le = le
size_within false size le = omega arith

from_within : (n : ℕ) (from : Option ℕ) → ForSome from (IsAmong n) → unwrap_or from 0 ≤ n
from_within n None within = omega arith
from_within n (Some u) within = (within u refl).1

ends_apart : (n : ℕ) (from : Option ℕ) (c : ℕ) → is_named from c ≡ false → unwrap_or from 0 ≡ c → unwrap_or from 0 ≡ 0
ends_apart n None c apart same = refl
ends_apart n (Some u) c apart same = absurd (cc (sym (eq-eqb u c same) ∙ apart))

readers_within : (n : ℕ) (x : SharedItem) (z : ℕ) (readers : List ℕ) → ForSome x.from (IsAmong n) → x.size ≤ most_size
    → All (IsAmong n) readers → All (λ c. is_named x.from c ≡ false) readers → All (IsArcWithin n) (map (reader_arc x z) readers)
readers_within n x z [] producer size each apart = All-nil (IsArcWithin n)
readers_within n x z (c ∷ cs) producer size each apart =
    All-cons (IsArcWithin n) (reader_arc x z c) (map (reader_arc x z) cs)
    (record {
      from = from_within n x.from producer;
      to = (All-head (IsAmong n) c cs each).1;
      apart = ends_apart n x.from c (All-head (λ d. is_named x.from d ≡ false) c cs apart);
      size = size_within (eqb c z) x.size size;
    })
    (readers_within n x z cs producer size (All-tail (IsAmong n) c cs each) (All-tail (λ d. is_named x.from d ≡ false) c cs apart))

arcs_within : (n : ℕ) (x : SharedItem) (z : ℕ) (readers : List ℕ) → ForSome x.from (IsAmong n) → x.size ≤ most_size
    → All (IsAmong n) readers → All (λ c. is_named x.from c ≡ false) readers → All (IsArcWithin n) (arcs_to x z readers)
arcs_within n x z [] producer size each apart =
    All-cons (IsArcWithin n) (arc (unwrap_or x.from 0) 0 x.size) []
    (record { from = from_within n x.from producer; to = omega arith; apart = λ e. e; size = size }) (All-nil (IsArcWithin n))
arcs_within n x z (c ∷ cs) producer size each apart = readers_within n x z (c ∷ cs) producer size each apart

all_within : (n : ℕ) (system : SharedTaskSystem) (xs : List SharedItem) (zs : List ℕ) → EachPair (IsCarriable n system) xs zs
    → All (IsArcWithin n) (carried_arcs zs xs)
all_within n system [] [] pairs = All-nil (IsArcWithin n)
all_within n system [] (z ∷ zs) pairs = All-nil (IsArcWithin n)
all_within n system (x ∷ xs) [] pairs = All-nil (IsArcWithin n)
all_within n system (x ∷ xs) (z ∷ zs) pairs =
    let here = (pair_head (IsCarriable n system) x xs z zs pairs).within in
    All-append (IsArcWithin n) (item_arcs x z) (carried_arcs zs xs)
    (arcs_within n x z x.readers here.producer here.size here.readers here.apart)
    (all_within n system xs zs (pair_tail (IsCarriable n system) x xs z zs pairs))

-- ---- the order of the tasks

-- a list that is cut before v where the elements that fail the test are left out is cut there
record Cut (p : ℕ → Bool) (order before : List ℕ) (v : ℕ) : Type 0 where
  first : List ℕ
  last : List ℕ
  split : order ≡ first ++ v ∷ last
  first_is : filter p first ≡ before
  passes : p v ≡ true

cut_kept : (p : ℕ → Bool) (x : ℕ) (order before : List ℕ) (v : ℕ) (rest : List ℕ) → p x ≡ true → x ∷ filter p order ≡ before ++ v ∷ rest
    → ((b : List ℕ) → filter p order ≡ b ++ v ∷ rest → Cut p order b v) → Cut p (x ∷ order) before v
cut_kept p x order [] v rest kept e later =
    let same : x ≡ v = cc in
    record {
      first = [];
      last = order;
      split = ap (λ (w : ℕ). w ∷ order) same;
      first_is = refl;
      passes = subst (λ (w : ℕ). p w ≡ true) same kept;
    }
cut_kept p x order (u ∷ before) v rest kept e later =
    let there = later before (cc) in
    let same : x ≡ u = cc in
    record {
      first = x ∷ there.first;
      last = there.last;
      split = ap (λ (l : List ℕ). x ∷ l) there.split;
      first_is = rw kept (ap (λ (l : List ℕ). x ∷ l) there.first_is ∙ ap (λ (w : ℕ). w ∷ before) same);
      passes = there.passes;
    }

cut_left : (p : ℕ → Bool) (x : ℕ) (order before : List ℕ) (v : ℕ) → p x ≡ false → Cut p order before v → Cut p (x ∷ order) before v
cut_left p x order before v left there = record {
  first = x ∷ there.first;
  last = there.last;
  split = ap (λ (l : List ℕ). x ∷ l) there.split;
  first_is = rw left there.first_is;
  passes = there.passes;
}

cut : (p : ℕ → Bool) (order before : List ℕ) (v : ℕ) (rest : List ℕ) → filter p order ≡ before ++ v ∷ rest → Cut p order before v
cut p [] [] v rest e = absurd cc
cut p [] (u ∷ before) v rest e = absurd cc
cut p (x ∷ order) before v rest e = elim (cases_Bool (p x)) [
  | inl kept ↦ (
      let e' : x ∷ filter p order ≡ before ++ v ∷ rest = rw kept at e in
      cut_kept p x order before v rest kept e' (λ b h. cut p order b v rest h))
  | inr left ↦ (
      let e' : filter p order ≡ before ++ v ∷ rest = rw left at e in
      cut_left p x order before v left (cut p order before v rest e'))
]

stands_kept : (p : ℕ → Bool) (order : List ℕ) (u : ℕ) → p u ≡ true → stands_in order u ≡ true → stands_in (filter p order) u ≡ true
stands_kept p [] u passes e = absurd cc
stands_kept p (x ∷ order) u passes e = elim (or_cases (eqb x u) (stands_in order u) e) [
  | inl here ↦ (
      let kept : p x ≡ true = subst (λ (w : ℕ). p w ≡ true) (sym (eqb-true x u here)) passes in
      rw kept (or_left (eqb x u) (stands_in (filter p order) u) here))
  | inr later ↦ (
      let there = stands_kept p order u passes later in
      elim (cases_Bool (p x)) [
        | inl kept ↦ rw kept (or_right (eqb x u) (stands_in (filter p order) u) there)
        | inr left ↦ rw left there
      ])
]

-- what the arcs of size 0 of all readers ask for, the carried arcs ask for
module _ (done later : ℕ → Bool) (v : ℕ) (some : 1 ≤ v) (more : (u : ℕ) → 1 ≤ u → done u ≡ true → later u ≡ true) where
  readers_supplied : (x : SharedItem) (z : ℕ) (readers : List ℕ)
      → All (IsSuppliedBy done v) (map (arc_between (unwrap_or x.from 0)) readers)
      → All (IsSuppliedBy later v) (map (reader_arc x z) readers)
  readers_supplied x z [] each = All-nil (IsSuppliedBy later v)
  readers_supplied x z (c ∷ cs) each =
      let from = unwrap_or x.from 0 in
      let here = All-head (IsSuppliedBy done v) (arc_between from c) (map (arc_between from) cs) each in
      All-cons (IsSuppliedBy later v) (reader_arc x z c) (map (reader_arc x z) cs) (λ e produced. more from produced (here e produced))
      (readers_supplied x z cs (All-tail (IsSuppliedBy done v) (arc_between from c) (map (arc_between from) cs) each))

  arcs_supplied : (x : SharedItem) (z : ℕ) (readers : List ℕ)
      → All (IsSuppliedBy done v) (map (arc_between (unwrap_or x.from 0)) readers) → All (IsSuppliedBy later v) (arcs_to x z readers)
  arcs_supplied x z [] each =
      All-cons (IsSuppliedBy later v) (arc (unwrap_or x.from 0) 0 x.size) [] (λ e produced. absurd (omega arith))
      (All-nil (IsSuppliedBy later v))
  arcs_supplied x z (c ∷ cs) each = readers_supplied x z (c ∷ cs) each

  all_supplied : (xs : List SharedItem) (zs : List ℕ) → All (IsSuppliedBy done v) (use_arcs xs)
      → All (IsSuppliedBy later v) (carried_arcs zs xs)
  all_supplied [] [] each = All-nil (IsSuppliedBy later v)
  all_supplied [] (z ∷ zs) each = All-nil (IsSuppliedBy later v)
  all_supplied (x ∷ xs) [] each = All-nil (IsSuppliedBy later v)
  all_supplied (x ∷ xs) (z ∷ zs) each =
      let parts = all_parts (IsSuppliedBy done v) (uses_of_item x) (use_arcs xs) each in
      All-append (IsSuppliedBy later v) (item_arcs x z) (carried_arcs zs xs)
      (arcs_supplied x z x.readers parts.0) (all_supplied xs zs parts.1)

abbrev is_number : ℕ → Bool
is_number u = cond (eqb u 0) false true

number_is : (u : ℕ) → 1 ≤ u → is_number u ≡ true
number_is zero some = absurd (omega arith)
number_is (suc u) some = rw (ne_eqb (suc u) 0 (λ e. omega arith)) refl

number_some : (u : ℕ) → is_number u ≡ true → 1 ≤ u
number_some zero e = absurd (let e' : false ≡ true = rw (eqb_same 0) at e in cc)
number_some (suc u) e = omega arith

still_ordered : (xs : List SharedItem) (zs : List ℕ) (v : ℕ) → 1 ≤ v → CanBeOrdered (use_arcs xs) v → CanBeOrdered (carried_arcs zs xs) v
still_ordered xs zs v some can = record {
  list = filter is_number can.list;
  supplied = record {
    each = λ before rest w split. (
        let there = cut is_number can.list before w rest split in
        subst (λ (l : List ℕ). All (IsSuppliedBy (stands_in l) w) (carried_arcs zs xs)) there.first_is
        (all_supplied (stands_in there.first) (stands_in (filter is_number there.first)) w (number_some w there.passes)
        (λ u produced e. stands_kept is_number there.first u (number_is u produced) e) xs zs
        (can.supplied.each there.first there.last w there.split)));
  };
  stands = stands_kept is_number can.list v (number_is v some) can.stands;
}

-- ---- sums

size_out : (n v : ℕ) (from : Option ℕ) (size : ℕ) → 1 ≤ v → ForSome from (IsAmong n)
    → cond (eqb (unwrap_or from 0) v) size 0 ≡ cond (is_named from v) size 0
size_out n v None size some within = rw (ne_eqb 0 v (λ e. omega arith)) refl
size_out n v (Some u) size some within = refl

size_in : (v : ℕ) (readers : List ℕ) (z size : ℕ) → (0 < length readers → stands_in readers z ≡ true)
    → cond (is_named (only readers) v) size 0 ≤ cond (eqb z v) size 0
size_in v [] z size some = omega arith
size_in v (c ∷ []) z size some = elim (or_cases (eqb c z) false (some (omega arith))) [
  | inl here ↦ (let same : c ≡ z = eqb-true c z here in subst (λ (w : ℕ). cond (eqb c v) size 0 ≤ cond (eqb w v) size 0) same (omega arith))
  | inr never ↦ absurd cc
]
size_in v (c ∷ d ∷ cs) z size some = omega arith

module _ (system : SharedTaskSystem) (lasts : List ℕ) (is : IsSharedSystem system) (are : AreLastReaders system lasts) where
  total_same : sum_by arc_size (carried lasts system).arcs ≡ sum_by shared_size system.items
  total_same =
      sums_same (IsCarriable (length system.tasks) system) arc_size shared_size
      (λ x z can. item_sum (length system.tasks) system (λ y. true) x z can) system.items lasts (carriable system lasts is are)

  out_same : (v : ℕ) → 1 ≤ v → sum_by (size_out_of v) (carried lasts system).arcs ≡ shared_size_where (is_made_by v) system.items
  out_same v some =
      sums_same (IsCarriable (length system.tasks) system) (size_out_of v) (shared_size_if (is_made_by v))
      (λ x z can. item_sum (length system.tasks) system (is_out_of v) x z can
      ∙ size_out (length system.tasks) v x.from x.size some can.within.producer) system.items lasts (carriable system lasts is are)

  in_above : (v : ℕ) → shared_size_where (is_read_by_alone v) system.items ≤ sum_by (size_into v) (carried lasts system).arcs
  in_above v =
      sums_above (IsCarriable (length system.tasks) system) (size_into v) (shared_size_if (is_read_by_alone v))
      (λ x z can. subst (λ (m : ℕ). shared_size_if (is_read_by_alone v) x ≤ m)
      (sym (item_sum (length system.tasks) system (is_into v) x z can))
      (size_in v x.readers z x.size (λ some. (can.last.some some).reads))) system.items lasts (carriable system lasts is are)

  pub graph_within : HasFewArcs (carried lasts system) → IsGraph (carried lasts system)
  graph_within few = record {
    few_tasks = is.few_tasks;
    few_arcs = few;
    tasks = is.tasks;
    arcs = all_within (length system.tasks) system system.items lasts (carriable system lasts is are);
    total = omega (arith, is.total, total_same);
    ordered = λ v task. still_ordered system.items lasts v task.0 (is.ordered v task);
    shares = λ v task. (
      omega (arith, (is.shares v task).0, in_above v),
      omega (arith, (is.shares v task).1, out_same v task.0),
    );
  }

  -- before anything is said of the arcs that complete it, of orders and shares
  pub graph_plain : length (carried lasts system).arcs ≤ most_arcs → IsPlain (carried lasts system)
  graph_plain few = record {
    few_tasks = is.few_tasks;
    few_arcs = few;
    tasks = is.tasks;
    arcs = all_within (length system.tasks) system system.items lasts (carriable system lasts is are);
    total = omega (arith, is.total, total_same);
  }

-- as the code makes it
pub made_plain : (tasks : List Task) (arcs : List Arc) (system : SharedTaskSystem) (lasts : List ℕ)
    → IsSharedSystem system → AreLastReaders system lasts → length arcs ≤ most_arcs
    → tasks ≡ system.tasks → arcs ≡ carried_arcs lasts system.items → IsPlain (record { tasks = tasks; arcs = arcs })
made_plain tasks arcs system lasts is are few tasks_are arcs_are =
    let fit : length (carried lasts system).arcs ≤ most_arcs = omega (arith, few, ap (λ (l : List Arc). length l) arcs_are) in
    subst (λ (l : List Task). IsPlain (record { tasks = l; arcs = arcs })) (sym tasks_are)
    (subst (λ (l : List Arc). IsPlain (record { tasks = system.tasks; arcs = l })) (sym arcs_are) (graph_plain system lasts is are fit))
