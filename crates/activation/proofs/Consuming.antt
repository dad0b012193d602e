-- The rows of the places of an order: to which places its items go, and which shared items are read there.
use Rattle.std.proofs.Common.{◌≡◌, ℕ, ◌+◌, ◌-◌, ◌<◌, All, List}
use Rattle.std.proofs.Common.{length, get_or, sym, ◌∙◌, ap, arith, ⊎_elim}
use Rattle.std.specs.Prelude.{count_by, ◌==◌}
use Rattle.std.proofs.lemmas.Bool.{cases_eq, eq-eqb, ne_eqb}
use Rattle.std.proofs.lemmas.List.Elements.{All-get_or}
use Rattle.row_table.specs.Rows.{row_at}
use Rattle.shared_systems.specs.Shared.{SharedTaskSystem, HasTask}
use Rattle.activation.specs.Running.{IsNumber}
use Rattle.activation.specs.Schedule.{task_entry, HoldsEach}
use Rattle.activation.specs.Tables.{IsNumbering, AreTaskPlaces, AreConsumerRows, AreReadingRows, shared_items_of}
use Rattle.activation.specs.Consumers.{AreConsumersOf, AreReadingsOf}
use Rattle.activation.proofs.Numbers.{number_at, number_next}
use Rattle.activation.proofs.Totals.{place_in}
use Rattle.activation.proofs.Orders.{task_has_place}

pub place_within : {n : ℕ} {places : List ℕ} → IsNumbering n places → (t : ℕ) → IsNumber t n → task_entry places t < n
place_within {n} {places} is t it = omega (arith, number_at places t it.0, is.within (t - 1) (omega (arith, it)))

-- tasks have the same place where they are the same
pub same_place : {n : ℕ} {places : List ℕ} → IsNumbering n places → (t u : ℕ)
    → IsNumber t n → IsNumber u n → (task_entry places t == task_entry places u) ≡ (t == u)
same_place {n} {places} is t u it iu =
    ⊎_elim
    (λ e. eq-eqb (task_entry places t) (task_entry places u) (ap (task_entry places) e) ∙ sym (eq-eqb t u e))
    (λ d. ne_eqb (task_entry places t) (task_entry places u)
    (λ e. let same =
    is.once (t - 1) (u - 1) (omega (arith, it)) (omega (arith, iu)) (number_at places t it.0 ∙ e ∙ sym (number_at places u iu.0)) in
    d (omega (arith, same, it.0, iu.0)))
    ∙ sym (ne_eqb t u d))
    (cases_eq t u)

-- the rows told by tasks are those told by the places of an order
pub order_rows : {system : SharedTaskSystem} {order places : List ℕ} {rows : List (List ℕ)}
    → AreConsumersOf system places rows → length order ≡ length system.tasks →
    All (HasTask system) order → AreTaskPlaces order places → AreConsumerRows order system.items rows
order_rows {system} {order} {places} {rows} are long tasks at = record {
  long = are.long ∙ sym long;
  within = λ k w i d v. omega (arith, are.within k (omega (arith, w, are.long, long)) i d v, long);
  counts = λ k p w v.
      ap (λ q. count_by (λ u. u == q) (row_at rows k)) (sym (at p v))
      ∙ ap (λ j. count_by (λ u. u == task_entry places (get_or order p 0)) (row_at rows j)) (sym (at k w))
      ∙ are.counts (get_or order k 0) (get_or order p 0)
      (All-get_or (HasTask system) order k 0 w tasks) (All-get_or (HasTask system) order p 0 v tasks);
}

pub order_readings : {system : SharedTaskSystem} {order places : List ℕ} {rows : List (List ℕ)}
    → AreReadingsOf system places rows → length order ≡ length system.tasks →
    All (HasTask system) order → AreTaskPlaces order places → AreReadingRows order (shared_items_of system) rows
order_readings {system} {order} {places} {rows} are long tasks at = record {
  long = are.long ∙ sym long;
  rows_are = λ k w. ap (row_at rows) (sym (at k w)) ∙ are.rows_are (get_or order k 0) (All-get_or (HasTask system) order k 0 w tasks);
}

-- the places of the tasks of an order number them
pub places_number : {system : SharedTaskSystem} {order places : List ℕ} → HoldsEach system order
    → length order ≡ length system.tasks → length places ≡ length system.tasks →
    AreTaskPlaces order places → IsNumbering (length system.tasks) places
places_number {system} {order} {places} each long len at =
    let place : (k : ℕ) → k < length system.tasks → (j : ℕ) × (j < length order) × (get_or order j 0 ≡ k + 1) × (get_or places k 0 ≡ j) =
    λ k w.
    let p = place_in order (k + 1) (task_has_place system order each (k + 1) (omega arith, omega arith)) in
    (p.0, p.1, p.2, sym (number_next places k) ∙ ap (task_entry places) (sym p.2) ∙ at p.0 p.1) in
    record {
      long = len;
      within = λ k w. let p = place k w in omega (arith, p.1, p.3, long);
      once = λ j k wj wk e.
          let p = place j wj in
          let q = place k wk in
          let same : p.0 ≡ q.0 = sym p.3 ∙ e ∙ q.3 in
          let tasks : j + 1 ≡ k + 1 = sym p.2 ∙ ap (λ i. get_or order i 0) same ∙ q.2 in
          omega arith;
    }
