-- `spill`: what must go to disk where an order runs within a bound below its peak. Amounts of the items are printed; what is printed is a
-- spill plan of which none has a lower volume.
use Rattle.std.specs.Prelude.{◌≡◌, ℕ, ◌≤◌, nat_lt, List, [], ◌∷◌, ◌++◌, length, map, sum, Some, codes}
use Rattle.std.specs.Prelude.{decimal, ◌⊎◌}
use Rattle.std.specs.List.{filter, enumerate_from}
use Rattle.mp_text.specs.Report.{line_text, text_of_lines}
use Rattle.mp_system.specs.declared.system.OrderKind.{OrderKind}
use Rattle.mp_system.specs.System.{TaskSystem}
use Rattle.mp_system.specs.Traversal.{IsTraversal, first_fault}
use Rattle.spill_plan.specs.SpillPlans.{IsSpillPlan, IsLeastSpill, IsWorkingSet, plan_by_amounts, plan_volume}
use Rattle.requests.specs.Request.{Input, OrderSource}
use Rattle.judging.specs.declared.status.Status.TheVariants as status
use Rattle.judging.specs.Files.{IsSystemOf, order_refused, IsOrderFrom, Answer}

-- the items of which some is spilled, by their numbers, which rise from 1, each with its amount
abbrev pub spilled_items : List ℕ → List (ℕ × ℕ)
spilled_items amounts = filter (λ p. nat_lt 0 p.1) (enumerate_from 1 amounts)

-- `ITEM AMOUNT`
abbrev pub amount_line : ℕ × ℕ → List (List ℕ)
amount_line p = decimal p.0 ∷ decimal p.1 ∷ []

-- `volume V`, `items K`, the items, `end`
abbrev pub spill_lines : ℕ → List ℕ → List (List (List ℕ))
spill_lines volume amounts =
    (codes "volume" ∷ decimal volume ∷ [])
    ∷ (codes "items" ∷ decimal (length (spilled_items amounts)) ∷ [])
    ∷ map amount_line (spilled_items amounts) ++ (codes "end" ∷ []) ∷ []

abbrev pub spill_answer : ℕ → List ℕ → Answer
spill_answer volume amounts = record { status = status.Done; text = text_of_lines (spill_lines volume amounts) }

-- `refused working-set STEP NEED BOUND`
abbrev pub working_set_refused : ℕ → ℕ → ℕ → Answer
working_set_refused step need bound = record {
  status = status.WorkingSet;
  text = line_text (codes "refused" ∷ codes "working-set" ∷ decimal step ∷ decimal need ∷ decimal bound ∷ []);
}

-- the order is no traversal, and its first fault is told; or the first step is told whose inputs and need alone pass the bound;
-- or the amounts of a spill plan of least volume are told, whichever it is, with their sum
abbrev pub IsSpillAnswer : TaskSystem → List ℕ → ℕ → Answer → Type 0
IsSpillAnswer system order bound answer =
    ((place : ℕ) × (kind : OrderKind) × (first_fault system order ≡ Some (place, kind)) × (answer ≡ order_refused place kind))
    ⊎ (((step : ℕ) × (need : ℕ) × IsTraversal system order × IsWorkingSet system order bound step need
    × (answer ≡ working_set_refused step need bound))
    ⊎ ((volume : ℕ) × (amounts : List ℕ) × IsTraversal system order × IsLeastSpill system order bound amounts volume
    × (answer ≡ spill_answer volume amounts)))

-- a spill of an input: the texts of its files, and that of the order
abbrev pub IsItemSpillOf : Input → OrderSource → ℕ → List (List ℕ) → Answer → Type 0
IsItemSpillOf input source bound texts answer =
    (mine : List (List ℕ)) × (text : List ℕ) × (system : TaskSystem) × (numbers : List ℕ)
    × (texts ≡ mine ++ text ∷ []) × IsSystemOf input mine system × IsOrderFrom source text numbers
    × IsSpillAnswer system numbers bound answer

-- an amount for each item of the input's system was printed, and the volume. The plan that has an item's amount on disk at each step
-- across which the item is held is a spill plan of the system, the order and the bound; its volume is the printed one, which is the sum of
-- the amounts; and no spill plan of these has a lower one. The texts are those of the input's files, and that of the order or the plan
pub record IsSpilled (input : Input) (source : OrderSource) (bound : ℕ) (texts : List (List ℕ)) (printed : List ℕ) : Type 0 where
  pub mine : List (List ℕ)
  pub text : List ℕ
  pub texts_are : texts ≡ mine ++ text ∷ []
  pub system : TaskSystem
  pub is_system : IsSystemOf input mine system
  pub order : List ℕ
  pub is_order : IsOrderFrom source text order
  pub traversal : IsTraversal system order
  pub volume : ℕ
  pub amounts : List ℕ
  pub len : length amounts ≡ length system.items
  pub plan : IsSpillPlan system order bound (plan_by_amounts system order amounts)
  pub volume_is : plan_volume system order (plan_by_amounts system order amounts) ≡ volume
  pub sum_is : sum amounts ≡ volume
  pub least : (other : ℕ → ℕ → ℕ) → IsSpillPlan system order bound other → volume ≤ plan_volume system order other
  pub printed_is : printed ≡ (spill_answer volume amounts).text
