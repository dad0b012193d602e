-- Amounts that are handed on along the items of a system: memory that one task gives back, or that is there from the start, and that a later
-- task takes. They bound the memory of all parallel runs: L. Marchal, B. Simon and F. Vivien, "Limiting the memory footprint when dynamically
-- scheduling DAGs on shared-memory platforms", 2018, where they are a flow through the graph.
use Rattle.std.specs.Prelude.{◌≡◌, ℕ, ◌+◌, ◌-◌, ◌≤◌, false, max, All, List, length, map}
use Rattle.std.specs.List.{sum_by, zip}
use Rattle.mp_system.specs.declared.system.Item.{Item}
use Rattle.mp_system.specs.System.{TaskSystem, inputs_of, outputs_of, need_of}
use Rattle.mp_system.specs.Memory.{state_memory}
use Rattle.fences.specs.Moments.{numbers_of}

-- an amount for each item, in the order of the items, that is at least its size
pub record AreHandedOn (system : TaskSystem) (amounts : List ℕ) : Type 0 where
  pub long : length amounts ≡ length system.items
  pub covers : All (λ p. p.0.size ≤ p.1) (zip system.items amounts)

-- the system in which the items have the amounts as sizes
abbrev pub with_size : Item × ℕ → Item
with_size p = record { size = p.1; from = p.0.from; to = p.0.to }

abbrev pub carrying : TaskSystem → List ℕ → TaskSystem
carrying system amounts = record { tasks = system.tasks; items = map with_size (zip system.items amounts) }

-- what a task is handed, and what it hands on
abbrev pub received_by : TaskSystem → List ℕ → ℕ → ℕ
received_by system amounts v = inputs_of (carrying system amounts) v

abbrev pub handed_on_by : TaskSystem → List ℕ → ℕ → ℕ
handed_on_by system amounts v = outputs_of (carrying system amounts) v

-- what a task draws beside: as much as it is handed too little for what it holds while it runs, or for what it hands on
abbrev pub drawn_by : TaskSystem → List ℕ → ℕ → ℕ
drawn_by system amounts v = max (inputs_of system v + need_of system v) (handed_on_by system amounts v) - received_by system amounts v

-- the bound that the amounts certify: those of the items that are there from the start, and all that the tasks draw beside
abbrev pub certified_bound : TaskSystem → List ℕ → ℕ
certified_bound system amounts = state_memory (carrying system amounts) (λ _. false) + sum_by (drawn_by system amounts) (numbers_of system)
