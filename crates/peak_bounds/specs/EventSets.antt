-- Sets of tasks of which one starts first, or last, with what is told of each: as clauses see them.
use Rattle.std.specs.Prelude.{ℕ, List}
use Rattle.peak_bounds.specs.declared.evidence.Amount.{Amount}
use Rattle.peak_bounds.specs.declared.step.Event.{Event}

-- a task of the set, and where its lowered sizes differ from those of the set
pub record BlockerValue : Type 0 where
  pub task : ℕ
  pub amounts : List Amount

-- whether one of the set starts first or last, lowered sizes, and the tasks
pub record EventSetValue : Type 0 where
  pub event : Event
  pub base : List Amount
  pub blockers : List BlockerValue
