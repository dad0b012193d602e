-- No public clause names this.
-- Fences with room set aside for each worker.
use Rattle.std.specs.Prelude.{ℕ, ◌-◌, ◌≤◌, All, Option}
use Rattle.mp_system.specs.System.{TaskSystem}
use Rattle.fences.specs.JudgedFences.{Certify}
use Rattle.fences.specs.Workers.{relieved}
use Rattle.fences.specs.Certificates.{reserve_of, room_of}
use Rattle.fencing.specs.declared.rooms.Chosen.{Chosen}
use Rattle.fencing.specs.Asked.{IsFor}
use Rattle.fencing.specs.Needs.{taken_need}

-- they are for as many workers as are asked for, what is set aside for these leaves room in the bound, the amounts certify what is left of it,
-- and each fence is to a task that takes something
pub record Suits (system : TaskSystem) (bound : ℕ) (asked : Option ℕ) (found : Chosen) : Type 0 where
  pub is_for : IsFor asked found.workers
  pub reserve : reserve_of found.workers ≤ bound
  pub certify : Certify (relieved (room_of found.workers) system) found.fencing.fences.items found.fencing.amounts.items
      (bound - reserve_of found.workers)
  pub needy : All (λ fence. 1 ≤ taken_need (relieved (room_of found.workers) system) fence.to) found.fencing.fences.items
