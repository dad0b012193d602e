-- The term of a shared system, in which joins stand where several tasks supply several others together, and the last reader of each item
-- carries it; and the orders of the system that it tells.
use Rattle.std.specs.Prelude.{◌≡◌, ◌⊎◌, ℕ, List, map}
use Rattle.mp_system.specs.Renaming.{name_in}
use Rattle.sp_terms.specs.Term.{Term}
use Rattle.graphs.specs.Graph.{completed_system}
use Rattle.sp_reduce.specs.Reduced.{HasSystem}
use Rattle.shared_systems.specs.Shared.{SharedTaskSystem}
use Rattle.joined_systems.specs.Joined.{without_joins, IsJoinedOf}
use Rattle.carried_graphs.specs.Carried.{AreLastReaders, carried}
use Rattle.shared_reduce.specs.declared.refusal.SharedReduceRefusal.{SharedReduceRefusal}
use Rattle.shared_reduce.specs.declared.refusal.SharedReduceRefusal.TheVariants.{NoMemory}
use Rattle.shared_reduce.specs.Refusal.{IsSharedReduceRefusal}

-- an order of a term's tasks tells one of a system's n tasks: by the names, without the joins, which have greater ones
abbrev pub told : ℕ → List ℕ → List ℕ → List ℕ
told n names order = without_joins n (map (name_in names) order)

-- the term of the graph in which the last readers alone carry the items; and the name of each of its tasks
pub record IsCarriedTerm (system : SharedTaskSystem) (names : List ℕ) (t : Term) : Type 0 where
  pub lasts : List ℕ
  pub are_last : AreLastReaders system lasts
  pub has : HasSystem names t (completed_system (carried lasts system))

-- that of the system with its joins
pub record IsSharedTerm (system : SharedTaskSystem) (names : List ℕ) (t : Term) : Type 0 where
  pub joined : SharedTaskSystem
  pub is_joined : IsJoinedOf system joined
  pub term : IsCarriedTerm joined names t

-- why there is none, with its joins; want of memory tells nothing
abbrev pub IsRefusedTerm : SharedTaskSystem → SharedReduceRefusal → Type 0
IsRefusedTerm system refusal =
    (refusal ≡ NoMemory) ⊎ ((joined : SharedTaskSystem) × IsJoinedOf system joined × IsSharedReduceRefusal joined refusal)
