-- Why a shared system has no series-parallel term in which one reader of each item carries it.
use Rattle.std.specs.Prelude.{ℕ, ◌-◌, List, length, map}
use Rattle.lists.specs.Numbers.{IsFirstWithout}
use Rattle.graphs.specs.Graph.{TaskGraph, completed}
use Rattle.graphs.specs.Judged.{HasFewArcs}
use Rattle.shared_systems.specs.Shared.{SharedTaskSystem, shared_item_at}
use Rattle.carried_graphs.specs.Carried.{AreLastReaders, carried}
use Rattle.carried_graphs.specs.Refusal.{HasLastIfAny}
use Rattle.sp_reduce.specs.Reductions.{ends_of, IsRestOf}
use Rattle.sp_reduce.specs.Refusal.{HasNoTerm}
use Rattle.shared_reduce.specs.declared.refusal.SharedReduceRefusal.{SharedReduceRefusal}
use Rattle.shared_reduce.specs.declared.refusal.SharedReduceRefusal.TheVariants as refusals
use Rattle.shared_reduce.specs.Uses.{uses_of}

-- the graph has no term, and these are the arcs of an irreducible rest of it
abbrev pub HasRest : TaskGraph → List (ℕ × ℕ) → Type 0
HasRest graph rest = IsRestOf (map ends_of (completed graph).arcs) rest × HasNoTerm graph

-- the graph of uses, or the one in which the last readers carry the items
pub data IsGraphOf (system : SharedTaskSystem) : TaskGraph → Type 0 where
  uses : IsGraphOf system (uses_of system)
  carries : {lasts : List ℕ} → AreLastReaders system lasts → IsGraphOf system (carried lasts system)

-- the graph of uses has no term; the first item, counted from 1, that has readers and none of them is last; there are last readers, but
-- the graph in which they carry the items has no term; one of the two graphs has too many arcs; want of memory tells nothing
abbrev pub IsSharedReduceRefusal : SharedTaskSystem → SharedReduceRefusal → Type 0
IsSharedReduceRefusal system (refusals.Uses arcs) = HasRest (uses_of system) arcs.items
IsSharedReduceRefusal system (refusals.Item i) =
    IsFirstWithout (length system.items) (λ place. HasLastIfAny system (shared_item_at system.items (place - 1))) i
IsSharedReduceRefusal system (refusals.Rest arcs) =
    (lasts : List ℕ) × AreLastReaders system lasts × HasRest (carried lasts system) arcs.items
IsSharedReduceRefusal system refusals.Arcs = (graph : TaskGraph) × IsGraphOf system graph × (HasFewArcs graph → ⊥)
IsSharedReduceRefusal system refusals.NoMemory = Unit {0}
