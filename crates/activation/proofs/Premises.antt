-- What laws say, as premises of lemmas.
use Rattle.std.proofs.Common.{◌≡◌, ℕ, List, length}
use Rattle.shared_systems.specs.Shared.{SharedTaskSystem}
use Rattle.shared_systems.specs.SharedTraversal.{IsSharedTraversal}
use Rattle.activation.specs.declared.events.EventKind.{EventKind}
use Rattle.activation.specs.Machine.{Setting, IsSetting, State, MayHappen, state_after, start_state}
use Rattle.activation.specs.Safe.{IsSafe}

abbrev pub Long : Type 0
Long = (system : SharedTaskSystem) (order : List ℕ) → IsSharedTraversal system order → length order ≡ length system.tasks

-- the start is safe, and events keep it so
abbrev pub StartSafe : Type 0
StartSafe = (c : Setting) → IsSetting c → IsSafe c (start_state c)

abbrev pub Kept : Type 0
Kept = (c : Setting) → IsSetting c → (st : State) → IsSafe c st
    → (kind : EventKind) (t : ℕ) → MayHappen c st kind t → IsSafe c (state_after st kind t)
