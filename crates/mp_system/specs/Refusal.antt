-- What a refused order tells, and the words for it in reports.
use Rattle.std.specs.Prelude.{◌≡◌, ℕ, List, Some, codes}
use Rattle.mp_system.specs.declared.system.OrderKind.{OrderKind}
use Rattle.mp_system.specs.declared.system.OrderKind.TheVariants.{Unknown, Repeated, TooEarly, Missing}
use Rattle.mp_system.specs.declared.order.ReplayRefusal.{ReplayRefusal}
use Rattle.mp_system.specs.declared.order.ReplayRefusal.TheVariants as refusals
use Rattle.mp_system.specs.System.{TaskSystem}
use Rattle.mp_system.specs.Traversal.{IsTraversal, first_fault}

-- the refused order is no traversal, and the refusal has the first place at which it fails, with the reason; want of
-- memory tells nothing of the order
abbrev pub IsOrderRefusal : TaskSystem → List ℕ → ReplayRefusal → Type 0
IsOrderRefusal system order (refusals.Order fault) =
    (first_fault system order ≡ Some (fault.place, fault.kind)) × (¬ IsTraversal system order)
IsOrderRefusal system order refusals.NoMemory = Unit {0}

-- the word for a reason
abbrev pub word_of : OrderKind → List ℕ
word_of Unknown = codes "unknown"
word_of Repeated = codes "repeated"
word_of TooEarly = codes "too-early"
word_of Missing = codes "missing"
