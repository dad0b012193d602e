-- What is said of the system with the fences is said against the fences.
use Rattle.std.proofs.Common.{ℕ, List}
use Rattle.mp_system.specs.System.{TaskSystem}
use Rattle.fences.specs.declared.fenced.Fence.{Fence}
use Rattle.fences.specs.declared.ordered.OrderFault.{OrderFault}
use Rattle.fences.specs.declared.ordered.OrderFault.TheVariants as faults
use Rattle.fences.specs.declared.judged.AmountsRefusal.{AmountsRefusal}
use Rattle.fences.specs.declared.judged.AmountsRefusal.TheVariants as amounts_refusals
use Rattle.fences.specs.Judged.{IsAmountsRefusal}
use Rattle.fences.specs.Orders.{IsOrderFault}
use Rattle.fences.specs.JudgedFences.{AreFences, IsFencesRefusal, LeaveOrder, of_amounts, of_order, with_fences}

pub by_order : (system : TaskSystem) (fences : List Fence) (amounts : List ℕ) (bound : ℕ) → AreFences system fences → (fault : OrderFault)
    → IsOrderFault (with_fences system fences) fault → IsFencesRefusal system fences amounts bound (of_order fault)
by_order system fences amounts bound are (faults.OwnInput place) h = (are, h)
by_order system fences amounts bound are (faults.Cycle v) h = (are, h)
by_order system fences amounts bound are faults.NoMemory h = tt

pub by_amounts : (system : TaskSystem) (fences : List Fence) (amounts : List ℕ) (bound : ℕ) → LeaveOrder system fences → (refusal : AmountsRefusal)
    → IsAmountsRefusal (with_fences system fences) amounts refusal → IsFencesRefusal system fences amounts bound (of_amounts refusal)
by_amounts system fences amounts bound leave amounts_refusals.Length h = (leave, h)
by_amounts system fences amounts bound leave (amounts_refusals.Item test place) h = (leave, h)
by_amounts system fences amounts bound leave amounts_refusals.Total h = (leave, h)
by_amounts system fences amounts bound leave amounts_refusals.NoMemory h = tt
