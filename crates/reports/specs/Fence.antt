-- `fence`: fences along an order, for engines that start whatever is ready; what is printed is a file of fences with amounts, which certify that
-- no parallel run passes the bound, whatever starts the tasks, and however long they take.
use Rattle.std.specs.Prelude.{◌≡◌, ◌+◌, ◌*◌, ◌<◌, ◌≤◌, ◌⊎◌, ℕ, List, [], ◌∷◌, ◌++◌, Some, codes, length}
use Rattle.limits.specs.Limits.{most_positions, word_of as limit_word}
use Rattle.limits.specs.declared.name.LimitName.TheVariants as limits
use Rattle.mp_system.specs.declared.system.OrderKind.{OrderKind}
use Rattle.shared_systems.specs.Shared.{SharedTaskSystem}
use Rattle.shared_systems.specs.SharedMemory.{shared_peak_of}
use Rattle.shared_systems.specs.SharedTraversal.{IsSharedTraversal, first_shared_fault}
use Rattle.shared_systems.specs.Collected.{HasRoom, collected}
use Rattle.fences.specs.SharedRuns.{GoesOn, KeepsBound}
use Rattle.fences.specs.Certificates.{Certificate, Certifies}
use Rattle.fencing.specs.Asked.{IsFor}
use Rattle.fence_files.specs.Printed.{fences_text}
use Rattle.fence_files.specs.FenceFile.{ReadsFences}
use Rattle.requests.specs.Request.{TaskSource, OrderSource, Fencing}
use Rattle.judging.specs.declared.status.Status.TheVariants as status
use Rattle.judging.specs.Files.{Answer, IsOrderFrom, IsTaskSystemOf, bound_refused, limit_refused, order_refused}

-- a file of fences
abbrev pub fences_answer : Certificate → Answer
fences_answer certificate = record { status = status.Done; text = fences_text certificate }

-- with a join behind the readers of each item that several read, and two fences for each task, the system may pass the limits
abbrev pub IsCrowded : SharedTaskSystem → Type 0
IsCrowded system =
    (HasRoom system → most_positions < length (collected system).items + 2 * length (collected system).tasks)

-- what was asked for
pub record IsAskedFor (f : Fencing) (certificate : Certificate) : Type 0 where
  pub bound : certificate.bound ≡ f.bound
  pub workers : IsFor f.workers certificate.workers

-- the order is no traversal, and its first fault is told; or the bound is below its peak; or there may be more joins and fences than the limits
-- have room for; or a certificate is told, whichever it is
abbrev pub IsFenceAnswer : SharedTaskSystem → List ℕ → Fencing → Answer → Type 0
IsFenceAnswer system order f answer =
    ((place : ℕ) × (kind : OrderKind) × (first_shared_fault system order ≡ Some (place, kind)) × (answer ≡ order_refused place kind))
    ⊎ ((IsSharedTraversal system order × (f.bound < shared_peak_of system order)
    × (answer ≡ bound_refused f.bound (shared_peak_of system order)))
    ⊎ ((IsSharedTraversal system order × (shared_peak_of system order ≤ f.bound) × IsCrowded system
    × (answer ≡ limit_refused (codes "fences") (limit_word limits.Positions)))
    ⊎ ((certificate : Certificate) × IsSharedTraversal system order × (shared_peak_of system order ≤ f.bound)
    × Certifies system certificate × IsAskedFor f certificate × ReadsFences (fences_text certificate) certificate
    × (answer ≡ fences_answer certificate))))

-- fences of tasks along an order: the texts of the tasks' files, and that of the order
abbrev pub IsFenceAnswerOf : TaskSource → OrderSource → Fencing → List (List ℕ) → Answer → Type 0
IsFenceAnswerOf tasks source f texts answer =
    (mine : List (List ℕ)) × (text : List ℕ) × (system : SharedTaskSystem) × (order : List ℕ)
    × (texts ≡ mine ++ text ∷ []) × IsTaskSystemOf tasks mine system × IsOrderFrom source text order
    × IsFenceAnswer system order f answer

-- along every parallel run that keeps to the fences, on as many workers as were asked for, memory stays within the bound, and no such run comes
-- to a stop before all tasks are done; what was printed is read as the fences, which `check` accepts. The texts are those of the tasks' files, and
-- that of the order or the plan
pub record IsFencedIn (tasks : TaskSource) (source : OrderSource) (f : Fencing) (texts : List (List ℕ)) (printed : List ℕ) : Type 0 where
  pub mine : List (List ℕ)
  pub text : List ℕ
  pub texts_are : texts ≡ mine ++ text ∷ []
  pub system : SharedTaskSystem
  pub is_system : IsTaskSystemOf tasks mine system
  pub order : List ℕ
  pub is_order : IsOrderFrom source text order
  pub traversal : IsSharedTraversal system order
  pub peak_within : shared_peak_of system order ≤ f.bound
  pub certificate : Certificate
  pub asked : IsAskedFor f certificate
  pub certifies : Certifies system certificate
  pub keeps_bound : KeepsBound system certificate.fences certificate.workers f.bound
  pub goes_on : GoesOn system certificate.fences
  pub reads : ReadsFences printed certificate
