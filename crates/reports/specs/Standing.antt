-- `fence` of tasks as they stand: a bound that no run of them passes; what is printed is a file of fences with amounts, whose fences forbid no run.
use Rattle.std.specs.Prelude.{◌≡◌, ◌⊎◌, ℕ, List, [], Option, codes}
use Rattle.limits.specs.Limits.{word_of as limit_word}
use Rattle.limits.specs.declared.name.LimitName.TheVariants as limits
use Rattle.shared_systems.specs.Shared.{SharedTaskSystem}
use Rattle.shared_systems.specs.Collected.{HasRoom}
use Rattle.fences.specs.SharedRuns.{GoesOn, KeepsBound}
use Rattle.fences.specs.Certificates.{Certificate, Certifies}
use Rattle.fencing.specs.Asked.{IsFor}
use Rattle.fencing.specs.Standing.{IsStanding}
use Rattle.fence_files.specs.Printed.{fences_text}
use Rattle.fence_files.specs.FenceFile.{ReadsFences}
use Rattle.requests.specs.Request.{TaskSource}
use Rattle.judging.specs.Files.{Answer, IsTaskSystemOf, limit_refused}
use Rattle.reports.specs.Fence.{fences_answer}

-- with a join behind the readers of each item that several read the system passes the limits; or a certificate is told, whichever it is, whose
-- fences forbid no run
abbrev pub IsStandingAnswer : SharedTaskSystem → Option ℕ → Answer → Type 0
IsStandingAnswer system workers answer =
    ((¬ HasRoom system) × (answer ≡ limit_refused (codes "fences") (limit_word limits.Positions)))
    ⊎ ((certificate : Certificate) × IsStanding system workers certificate × ReadsFences (fences_text certificate) certificate
    × (answer ≡ fences_answer certificate))

-- the same of tasks: the texts are those of their files
abbrev pub IsStandingAnswerOf : TaskSource → Option ℕ → List (List ℕ) → Answer → Type 0
IsStandingAnswerOf tasks workers texts answer =
    (system : SharedTaskSystem) × IsTaskSystemOf tasks texts system × IsStandingAnswer system workers answer

-- along every parallel run of the tasks as they stand, on as many workers as were asked for, memory stays within the bound of the certificate, and
-- no run comes to a stop before all tasks are done; what was printed is read as this certificate, which `check` accepts
pub record IsBoundedAsItStands (tasks : TaskSource) (workers : Option ℕ) (texts : List (List ℕ)) (printed : List ℕ) : Type 0 where
  pub system : SharedTaskSystem
  pub is_system : IsTaskSystemOf tasks texts system
  pub certificate : Certificate
  pub certifies : Certifies system certificate
  pub is_for : IsFor workers certificate.workers
  pub keeps_bound : KeepsBound system [] certificate.workers certificate.bound
  pub goes_on : GoesOn system []
  pub reads : ReadsFences printed certificate
