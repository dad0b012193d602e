-- What a certificate certifies of the collected system with the fences, and so of the runs of the shared system.
use Rattle.std.proofs.Common.{ℕ, ◌+◌, ◌*◌, ◌-◌, ◌≤◌, List, arith}
use Rattle.std.proofs.Math.Nat.{mul-le-mul_left}
use Rattle.std.specs.Prelude.{count_by}
use Rattle.mp_system.specs.System.{TaskSystem}
use Rattle.mp_system.specs.Traversal.{IsTraversal}
use Rattle.shared_systems.specs.Shared.{SharedTaskSystem}
use Rattle.shared_systems.specs.Collected.{collected}
use Rattle.fences.specs.declared.fenced.Fence.{Fence}
use Rattle.fences.specs.declared.fenced.FenceTest.{FenceTest}
use Rattle.fences.specs.declared.fenced.FenceTest.TheVariants as tests
use Rattle.fences.specs.declared.fenced.FencesRefusal.{FencesRefusal}
use Rattle.fences.specs.declared.fenced.FencesRefusal.TheVariants as refusals
use Rattle.fences.specs.declared.certificate.Workers.{Workers}
use Rattle.fences.specs.declared.certificate.Workers.TheVariants as workers
use Rattle.fences.specs.Moments.{Moment}
use Rattle.fences.specs.Amounts.{AreHandedOn}
use Rattle.fences.specs.Judged.{AreAccepted}
use Rattle.fences.specs.JudgedFences.{AreFences, FencePasses, IsFencesRefusal, LeaveOrder, with_fences}
use Rattle.fences.specs.Workers.{relieved}
use Rattle.fences.specs.SharedRuns.{AreServed, shared_numbers}
use Rattle.fences.specs.Certificates.{Certificate, IsCertificateRefusal, IsForTasks, of_fences, reserve_of, room_of}
use Rattle.fences.proofs.Accepting.{handed}
use Rattle.fences.proofs.Relieving.{task_back, traversal_back}

-- ---- what is said where each task needs less by the room of its worker

module _ (room : ℕ) (system : TaskSystem) (fences : List Fence) where
  passes_back : (test : FenceTest) (place : ℕ) → FencePasses (relieved room system) fences test place → FencePasses system fences test place
  passes_back tests.Tasks place passes = (task_back system room _ passes.0, task_back system room _ passes.1)
  passes_back tests.Apart place passes = passes

  pub fences_back : AreFences (relieved room system) fences → AreFences system fences
  fences_back are = record { few = are.few; fit = λ place is_place test. passes_back test place (are.fit place is_place test) }

  pub order_back : (leave : LeaveOrder (relieved room system) fences) → IsTraversal (with_fences system fences) leave.order
  order_back leave = traversal_back (with_fences system fences) room leave.order leave.traversal

  pub handed_back : (amounts : List ℕ) → AreAccepted (with_fences (relieved room system) fences) amounts
      → AreHandedOn (with_fences system fences) amounts
  handed_back amounts accepted =
      let are = handed (with_fences (relieved room system) fences) amounts accepted in
      record { long = are.long; covers = are.covers }

-- ---- the room of all workers is enough

pub within_bound : (w : Workers) (system : SharedTaskSystem) (moment : Moment) (bound used : ℕ) → reserve_of w ≤ bound → AreServed system w moment
    → used ≤ bound - reserve_of w + room_of w * count_by moment.running (shared_numbers system) → used ≤ bound
within_bound workers.Any system moment bound used reserve served le = omega arith
within_bound (workers.AtMost count room) system moment bound used reserve served le = omega (arith, mul-le-mul_left room served)

-- ---- what is said against the fences is said against the certificate

pub by_fences : (system : SharedTaskSystem) (certificate : Certificate) → IsForTasks system certificate → (refusal : FencesRefusal)
    → IsFencesRefusal (relieved (room_of certificate.workers) (collected system)) certificate.fences certificate.amounts
    (certificate.bound - reserve_of certificate.workers) refusal
    → IsCertificateRefusal system certificate (of_fences refusal)
by_fences system certificate are refusals.ManyFences said = (are, said)
by_fences system certificate are (refusals.Fence test place) said = (are, said)
by_fences system certificate are (refusals.OwnInput place) said = (are, said)
by_fences system certificate are (refusals.Cycle v) said = (are, said)
by_fences system certificate are refusals.Length said = (are, said)
by_fences system certificate are (refusals.Item test place) said = (are, said)
by_fences system certificate are refusals.Total said = (are, said)
by_fences system certificate are (refusals.Bound certified) said = (are, said)
by_fences system certificate are refusals.NoMemory said = tt
