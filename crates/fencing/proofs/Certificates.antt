-- Fences for the collected system make a certificate of the shared one.
use Rattle.std.proofs.Common.{◌≡◌, ℕ, ◌-◌, ◌<◌, ◌≤◌, Option, Some, List, [], ◌∷◌, length, map, refl, subst, ap, arith, ⊎_elim}
use Rattle.std.specs.Prelude.{MatchOption}
use Rattle.lists.proofs.Orders.{lt_or_le}
use Rattle.mp_system.specs.declared.system.Task.{Task}
use Rattle.mp_system.specs.System.{TaskSystem, IsSystem, IsTask, need_of}
use Rattle.mp_system.specs.Memory.{peak_of}
use Rattle.mp_system.specs.Traversal.{IsTraversal}
use Rattle.shared_systems.specs.Shared.{SharedTaskSystem}
use Rattle.shared_systems.specs.SharedMemory.{shared_peak_of}
use Rattle.shared_systems.specs.SharedTraversal.{IsSharedTraversal}
use Rattle.shared_systems.specs.Collected.{HasRoom, collected}
use Rattle.fences.specs.declared.fenced.FenceTest.TheVariants as tests
use Rattle.fences.specs.Certificates.{Certificate, Certifies, IsForTask, join_places, room_of}
use Rattle.fences.specs.JudgedFences.{fence_at}
use Rattle.fences.specs.Workers.{relieved, relieved_task}
use Rattle.fencing.specs.declared.fencing.FencingRefusal.{FencingRefusal}
use Rattle.fencing.specs.declared.fencing.FencingRefusal.TheVariants as refusals
use Rattle.fencing.specs.declared.rooms.Chosen.{Chosen}
use Rattle.fencing.specs.Needs.{taken_need}
use Rattle.fencing.specs.Refusal.{IsCertifyingRefusal, IsFencingRefusal, of_fencing}
use Rattle.fencing.specs.Rooms.{Suits}
use Rattle.fencing.proofs.Relieved.{as_many_tasks, task_of, taken_least, traversal_in}

-- ---- without room

same_task : (task : Task) → relieved_task 0 task ≡ task
same_task task = ap (λ (share : ℕ). record { extra = task.extra; share = share; time = task.time }) (omega arith)

same_tasks : (tasks : List Task) → map (relieved_task 0) tasks ≡ tasks
same_tasks [] = refl
same_tasks (task ∷ tasks) = rw (same_task task, same_tasks tasks) refl

pub same_system : (system : TaskSystem) → relieved 0 system ≡ system
same_system system = ap (λ (tasks : List Task). record { tasks = tasks; items = system.items }) (same_tasks system.tasks)

-- ---- what is made is the collected system

pub is_collected : (system : SharedTaskSystem) (made : Option TaskSystem) (own : TaskSystem) → made ≡ Some own
    → MatchOption made (¬ HasRoom system) (λ s. s ≡ collected system) → own ≡ collected system
is_collected system made own is h = subst (λ (o : Option TaskSystem). MatchOption o (¬ HasRoom system) (λ s. s ≡ collected system)) is h

pub has_room : (system : SharedTaskSystem) (made : Option TaskSystem) (own : TaskSystem) → made ≡ Some own
    → MatchOption made (¬ HasRoom system) (λ s. HasRoom system) → HasRoom system
has_room system made own is h = subst (λ (o : Option TaskSystem). MatchOption o (¬ HasRoom system) (λ s. HasRoom system)) is h

-- ---- why none is made

pub by_fencing : (system : SharedTaskSystem) (order woven : List ℕ) (bound : ℕ) (refusal : FencingRefusal)
    → IsSharedTraversal system order → shared_peak_of system order ≤ bound → HasRoom system
    → IsTraversal (collected system) woven → peak_of (collected system) woven ≡ shared_peak_of system order
    → IsFencingRefusal (relieved 0 (collected system)) woven bound refusal → IsCertifyingRefusal system order bound (of_fencing refusal)
by_fencing system order woven bound (refusals.Order fault) is within room traversal peak refused =
    absurd (refused.1 (traversal_in 0 (collected system) woven traversal))
by_fencing system order woven bound (refusals.Bound high) is within room traversal peak refused =
    let same : peak_of (relieved 0 (collected system)) woven ≡ peak_of (collected system) woven =
    ap (λ (s : TaskSystem). peak_of s woven) (same_system (collected system)) in
    absurd (omega (arith, same, peak, within, refused.1, refused.2))
by_fencing system order woven bound refusals.ManyFences is within room traversal peak refused =
    (is, within, room, omega (arith, refused.2, as_many_tasks 0 (collected system)))
by_fencing system order woven bound refusals.NoMemory is within room traversal peak refused = tt

-- ---- what is made certifies

module _ (system : SharedTaskSystem) (sys : IsSystem (collected system)) (room : HasRoom system)
    (collector : (v : ℕ) → IsTask (collected system) v → length system.tasks < v → need_of (collected system) v ≡ 0) where
  -- who takes something is a task, and no join
  takes_some : (reserved v : ℕ) → IsTask (collected system) v → 1 ≤ taken_need (relieved reserved (collected system)) v → v ≤ length system.tasks
  takes_some reserved v task some =
      ⊎_elim
      (λ (high : length system.tasks < v). absurd (omega (arith, some, taken_least reserved (collected system) sys v task, collector v task high)))
      (λ low. low)
      (lt_or_le (length system.tasks) v)

  pub certifies : (bound : ℕ) (asked : Option ℕ) (found : Chosen) (certificate : Certificate) → Suits (collected system) bound asked found
      → certificate.bound ≡ bound → certificate.workers ≡ found.workers → certificate.joins ≡ join_places system
      → certificate.fences ≡ found.fencing.fences.items → certificate.amounts ≡ found.fencing.amounts.items → Certifies system certificate
  certifies bound asked found certificate suits bound_is workers_are joins_are fences_are amounts_are =
      let lighter = relieved (room_of found.workers) (collected system) in
      let fences = found.fencing.fences.items in
      let all : (place : ℕ) → (1 ≤ place) × (place ≤ length fences) → IsForTask system fences place =
      λ place at. (
      let fits = suits.certify.leave.are_fences.fit place at tests.Tasks in
      takes_some (room_of found.workers) (fence_at fences place).to
      (task_of (room_of found.workers) (collected system) (fence_at fences place).to fits.1)
      (suits.needy (place - 1) (record { from = 0; to = 0 }) (omega (arith, at.0, at.1)))) in
      record {
        for_tasks = record {
          has_joins = record { room = room; joins = joins_are };
          reserve = rw (bound_is, workers_are) suits.reserve;
          tasks = rw fences_are all;
        };
        certify = rw (bound_is, workers_are, fences_are, amounts_are) suits.certify;
      }
