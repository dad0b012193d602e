-- The peak of an order is at least the memory of each of its states and of each task that runs along it.
use Rattle.std.proofs.Common.{◌≡◌, ℕ, ◌≤◌, List, [], ◌∷◌, ◌++◌, append_assoc, ap, arith}
use Rattle.std.proofs.lemmas.List.{append-nil}
use Rattle.mp_system.specs.Memory.{stands_in}
use Rattle.shared_systems.specs.Shared.{SharedTaskSystem}
use Rattle.shared_systems.specs.SharedMemory.{shared_memory, shared_running, shared_peak_from, shared_peak_of}
use Rattle.shared_systems.proofs.Freeing.{peak-ge}

module _ (system : SharedTaskSystem) where
  peak_on : (before more rest : List ℕ) → shared_peak_from system (before ++ more) rest ≤ shared_peak_from system before (more ++ rest)
  peak_on before [] rest = omega (arith, ap (λ (l : List ℕ). shared_peak_from system l rest) (append-nil before))
  peak_on before (v ∷ more) rest =
      let same = ap (λ (l : List ℕ). shared_peak_from system l rest) (append_assoc before (v ∷ []) more) in
      omega (arith, same, peak_on (before ++ v ∷ []) more rest)

  pub peak_state : (order before rest : List ℕ) → order ≡ before ++ rest → shared_memory system (stands_in before) ≤ shared_peak_of system order
  peak_state order before rest split =
      omega (arith, peak-ge system before rest, peak_on [] before rest, ap (shared_peak_of system) split)

  pub peak_running : (order before rest : List ℕ) (v : ℕ) → order ≡ before ++ v ∷ rest
      → shared_running system (stands_in before) v ≤ shared_peak_of system order
  peak_running order before rest v split = omega (arith, peak_on [] before (v ∷ rest), ap (shared_peak_of system) split)
