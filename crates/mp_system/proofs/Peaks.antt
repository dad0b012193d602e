-- The peak of an order is the greatest of the memories along it.
use Rattle.std.proofs.Common.{◌≡◌, ℕ, ◌≤◌, max, List, [], ◌∷◌, ◌++◌, append_assoc, refl, ap, arith, inl, inr, ◌⊎◌}
use Rattle.std.proofs.lemmas.List.{append-nil}
use Rattle.std.proofs.lemmas.Bool.{cases_lt}
use Rattle.mp_system.specs.System.{TaskSystem}
use Rattle.mp_system.specs.Memory.{state_memory, running_memory, stands_in, peak_from, peak_of}
use Rattle.mp_system.specs.Peak.{IsMemoryAlong}

pub peak_from-ge : (system : TaskSystem) (before rest : List ℕ) → state_memory system (stands_in before) ≤ peak_from system before rest
peak_from-ge system before [] = omega arith
peak_from-ge system before (v ∷ rest) = omega arith

module _ (system : TaskSystem) where
  state-le : (before more rest : List ℕ) → state_memory system (stands_in (before ++ more)) ≤ peak_from system before (more ++ rest)
  state-le before [] rest = rw append-nil (peak_from-ge system before rest)
  state-le before (v ∷ more) rest =
      let later : state_memory system (stands_in (before ++ v ∷ more)) ≤ peak_from system (before ++ v ∷ []) (more ++ rest) =
      rw (← append_assoc before (v ∷ []) more) (state-le (before ++ v ∷ []) more rest) in
      omega (arith, later)

  running-le : (before more : List ℕ) (v : ℕ) (rest : List ℕ)
      → running_memory system (stands_in (before ++ more)) v ≤ peak_from system before (more ++ v ∷ rest)
  running-le before [] v rest = rw append-nil (omega arith)
  running-le before (u ∷ more) v rest =
      let later : running_memory system (stands_in (before ++ u ∷ more)) v ≤ peak_from system (before ++ u ∷ []) (more ++ v ∷ rest) =
      rw (← append_assoc before (u ∷ []) more) (running-le (before ++ u ∷ []) more v rest) in
      omega (arith, later)

  pub along-le-peak : (order : List ℕ) (memory : ℕ) → IsMemoryAlong system order memory → memory ≤ peak_of system order
  along-le-peak order memory (inl (before, rest, split, is)) = rw (split, is) (state-le [] before rest)
  along-le-peak order memory (inr (before, rest, v, split, is)) = rw (split, is) (running-le [] before v rest)

  -- a memory of what is left to run, after `before`
  Left : List ℕ → List ℕ → ℕ → Type 0
  Left before rest memory =
      ((more last : List ℕ) × (rest ≡ more ++ last) × (memory ≡ state_memory system (stands_in (before ++ more))))
      ⊎ ((more last : List ℕ) × (v : ℕ) × (rest ≡ more ++ v ∷ last) × (memory ≡ running_memory system (stands_in (before ++ more)) v))

  left-more : (before : List ℕ) (v : ℕ) (rest : List ℕ) (memory : ℕ) → Left (before ++ v ∷ []) rest memory → Left before (v ∷ rest) memory
  unfolding Left
  left-more before v rest memory (inl (more, last, split, is)) =
      inl (v ∷ more, last, ap (λ (l : List ℕ). v ∷ l) split, rw (← append_assoc before (v ∷ []) more) is)
  left-more before v rest memory (inr (more, last, u, split, is)) =
      inr (v ∷ more, last, u, ap (λ (l : List ℕ). v ∷ l) split, rw (← append_assoc before (v ∷ []) more) is)

  left-peak : (before rest : List ℕ) → Left before rest (peak_from system before rest)
  unfolding Left
  left-peak before [] = inl ([], [], refl, rw append-nil refl)
  left-peak before (v ∷ rest) =
      let state = state_memory system (stands_in before) in
      let running = running_memory system (stands_in before) v in
      let later = peak_from system (before ++ v ∷ []) rest in
      elim (cases_lt state (max running later)) [
        | inl above ↦ elim (cases_lt running later) [
          | inl last ↦
              (let is : peak_from system before (v ∷ rest) ≡ later = omega arith in
              rw is (left-more before v rest later (left-peak (before ++ v ∷ []) rest)))
          | inr here ↦ inr ([], rest, v, refl, (let is : peak_from system before (v ∷ rest) ≡ running = omega arith in rw append-nil is))
        ]
        | inr first ↦ inl ([], v ∷ rest, refl, (let is : peak_from system before (v ∷ rest) ≡ state = omega arith in rw append-nil is))
      ]

  pub peak-along : (order : List ℕ) → IsMemoryAlong system order (peak_of system order)
  unfolding Left
  peak-along order = left-peak [] order
