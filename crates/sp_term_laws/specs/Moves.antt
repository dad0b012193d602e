-- The states of a term, shaped like the term, and the tasks that lead from one to the next. A state of a series is one of its first
-- part before its task, and one of its second part after it; a state of parts side by side is one of each.
use Rattle.std.specs.Prelude.{◌≡◌, ℕ, ◌+◌, ◌<◌, ◌⊎◌}
use Rattle.std.proofs.Common.{inl, inr}
use Rattle.sp_terms.specs.Term.{Term, hold, series, par, Parts, no_parts, part, Direction, forward, backward, hill_of}

-- the other direction
abbrev pub other : Direction → Direction
other forward = backward
other backward = forward

abbrev mutual
  pub State : Term → Type 0
  State (hold size) = Unit {0}
  State (series a v b) = State a ⊎ State b
  State (par ts) = States ts

  pub States : Parts → Type 0
  States no_parts = Unit {0}
  States (part t ts) = State t × States ts

-- the memory of a state
abbrev mutual
  pub memory_of : (t : Term) → State t → ℕ
  memory_of (hold size) s = size
  memory_of (series a v b) (inl s) = memory_of a s
  memory_of (series a v b) (inr s) = memory_of b s
  memory_of (par ts) ss = memory_of_parts ts ss

  pub memory_of_parts : (ts : Parts) → States ts → ℕ
  memory_of_parts no_parts ss = 0
  memory_of_parts (part t ts) (s, ss) = memory_of t s + memory_of_parts ts ss

-- the first state in a direction: before any task forwards, after all tasks backwards
abbrev mutual
  pub first_state : Direction → (t : Term) → State t
  first_state d (hold size) = tt
  first_state forward (series a v b) = inl (first_state forward a)
  first_state backward (series a v b) = inr (first_state backward b)
  first_state d (par ts) = first_states d ts

  pub first_states : Direction → (ts : Parts) → States ts
  first_states d no_parts = tt
  first_states d (part t ts) = (first_state d t, first_states d ts)

-- one task leads from a state to the next in this direction, with this memory while it runs
abbrev mutual
  pub Step : Direction → (t : Term) → State t → ℕ → State t → Type 0
  Step d (hold size) s r s' = ⊥
  Step d (series a v b) (inl s) r (inl s') = Step d a s r s'
  Step forward (series a v b) (inl s) r (inr s') = (s ≡ first_state backward a) × (s' ≡ first_state forward b) × (r ≡ hill_of a v b)
  Step backward (series a v b) (inl s) r (inr s') = ⊥
  Step forward (series a v b) (inr s) r (inl s') = ⊥
  Step backward (series a v b) (inr s) r (inl s') = (s' ≡ first_state backward a) × (s ≡ first_state forward b) × (r ≡ hill_of a v b)
  Step d (series a v b) (inr s) r (inr s') = Step d b s r s'
  Step d (par ts) ss r ss' = Steps d ts ss r ss'

  pub Steps : Direction → (ts : Parts) → States ts → ℕ → States ts → Type 0
  Steps d no_parts ss r ss' = ⊥
  Steps d (part t ts) (s, ss) r (s', ss') =
      ((ss ≡ ss') × ((q : ℕ) × Step d t s q s' × (r ≡ q + memory_of_parts ts ss)))
      ⊎ ((s ≡ s') × ((q : ℕ) × Steps d ts ss q ss' × (r ≡ memory_of t s + q)))

-- the state is reached from the first one of this direction, and all memory on the way is below the limit
pub data Reached (d : Direction) (t : Term) (limit : ℕ) : State t → Type 0 where
  begin : memory_of t (first_state d t) < limit → Reached d t limit (first_state d t)
  next : {s s' : State t} {r : ℕ} → Reached d t limit s → Step d t s r s' → r < limit → memory_of t s' < limit → Reached d t limit s'
