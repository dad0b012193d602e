-- Ways through the states of a term that tell the names of their tasks.
use Rattle.std.specs.Prelude.{◌≡◌, ℕ, ◌+◌, max, ◌⊎◌, List, [], ◌∷◌, ◌++◌}
use Rattle.std.proofs.Common.{inl, inr}
use Rattle.sp_terms.specs.Term.{Term, hold, series, par, Parts, no_parts, part, Direction, forward, backward, hill_of}
use Rattle.sp_term_laws.specs.Moves.{State, States, memory_of, memory_of_parts, first_state}
use Rattle.cut_laws.specs.Names.{Names, NamesOfParts}

-- the task with this name leads from a state to the next in this direction, with this memory while it runs
abbrev mutual
  pub NamedRun : Direction → (t : Term) → Names t → State t → ℕ → ℕ → State t → Type 0
  NamedRun d (hold size) n s v r s' = ⊥
  NamedRun d (series a w b) (na, x, nb) (inl s) v r (inl s') = NamedRun d a na s v r s'
  NamedRun forward (series a w b) (na, x, nb) (inl s) v r (inr s') =
      (s ≡ first_state backward a) × (s' ≡ first_state forward b) × (r ≡ hill_of a w b) × (v ≡ x)
  NamedRun backward (series a w b) (na, x, nb) (inl s) v r (inr s') = ⊥
  NamedRun forward (series a w b) (na, x, nb) (inr s) v r (inl s') = ⊥
  NamedRun backward (series a w b) (na, x, nb) (inr s) v r (inl s') =
      (s' ≡ first_state backward a) × (s ≡ first_state forward b) × (r ≡ hill_of a w b) × (v ≡ x)
  NamedRun d (series a w b) (na, x, nb) (inr s) v r (inr s') = NamedRun d b nb s v r s'
  NamedRun d (par ts) ns ss v r ss' = NamedRuns d ts ns ss v r ss'

  pub NamedRuns : Direction → (ts : Parts) → NamesOfParts ts → States ts → ℕ → ℕ → States ts → Type 0
  NamedRuns d no_parts ns ss v r ss' = ⊥
  NamedRuns d (part t ts) (n, ns) (s, ss) v r (s', ss') =
      ((ss ≡ ss') × ((q : ℕ) × NamedRun d t n s v q s' × (r ≡ q + memory_of_parts ts ss)))
      ⊎ ((s ≡ s') × ((q : ℕ) × NamedRuns d ts ns ss v q ss' × (r ≡ memory_of t s + q)))

-- these tasks lead from a state to another, and this is the greatest memory of the states and running tasks on the way, its ends included
pub data NamedWay (d : Direction) (t : Term) (n : Names t) : State t → List ℕ → ℕ → State t → Type 0 where
  still : (s : State t) → NamedWay d t n s [] (memory_of t s) s
  onward : {s s' s'' : State t} {xs : List ℕ} {h : ℕ} (v r : ℕ) → NamedWay d t n s xs h s'
      → NamedRun d t n s' v r s'' → NamedWay d t n s (xs ++ v ∷ []) (max h (max r (memory_of t s''))) s''

-- the same through the states of parts side by side
pub data NamedWays (d : Direction) (ts : Parts) (n : NamesOfParts ts) : States ts → List ℕ → ℕ → States ts → Type 0 where
  stills : (s : States ts) → NamedWays d ts n s [] (memory_of_parts ts s) s
  onwards : {s s' s'' : States ts} {xs : List ℕ} {h : ℕ} (v r : ℕ) → NamedWays d ts n s xs h s'
      → NamedRuns d ts n s' v r s'' → NamedWays d ts n s (xs ++ v ∷ []) (max h (max r (memory_of_parts ts s''))) s''
