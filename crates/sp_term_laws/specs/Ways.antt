-- Ways through the states of a term, with the tasks that run and the greatest memory.
use Rattle.std.specs.Prelude.{◌≡◌, ℕ, ◌+◌, max, ◌⊎◌, List, [], ◌∷◌, ◌++◌}
use Rattle.std.proofs.Common.{inl, inr}
use Rattle.sp_terms.specs.SystemOfTerm.{own_number, task_count}
use Rattle.sp_terms.specs.Term.{Term, hold, series, par, Parts, no_parts, part, Direction, forward, backward, hill_of}
use Rattle.sp_term_laws.specs.Moves.{State, States, memory_of, memory_of_parts, first_state}

-- one task, with its number, leads from a state to the next in this direction; the term's tasks are numbered from `base` on
abbrev mutual
  pub Run : Direction → ℕ → (t : Term) → State t → ℕ → ℕ → State t → Type 0
  Run d base (hold size) s v r s' = ⊥
  Run d base (series a w b) (inl s) v r (inl s') = Run d base a s v r s'
  Run forward base (series a w b) (inl s) v r (inr s') =
      (s ≡ first_state backward a) × (s' ≡ first_state forward b) × (r ≡ hill_of a w b) × (v ≡ own_number base a b)
  Run backward base (series a w b) (inl s) v r (inr s') = ⊥
  Run forward base (series a w b) (inr s) v r (inl s') = ⊥
  Run backward base (series a w b) (inr s) v r (inl s') =
      (s' ≡ first_state backward a) × (s ≡ first_state forward b) × (r ≡ hill_of a w b) × (v ≡ own_number base a b)
  Run d base (series a w b) (inr s) v r (inr s') = Run d (base + task_count a) b s v r s'
  Run d base (par ts) ss v r ss' = Runs d base ts ss v r ss'

  pub Runs : Direction → ℕ → (ts : Parts) → States ts → ℕ → ℕ → States ts → Type 0
  Runs d base no_parts ss v r ss' = ⊥
  Runs d base (part t ts) (s, ss) v r (s', ss') =
      ((ss ≡ ss') × ((q : ℕ) × Run d base t s v q s' × (r ≡ q + memory_of_parts ts ss)))
      ⊎ ((s ≡ s') × ((q : ℕ) × Runs d (base + task_count t) ts ss v q ss' × (r ≡ memory_of t s + q)))

-- a way through the states of a term: the tasks that run one after the other, and the greatest memory of its states and running
-- tasks, its ends included
pub data Way (d : Direction) (base : ℕ) (t : Term) : State t → List ℕ → ℕ → State t → Type 0 where
  still : (s : State t) → Way d base t s [] (memory_of t s) s
  onward : {s s' s'' : State t} {xs : List ℕ} {h : ℕ} (v r : ℕ) → Way d base t s xs h s' → Run d base t s' v r s''
      → Way d base t s (xs ++ v ∷ []) (max h (max r (memory_of t s''))) s''

-- the same through the states of parts side by side
pub data Ways (d : Direction) (base : ℕ) (ts : Parts) : States ts → List ℕ → ℕ → States ts → Type 0 where
  stills : (s : States ts) → Ways d base ts s [] (memory_of_parts ts s) s
  onwards : {s s' s'' : States ts} {xs : List ℕ} {h : ℕ} (v r : ℕ) → Ways d base ts s xs h s' → Runs d base ts s' v r s''
      → Ways d base ts s (xs ++ v ∷ []) (max h (max r (memory_of_parts ts s''))) s''
