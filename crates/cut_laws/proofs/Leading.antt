-- What makes a cut one of a term, part by part: both sides lead down through the term's states to the same one.
use Rattle.std.specs.Prelude.{◌≡◌, ◌+◌, List, [], ◌∷◌}
use Rattle.side_laws.specs.Segments.{IsRising}
use Rattle.hill_valley.specs.Side.{Run, run_profile}
use Rattle.sp_terms.specs.Term.{Term, Parts, no_parts, part, forward, backward, Direction}
use Rattle.sp_term_laws.specs.Moves.{State, memory_of, first_state}
use Rattle.claim_rules.specs.Claims.{Claim, IsSound}
use Rattle.cut_laws.specs.Cuts.{Cut}
use Rattle.cut_laws.specs.Names.{Names, NamesOfParts}
use Rattle.cut_laws.proofs.NamedWays.{NamedWay}
use Rattle.cut_laws.proofs.Wanted.{Wants, Fits}

-- the runs lead from a state to another, one after the other: each goes at most its `up` above the memory at which it starts, and it
-- reaches that, and ends lower by its `net`
abbrev pub LeadsDown : (d : Direction) (t : Term) (n : Names t) → State t → List Run → State t → Type 0
LeadsDown d t n s [] s' = s ≡ s'
LeadsDown d t n s (g ∷ gs) s' =
    (m : State t) × NamedWay d t n s g.tasks (memory_of t s + g.up) m × (memory_of t m + g.net ≡ memory_of t s) × LeadsDown d t n m gs s'

pub record IsCutOf (t : Term) (n : Names t) (c : Cut) : Type 0 where
  pub fits : Fits t c
  -- what the sides show is so
  pub sound : (k : Claim) → Wants c k → IsSound t k
  pub front_rises : IsRising (run_profile c.front)
  pub back_rises : IsRising (run_profile c.back)
  -- the state in which both sides meet
  pub cut : State t
  pub front : LeadsDown forward t n (first_state forward t) c.front cut
  pub back : LeadsDown backward t n (first_state backward t) c.back cut

-- a cut of each part
abbrev pub AreCutsOf : (ts : Parts) → NamesOfParts ts → List Cut → Type 0
AreCutsOf no_parts n [] = Unit {0}
AreCutsOf no_parts n (c ∷ cs) = ⊥
AreCutsOf (part t ts) n [] = ⊥
AreCutsOf (part t ts) (n, ns) (c ∷ cs) = IsCutOf t n c × AreCutsOf ts ns cs
