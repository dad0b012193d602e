-- Claims: lower bounds on the traversals of a term, each a statement that can be judged at one position. They turn the exchange argument
-- of Liu 1987 (An application of generalized tree pebbling to sparse matrix factorization) into a certificate.
use Rattle.std.specs.Prelude.{ℕ, ℤ, pos, ◌≤ℤ◌, ◌<ℤ◌, ◌≤◌, List, ◌++◌, Option, Some, None}
use Rattle.std.specs.List.{AllZip}
use Rattle.mp_system.specs.System.{TaskSystem}
use Rattle.mp_system.specs.Memory.{peak_from, peak_of}
use Rattle.mp_system.specs.Traversal.{IsTraversal}
use Rattle.sp_terms.specs.SystemOfTerm.{system_of_term}
use Rattle.sp_terms.specs.Term.{Term, Direction, forward, backward, first_memory}
use Rattle.sp_term_laws.specs.Along.{memory_after}

-- From the first state in a direction, nothing within the bound leads to the end, or to a memory below the rest.
pub record Claim : Type 0 where
  pub direction : Direction
  pub bound : ℤ
  pub rest : ℕ

-- the greatest memory on the way to the state after `done`: from the first state on, or back from the last one
abbrev pub peak_up_to : Direction → TaskSystem → List ℕ → List ℕ → ℕ
peak_up_to forward system done rest = peak_of system done
peak_up_to backward system done rest = peak_from system done rest

-- what a claim says of the traversals of a term
pub record IsSound (t : Term) (c : Claim) : Type 0 where
  -- none has a peak within the bound
  pub no_traversal : (order : List ℕ) → IsTraversal (system_of_term t) order → c.bound <ℤ pos (peak_of (system_of_term t) order)
  -- each state to which a way within the bound leads has at least the rest
  pub rest : (done rest : List ℕ) → IsTraversal (system_of_term t) (done ++ rest)
      → pos (peak_up_to c.direction (system_of_term t) done rest) ≤ℤ c.bound → c.rest ≤ memory_after (system_of_term t) done
  -- so has the first state
  pub start : c.rest ≤ first_memory c.direction t

-- a claim, if there is one, is sound
abbrev pub IsSoundIf : Term → Option Claim → Type 0
IsSoundIf t None = Unit {0}
IsSoundIf t (Some c) = IsSound t c

-- so it is for each of these terms
abbrev pub AreSound : List Term → List (Option Claim) → Type 0
AreSound ts cs = AllZip IsSoundIf ts cs
