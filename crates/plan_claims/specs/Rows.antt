-- No public clause names this.
-- The terms that the first positions of a list leave, in a row from the lowest on, and what one more position makes of it.
use Rattle.std.specs.Prelude.{◌≡◌, ℕ, ◌≤◌, List, [], ◌∷◌, ◌++◌, reverse, take}
use Rattle.sp_terms.specs.declared.position.Position.{Position}
use Rattle.sp_terms.specs.Places.{parts_of, IsTermAt}
use Rattle.sp_terms.specs.Term.{Term, IsAllowed}
use Rattle.sp_terms.specs.Values.{stack_of}
use Rattle.limits.specs.Limits.{most_total}
use Rattle.sp_cuts.specs.Stacks.{total_of}

abbrev pub row_of : List Position → ℕ → List Term
row_of ps k = reverse (stack_of (take k ps))

-- a position puts this term in the place of its parts, which end the row
pub record IsNextRow (p : Position) (t : Term) (row row' : List Term) : Type 0 where
  pub before : List Term
  pub was : row ≡ before ++ parts_of t
  pub now_is : row' ≡ before ++ t ∷ []
  pub own : IsTermAt p t
  pub allowed : IsAllowed t
  pub within : total_of t ≤ most_total
