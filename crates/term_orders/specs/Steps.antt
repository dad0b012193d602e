-- No public clause names this.
-- What the code has still to list, as steps, and the order in which it lists the tasks of a term: parts side by side from left to right.
use Rattle.std.specs.Prelude.{◌≡◌, ℕ, ◌+◌, ◌-◌, ◌*◌, List, [], ◌∷◌, ◌++◌, length, slice_index}
use Rattle.std.specs.List.{sum_by}
use Rattle.sp_terms.specs.declared.position.Position.{Position}
use Rattle.sp_terms.specs.Term.{Term, hold, series, par, Parts, no_parts, part, width_of, width_of_parts}
use Rattle.sp_terms.specs.Postfix.{postfix, all_postfix}
use Rattle.sp_terms.specs.SystemOfTerm.{task_count, own_number}
use Rattle.sp_terms.specs.Values.{added_tasks}
use Rattle.term_orders.specs.declared.side.Side.{Side}
use Rattle.term_orders.specs.declared.side.Side.TheVariants.{FirstPart, LastPart}
use Rattle.term_orders.specs.declared.listing.Step.{Step}
use Rattle.term_orders.specs.declared.listing.Step.TheVariants.{Open, Beside, Own}

-- what is listed of a series: its parts in turn, or the second first
abbrev pub set_out : Side → List ℕ → ℕ → List ℕ → List ℕ
set_out FirstPart one own two = one ++ (own ∷ two)
set_out LastPart one own two = two ++ (own ∷ one)

-- the tasks as the code lists them
abbrev mutual
  pub walk : Side → ℕ → Term → List ℕ
  walk side base (hold size) = []
  walk side base (series a v b) = set_out side (walk side base a) (own_number base a b) (walk side (base + task_count a) b)
  walk side base (par ts) = walks side base ts

  pub walks : Side → ℕ → Parts → List ℕ
  walks side base no_parts = []
  walks side base (part t ts) = walk side base t ++ walks side (base + task_count t) ts

abbrev pub tasks_among : List Position → ℕ
tasks_among ps = sum_by added_tasks ps

-- where each term begins, by where it ends, and how many tasks there are up to there
abbrev pub AreStarts : List Position → List ℕ → Type 0
AreStarts ps starts = (before : List Position) (t : Term) (after : List Position) → ps ≡ before ++ (postfix t ++ after)
    → slice_index starts (length before + width_of t) ≡ length before

abbrev pub AreCounts : List Position → List ℕ → Type 0
AreCounts ps counts = (before : List Position) (t : Term) (after : List Position) → ps ≡ before ++ (postfix t ++ after)
    → slice_index counts (length before + width_of t) ≡ tasks_among before + task_count t

-- a term that stands after `start` positions, up to `end`, and what is listed of it
pub record TermHere (ps : List Position) (side : Side) (start end : ℕ) (xs : List ℕ) : Type 0 where
  pub before : List Position
  pub term : Term
  pub after : List Position
  pub split : ps ≡ before ++ (postfix term ++ after)
  pub start_is : start ≡ length before
  pub end_is : end ≡ length before + width_of term
  pub list_is : xs ≡ walk side (1 + tasks_among before) term

-- the same of terms side by side
pub record PartsHere (ps : List Position) (side : Side) (start end : ℕ) (xs : List ℕ) : Type 0 where
  pub before : List Position
  pub parts : Parts
  pub after : List Position
  pub split : ps ≡ before ++ (all_postfix parts ++ after)
  pub start_is : start ≡ length before
  pub end_is : end ≡ length before + width_of_parts parts
  pub list_is : xs ≡ walks side (1 + tasks_among before) parts

-- what a step lists
abbrev pub IsListed : List Position → Side → Step → List ℕ → Type 0
IsListed ps side (Open start end) xs = TermHere ps side start end xs
IsListed ps side (Beside start end) xs = PartsHere ps side start end xs
IsListed ps side (Own task) xs = xs ≡ task ∷ []

-- what steps list, the last one first
abbrev pub AreListed : List Position → Side → List Step → List ℕ → Type 0
AreListed ps side [] xs = xs ≡ []
AreListed ps side (s ∷ steps) xs = (above own : List ℕ) × (xs ≡ above ++ own) × AreListed ps side steps above × IsListed ps side s own

-- the steps of a series, whose last one is taken first
abbrev pub series_steps : Side → Step → Step → Step → List Step
series_steps FirstPart one own two = two ∷ own ∷ one ∷ []
series_steps LastPart one own two = one ∷ own ∷ two ∷ []

-- it falls as a step gives way to those of its parts
abbrev pub weight : Step → ℕ
weight (Open start end) = 4 * (end - start) - 1
weight (Beside start end) = 4 * (end - start) + 1
weight (Own task) = 1
