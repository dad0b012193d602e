-- The values of the terms that end at the positions of a list, and what a list of positions keeps.
use Rattle.std.specs.Prelude.{◌≡◌, ℕ, suc, ◌<◌, ◌≤◌, All, length, take, List, [], ◌∷◌, Option, Some, None, slice_index_or}
use Rattle.std.specs.List.{sum_by}
use Rattle.limits.specs.Limits.{most_tasks, most_positions, most_size, most_total, most_time}
use Rattle.sp_terms.specs.declared.position.Position.{Position}
use Rattle.sp_terms.specs.declared.position.Values.{Values}
use Rattle.sp_terms.specs.declared.position.Position.TheVariants.{Hold, Par}
use Rattle.sp_terms.specs.declared.position.Position.TheVariants as at
use Rattle.sp_terms.specs.Term.{Term, hold, initial_of, final_of, least_of, width_of, IsAllowed}
use Rattle.sp_terms.specs.Postfix.{push_all}

-- the values of a term
abbrev pub values_of : Term → Values
values_of t = record { initial = initial_of t; fin = final_of t; least = least_of t; width = width_of t }

-- the stack, and none where the rule fails
abbrev pub stack_from : Option (List Term) → List Term
stack_from None = []
stack_from (Some stack) = stack

-- the terms that these positions leave, the last one first
abbrev pub stack_of : List Position → List Term
stack_of ps = stack_from (push_all ps [])

-- the last term of a stack, which is not empty where it is asked for
abbrev pub last_term : List Term → Term
last_term [] = hold 0
last_term (t ∷ stack) = t

-- the term that these positions denote
abbrev pub term_of : List Position → Term
term_of ps = last_term (stack_of ps)

-- the term that ends at a position
abbrev pub term_at : List Position → ℕ → Term
term_at ps k = term_of (take (suc k) ps)

-- what a position adds to the total of sizes, and to the number of tasks
abbrev pub added_size : Position → ℕ
added_size (Hold size) = size
added_size (at.Task extra share time) = extra
added_size (Par k) = 0

abbrev pub added_tasks : Position → ℕ
added_tasks (Hold size) = 0
added_tasks (at.Task extra share time) = 1
added_tasks (Par k) = 0

-- the limits of one position: a time of at least 1, two parts or more
abbrev pub IsWithinLimits : Position → Type 0
IsWithinLimits (Hold size) = size ≤ most_size
IsWithinLimits (at.Task extra share time) = (extra ≤ most_size) × (1 ≤ time) × (time ≤ most_time)
IsWithinLimits (Par k) = 2 ≤ k

-- each term of a stack
abbrev pub AllAllowed : List Term → Type 0
AllAllowed [] = Unit {0}
AllAllowed (t ∷ stack) = IsAllowed t × AllAllowed stack

-- positions that leave these terms by the stack rule, with shares that are allowed, within the limits
pub record Leaves (ps : List Position) (stack : List Term) : Type 0 where
  pub is : push_all ps [] ≡ Some stack
  pub allowed : AllAllowed stack
  pub within : All IsWithinLimits ps
  pub few : length ps ≤ most_positions
  pub few_tasks : sum_by added_tasks ps ≤ most_tasks
  pub total : sum_by added_size ps ≤ most_total

-- positions that denote one term, within the limits
abbrev pub IsTerms : List Position → Type 0
IsTerms ps = Leaves ps (term_of ps ∷ [])

-- the first of these values are those of the terms that end at these positions
abbrev pub AreValues : List Position → List Values → ℕ → Type 0
AreValues ps values n = (j : ℕ) (d : Values) → j < n → slice_index_or values j d ≡ values_of (term_at ps j)

-- the position is a task
abbrev pub IsTaskPosition : Position → Type 0
IsTaskPosition (Hold size) = ⊥
IsTaskPosition (at.Task extra share time) = Unit {0}
IsTaskPosition (Par k) = ⊥
