-- No public clause names this.
-- Worked examples: two series of two tasks each, side by side.
use Rattle.std.specs.Prelude.{◌≡◌, ℕ, Option, Some, None, List, [], ◌∷◌, ◌++◌, refl, map}
use Rattle.mp_system.specs.declared.system.Task.{Task}
use Rattle.mp_system.specs.declared.system.Item.{Item}
use Rattle.mp_system.specs.Memory.{peak_of}
use Rattle.sp_terms.specs.declared.position.Position.{Position}
use Rattle.sp_terms.specs.declared.position.Position.TheVariants.{Hold, Par}
use Rattle.sp_terms.specs.declared.position.Position.TheVariants as at
use Rattle.sp_terms.specs.declared.position.Values.{Values}
use Rattle.sp_terms.specs.Term.{Term, hold, series, par, no_parts, part, hill_of}
use Rattle.sp_terms.specs.Postfix.{Denotes}
use Rattle.sp_terms.specs.SystemOfTerm.{system_of_term}
use Rattle.sp_terms.specs.Values.{values_of, term_at}

abbrev pub task_position : ℕ → Position
task_position extra = at.Task extra 0 1

abbrev pub half : List Position
half = Hold 4 ∷ Hold 1 ∷ task_position 0 ∷ Hold 3 ∷ task_position 6 ∷ []

abbrev pub workflow : List Position
workflow = half ++ (half ++ Par 2 ∷ [])

abbrev pub task : ℕ → Task
task extra = record { extra = extra; share = 0; time = 1 }

abbrev pub half_term : Term
half_term = series (series (hold 4) (task 0) (hold 1)) (task 6) (hold 3)

abbrev pub workflow_term : Term
workflow_term = par (part half_term (part half_term no_parts))

pub denotes : Denotes workflow workflow_term
denotes = refl

abbrev pub item : ℕ → Option ℕ → Option ℕ → Item
item size from to = record { size = size; from = from; to = to }

-- the tasks are numbered in the order of their positions
pub system_is : system_of_term workflow_term ≡ record {
  tasks = task 0 ∷ task 6 ∷ task 0 ∷ task 6 ∷ [];
  items =
      item 4 None (Some 1) ∷ item 1 (Some 1) (Some 2) ∷ item 3 (Some 2) None
      ∷ item 4 None (Some 3) ∷ item 1 (Some 3) (Some 4) ∷ item 3 (Some 4) None ∷ [];
}
system_is = refl

pub both_started_first : peak_of (system_of_term workflow_term) (1 ∷ 3 ∷ 2 ∷ 4 ∷ []) ≡ 13
both_started_first = refl

pub one_after_the_other : peak_of (system_of_term workflow_term) (1 ∷ 2 ∷ 3 ∷ 4 ∷ []) ≡ 14
one_after_the_other = refl

-- initial, final, least and width of the terms that end at the first five positions
abbrev pub four : ℕ → ℕ → ℕ → ℕ → Values
four initial fin least width = record { initial = initial; fin = fin; least = least; width = width }

pub values_are :
    map (λ k. values_of (term_at workflow k)) (0 ∷ 1 ∷ 2 ∷ 3 ∷ 4 ∷ [])
    ≡ four 4 4 4 1 ∷ four 1 1 1 1 ∷ four 4 1 1 3 ∷ four 3 3 3 1 ∷ four 4 3 1 5 ∷ []
values_are = refl

-- the second task of a half runs when the first part leaves 1, needs 6 beside, and 3 are produced
pub hill_is : hill_of (series (hold 4) (task 0) (hold 1)) (task 6) (hold 3) ≡ 10
hill_is = refl

-- the same task where it takes over the 1 that the first part leaves
pub hill_with_a_share_is : hill_of (series (hold 4) (task 0) (hold 1)) (record { extra = 6; share = 1; time = 1 }) (hold 3) ≡ 9
hill_with_a_share_is = refl
