-- No public clause names this.
-- What a builder keeps beside the positions: the first and the last memory of each term on the stack, the lowest term first.
use Rattle.std.specs.Prelude.{◌≡◌, ℕ, ◌+◌, ◌-◌, Bool, false, ◌||◌, nat_lt, length, take, drop, List, [], ◌∷◌, ◌++◌, slice_index_or}
use Rattle.std.specs.List.{sum_by}
use Rattle.sp_terms.specs.declared.position.Position.{Position}
use Rattle.sp_terms.specs.declared.position.Position.TheVariants.{Hold, Par}
use Rattle.sp_terms.specs.declared.position.Position.TheVariants as at
use Rattle.sp_terms.specs.declared.builder.Ends.{Ends}
use Rattle.sp_terms.specs.Term.{Term, initial_of, final_of}
use Rattle.sp_terms.specs.Values.{stack_of, added_tasks, added_size, Leaves}

-- the first and the last memory of a term
abbrev pub ends_of : Term → Ends
ends_of t = record { initial = initial_of t; fin = final_of t }

-- those of the terms of a stack
abbrev pub all_ends : List Term → List Ends
all_ends [] = []
all_ends (t ∷ stack) = all_ends stack ++ ends_of t ∷ []

-- the positions are those of a builder that keeps these ends, this number of tasks and this total
pub record IsBuilder (ps : List Position) (ends : List Ends) (tasks total : ℕ) : Type 0 where
  pub leave : Leaves ps (stack_of ps)
  pub ends_are : ends ≡ all_ends (stack_of ps)
  pub tasks_are : tasks ≡ sum_by added_tasks ps
  pub total_is : total ≡ sum_by added_size ps

abbrev pub initial_at : Ends → ℕ
initial_at e = e.initial

abbrev pub fin_at : Ends → ℕ
fin_at e = e.fin

-- what stands where nothing is read
abbrev pub no_ends : Ends
no_ends = record { initial = 0; fin = 0 }

-- the ends of terms side by side
abbrev pub beside : List Ends → Ends
beside ends = record { initial = sum_by initial_at ends; fin = sum_by fin_at ends }

-- the last k ends become those of the terms side by side
abbrev pub par_ends : List Ends → ℕ → List Ends
par_ends ends k = take (length ends - k) ends ++ beside (drop (length ends - k) ends) ∷ []

-- the last two ends become those of a series
abbrev pub series_ends : List Ends → List Ends
series_ends ends =
    take (length ends - 2) ends
    ++ record {
      initial = (slice_index_or ends (length ends - 2) no_ends).initial;
      fin = (slice_index_or ends (length ends - 1) no_ends).fin;
    } ∷ []

-- the ends after a position
abbrev pub next_ends : Position → List Ends → List Ends
next_ends (Hold size) ends = ends ++ record { initial = size; fin = size } ∷ []
next_ends (at.Task extra share time) ends = series_ends ends
next_ends (Par k) ends = par_ends ends k

-- whether the share of a task is too great, told from the ends
abbrev pub over_ends : List Ends → Position → Bool
over_ends ends (Hold size) = false
over_ends ends (at.Task extra share time) =
    nat_lt (slice_index_or ends (length ends - 2) no_ends).fin share
    || nat_lt (extra + (slice_index_or ends (length ends - 1) no_ends).initial) share
over_ends ends (Par k) = false
