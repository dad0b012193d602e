-- Cuts of a term: two sides that lead down to one state of least memory, the front from the first state and the back, read backwards,
-- from the last. What the planner makes of a data item, of a series and of parts side by side.
-- Source: J. W. H. Liu, An application of generalized tree pebbling to sparse matrix factorization, 1987, for trees.
use Rattle.std.specs.Prelude.{ℕ, max, if◌then◌else◌, nat_le, List, [], ◌∷◌, ◌++◌, reverse, map, sum_by}
use Rattle.side_laws.specs.Segments.{Segment, lowest, top}
use Rattle.hill_valley.specs.Side.{Run, run_profile, tasks_of}
use Rattle.segment_merge.specs.Crossing.{cross_hill_runs}
use Rattle.segment_merge.specs.Merging.{merge_runs}
use Rattle.sp_terms.specs.Term.{Direction, forward, backward}

pub record Cut : Type 0 where
  pub front : List Run
  pub back : List Run
  pub initial : ℕ
  pub fin : ℕ
  pub least : ℕ

-- the greatest memory on the way down a side
abbrev pub front_peak : Cut → ℕ
front_peak c = top c.initial (run_profile c.front)

abbrev pub back_peak : Cut → ℕ
back_peak c = top c.fin (run_profile c.back)

-- the order that leads down the front and up the back
abbrev pub order_of : Cut → List ℕ
order_of c = tasks_of c.front ++ reverse (tasks_of c.back)

-- ---- a data item

abbrev pub hold_cut : ℕ → Cut
hold_cut size = record { front = []; back = []; initial = size; fin = size; least = size }

-- ---- a series, cut in the part with the lesser least memory

-- up along a side that leads down, and then the task
abbrev pub over_task : List Run → ℕ → List ℕ
over_task between task = reverse (tasks_of between) ++ task ∷ []

-- the cut lies in the first part: the back leads over the second part and the task
abbrev pub cut_first : Cut → ℕ → ℕ → Cut → Cut
cut_first a task hill b = record {
  front = a.front;
  back = cross_hill_runs b.least (max (front_peak b) hill) a.fin (over_task b.front task) a.back b.back;
  initial = a.initial;
  fin = b.fin;
  least = a.least;
}

-- the cut lies in the second part: the front leads over the first part and the task
abbrev pub cut_second : Cut → ℕ → ℕ → Cut → Cut
cut_second a task hill b = record {
  front = cross_hill_runs a.least (max (back_peak a) hill) b.initial (over_task a.back task) b.front a.front;
  back = b.back;
  initial = a.initial;
  fin = b.fin;
  least = b.least;
}

abbrev pub series_cut : Cut → ℕ → ℕ → Cut → Cut
series_cut a task hill b = if nat_le a.least b.least then cut_first a task hill b else cut_second a task hill b

-- ---- parts side by side, each cut where it is

abbrev pub fronts : List Cut → List (List Run)
fronts cs = map (λ c. c.front) cs

abbrev pub backs : List Cut → List (List Run)
backs cs = map (λ c. c.back) cs

abbrev pub par_cut : List Cut → Cut
par_cut cs = record {
  front = merge_runs (fronts cs);
  back = merge_runs (backs cs);
  initial = sum_by (λ c. c.initial) cs;
  fin = sum_by (λ c. c.fin) cs;
  least = sum_by (λ c. c.least) cs;
}

-- ---- in a direction

abbrev pub side_of : Direction → Cut → List Run
side_of forward c = c.front
side_of backward c = c.back

abbrev pub start_of : Direction → Cut → ℕ
start_of forward c = c.initial
start_of backward c = c.fin

abbrev pub top_of : Direction → Cut → ℕ
top_of d c = top (start_of d c) (run_profile (side_of d c))

abbrev pub lowest_of : Direction → ℕ → Cut → ℕ
lowest_of d limit c = lowest limit (start_of d c) (run_profile (side_of d c))

-- where the sides of several cuts start, and their numbers
abbrev pub starts : Direction → List Cut → List ℕ
starts d cs = map (start_of d) cs

abbrev pub sides : Direction → List Cut → List (List Segment)
sides d cs = map (λ c. run_profile (side_of d c)) cs
