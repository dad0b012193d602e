-- What a cut says of a term, in traversals and memories: one traversal of least peak that goes down the front and up the back, where its
-- memory is along it, and the least memory that can be reached from either end within each limit.
-- Source: J. W. H. Liu, An application of generalized tree pebbling to sparse matrix factorization, 1987, for the segments of one
-- traversal of a tree.
use Rattle.std.specs.Prelude.{◌≡◌, ℕ, ◌+◌, ◌-◌, ◌<◌, ◌≤◌, max, List, [], ◌∷◌, ◌++◌, reverse, length, map}
use Rattle.mp_system.specs.Memory.{peak_from, peak_of}
use Rattle.mp_system.specs.Renaming.{name_in}
use Rattle.mp_system.specs.Traversal.{IsTraversal, IsLeast}
use Rattle.side_laws.specs.Segments.{net_sum, IsRising}
use Rattle.hill_valley.specs.Side.{Run, run_profile, tasks_of}
use Rattle.sp_terms.specs.SystemOfTerm.{task_count, system_of_term}
use Rattle.sp_terms.specs.Term.{Term, Parts, no_parts, part, Direction, forward, backward, initial_of, final_of, least_of}
use Rattle.sp_term_laws.specs.Along.{memory_after}
use Rattle.claim_rules.specs.Claims.{peak_up_to}
use Rattle.claim_rules.specs.Rules.{passed_first}
use Rattle.cut_laws.specs.Cuts.{Cut, side_of, start_of, lowest_of, front_peak, back_peak, order_of}

-- ---- along one traversal, whose tasks are written by their names

-- tasks in the order of a traversal, where they are told in a direction
abbrev pub in_order : Direction → List ℕ → List ℕ
in_order forward tasks = tasks
in_order backward tasks = reverse tasks

-- after these tasks, told in a direction, the traversal is at this memory: from the first state on, or from the last one back
pub record HasLevel (d : Direction) (t : Term) (names order tasks : List ℕ) (level : ℕ) : Type 0 where
  pub done : List ℕ
  pub rest : List ℕ
  pub whole : order ≡ done ++ rest
  pub named : map (name_in names) (passed_first d done rest) ≡ in_order d tasks
  pub memory : memory_after (system_of_term t) done ≡ level

-- behind these tasks stand those of the run, and from the state before the run to the state after it the greatest memory is `high`
pub record HasHigh (d : Direction) (t : Term) (names order tasks run : List ℕ) (high : ℕ) : Type 0 where
  pub done : List ℕ
  pub between : List ℕ
  pub rest : List ℕ
  pub whole : order ≡ done ++ (between ++ rest)
  pub named : map (name_in names) (passed_first d done rest) ≡ in_order d tasks
  pub named_run : map (name_in names) between ≡ in_order d run
  pub greatest : peak_from (system_of_term t) done between ≡ high

-- ---- over all traversals

-- the least memory of a state that is reached in a direction with all memory on the way below the limit
pub record IsLowestReached (d : Direction) (t : Term) (limit lowest : ℕ) : Type 0 where
  pub some : (done rest : List ℕ) × IsTraversal (system_of_term t) (done ++ rest) × (peak_up_to d (system_of_term t) done rest < limit)
      × (memory_after (system_of_term t) done ≡ lowest)
  pub least : (done rest : List ℕ) → IsTraversal (system_of_term t) (done ++ rest) → peak_up_to d (system_of_term t) done rest < limit
      → lowest ≤ memory_after (system_of_term t) done

-- ---- cuts

-- the cut stands for the term, under these names of its tasks
pub record StandsFor (t : Term) (names : List ℕ) (c : Cut) : Type 0 where
  pub initial : c.initial ≡ initial_of t
  pub final : c.fin ≡ final_of t
  pub low : c.least ≡ least_of t
  -- a name for each task
  pub named : length names ≡ task_count t
  -- down the front and up the back is a traversal
  pub order : List ℕ
  pub traversal : IsTraversal (system_of_term t) order
  pub written : map (name_in names) order ≡ order_of c
  pub peak : peak_of (system_of_term t) order ≡ max (front_peak c) (back_peak c)
  -- both sides lead down to the least memory, in rising segments
  pub front_net : net_sum (run_profile c.front) + c.least ≡ c.initial
  pub back_net : net_sum (run_profile c.back) + c.least ≡ c.fin
  pub front_rises : IsRising (run_profile c.front)
  pub back_rises : IsRising (run_profile c.back)
  -- after some first runs of a side the memory is lower by their `net` values than where the side starts
  pub levels : (d : Direction) (before after : List Run) → side_of d c ≡ before ++ after
      → HasLevel d t names order (tasks_of before) (start_of d c - net_sum (run_profile before))
  -- and the next run goes to its `up` above that
  pub highs : (d : Direction) (before after : List Run) (run : Run) → side_of d c ≡ before ++ run ∷ after
      → HasHigh d t names order (tasks_of before) run.tasks (start_of d c - net_sum (run_profile before) + run.up)
  -- no traversal has a lower peak
  pub least : IsLeast (system_of_term t) (max (front_peak c) (back_peak c))
  -- within each limit, the lowest level of a side is the least memory that is reached in its direction
  pub staircase : (d : Direction) (limit : ℕ) → start_of d c < limit → IsLowestReached d t limit (lowest_of d limit c)

-- so does each of these cuts for each of these terms
abbrev pub AllStandFor : Parts → List (List ℕ) → List Cut → Type 0
AllStandFor no_parts [] [] = Unit {0}
AllStandFor (part t ts) (names ∷ more) (c ∷ cs) = StandsFor t names c × AllStandFor ts more cs
AllStandFor _ _ _ = ⊥
