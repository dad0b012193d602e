-- No public clause names this.
-- Task graphs: the completed graph, reductions, and the term of a graph; and some words on systems.
use Rattle.std.specs.Prelude.{◌≡◌, ℕ, Some, None, Option, List, [], ◌∷◌, ◌++◌, map, count_by, ◌==◌, codes, refl}
use Rattle.std.specs.Fmt.{digits}
use Rattle.std.proofs.Common.{lit<, lit≤, subst, le_antisymm, arith}
use Rattle.std.proofs.lemmas.List.Elements.{All-nil, All-cons}
use Rattle.mp_system.specs.declared.system.Task.{Task}
use Rattle.mp_system.specs.declared.system.Item.{Item}
use Rattle.mp_system.specs.System.{IsTask}
use Rattle.mp_system.specs.Samples.{tree as five_tasks}
use Rattle.sp_terms.specs.declared.position.Position.TheVariants.{Hold, Par}
use Rattle.sp_terms.specs.declared.position.Position.TheVariants as at
use Rattle.sp_terms.specs.Term.{Term, hold, series, forward, backward}
use Rattle.sp_term_laws.specs.Moves.{other}
use Rattle.sp_term_laws.specs.Along.{memory_after}
use Rattle.trees.specs.Samples.{five, five_forest, five_stands}
use Rattle.trees.specs.TreeTerm.{forest_positions}
use Rattle.least_peak.specs.Problem.{system_of, IsTermOf}
use Rattle.least_peak.specs.declared.problem.Origin.TheVariants as origins
use Rattle.graphs.specs.declared.arc.Arc.{Arc}
use Rattle.graphs.specs.Graph.{TaskGraph, completed_arcs, completed_system}
use Rattle.shared_systems.specs.Shared.{SharedTaskSystem}
use Rattle.carried_graphs.specs.Carried.{carried}
use Rattle.workflow_files.specs.NamedText.{named_text}
use Rattle.sp_reduce.specs.Reduced.{HasSystem, HasParts}
use Rattle.shared_reduce.specs.SharedTerm.{IsCarriedTerm, told}
use Rattle.sp_reduce.specs.Reductions.{IsParallel, IsSeries, ReducesTo, in_order, by_parallel, by_series, count_into, count_out_of}

-- ---- systems

pub other_directions : other forward ∷ other backward ∷ [] ≡ backward ∷ forward ∷ []
other_directions = refl

-- the leaves of README's tree, and then a node above one
pub leaves_first_memory : map (memory_after five_tasks) ([] ∷ (1 ∷ []) ∷ (1 ∷ 3 ∷ []) ∷ (1 ∷ 3 ∷ 2 ∷ []) ∷ []) ≡ 0 ∷ 1 ∷ 2 ∷ 6 ∷ []
leaves_first_memory = refl

abbrev pub item : ℕ → Option ℕ → Option ℕ → Item
item size from to = record { size = size; from = from; to = to }

-- the smallest workflow, one item of data; and the term of README's tree
pub data_alone : system_of (origins.Workflow (Hold 3 ∷ [])) ≡ record { tasks = []; items = item 3 None None ∷ [] }
data_alone = refl

pub term_of_five : IsTermOf (origins.Tree five) (forest_positions five five_forest)
term_of_five = (five_forest, five_stands, refl)

-- ---- the completed graph

abbrev pub task : ℕ → ℕ → Task
task extra share = record { extra = extra; share = share; time = 1 }

abbrev pub arc : ℕ → ℕ → ℕ → Arc
arc from to size = record { from = from; to = to; size = size }

-- two tasks in a chain: 1 hands 5 to 2
abbrev pub chain : TaskGraph
chain = record { tasks = task 0 0 ∷ task 3 4 ∷ []; arcs = arc 1 2 5 ∷ [] }

pub chain_completed : completed_arcs 2 chain.arcs ≡ arc 1 2 5 ∷ arc 0 1 0 ∷ arc 2 0 0 ∷ []
chain_completed = refl

pub chain_items : (completed_system chain).items ≡ item 5 (Some 1) (Some 2) ∷ item 0 None (Some 1) ∷ item 0 (Some 2) None ∷ []
chain_items = refl

-- ---- reductions

-- from none to 1, twice to 2, and on to none
abbrev pub twice : List (ℕ × ℕ)
twice = (0, 1) ∷ (1, 2) ∷ (1, 2) ∷ (2, 0) ∷ []

abbrev pub once : List (ℕ × ℕ)
once = (0, 1) ∷ (1, 2) ∷ (2, 0) ∷ []

pub parallel_arcs : IsParallel twice once
parallel_arcs = record {
  from = 1;
  to = 2;
  rest = (0, 1) ∷ (2, 0) ∷ [];
  was = record { moves = (0, 2) ∷ []; below = (lit< tt, lit< tt, tt); is = refl };
  is = record { moves = (0, 1) ∷ []; below = (lit< tt, lit< tt, tt); is = refl };
}

abbrev pub without_one : List (ℕ × ℕ)
without_one = (0, 2) ∷ (2, 0) ∷ []

pub task_one_goes : IsSeries once without_one
task_one_goes = record {
  from = 0;
  to = 2;
  task = 1;
  is_task = lit≤ tt;
  rest = (2, 0) ∷ [];
  was = record { moves = []; below = tt; is = refl };
  is = record { moves = []; below = tt; is = refl };
  one_in = refl;
  one_out = refl;
}

pub task_two_goes : IsSeries without_one ((0, 0) ∷ [])
task_two_goes = record {
  from = 0;
  to = 0;
  task = 2;
  is_task = lit≤ tt;
  rest = [];
  was = record { moves = []; below = tt; is = refl };
  is = record { moves = []; below = tt; is = refl };
  one_in = refl;
  one_out = refl;
}

-- so the graph is series-parallel
pub leads_to_one_arc : ReducesTo twice ((0, 0) ∷ [])
leads_to_one_arc =
    by_parallel parallel_arcs (by_series task_one_goes (by_series task_two_goes (in_order (record { moves = []; below = tt; is = refl }))))

-- the bridge: no two arcs have the same ends, and each task has two arcs in or two arcs out
abbrev pub bridge : List (ℕ × ℕ)
bridge = (0, 1) ∷ (1, 2) ∷ (1, 3) ∷ (2, 3) ∷ (2, 4) ∷ (3, 4) ∷ (4, 0) ∷ []

pub bridge_counts :
    map (λ v. count_into v bridge) (1 ∷ 2 ∷ 3 ∷ 4 ∷ []) ∷ map (λ v. count_out_of v bridge) (1 ∷ 2 ∷ 3 ∷ 4 ∷ []) ∷ []
    ≡ (1 ∷ 1 ∷ 2 ∷ 2 ∷ []) ∷ (2 ∷ 2 ∷ 1 ∷ 1 ∷ []) ∷ []
bridge_counts = refl

-- ---- the term of a graph

-- one task and no arc: the completed graph has one from none and one to none
abbrev pub lone : TaskGraph
lone = record { tasks = task 3 0 ∷ []; arcs = [] }

abbrev pub lone_term : Term
lone_term = series (hold 0) (task 3 0) (hold 0)

pub lone_has_system : HasSystem (1 ∷ []) lone_term (completed_system lone)
lone_has_system = record {
  once = λ v within. subst (λ u. count_by (λ w. w == u) (1 ∷ []) ≡ 1) (le_antisymm (within.0) (within.1)) refl;
  within = All-cons (IsTask (completed_system lone)) 1 [] (lit≤ tt, lit≤ tt) (All-nil (IsTask (completed_system lone)));
  tasks = refl;
  items = record { moves = []; below = tt; is = refl };
}

pub lone_has_parts : HasParts lone_term
lone_has_parts = (tt, tt)

-- ---- the term of a graph of version 2

-- one task, and nothing to read
abbrev pub lone_system : SharedTaskSystem
lone_system = record { tasks = task 3 0 ∷ []; items = [] }

pub lone_is_carried_term : IsCarriedTerm lone_system (1 ∷ []) lone_term
lone_is_carried_term = record {
  lasts = [];
  are_last = record { len = refl; each = λ i lt. absurd (omega (arith, lt)) };
  has = lone_has_system;
}

-- a name past the number of tasks is none of theirs: it is a join's
pub lone_told : told 1 (1 ∷ 2 ∷ []) (1 ∷ 2 ∷ []) ≡ 1 ∷ []
lone_told = refl

-- task 1 makes 5, which tasks 2, 3 and 4 read, and tasks 2 and 3 make 1 and 3 for task 4, which comes last and carries all
abbrev pub fork : SharedTaskSystem
fork = record {
  tasks = task 0 0 ∷ task 1 0 ∷ task 2 0 ∷ task 2 0 ∷ [];
  items = record { size = 5; from = Some 1; readers = 2 ∷ 3 ∷ 4 ∷ [] } ∷ record { size = 1; from = Some 2; readers = 4 ∷ [] }
      ∷ record { size = 3; from = Some 3; readers = 4 ∷ [] } ∷ [];
}

pub fork_carried : (carried (4 ∷ 4 ∷ 4 ∷ []) fork).arcs ≡ arc 1 2 0 ∷ arc 1 3 0 ∷ arc 1 4 5 ∷ arc 2 4 1 ∷ arc 3 4 3 ∷ []
fork_carried = refl

pub fork_text :
    named_text
    (Hold 0 ∷ Hold 0 ∷ Hold 1 ∷ at.Task 1 0 1 ∷ Hold 0 ∷ Hold 3 ∷ at.Task 2 0 1 ∷ Hold 5 ∷ Par 3
    ∷ Hold 0 ∷ at.Task 2 0 1 ∷ at.Task 0 0 1 ∷ [])
    (2 ∷ 3 ∷ 4 ∷ 1 ∷ [])
    ≡ codes "workflow 1\ntasks 4\ndata 0\ndata 0\ndata 1\ntask 1 1\ndata 0\ndata 3\ntask 2 1\ndata 5\npar 3\n"
    ++ codes "data 0\ntask 2 1\ntask 0 1\nend\n" ++ codes "# 1 2\n# 2 3\n# 3 4\n# 4 1\n"
unfolding digits
fork_text = refl

-- ---- the text of a term

-- the workflow of `four.graph`, whose task 1 is the graph's 3
pub four_text :
    named_text
    (Hold 0 ∷ Hold 6 ∷ Hold 2 ∷ at.Task 3 0 1 ∷ Hold 5 ∷ Hold 1 ∷ at.Task 2 0 1 ∷ Par 2 ∷ Hold 0 ∷ at.Task 0 0 1 ∷ at.Task 0 0 1 ∷ [])
    (3 ∷ 2 ∷ 4 ∷ 1 ∷ [])
    ≡ codes "workflow 1\ntasks 4\ndata 0\ndata 6\ndata 2\ntask 3 1\ndata 5\ndata 1\ntask 2 1\npar 2\ndata 0\ntask 0 1\ntask 0 1\nend\n"
    ++ codes "# 1 3\n# 2 2\n# 3 4\n# 4 1\n"
unfolding digits
four_text = refl
