-- Worked examples: a tree of five nodes, a node that shares memory with its input, blocks that no task produces, and the tree with
-- other numbers.
use Rattle.std.specs.Prelude.{◌≡◌, ℕ, Option, Some, None, List, [], ◌∷◌, map, refl}
use Rattle.std.specs.List.{filter}
use Rattle.std.specs.List.Sorted.{apply_swaps}
use Rattle.mp_system.specs.declared.system.Task.{Task}
use Rattle.mp_system.specs.declared.system.Item.{Item}
use Rattle.mp_system.specs.declared.system.OrderKind.TheVariants.{Unknown, Repeated, TooEarly, Missing}
use Rattle.mp_system.specs.System.{TaskSystem, task_at}
use Rattle.mp_system.specs.Memory.{state_memory, running_memory, stands_in, peak_of}
use Rattle.mp_system.specs.Traversal.{first_fault}
use Rattle.mp_system.specs.Renaming.{name_in, renamed, is_solid}

abbrev pub task : ℕ → ℕ → Task
task extra share = record { extra = extra; share = share; time = 1 }

abbrev pub item : ℕ → Option ℕ → Option ℕ → Item
item size from to = record { size = size; from = from; to = to }

-- 5 has the children 2 and 4, which have the children 1 and 3; 1 and 3 need 9 beside what they produce
abbrev pub tree : TaskSystem
tree = record {
  tasks = task 9 0 ∷ task 0 0 ∷ task 9 0 ∷ task 0 0 ∷ task 0 0 ∷ [];
  items =
      item 1 (Some 1) (Some 2) ∷ item 5 (Some 2) (Some 5) ∷ item 1 (Some 3) (Some 4) ∷ item 5 (Some 4) (Some 5)
      ∷ item 0 (Some 5) None ∷ [];
}

-- the memory after some tasks, and while another runs then
abbrev pub memory_after : TaskSystem → List ℕ → ℕ
memory_after system done = state_memory system (stands_in done)

abbrev pub memory_while : TaskSystem → List ℕ → ℕ → ℕ
memory_while system done v = running_memory system (stands_in done) v

-- the leaves first: at most 11, while a leaf or a node above one runs
pub leaves_first : peak_of tree (1 ∷ 3 ∷ 2 ∷ 4 ∷ 5 ∷ []) ≡ 11
leaves_first = refl

pub leaves_first_states :
    memory_after tree [] ∷ memory_after tree (1 ∷ []) ∷ memory_after tree (1 ∷ 3 ∷ []) ∷ memory_after tree (1 ∷ 3 ∷ 2 ∷ [])
    ∷ memory_after tree (1 ∷ 3 ∷ 2 ∷ 4 ∷ []) ∷ memory_after tree (1 ∷ 3 ∷ 2 ∷ 4 ∷ 5 ∷ []) ∷ []
    ≡ 0 ∷ 1 ∷ 2 ∷ 6 ∷ 10 ∷ 0 ∷ []
leaves_first_states = refl

pub leaves_first_running :
    memory_while tree [] 1 ∷ memory_while tree (1 ∷ []) 3 ∷ memory_while tree (1 ∷ 3 ∷ []) 2
    ∷ memory_while tree (1 ∷ 3 ∷ 2 ∷ []) 4 ∷ memory_while tree (1 ∷ 3 ∷ 2 ∷ 4 ∷ []) 5 ∷ []
    ≡ 10 ∷ 11 ∷ 7 ∷ 11 ∷ 10 ∷ []
leaves_first_running = refl

-- one branch after the other: the large item waits while the second leaf runs
pub branch_by_branch : peak_of tree (1 ∷ 2 ∷ 3 ∷ 4 ∷ 5 ∷ []) ≡ 15
branch_by_branch = refl

-- the leaves first is a traversal, so it has no fault
pub leaves_first_fault : first_fault tree (1 ∷ 3 ∷ 2 ∷ 4 ∷ 5 ∷ []) ≡ None
leaves_first_fault = refl

-- orders that are no traversal, with the first place at which they fail
pub twice : first_fault tree (1 ∷ 1 ∷ []) ≡ Some (2, Repeated)
twice = refl

pub no_task : first_fault tree (9 ∷ []) ≡ Some (1, Unknown)
no_task = refl

pub too_short : first_fault tree (1 ∷ 2 ∷ 3 ∷ 4 ∷ []) ≡ Some (5, Missing)
too_short = refl

pub consumer_first : first_fault tree (2 ∷ 1 ∷ 3 ∷ 4 ∷ 5 ∷ []) ≡ Some (1, TooEarly)
consumer_first = refl

-- task 2 takes its input of size 4 over into its extra of 2 and its output of 3, so it needs 1 more while it runs
abbrev pub shared : TaskSystem
shared = record { tasks = task 0 0 ∷ task 2 4 ∷ []; items = item 4 (Some 1) (Some 2) ∷ item 3 (Some 2) None ∷ [] }

pub shared_peak : peak_of shared (1 ∷ 2 ∷ []) ≡ 5
shared_peak = refl

-- a block of size 7 and one of size 2 are there from the start; task 1 takes up the first, and the other stays
abbrev pub stocked : TaskSystem
stocked = record {
  tasks = task 1 0 ∷ task 0 0 ∷ [];
  items = item 7 None (Some 1) ∷ item 3 (Some 1) (Some 2) ∷ item 2 None None ∷ [];
}

pub stocked_states : memory_after stocked [] ∷ memory_after stocked (1 ∷ []) ∷ memory_after stocked (1 ∷ 2 ∷ []) ∷ [] ≡ 9 ∷ 5 ∷ 2 ∷ []
stocked_states = refl

pub stocked_peak : peak_of stocked (1 ∷ 2 ∷ []) ≡ 13
stocked_peak = refl

-- the tree with its leaves numbered first: tasks 1 to 5 are the tree's 3, 1, 4, 2 and 5; its items stand in another order, and
-- one more, of size 0 and without a producer, goes to task 3
abbrev pub names : List ℕ
names = 3 ∷ 1 ∷ 4 ∷ 2 ∷ 5 ∷ []

abbrev pub leaves_numbered_first : TaskSystem
leaves_numbered_first = record {
  tasks = task 9 0 ∷ task 9 0 ∷ task 0 0 ∷ task 0 0 ∷ task 0 0 ∷ [];
  items =
      item 0 None (Some 3) ∷ item 1 (Some 1) (Some 3) ∷ item 1 (Some 2) (Some 4) ∷ item 5 (Some 3) (Some 5)
      ∷ item 5 (Some 4) (Some 5) ∷ item 0 (Some 5) None ∷ [];
}

-- no number beside those of the tasks has a name
pub names_of_numbers : map (name_in names) (0 ∷ 1 ∷ 2 ∷ 3 ∷ 4 ∷ 5 ∷ 6 ∷ []) ≡ 0 ∷ 3 ∷ 1 ∷ 4 ∷ 2 ∷ 5 ∷ 0 ∷ []
names_of_numbers = refl

pub tasks_by_name : map (task_at tree) names ≡ leaves_numbered_first.tasks
tasks_by_name = refl

pub items_by_name :
    map (renamed (name_in names)) (filter is_solid leaves_numbered_first.items)
    ≡ item 1 (Some 3) (Some 4) ∷ item 1 (Some 1) (Some 2) ∷ item 5 (Some 4) (Some 5) ∷ item 5 (Some 2) (Some 5)
    ∷ item 0 (Some 5) None ∷ []
items_by_name = refl

-- they are the tree's items, which three exchanges of two places bring into the tree's order
abbrev pub moves : List (ℕ × ℕ)
moves = (2, 3) ∷ (1, 3) ∷ (0, 1) ∷ []

pub items_agree : filter is_solid tree.items
    ≡ apply_swaps (map (renamed (name_in names)) (filter is_solid leaves_numbered_first.items)) moves
items_agree = refl

-- its order 1 to 5 is the tree's leaves first
pub peak_by_name : peak_of leaves_numbered_first (1 ∷ 2 ∷ 3 ∷ 4 ∷ 5 ∷ []) ≡ 11
peak_by_name = refl
