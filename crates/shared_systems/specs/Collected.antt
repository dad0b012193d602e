-- A shared system as a system, in which each item has at most one consumer: a shared item, one with several readers, gets a collector, a
-- task without need that runs after all of them and alone consumes it.
use Rattle.std.specs.Prelude.{ℕ, ◌+◌, ◌≤◌, Bool, true, false, nat_le, if◌then◌else◌, Option, Some, None, List, [], ◌∷◌, ◌++◌}
use Rattle.std.specs.Prelude.{length, map, count_by, replicate}
use Rattle.std.specs.List.{filter}
use Rattle.limits.specs.Limits.{most_tasks, most_positions}
use Rattle.mp_system.specs.declared.system.Task.{Task}
use Rattle.mp_system.specs.declared.system.Item.{Item}
use Rattle.mp_system.specs.System.{TaskSystem}
use Rattle.mp_system.specs.Renaming.{has_producer}
use Rattle.shared_systems.specs.Shared.{SharedTaskSystem, SharedItem}

-- whether an item has several readers
abbrev pub are_several : List ℕ → Bool
are_several [] = false
are_several (c ∷ []) = false
are_several (c ∷ d ∷ cs) = true

abbrev pub is_shared : SharedItem → Bool
is_shared x = are_several x.readers

-- who takes up an item: nobody, its one reader, or its collector, which has the number k
abbrev pub taker : ℕ → List ℕ → Option ℕ
taker k [] = None
taker k (c ∷ []) = Some c
taker k (c ∷ d ∷ cs) = Some k

-- an item of size 0, by which task v waits for task u
abbrev pub wait : ℕ → ℕ → Item
wait u v = record { size = 0; from = Some u; to = Some v }

-- all readers wait for the producer, if there is one
abbrev pub waits_for : Option ℕ → List ℕ → List Item
waits_for None readers = []
waits_for (Some u) readers = map (wait u) readers

-- the collector waits for all readers
abbrev pub waits_of : ℕ → List ℕ → List Item
waits_of k readers = map (λ c. wait c k) readers

-- the one item that has the size of a shared system's item
abbrev pub kept_item : ℕ → SharedItem → Item
kept_item k x = record { size = x.size; from = x.from; to = taker k x.readers }

-- and those by which tasks wait
abbrev pub wait_items : ℕ → SharedItem → List Item
wait_items k x = if is_shared x then waits_for x.from x.readers ++ waits_of k x.readers else []

-- how many of them there are
abbrev pub wait_count : SharedItem → ℕ
wait_count x = if is_shared x then (if has_producer x.from then length x.readers else 0) + length x.readers else 0

-- the collector of the next shared item has the next number
abbrev pub next_from : ℕ → SharedItem → ℕ
next_from k x = if is_shared x then k + 1 else k

-- what stands for these items, whose collectors are numbered from k
abbrev pub items_from : ℕ → List SharedItem → List Item
items_from k [] = []
items_from k (x ∷ xs) = (kept_item k x ∷ wait_items k x) ++ items_from (next_from k x) xs

-- a collector needs nothing
abbrev pub collector : Task
collector = record { extra = 0; share = 0; time = 1 }

-- the collected system: after the n tasks come the collectors, n + 1, n + 2 and so on, in the order of their items
abbrev pub collected : SharedTaskSystem → TaskSystem
collected system = record {
  tasks = system.tasks ++ replicate (count_by is_shared system.items) collector;
  items = items_from (length system.tasks + 1) system.items;
}

-- it has as many tasks and items as a system may have
pub record HasRoom (system : SharedTaskSystem) : Type 0 where
  pub tasks : length (collected system).tasks ≤ most_tasks
  pub items : length (collected system).items ≤ most_positions

-- an order of the collected system without the collectors
abbrev pub dropped : SharedTaskSystem → List ℕ → List ℕ
dropped system order = filter (λ v. nat_le v (length system.tasks)) order
