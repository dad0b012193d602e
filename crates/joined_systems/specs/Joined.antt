-- A shared system with its joins: tasks without need, each of which comes after all the tasks that have it, takes over all that these make
-- for others, and hands it on. Nothing changes in memory.
use Rattle.std.specs.Prelude.{◌≡◌, ◌==◌, ℕ, zero, suc, ◌+◌, ◌⊎◌, nat_le, if◌then◌else◌}
use Rattle.std.specs.Prelude.{Option, Some, None, List, [], ◌∷◌, ◌++◌, length, map}
use Rattle.std.specs.List.{filter, flat_map, range_with_len}
use Rattle.std.specs.Str.{bytes_eq as are_equal}
use Rattle.mp_system.specs.declared.system.Task.{Task}
use Rattle.shared_systems.specs.Shared.{SharedTaskSystem, SharedItem, shared_size_where}
use Rattle.shared_systems.specs.Bounds.{IsSharedSystem}
use Rattle.joined_systems.specs.Joins.{AreJoins, join_of, tasks_of, join_count}

-- the join that an item goes through, from its producer to its readers; 0 for none
abbrev pub join_between : List ℕ → Option ℕ → List ℕ → ℕ
join_between joins None readers = 0
join_between joins (Some u) [] = 0
join_between joins (Some u) (c ∷ cs) = join_of joins u

-- the join after the readers of an item, where they are several, and just the tasks of that join; 0 for none
abbrev pub join_after : List ℕ → List ℕ → ℕ
join_after joins [] = 0
join_after joins (c ∷ []) = 0
join_after joins (c ∷ d ∷ cs) = if are_equal (c ∷ d ∷ cs) (tasks_of joins (join_of joins c)) then join_of joins c else 0

-- after the n tasks come the joins: join k is task n + k
abbrev pub join_task : ℕ → ℕ → List ℕ
join_task n zero = []
join_task n (suc k) = (n + suc k) ∷ []

-- an item with a join as one more reader, the last one
abbrev pub with_task : ℕ → ℕ → SharedItem → SharedItem
with_task n k x = record { size = x.size; from = x.from; readers = x.readers ++ join_task n k }

-- an item that just the tasks of a join read is read by the join too, so it goes with the join
abbrev pub released : ℕ → List ℕ → SharedItem → SharedItem
released n joins x = with_task n (join_after joins x.readers) x

-- an item that goes through no join, or through join k
abbrev pub through : ℕ → ℕ → SharedItem → List SharedItem
through n zero x = x ∷ []
through n (suc k) x =
    record { size = x.size; from = x.from; readers = (n + suc k) ∷ [] }
    ∷ record { size = x.size; from = Some (n + suc k); readers = x.readers }
    ∷ []

abbrev pub joined_item : ℕ → List ℕ → SharedItem → List SharedItem
joined_item n joins x = through n (join_between joins x.from x.readers) (released n joins x)

-- a join needs nothing: it takes over all that goes through it
abbrev pub join_at : List ℕ → SharedTaskSystem → ℕ → Task
join_at joins system k =
    record { extra = 0; share = shared_size_where (λ x. join_between joins x.from x.readers == k) system.items; time = 1 }

abbrev pub joined : List ℕ → SharedTaskSystem → SharedTaskSystem
joined joins system = record {
  tasks = system.tasks ++ map (join_at joins system) (range_with_len 1 (join_count joins));
  items = flat_map (joined_item (length system.tasks) joins) system.items;
}

-- an order of the joined system of one of n tasks, without the joins
abbrev pub without_joins : ℕ → List ℕ → List ℕ
without_joins n order = filter (λ v. nat_le v n) order

-- the system with its joins; it stays as it is where that system would not be within the limits
abbrev pub IsJoinedOf : SharedTaskSystem → SharedTaskSystem → Type 0
IsJoinedOf system other =
    (joins : List ℕ) × (AreJoins system joins
    × (((other ≡ joined joins system) × IsSharedSystem other) ⊎ ((other ≡ system) × (¬ IsSharedSystem (joined joins system)))))
