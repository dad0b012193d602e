-- The memory of a state and while a task runs (Liu 1987; Jacquelin et al. 2011). A state is told by which tasks are done.
use Rattle.std.specs.Prelude.{◌==◌, ℕ, ◌+◌, Bool, true, false, ◌&&◌, ◌||◌, not, max, Option, Some, None, List, [], ◌∷◌, ◌++◌}
use Rattle.std.specs.List.{list_any, list_all}
use Rattle.mp_system.specs.declared.system.Item.{Item}
use Rattle.mp_system.specs.System.{TaskSystem, size_where, is_input, need_of}

-- whether the task that is named, if one is, is done
abbrev pub is_done_or : Bool → (ℕ → Bool) → Option ℕ → Bool
is_done_or otherwise done None = otherwise
is_done_or otherwise done (Some v) = done v

-- an item that no task produces is there from the start
abbrev pub is_produced : (ℕ → Bool) → Item → Bool
is_produced done item = is_done_or true done item.from

-- an item that no task consumes stays to the end
abbrev pub is_consumed : (ℕ → Bool) → Item → Bool
is_consumed done item = is_done_or false done item.to

-- an item is present from the end of its producer to the end of its consumer
abbrev pub is_present : (ℕ → Bool) → Item → Bool
is_present done item = is_produced done item && not (is_consumed done item)

-- the memory of the state in which the tasks that pass `done` are done
abbrev pub state_memory : TaskSystem → (ℕ → Bool) → ℕ
state_memory system done = size_where (is_present done) system.items

-- the memory while task v runs from that state
abbrev pub running_memory : TaskSystem → (ℕ → Bool) → ℕ → ℕ
running_memory system done v = state_memory system done + need_of system v

-- whether the task stands in the list
abbrev pub stands_in : List ℕ → ℕ → Bool
stands_in tasks v = list_any (λ u. u == v) tasks

-- the greatest memory from the state after the tasks of `before` on, when those of `rest` run one after the other
abbrev pub peak_from : TaskSystem → List ℕ → List ℕ → ℕ
peak_from system before [] = state_memory system (stands_in before)
peak_from system before (v ∷ rest) =
    max (state_memory system (stands_in before))
    (max (running_memory system (stands_in before) v) (peak_from system (before ++ v ∷ []) rest))

-- the peak of an order: the greatest memory over all its states, the first and the last included, and all running tasks
abbrev pub peak_of : TaskSystem → List ℕ → ℕ
peak_of system order = peak_from system [] order

-- whether every item that task v consumes has been produced
abbrev pub is_ready : TaskSystem → (ℕ → Bool) → ℕ → Bool
is_ready system done v = list_all (λ item. not (is_input v item) || is_produced done item) system.items
