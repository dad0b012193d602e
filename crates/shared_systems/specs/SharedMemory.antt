-- The memory of a state of a shared system and while a task runs. A state is told by which tasks are done.
use Rattle.std.specs.Prelude.{ℕ, ◌+◌, Bool, true, false, ◌&&◌, ◌||◌, not, max, List, [], ◌∷◌, ◌++◌}
use Rattle.std.specs.List.{list_all}
use Rattle.mp_system.specs.Memory.{is_done_or, stands_in}
use Rattle.shared_systems.specs.Shared.{SharedTaskSystem, SharedItem, shared_size_where, is_read_by, shared_need_of}

-- an item that no task produces is there from the start
abbrev pub is_made : (ℕ → Bool) → SharedItem → Bool
is_made done x = is_done_or true done x.from

-- whether all readers are done; an item without readers stays to the end
abbrev pub are_done : (ℕ → Bool) → List ℕ → Bool
are_done done [] = false
are_done done (c ∷ cs) = done c && list_all done cs

-- an item is held from the end of its producer to the end of the last of its readers
abbrev pub is_held : (ℕ → Bool) → SharedItem → Bool
is_held done x = is_made done x && not (are_done done x.readers)

-- the memory of the state in which the tasks that pass `done` are done
abbrev pub shared_memory : SharedTaskSystem → (ℕ → Bool) → ℕ
shared_memory system done = shared_size_where (is_held done) system.items

-- the memory while task v runs from that state
abbrev pub shared_running : SharedTaskSystem → (ℕ → Bool) → ℕ → ℕ
shared_running system done v = shared_memory system done + shared_need_of system v

-- the greatest memory from the state after the tasks of `before` on, when those of `rest` run one after the other
abbrev pub shared_peak_from : SharedTaskSystem → List ℕ → List ℕ → ℕ
shared_peak_from system before [] = shared_memory system (stands_in before)
shared_peak_from system before (v ∷ rest) =
    max (shared_memory system (stands_in before))
    (max (shared_running system (stands_in before) v) (shared_peak_from system (before ++ v ∷ []) rest))

-- the peak of an order: the greatest memory over all its states, the first and the last included, and all running tasks
abbrev pub shared_peak_of : SharedTaskSystem → List ℕ → ℕ
shared_peak_of system order = shared_peak_from system [] order

-- whether every item that task v reads has been made
abbrev pub has_inputs : SharedTaskSystem → (ℕ → Bool) → ℕ → Bool
has_inputs system done v = list_all (λ x. not (is_read_by v x) || is_made done x) system.items
