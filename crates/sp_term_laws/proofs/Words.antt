-- What is said of states and needs, over lists of items and of done tasks.
use Rattle.std.specs.Prelude.{ℕ, ◌+◌, ◌-◌, Bool, List, Option, slice_index_or}
use Rattle.mp_system.specs.declared.system.Task.{Task}
use Rattle.mp_system.specs.declared.system.Item.{Item}
use Rattle.mp_system.specs.System.{is_output, size_where}
use Rattle.mp_system.specs.Memory.{stands_in, is_done_or, is_present}

abbrev pub done_or : Bool → List ℕ → Option ℕ → Bool
done_or otherwise done task = is_done_or otherwise (stands_in done) task

abbrev pub is_there : List ℕ → Item → Bool
is_there done item = is_present (stands_in done) item

abbrev pub made : List Item → ℕ → ℕ
made items v = size_where (is_output v) items

abbrev pub no_task : Task
no_task = record { extra = 0; share = 0; time = 0 }

-- what a task with these outputs needs
abbrev pub need_with : Task → ℕ → ℕ
need_with task outputs = task.extra + outputs - task.share

-- what the k-th task, with the number v, needs
abbrev pub need_in : List Task → List Item → ℕ → ℕ → ℕ
need_in tasks items k v = need_with (slice_index_or tasks k no_task) (made items v)
