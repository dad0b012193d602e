-- The limits, each once.
use Rattle.std.specs.Prelude.{ℕ, ◌+◌, ◌*◌, ◌^◌, List, codes, max}
use Rattle.limits.specs.declared.name.LimitName.{LimitName}
use Rattle.limits.specs.declared.name.LimitName.TheVariants.{Bytes, Order, Entries, Mindeg, Tasks, Positions, Size, Total, Time, Arcs}
use Rattle.limits.specs.declared.name.LimitName.TheVariants.{Uses, Steps}

-- bytes of one file
abbrev pub most_bytes : ℕ
most_bytes = 2 ^ 28

-- rows of a matrix, entries that a matrix file states, and rows of a matrix that is ordered by minimum degree
abbrev pub most_order : ℕ
most_order = 1000000

abbrev pub most_entries : ℕ
most_entries = 10000000

abbrev pub most_mindeg : ℕ
most_mindeg = 50000

-- tasks of a workflow or of a task graph, nodes of a tree, numbers of an order: as many as a matrix may have rows
abbrev pub most_tasks : ℕ
most_tasks = most_order

-- positions of a term, claims of a plan, data items of a system: four for a task, and one
abbrev pub most_positions : ℕ
most_positions = 4 * most_tasks + 1

-- one extra or one data size, which may be a front of all rows of a matrix; the sum of all of them; and one duration
abbrev pub most_size : ℕ
most_size = max (2 ^ 40) (most_order * most_order)

abbrev pub most_total : ℕ
most_total = 2 ^ 60

abbrev pub most_time : ℕ
most_time = 2 ^ 40

-- arcs of a task graph: two for a task, and one
abbrev pub most_arcs : ℕ
most_arcs = 2 * most_tasks + 1

-- readers of all items of a task graph together
abbrev pub most_uses : ℕ
most_uses = 10000000

-- explicit zeros that one merge of fronts may add
abbrev pub most_zeros : ℕ
most_zeros = 2 ^ 40

-- steps of all staircases of a term
abbrev pub most_steps : ℕ
most_steps = 10000000

-- workers of a run, of a check, or of a making of fronts
abbrev pub most_workers : ℕ
most_workers = 4096

-- the greatest count that passes
abbrev pub most : LimitName → ℕ
most Bytes = most_bytes
most Order = most_order
most Entries = most_entries
most Mindeg = most_mindeg
most Tasks = most_tasks
most Positions = most_positions
most Size = most_size
most Total = most_total
most Time = most_time
most Arcs = most_arcs
most Uses = most_uses
most Steps = most_steps

-- the word for a limit in reports
abbrev pub word_of : LimitName → List ℕ
word_of Bytes = codes "bytes"
word_of Order = codes "order"
word_of Entries = codes "entries"
word_of Mindeg = codes "mindeg"
word_of Tasks = codes "tasks"
word_of Positions = codes "positions"
word_of Size = codes "size"
word_of Total = codes "total"
word_of Time = codes "time"
word_of Arcs = codes "arcs"
word_of Uses = codes "uses"
word_of Steps = codes "steps"
