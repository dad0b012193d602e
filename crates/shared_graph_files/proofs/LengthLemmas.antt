-- A printed system is never too long for a reader of files: bounds on the bytes of each line, and of all lines.
use Rattle.std.proofs.Common.{ℕ, ◌+◌, ◌*◌, ◌≤◌, List, [], ◌∷◌, ◌++◌, length, map, arith, codes, unwrap_or}
use Rattle.std.specs.Fmt.{decimal}
use Rattle.std.specs.List.{All, sum_by}
use Rattle.std.proofs.lemmas.Fmt.{length-decimal-le}
use Rattle.std.proofs.lemmas.List.Elements.{All-head, All-tail, All-weaker, All-cons}
use Rattle.std.proofs.lemmas.List.Sums.{sum_by-cons}
use Rattle.limits.specs.Limits.{most_bytes, most_tasks, most_size, most_total}
use Rattle.mp_text.specs.Report.{line_text, text_of_lines}
use Rattle.file_frame.specs.declared.version.Version.TheVariants.{Two}
use Rattle.file_frame.specs.Printed.{header_line, section_line, end_line}
use Rattle.file_frame.proofs.LengthLemmas.{IsLineWithin, mapped-within, text-append, text-cons, first-token, last-token, header-within}
use Rattle.file_frame.proofs.LengthLemmas.{section-within}
use Rattle.mp_system.specs.declared.system.Task.{Task}
use Rattle.graphs.specs.Graph.{IsAmong}
use Rattle.shared_systems.specs.Shared.{SharedTaskSystem, SharedItem}
use Rattle.shared_systems.specs.Bounds.{IsSharedSystem, IsSharedItemWithin, reader_count}
use Rattle.shared_graph_files.specs.SharedGraphText.{task_line, item_line, graph_text_2}
use Rattle.shared_graph_files.proofs.ItemLemmas.{from_low}
use Rattle.shared_graph_files.proofs.PrintedLemmas.{IsTaskPrintable, printable}

-- a size or a time has at most 13 digits, a sum of sizes at most 19, and the number of a task or an item at most 7
size-decimal : (n : ℕ) → n ≤ most_size → length (decimal n) ≤ 13
size-decimal n le = length-decimal-le 13 n (omega arith) (omega arith) (omega arith)

sum-decimal : (n : ℕ) → n ≤ most_total → length (decimal n) ≤ 19
sum-decimal n le = length-decimal-le 19 n (omega arith) (omega arith) (omega arith)

abbrev IsLow : ℕ → Type 0
IsLow n = n ≤ 9999999

low-decimal : (n : ℕ) → IsLow n → length (decimal n) ≤ 7
low-decimal n le = length-decimal-le 7 n (omega arith) (omega arith) (omega arith)

-- ---- lines

-- a blank or a line feed stands after each number
task-within : (task : Task) → IsTaskPrintable task → IsLineWithin 48 (task_line task)
task-within task fits =
    omega (
      arith,
      first-token (decimal task.extra) (decimal task.share) (decimal task.time ∷ []),
      first-token (decimal task.share) (decimal task.time) [],
      last-token (decimal task.time),
      size-decimal task.extra fits.within.extra,
      sum-decimal task.share fits.share,
      size-decimal task.time (omega (arith, fits.within.time.1)),
    )

low-within : (n : ℕ) (ns : List ℕ) → All IsLow (n ∷ ns) → length (line_text (map decimal (n ∷ ns))) ≤ 8 * length (n ∷ ns)
low-within n [] low = omega (arith, last-token (decimal n), low-decimal n (All-head IsLow n [] low))
low-within n (m ∷ ns) low =
    omega (
      arith,
      first-token (decimal n) (decimal m) (map decimal ns),
      low-decimal n (All-head IsLow n (m ∷ ns) low),
      low-within m ns (All-tail IsLow n (m ∷ ns) low),
    )

item-within : (n : ℕ) → n ≤ most_tasks → (x : SharedItem) → IsSharedItemWithin n x
    → length (line_text (item_line x)) ≤ 22 + 8 * reader_count x
item-within n few x within =
    let from : IsLow (unwrap_or x.from 0) = (let low = from_low n x.from within.producer in omega (arith, low, few)) in
    let readers = All-weaker (IsAmong n) IsLow (λ c among. omega (arith, among.1, few)) x.readers within.readers in
    omega (
      arith,
      first-token (decimal x.size) (decimal (unwrap_or x.from 0)) (map decimal x.readers),
      size-decimal x.size within.size,
      low-within (unwrap_or x.from 0) x.readers (All-cons IsLow (unwrap_or x.from 0) x.readers from readers),
    )

items-within : (n : ℕ) → n ≤ most_tasks → (xs : List SharedItem) → All (IsSharedItemWithin n) xs
    → length (text_of_lines (map item_line xs)) ≤ length xs * 22 + 8 * sum_by reader_count xs
items-within n few [] all = omega arith
items-within n few (x ∷ xs) all =
    omega (
      arith,
      text-cons (item_line x) (map item_line xs),
      item-within n few x (All-head (IsSharedItemWithin n) x xs all),
      items-within n few xs (All-tail (IsSharedItemWithin n) x xs all),
      sum_by-cons reader_count x xs,
    )

-- ---- all lines

-- for a million tasks, 4000001 items and ten million readers the bounds above add up to 216000059
pub printed-within : (system : SharedTaskSystem) → IsSharedSystem system → length (graph_text_2 system) ≤ most_bytes
printed-within system is =
    let tasks = map task_line system.tasks in
    let items = map item_line system.items in
    let count = section_line (codes "items") (length system.items) in
    omega (
      arith,
      text-cons (header_line (codes "graph") Two) (section_line (codes "tasks") (length system.tasks) ∷ (tasks ++ count ∷ (items ++ end_line ∷ []))),
      header-within (codes "graph") Two,
      text-cons (section_line (codes "tasks") (length system.tasks)) (tasks ++ count ∷ (items ++ end_line ∷ [])),
      section-within (codes "tasks") (length system.tasks) 7 (low-decimal (length system.tasks) (omega (arith, is.few_tasks))),
      text-append tasks (count ∷ (items ++ end_line ∷ [])),
      mapped-within IsTaskPrintable task_line 48 task-within system.tasks (printable system is),
      text-cons count (items ++ end_line ∷ []),
      section-within (codes "items") (length system.items) 7 (low-decimal (length system.items) (omega (arith, is.few_items))),
      text-append items (end_line ∷ []),
      items-within (length system.tasks) is.few_tasks system.items is.items,
      is.few_tasks,
      is.few_items,
      is.few_uses,
    )
