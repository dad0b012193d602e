-- The text of a certificate: the fence file that is printed for it, and which certificates such a file can state.
use Rattle.std.specs.Prelude.{ℕ, ◌^◌, ◌<◌, ◌≤◌, List, [], ◌∷◌, ◌++◌, length, map, codes}
use Rattle.std.specs.Fmt.{decimal}
use Rattle.std.specs.List.{All}
use Rattle.limits.specs.Limits.{most_tasks, most_positions, most_workers}
use Rattle.mp_text.specs.Report.{text_of_lines}
use Rattle.file_frame.specs.declared.version.Version.TheVariants.{One}
use Rattle.file_frame.specs.Printed.{header_line, section_line, end_line}
use Rattle.fences.specs.declared.fenced.Fence.{Fence}
use Rattle.fences.specs.declared.certificate.Workers.{Workers}
use Rattle.fences.specs.declared.certificate.Workers.TheVariants as workers
use Rattle.fences.specs.Certificates.{Certificate, room_of}
use Rattle.fence_files.specs.FenceFile.{most_number}

-- a join line or an amount line
abbrev pub number_line : ℕ → List (List ℕ)
number_line n = decimal n ∷ []

abbrev pub fence_line : Fence → List (List ℕ)
fence_line fence = decimal fence.from ∷ decimal fence.to ∷ []

-- how many numbers there are, behind a word, and each on a line
abbrev pub number_lines : List ℕ → List ℕ → List (List (List ℕ))
number_lines word numbers = section_line word (length numbers) ∷ map number_line numbers

abbrev pub fence_lines : List Fence → List (List (List ℕ))
fence_lines fences = section_line (codes "fences") (length fences) ∷ map fence_line fences

-- 0 for any number of workers
abbrev pub count_of : Workers → ℕ
count_of workers.Any = 0
count_of (workers.AtMost count room) = count

abbrev pub worker_lines : Workers → List (List (List ℕ))
worker_lines told = section_line (codes "workers") (count_of told) ∷ section_line (codes "room") (room_of told) ∷ []

-- the lines from `joins J` on
abbrev pub list_lines : Certificate → List (List (List ℕ))
list_lines certificate =
    number_lines (codes "joins") certificate.joins
    ++ (fence_lines certificate.fences ++ (number_lines (codes "amounts") certificate.amounts ++ end_line ∷ []))

-- the lines after line 1
abbrev pub body_lines : Certificate → List (List (List ℕ))
body_lines certificate =
    section_line (codes "bound") certificate.bound ∷ (worker_lines certificate.workers ++ list_lines certificate)

abbrev pub fences_lines : Certificate → List (List (List ℕ))
fences_lines certificate = header_line (codes "fences") One ∷ body_lines certificate

abbrev pub fences_text : Certificate → List ℕ
fences_text certificate = text_of_lines (fences_lines certificate)

-- ---- what a fence file can state

-- the value of an unsigned number of 64 bits
abbrev pub IsWord : ℕ → Type 0
IsWord n = n < 2 ^ 64

abbrev pub IsPlace : ℕ → Type 0
IsPlace place = (1 ≤ place) × (place ≤ most_number)

abbrev pub IsFenceWithin : Fence → Type 0
IsFenceWithin fence = (fence.from ≤ most_number) × (fence.to ≤ most_number)

abbrev pub AreWorkersWithin : Workers → Type 0
AreWorkersWithin workers.Any = Unit {0}
AreWorkersWithin (workers.AtMost count room) = (1 ≤ count) × (count ≤ most_workers) × IsWord room

-- a number of workers, if there is one, is within the limit
abbrev pub AreCounted : Workers → Type 0
AreCounted workers.Any = Unit {0}
AreCounted (workers.AtMost count room) = (1 ≤ count) × (count ≤ most_workers)

abbrev pub AreJoinsWithin : List ℕ → Type 0
AreJoinsWithin joins = (length joins ≤ most_tasks) × All IsPlace joins

abbrev pub AreFencesWithin : List Fence → Type 0
AreFencesWithin fences = (length fences ≤ most_positions) × All IsFenceWithin fences

abbrev pub AreAmountsWithin : List ℕ → Type 0
AreAmountsWithin amounts = (length amounts ≤ most_positions) × All IsWord amounts

pub record IsPrintable (certificate : Certificate) : Type 0 where
  pub bound : IsWord certificate.bound
  pub workers : AreWorkersWithin certificate.workers
  pub joins : AreJoinsWithin certificate.joins
  pub fences : AreFencesWithin certificate.fences
  pub amounts : AreAmountsWithin certificate.amounts
