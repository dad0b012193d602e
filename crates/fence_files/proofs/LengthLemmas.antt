-- A printed certificate is never too long for a reader of files: bounds on the bytes of each line, of each section, and of all lines.
use Rattle.std.proofs.Common.{ℕ, ◌+◌, ◌*◌, ◌≤◌, List, [], ◌∷◌, ◌++◌, length, map, arith}
use Rattle.std.specs.Fmt.{decimal}
use Rattle.std.specs.Prelude.{codes}
use Rattle.std.specs.List.{All}
use Rattle.std.proofs.lemmas.Fmt.{length-decimal-le}
use Rattle.limits.specs.Limits.{most_bytes, most_tasks, most_positions}
use Rattle.mp_text.specs.Report.{text_of_lines}
use Rattle.file_frame.specs.declared.version.Version.TheVariants.{One}
use Rattle.file_frame.specs.Printed.{header_line, section_line, end_line}
use Rattle.file_frame.proofs.LengthLemmas.{IsLineWithin, mapped-within, text-append, text-cons, last-token, first-token}
use Rattle.file_frame.proofs.LengthLemmas.{header-within, section-within}
use Rattle.fences.specs.declared.fenced.Fence.{Fence}
use Rattle.fences.specs.Certificates.{Certificate, room_of}
use Rattle.fence_files.specs.FenceFile.{most_number}
use Rattle.fence_files.specs.Printed.{number_line, fence_line, number_lines, fence_lines, count_of, worker_lines, list_lines, body_lines}
use Rattle.fence_files.specs.Printed.{fences_text, IsWord, IsPlace, IsFenceWithin, IsPrintable}
use Rattle.fence_files.proofs.PrintedLemmas.{few-workers, word-room}

-- ---- numbers

small-decimal : (n : ℕ) → n ≤ most_number → length (decimal n) ≤ 10
small-decimal n le = length-decimal-le 10 n (omega arith) (omega arith) (omega arith)

word-decimal : (n : ℕ) → IsWord n → length (decimal n) ≤ 20
word-decimal n word = length-decimal-le 20 n (omega arith) (omega arith) (omega arith)

-- ---- lines

-- a line of a word of at most 8 letters and a number
short-section : (word : List ℕ) (n : ℕ) → length word ≤ 8 → IsWord n → IsLineWithin 30 (section_line word n)
short-section word n short is = omega (arith, section-within word n 20 (word-decimal n is))

place-within : (n : ℕ) → IsPlace n → IsLineWithin 11 (number_line n)
place-within n place = let le = place.1 in omega (arith, last-token (decimal n), small-decimal n le)

amount-within : (n : ℕ) → IsWord n → IsLineWithin 21 (number_line n)
amount-within n word = omega (arith, last-token (decimal n), word-decimal n word)

fence-within : (fence : Fence) → IsFenceWithin fence → IsLineWithin 22 (fence_line fence)
fence-within fence within =
    omega (
      arith,
      first-token (decimal fence.from) (decimal fence.to) [],
      last-token (decimal fence.to),
      small-decimal fence.from within.0,
      small-decimal fence.to within.1,
    )

-- ---- sections

joins-within : (places : List ℕ) → length places ≤ most_tasks → All IsPlace places
    → length (text_of_lines (number_lines (codes "joins") places)) ≤ 30 + 11 * most_tasks
joins-within places few all =
    let section = section_line (codes "joins") (length places) in
    omega (
      arith,
      text-cons section (map number_line places),
      short-section (codes "joins") (length places) (omega arith) (omega arith),
      mapped-within IsPlace number_line 11 place-within places all,
    )

fences-within : (fences : List Fence) → length fences ≤ most_positions → All IsFenceWithin fences
    → length (text_of_lines (fence_lines fences)) ≤ 30 + 22 * most_positions
fences-within fences few all =
    let section = section_line (codes "fences") (length fences) in
    omega (
      arith,
      text-cons section (map fence_line fences),
      short-section (codes "fences") (length fences) (omega arith) (omega arith),
      mapped-within IsFenceWithin fence_line 22 fence-within fences all,
    )

amounts-within : (amounts : List ℕ) → length amounts ≤ most_positions → All IsWord amounts
    → length (text_of_lines (number_lines (codes "amounts") amounts)) ≤ 30 + 21 * most_positions
amounts-within amounts few all =
    let section = section_line (codes "amounts") (length amounts) in
    omega (
      arith,
      text-cons section (map number_line amounts),
      short-section (codes "amounts") (length amounts) (omega arith) (omega arith),
      mapped-within IsWord number_line 21 amount-within amounts all,
    )

-- ---- all lines

lists-within : (certificate : Certificate) → IsPrintable certificate
    → length (text_of_lines (list_lines certificate)) ≤ 94 + 11 * most_tasks + 43 * most_positions
lists-within certificate is =
    let joins = number_lines (codes "joins") certificate.joins in
    let fences = fence_lines certificate.fences in
    let amounts = number_lines (codes "amounts") certificate.amounts in
    omega (
      arith,
      text-append joins (fences ++ (amounts ++ end_line ∷ [])),
      joins-within certificate.joins is.joins.0 is.joins.1,
      text-append fences (amounts ++ end_line ∷ []),
      fences-within certificate.fences is.fences.0 is.fences.1,
      text-append amounts (end_line ∷ []),
      amounts-within certificate.amounts is.amounts.0 is.amounts.1,
    )

-- the bounds above add up to 183000236
pub printed-within : (certificate : Certificate) → IsPrintable certificate → length (fences_text certificate) ≤ most_bytes
printed-within certificate is =
    let count = count_of certificate.workers in
    let few = few-workers certificate.workers is.workers in
    let workers = section_line (codes "workers") count in
    let room = section_line (codes "room") (room_of certificate.workers) in
    let bound = section_line (codes "bound") certificate.bound in
    omega (
      arith,
      text-cons (header_line (codes "fences") One) (body_lines certificate),
      header-within (codes "fences") One,
      text-cons bound (worker_lines certificate.workers ++ list_lines certificate),
      short-section (codes "bound") certificate.bound (omega arith) is.bound,
      text-cons workers (room ∷ list_lines certificate),
      short-section (codes "workers") count (omega arith) (omega arith),
      text-cons room (list_lines certificate),
      short-section (codes "room") (room_of certificate.workers) (omega arith) (word-room certificate.workers is.workers),
      lists-within certificate is,
    )
