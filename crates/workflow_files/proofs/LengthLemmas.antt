-- A printed workflow is never too long for a reader of files: bounds on the bytes of each line, and of all lines.
use Rattle.std.proofs.Common.{◌≡◌, ℕ, ◌+◌, ◌*◌, ◌≤◌, List, [], ◌∷◌, ◌++◌, length, map, refl, ap, arith}
use Rattle.std.specs.Fmt.{decimal}
use Rattle.std.specs.List.{All, sum_by}
use Rattle.std.specs.Prelude.{codes}
use Rattle.std.proofs.lemmas.Fmt.{length-decimal-le}
use Rattle.std.proofs.lemmas.List.Elements.{All-nil, All-cons, All-head, All-tail}
use Rattle.std.proofs.lemmas.List.Sums.{sum_by-cons}
use Rattle.limits.specs.Limits.{most_bytes, most_tasks, most_size, most_time}
use Rattle.file_frame.specs.declared.version.Version.{Version}
use Rattle.file_frame.specs.declared.version.Version.TheVariants.{One, Two}
use Rattle.sp_terms.specs.declared.position.Position.{Position}
use Rattle.sp_terms.specs.declared.position.Position.TheVariants.{Hold, Par}
use Rattle.sp_terms.specs.declared.position.Position.TheVariants as at
use Rattle.sp_terms.specs.Values.{IsTerms, IsWithinLimits, added_tasks}
use Rattle.workflow_files.specs.WorkflowText.{position_numbers, position_line, workflow_text_in}
use Rattle.workflow_files.proofs.PrintedLemmas.{small_numbers}
use Rattle.sp_terms.proofs.Standing.{standing}
use Rattle.mp_text.specs.Report.{text_of_lines}
use Rattle.file_frame.specs.Printed.{header_line, section_line, end_line}
use Rattle.file_frame.proofs.PrintedLaws.{IsSmall}
use Rattle.file_frame.proofs.LengthLemmas.{IsLineWithin, text-append, text-cons, last-token, first-token, header-within, section-within}

-- ---- numbers

-- a size or a time has at most 13 digits, another number 20
short-decimal : (n : ℕ) → n ≤ most_size → length (decimal n) ≤ 13
short-decimal n le = length-decimal-le 13 n (omega arith) (omega arith) (omega arith)

pub small-decimal : (n : ℕ) → IsSmall n → length (decimal n) ≤ 20
small-decimal n lt = length-decimal-le 20 n (omega arith) (omega arith) lt

-- ---- the lines of a workflow

task-within : (version : Version) (extra share time : ℕ) → extra ≤ most_size → IsSmall share → time ≤ most_time
    → IsLineWithin 54 (position_line version (at.Task extra share time))
task-within One extra share time fits small ends =
    omega (
      arith,
      first-token (codes "task") (decimal extra) (decimal time ∷ []),
      first-token (decimal extra) (decimal time) [],
      last-token (decimal time),
      short-decimal extra fits,
      short-decimal time (omega (arith, ends)),
    )
task-within Two extra share time fits small ends =
    omega (
      arith,
      first-token (codes "task") (decimal extra) (decimal share ∷ decimal time ∷ []),
      first-token (decimal extra) (decimal share) (decimal time ∷ []),
      first-token (decimal share) (decimal time) [],
      last-token (decimal time),
      short-decimal extra fits,
      small-decimal share small,
      short-decimal time (omega (arith, ends)),
    )

-- how many bytes the line of a position has at most: that of a task has more numbers than others
abbrev width_of : Position → ℕ
width_of p = 25 + 29 * added_tasks p

abbrev HasWidth : Version → Position → Type 0
HasWidth version p = IsLineWithin (width_of p) (position_line version p)

position-within : (version : Version) (p : Position) → IsWithinLimits p → All IsSmall (position_numbers Two p) → HasWidth version p
position-within version (Hold size) within small =
    omega (arith, first-token (codes "data") (decimal size) [], last-token (decimal size), short-decimal size within)
position-within version (at.Task extra share time) within small =
    let rest = All-tail IsSmall extra (share ∷ time ∷ []) small in
    omega (arith, task-within version extra share time within.0 (All-head IsSmall share (time ∷ []) rest) within.2)
position-within version (Par parts) within small =
    omega (
      arith,
      first-token (codes "par") (decimal parts) [],
      last-token (decimal parts),
      small-decimal parts (All-head IsSmall parts [] small),
    )

-- ---- all lines

-- what holds of the element wherever a list is split
each-split : {X : Type 0} (P : X → Type 0) (xs : List X)
    → ((first : List X) (x : X) (rest : List X) → xs ≡ first ++ x ∷ rest → P x) → All P xs
each-split P [] at = All-nil P
each-split P (x ∷ xs) at =
    All-cons P x xs (at [] x xs refl) (each-split P xs (λ first y rest e. at (x ∷ first) y rest (ap (λ zs. x ∷ zs) e)))

have-widths : (version : Version) (ps : List Position) → IsTerms ps → All (HasWidth version) ps
have-widths version ps terms = each-split (HasWidth version) ps at
  where
    at : (first : List Position) (p : Position) (rest : List Position) → ps ≡ first ++ p ∷ rest → HasWidth version p
    at first p rest e =
        let stands = standing ps first p rest terms e in
        position-within version p stands.within (small_numbers ps first p terms stands Two)

positions-within : (version : Version) (ps : List Position) → All (HasWidth version) ps
    → length (text_of_lines (map (position_line version) ps)) ≤ 25 * length ps + 29 * sum_by added_tasks ps
positions-within version [] widths = omega arith
positions-within version (p ∷ ps) widths =
    omega (
      arith,
      text-cons (position_line version p) (map (position_line version) ps),
      All-head (HasWidth version) p ps widths,
      positions-within version ps (All-tail (HasWidth version) p ps widths),
      sum_by-cons added_tasks p ps,
    )

-- for a million tasks the bounds above add up to 129000060, and so leave room for more
pub printed-room : (version : Version) (ps : List Position) → IsTerms ps
    → length (workflow_text_in version ps) + 50 * most_tasks ≤ most_bytes
printed-room version ps terms =
    let count = sum_by added_tasks ps in
    let lines = map (position_line version) ps in
    omega (
      arith,
      text-cons (header_line (codes "workflow") version) (section_line (codes "tasks") count ∷ (lines ++ end_line ∷ [])),
      header-within (codes "workflow") version,
      text-cons (section_line (codes "tasks") count) (lines ++ end_line ∷ []),
      section-within (codes "tasks") count 13 (short-decimal count (omega (arith, terms.few_tasks))),
      text-append lines (end_line ∷ []),
      positions-within version ps (have-widths version ps terms),
      terms.few,
      terms.few_tasks,
    )

pub printed-within : (version : Version) (ps : List Position) → IsTerms ps → length (workflow_text_in version ps) ≤ most_bytes
printed-within version ps terms = omega (arith, printed-room version ps terms)
