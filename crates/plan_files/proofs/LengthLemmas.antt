-- A printed plan is never too long for a reader of files: bounds on the bytes of each line, of each section, and of all lines.
use Rattle.std.proofs.Common.{◌≡◌, ℕ, ◌+◌, ◌*◌, ◌≤◌, inl, inr, List, [], ◌∷◌, ◌++◌, length, map, refl, ap, arith, ℤ, pos, negsuc, unsigned_abs}
use Rattle.std.specs.Fmt.{decimal, signed_decimal}
use Rattle.std.specs.Prelude.{codes}
use Rattle.std.specs.List.{All}
use Rattle.std.proofs.lemmas.Fmt.{length-decimal-le, length_signed_le}
use Rattle.std.proofs.lemmas.List.Elements.{All-nil, All-same, All-weaker}
use Rattle.limits.specs.Limits.{most_bytes, most_tasks, most_positions, most_total}
use Rattle.file_frame.specs.declared.version.Version.{Version}
use Rattle.file_frame.specs.declared.version.Version.TheVariants.{One, Two}
use Rattle.mp_text.specs.Report.{text_of_lines}
use Rattle.permutations.specs.Perm.{IsVertex}
use Rattle.plans.specs.Plan.{PlanValue, most_number, IsPlan, IsClaimWithin, IsPriority}
use Rattle.plan_files.specs.Printed.{task_line, claim_line, dir_word, task_lines, claim_lines, priority_lines, last_lines, plan_text_in}
use Rattle.plans.specs.declared.claim.Claim.{Claim}
use Rattle.plans.specs.declared.claim.Direction.{Direction}
use Rattle.plans.specs.declared.claim.Direction.TheVariants.{Forward, Backward}
use Rattle.file_frame.specs.Printed.{header_line, section_line, end_line}
use Rattle.file_frame.proofs.LengthLemmas.{IsLineWithin, mapped-within, text-append, text-cons, last-token}
use Rattle.file_frame.proofs.LengthLemmas.{first-token, header-within, section-within}

-- ---- numbers

abbrev IsSmall : ℕ → Type 0
IsSmall n = n ≤ most_number

small-decimal : (n : ℕ) → IsSmall n → length (decimal n) ≤ 10
small-decimal n le = length-decimal-le 10 n (omega arith) (omega arith) (omega arith)

wide-decimal : (n : ℕ) → n ≤ most_total → length (decimal n) ≤ 19
wide-decimal n le = length-decimal-le 19 n (omega arith) (omega arith) (omega arith)

-- a sign and 19 digits
wide-signed : (z : ℤ) → unsigned_abs z ≤ most_total → length (signed_decimal z) ≤ 20
wide-signed (pos n) le = length_signed_le 19 (pos n) (omega arith) (omega arith)
wide-signed (negsuc n) le = length_signed_le 19 (negsuc n) (omega arith) (omega arith)

-- ---- lines

-- a section's line, of a word of at most 8 letters
short-section : (word : List ℕ) (n : ℕ) → length word ≤ 8 → n ≤ most_total → IsLineWithin 29 (section_line word n)
short-section word n short le = omega (arith, section-within word n 19 (wide-decimal n le))

task-within : (v : ℕ) → IsSmall v → IsLineWithin 11 (task_line v)
task-within v le = omega (arith, last-token (decimal v), small-decimal v le)

dir-short : (d : Direction) → length (dir_word d) ≡ 1
dir-short Forward = refl
dir-short Backward = refl

claim-within : (c : Claim) → IsClaimWithin c → IsLineWithin 54 (claim_line c)
claim-within c within =
    let position = decimal c.position in
    let dir = dir_word c.dir in
    let bound = signed_decimal c.bound in
    let rest = decimal c.rest in
    omega (
      arith,
      first-token position dir (bound ∷ rest ∷ []),
      first-token dir bound (rest ∷ []),
      first-token bound rest [],
      last-token rest,
      small-decimal c.position within.position,
      dir-short c.dir,
      wide-signed c.bound within.bound,
      wide-decimal c.rest within.rest,
    )

-- ---- sections

tasks-within : (word : List ℕ) (tasks : List ℕ) → length word ≤ 8 → length tasks ≤ most_tasks → All IsSmall tasks
    → length (text_of_lines (task_lines word tasks)) ≤ 29 + 11 * most_tasks
tasks-within word tasks short few small =
    let section = section_line word (length tasks) in
    omega (
      arith,
      text-cons section (map task_line tasks),
      short-section word (length tasks) short (omega arith),
      mapped-within IsSmall task_line 11 task-within tasks small,
    )

claims-within : (claims : List Claim) → length claims ≤ most_positions → All IsClaimWithin claims
    → length (text_of_lines (claim_lines claims)) ≤ 29 + 54 * most_positions
claims-within claims few within =
    let section = section_line (codes "claims") (length claims) in
    omega (
      arith,
      text-cons section (map claim_line claims),
      short-section (codes "claims") (length claims) (omega arith) (omega arith),
      mapped-within IsClaimWithin claim_line 54 claim-within claims within,
    )

priority-within : (v : Version) (n : ℕ) (priority : List ℕ) → n ≤ most_tasks → IsPriority n priority
    → length (text_of_lines (priority_lines v priority)) ≤ 29 + 11 * most_tasks
priority-within One n priority few is = omega arith
priority-within Two n priority few (inl none) =
    tasks-within (codes "priority") priority (omega arith)
    (omega (arith, ap length none)) (All-same IsSmall priority [] none (All-nil IsSmall))
priority-within Two n priority few (inr ranks) =
    let len = ranks.len in
    let small = All-weaker (IsVertex n) IsSmall (λ v task. let le = task.1 in omega arith) priority ranks.vertices in
    tasks-within (codes "priority") priority (omega arith) (omega arith) small

-- ---- all lines

-- for a million tasks the bounds above add up to 238000181
pub printed-within : (v : Version) (plan : PlanValue) → IsPlan plan → length (plan_text_in v plan) ≤ most_bytes
printed-within v plan is =
    let order = task_lines (codes "order") plan.order in
    let priority = priority_lines v plan.priority in
    let peak = section_line (codes "peak") plan.peak in
    let claims = claim_lines plan.claims in
    omega (
      arith,
      text-cons (header_line (codes "plan") v) (order ++ (priority ++ last_lines plan)),
      header-within (codes "plan") v,
      text-append order (priority ++ last_lines plan),
      tasks-within (codes "order") plan.order (omega arith) is.few_tasks is.tasks,
      text-append priority (last_lines plan),
      priority-within v (length plan.order) plan.priority is.few_tasks is.priority,
      text-cons peak (claims ++ end_line ∷ []),
      short-section (codes "peak") plan.peak (omega arith) is.peak,
      text-append claims (end_line ∷ []),
      claims-within plan.claims is.few_claims is.claims,
    )
