-- A printed plan of version 3 is never too long for a reader of files: bounds on the bytes of each line, of each section, and of all lines.
use Rattle.std.proofs.Common.{◌≡◌, ℕ, ◌+◌, ◌*◌, ◌≤◌, List, [], ◌∷◌, ◌++◌, length, map, refl, arith, ℤ, pos, negsuc, unsigned_abs}
use Rattle.std.specs.Fmt.{decimal, signed_decimal}
use Rattle.std.specs.Prelude.{codes}
use Rattle.std.specs.List.{All, flat_map, sum_by}
use Rattle.std.proofs.lemmas.Fmt.{length-decimal-le, length_signed_le}
use Rattle.std.proofs.lemmas.List.Elements.{All-head, All-tail}
use Rattle.std.proofs.lemmas.List.Sums.{sum_by-cons}
use Rattle.limits.specs.Limits.{most_bytes, most_tasks, most_positions, most_total}
use Rattle.mp_text.specs.Report.{text_of_lines}
use Rattle.file_frame.specs.Printed.{section_line, end_line}
use Rattle.file_frame.proofs.LengthLemmas.{IsLineWithin, mapped-within, text-append, text-cons, last-token, first-token, section-within}
use Rattle.plans.specs.Plan.{most_number, IsClaimWithin}
use Rattle.plans.specs.declared.claim.Claim.{Claim}
use Rattle.plans.specs.declared.claim.Direction.{Direction}
use Rattle.plans.specs.declared.claim.Direction.TheVariants.{Forward, Backward}
use Rattle.plan_files.specs.Printed.{task_line, claim_line, dir_word, task_lines, claim_lines}
use Rattle.peak_bounds.specs.declared.step.Event.{Event}
use Rattle.peak_bounds.specs.declared.step.Event.TheVariants.{First, Last}
use Rattle.peak_bounds.specs.declared.evidence.Amount.{Amount}
use Rattle.peak_bounds.specs.declared.evidence.Evidence.TheVariants.{Start, Need, Set}
use Rattle.peak_bounds.specs.EventSets.{BlockerValue, EventSetValue}
use Rattle.peak_bounds.specs.Evidence.{IsAmount}
use Rattle.bounded_plans.specs.BoundedPlan.{BoundedPlanValue, own_count, IsBlockerWithin, IsSetWithin, IsWithin, IsBoundedPlan}
use Rattle.bounded_plans.specs.declared.evidence.BoundEvidence.{BoundEvidence}
use Rattle.bounded_plans.specs.declared.evidence.BoundEvidence.TheVariants.{Sums, Claims, States}
use Rattle.bounded_plan_files.specs.Printed.{amount_line, blocker_line, blocker_lines, event_word, set_lines, evidence_lines, bound_lines}
use Rattle.bounded_plan_files.specs.Printed.{head_lines, bounded_plan_text}

-- ---- numbers

abbrev IsSmall : ℕ → Type 0
IsSmall n = n ≤ most_number

small-decimal : (n : ℕ) → IsSmall n → length (decimal n) ≤ 10
small-decimal n le = length-decimal-le 10 n (omega arith) (omega arith) (omega arith)

wide-decimal : (n : ℕ) → n ≤ most_total → length (decimal n) ≤ 19
wide-decimal n le = length-decimal-le 19 n (omega arith) (omega arith) (omega arith)

-- a sign and 19 digits
wide-signed : (z : ℤ) → unsigned_abs z ≤ most_total → length (signed_decimal z) ≤ 20
wide-signed (pos n) le = length_signed_le 19 (pos n) (omega arith) (omega arith)
wide-signed (negsuc n) le = length_signed_le 19 (negsuc n) (omega arith) (omega arith)

-- ---- lines

-- a section's line, of a word of at most 8 letters
short-section : (word : List ℕ) (n : ℕ) → length word ≤ 8 → n ≤ most_total → IsLineWithin 29 (section_line word n)
short-section word n short le = omega (arith, section-within word n 19 (wide-decimal n le))

task-within : (v : ℕ) → IsSmall v → IsLineWithin 11 (task_line v)
task-within v le = omega (arith, last-token (decimal v), small-decimal v le)

dir-short : (d : Direction) → length (dir_word d) ≡ 1
dir-short Forward = refl
dir-short Backward = refl

claim-within : (c : Claim) → IsClaimWithin c → IsLineWithin 54 (claim_line c)
claim-within c within =
    let position = decimal c.position in
    let dir = dir_word c.dir in
    let bound = signed_decimal c.bound in
    let rest = decimal c.rest in
    omega (
      arith,
      first-token position dir (bound ∷ rest ∷ []),
      first-token dir bound (rest ∷ []),
      first-token bound rest [],
      last-token rest,
      small-decimal c.position within.position,
      dir-short c.dir,
      wide-signed c.bound within.bound,
      wide-decimal c.rest within.rest,
    )

amount-within : (a : Amount) → IsAmount most_number a → IsLineWithin 32 (amount_line a)
amount-within a is =
    omega (
      arith,
      first-token (decimal a.place) (signed_decimal a.amount) [],
      last-token (signed_decimal a.amount),
      small-decimal a.place is.within,
      wide-signed a.amount is.amount,
    )

blocker-within : (b : BlockerValue) → b.task ≤ most_number → length b.amounts ≤ most_positions → IsLineWithin 27 (blocker_line b)
blocker-within b task few =
    let count = decimal (length b.amounts) in
    omega (
      arith,
      first-token (codes "blocker") (decimal b.task) (count ∷ []),
      first-token (decimal b.task) count [],
      last-token count,
      small-decimal b.task task,
      length-decimal-le 7 (length b.amounts) (omega arith) (omega arith) (omega arith),
    )

-- ---- sections

order-within : (tasks : List ℕ) → length tasks ≤ most_tasks → All IsSmall tasks
    → length (text_of_lines (task_lines (codes "order") tasks)) ≤ 29 + 11 * most_tasks
order-within tasks few small =
    omega (
      arith,
      text-cons (section_line (codes "order") (length tasks)) (map task_line tasks),
      short-section (codes "order") (length tasks) (omega arith) (omega arith),
      mapped-within IsSmall task_line 11 task-within tasks small,
    )

claims-within : (claims : List Claim) → length claims ≤ most_positions → All IsClaimWithin claims
    → length (text_of_lines (claim_lines claims)) ≤ 29 + 54 * most_positions
claims-within claims few within =
    omega (
      arith,
      text-cons (section_line (codes "claims") (length claims)) (map claim_line claims),
      short-section (codes "claims") (length claims) (omega arith) (omega arith),
      mapped-within IsClaimWithin claim_line 54 claim-within claims within,
    )

blockers-within : (bs : List BlockerValue) → All IsBlockerWithin bs → sum_by own_count bs ≤ most_positions
    → length (text_of_lines (flat_map blocker_lines bs)) ≤ 27 * length bs + 32 * sum_by own_count bs
blockers-within [] within few = omega arith
blockers-within (b ∷ bs) within few =
    let here = All-head IsBlockerWithin b bs within in
    let sum = sum_by-cons own_count b bs in
    let own : length b.amounts ≤ most_positions = omega arith in
    let others : sum_by own_count bs ≤ most_positions = omega arith in
    omega (
      arith,
      text-append (blocker_lines b) (flat_map blocker_lines bs),
      text-cons (blocker_line b) (map amount_line b.amounts),
      blocker-within b here.task own,
      mapped-within (IsAmount most_number) amount_line 32 amount-within b.amounts here.amounts.each,
      blockers-within bs (All-tail IsBlockerWithin b bs within) others,
    )

event-short : (event : Event) → length (event_word event) ≤ 8
event-short First = omega arith
event-short Last = omega arith

set-within : (set : EventSetValue) → IsSetWithin set → length (text_of_lines (set_lines set)) ≤ 58 + 27 * most_tasks + 32 * most_positions
set-within set is =
    let few = is.few_amounts in
    let few_blockers = is.few in
    let base = map amount_line set.base in
    let blockers = flat_map blocker_lines set.blockers in
    let first = section_line (event_word set.event) (length set.blockers) in
    let second = section_line (codes "base") (length set.base) in
    omega (
      arith,
      text-cons first (second ∷ (base ++ blockers)),
      short-section (event_word set.event) (length set.blockers) (event-short set.event) (omega arith),
      text-cons second (base ++ blockers),
      short-section (codes "base") (length set.base) (omega arith) (omega arith),
      text-append base blockers,
      mapped-within (IsAmount most_number) amount_line 32 amount-within set.base is.base.each,
      blockers-within set.blockers is.blockers (omega arith),
    )

-- claims take most
evidence-within : (evidence : BoundEvidence) → IsWithin evidence
    → length (text_of_lines (evidence_lines evidence)) ≤ 29 + 54 * most_positions
evidence-within (Sums Start) is =
    let need = section_line (codes "need") 0 in
    omega (arith, text-cons need [], short-section (codes "need") 0 (omega arith) (omega arith))
evidence-within (Sums (Need task)) is =
    let need = section_line (codes "need") task in
    omega (arith, text-cons need [], short-section (codes "need") task (omega arith) (omega arith))
evidence-within (Sums (Set set)) is = omega (arith, set-within set is)
evidence-within (Claims claims) is = claims-within claims is.few is.each
evidence-within (States most) is =
    let few : most ≤ most_number = is in
    let states = section_line (codes "states") most in
    omega (arith, text-cons states [], short-section (codes "states") most (omega arith) (omega arith))

-- ---- all lines

-- for a million tasks the bounds above add up to 227000181
pub printed-within : (plan : BoundedPlanValue) → IsBoundedPlan plan → length (bounded_plan_text plan) ≤ most_bytes
printed-within plan is =
    let order = task_lines (codes "order") plan.order in
    let peak = section_line (codes "peak") plan.peak in
    let bound = section_line (codes "bound") plan.bound in
    let evidence = evidence_lines plan.evidence in
    let header = codes "plan" ∷ codes "3" ∷ [] in
    omega (
      arith,
      text-append (head_lines plan) (bound_lines plan.bound plan.evidence),
      text-cons header (order ++ peak ∷ []),
      text-append order (peak ∷ []),
      order-within plan.order is.few_tasks is.tasks,
      text-cons peak [],
      short-section (codes "peak") plan.peak (omega arith) is.peak,
      text-cons bound (evidence ++ end_line ∷ []),
      short-section (codes "bound") plan.bound (omega arith) is.bound,
      text-append evidence (end_line ∷ []),
      evidence-within plan.evidence is.evidence,
    )
