-- The text of a plan with a bound as JSON (RFC 8259), without blanks: one object with the members bound, evidence, order and peak, as in
-- `{"bound":7,"evidence":{"need":1},"order":[1],"peak":9}`.
use Rattle.std.specs.Prelude.{ℕ, List, [], ◌∷◌, ◌++◌, map, codes}
use Rattle.std.specs.Fmt.{decimal, signed_decimal}
use Rattle.plan_files.specs.Json.{array_json, word_json, claim_json}
use Rattle.peak_bounds.specs.declared.evidence.Amount.{Amount}
use Rattle.peak_bounds.specs.declared.evidence.Evidence.TheVariants.{Start, Need, Set}
use Rattle.peak_bounds.specs.EventSets.{BlockerValue, EventSetValue}
use Rattle.bounded_plans.specs.BoundedPlan.{BoundedPlanValue}
use Rattle.bounded_plans.specs.declared.evidence.BoundEvidence.{BoundEvidence}
use Rattle.bounded_plans.specs.declared.evidence.BoundEvidence.TheVariants.{Sums, Claims, States}
use Rattle.bounded_plan_files.specs.Printed.{event_word}

-- `[place,amount]`
abbrev pub amount_json : Amount → List ℕ
amount_json a = array_json (decimal a.place ∷ signed_decimal a.amount ∷ [])

abbrev pub amounts_json : List Amount → List ℕ
amounts_json amounts = array_json (map amount_json amounts)

-- `[task,[[place,amount],..]]`
abbrev pub blocker_json : BlockerValue → List ℕ
blocker_json blocker = array_json (decimal blocker.task ∷ amounts_json blocker.amounts ∷ [])

abbrev pub set_json : EventSetValue → List ℕ
set_json set =
    codes "{\"base\":" ++ amounts_json set.base ++ codes ",\"blockers\":" ++ array_json (map blocker_json set.blockers) ++ codes "}"

-- the word for the sort of evidence, as in a file
abbrev pub evidence_word : BoundEvidence → List ℕ
evidence_word (Sums Start) = codes "need"
evidence_word (Sums (Need task)) = codes "need"
evidence_word (Sums (Set set)) = event_word set.event
evidence_word (Claims claims) = codes "claims"
evidence_word (States most) = codes "states"

-- and what is told behind it: a task, which is 0 for none; a set; claims; or how many states are looked at, at most
abbrev pub told_json : BoundEvidence → List ℕ
told_json (Sums Start) = decimal 0
told_json (Sums (Need task)) = decimal task
told_json (Sums (Set set)) = set_json set
told_json (Claims claims) = array_json (map claim_json claims)
told_json (States most) = decimal most

-- an object of one member
abbrev pub evidence_json : BoundEvidence → List ℕ
evidence_json evidence = codes "{" ++ word_json (evidence_word evidence) ++ codes ":" ++ told_json evidence ++ codes "}"

abbrev pub bounded_json_of : BoundedPlanValue → List ℕ
bounded_json_of plan =
    codes "{\"bound\":" ++ decimal plan.bound
    ++ codes ",\"evidence\":" ++ evidence_json plan.evidence
    ++ codes ",\"order\":" ++ array_json (map decimal plan.order)
    ++ codes ",\"peak\":" ++ decimal plan.peak
    ++ codes "}"
