-- A plan with a bound and the parts of its evidence as values of JSON: what each sends to a writer of `serde`, of whatever format.
use Rattle.std.specs.Prelude.{List, [], ◌∷◌, map, codes}
use Rattle.serde_json.specs.Data.{Data, array, object, number, unsigned, negative, member, no_members}
use Rattle.serde_json.specs.View.{items_of}
use Rattle.plan_files.specs.JsonValues.{claim_value, task_value}
use Rattle.peak_bounds.specs.declared.evidence.Amount.{Amount}
use Rattle.peak_bounds.specs.declared.evidence.Evidence.TheVariants.{Start, Need, Set}
use Rattle.peak_bounds.specs.EventSets.{BlockerValue, EventSetValue}
use Rattle.bounded_plans.specs.BoundedPlan.{BoundedPlanValue}
use Rattle.bounded_plans.specs.declared.evidence.BoundEvidence.{BoundEvidence}
use Rattle.bounded_plans.specs.declared.evidence.BoundEvidence.TheVariants.{Sums, Claims, States}
use Rattle.bounded_plan_files.specs.Json.{evidence_word}

-- an amount is sent as a signed number, also where it is not negative
abbrev pub amount_value : Amount → Data
amount_value a = array (items_of (number (unsigned a.place) ∷ number (negative a.amount) ∷ []))

abbrev pub amounts_value : List Amount → Data
amounts_value amounts = array (items_of (map amount_value amounts))

abbrev pub blocker_value : BlockerValue → Data
blocker_value blocker = array (items_of (number (unsigned blocker.task) ∷ amounts_value blocker.amounts ∷ []))

abbrev pub blockers_value : List BlockerValue → Data
blockers_value blockers = array (items_of (map blocker_value blockers))

abbrev pub set_value : EventSetValue → Data
set_value set =
    object (
    member (codes "base") (amounts_value set.base) (
    member (codes "blockers") (blockers_value set.blockers) no_members))

-- what is told of evidence behind its word
abbrev pub told_value : BoundEvidence → Data
told_value (Sums Start) = number (unsigned 0)
told_value (Sums (Need task)) = number (unsigned task)
told_value (Sums (Set set)) = set_value set
told_value (Claims claims) = array (items_of (map claim_value claims))
told_value (States most) = number (unsigned most)

abbrev pub evidence_value : BoundEvidence → Data
evidence_value evidence = object (member (evidence_word evidence) (told_value evidence) no_members)

abbrev pub bounded_plan_value : BoundedPlanValue → Data
bounded_plan_value plan =
    object (
    member (codes "bound") (number (unsigned plan.bound)) (
    member (codes "evidence") (evidence_value plan.evidence) (
    member (codes "order") (array (items_of (map task_value plan.order))) (
    member (codes "peak") (number (unsigned plan.peak)) no_members))))
