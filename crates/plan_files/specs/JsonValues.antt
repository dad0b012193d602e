-- A claim and a plan as values of JSON: what each sends to a writer of `serde`, of whatever format.
use Rattle.std.specs.Prelude.{ℕ, [], ◌∷◌, map, codes}
use Rattle.serde_json.specs.Data.{Data, array, object, number, unsigned, negative, string, member, no_members}
use Rattle.serde_json.specs.View.{items_of}
use Rattle.plans.specs.Plan.{PlanValue}
use Rattle.plan_files.specs.Printed.{dir_word}
use Rattle.plans.specs.declared.claim.Claim.{Claim}

-- a bound is sent as a signed number, also where it is not negative
abbrev pub claim_value : Claim → Data
claim_value c =
    array (items_of
    (number (unsigned c.position) ∷ string (dir_word c.dir) ∷ number (negative c.bound) ∷ number (unsigned c.rest) ∷ []))

abbrev pub task_value : ℕ → Data
task_value task = number (unsigned task)

abbrev pub plan_value : PlanValue → Data
plan_value plan = object (
    member (codes "claims") (array (items_of (map claim_value plan.claims))) (
    member (codes "order") (array (items_of (map task_value plan.order))) (
    member (codes "peak") (number (unsigned plan.peak)) no_members)))
