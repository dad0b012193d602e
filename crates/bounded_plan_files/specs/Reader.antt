-- No public clause names this.
-- What the reader of plan files of version 3 does with a line, from what is stated by the lines before. The format itself stands in
-- BoundedPlanFile.antt.
use Rattle.std.specs.Prelude.{◌≡◌, ◌==◌, ℕ, nat_lt, List, [], ◌∷◌, ◌++◌, length, codes, if◌then◌else◌, Result}
use Rattle.mp_text.specs.declared.refusals.Refusal.{Refusal}
use Rattle.mp_text.specs.Text.{Row}
use Rattle.mp_text.specs.Reading.{tested}
use Rattle.file_frame.specs.Frame.{stated_on}
use Rattle.plan_files.specs.declared.kind.PlanKind.{PlanKind}
use Rattle.plan_files.specs.PlanFile.{task_on, claim_on}
use Rattle.bounded_plan_files.specs.BoundedPlanFile.{Stated, stated, sort_on, amount_on, blockers_at, with_blocker}
use Rattle.bounded_plan_files.specs.BoundedPlanFile.{staged_tests, end_tests_after}
use Rattle.bounded_plan_files.specs.declared.sort.Sort.{Sort}
use Rattle.bounded_plan_files.specs.declared.sort.Sort.TheVariants as sorts
use Rattle.bounded_plan_files.specs.declared.stage.Stage.{Stage}
use Rattle.bounded_plan_files.specs.declared.stage.Stage.TheVariants as stages

-- what is stated with one line more

abbrev pub with_task : Stated → Row → Stated
with_task s row = record s { order = s.order ++ task_on row ∷ [] }

abbrev pub peak_next : Stated → Row → Stated
peak_next s row = record s { stage = stages.Bound; peak = stated_on (codes "peak") row }

abbrev pub sort_next : Sort → Stated → Row → Stated
sort_next sorts.Need s row = record s { stage = stages.End; sort = sorts.Need; task = stated_on (codes "need") row }
sort_next sorts.First s row = record s { stage = stages.BaseSection; sort = sorts.First; left = stated_on (codes "first") row }
sort_next sorts.Last s row = record s { stage = stages.BaseSection; sort = sorts.Last; left = stated_on (codes "last") row }
sort_next sorts.Claims s row = record s { stage = stages.Claims; sort = sorts.Claims; count = stated_on (codes "claims") row; claims = [] }
sort_next sorts.States s row = record s { stage = stages.End; sort = sorts.States; states = stated_on (codes "states") row }

abbrev pub with_claim : Stated → Row → Stated
with_claim s row = record s { claims = s.claims ++ claim_on row ∷ [] }

abbrev pub base_next : Stated → Row → Stated
base_next s row =
    let count = stated_on (codes "base") row in
    record s { stage = stages.Base; count = count; uses = count; base = [] }

abbrev pub with_base_amount : Stated → Row → Stated
with_base_amount s row = record s { base = s.base ++ amount_on row ∷ [] }

abbrev pub with_own_amount : Stated → Row → Stated
with_own_amount s row = record s { own = s.own ++ amount_on row ∷ [] }

abbrev pub set_ended : Stated → Stated
set_ended s = record s { stage = stages.Ended; own = []; blockers = blockers_at s.stage s }

abbrev pub after_amounts : Stated → Row → Stated
after_amounts s row = if s.left == 0 then set_ended s else with_blocker s row []

abbrev pub staged_next : Stage → Stated → Row → Stated
staged_next stages.Header s row = record s { stage = stages.OrderSection }
staged_next stages.OrderSection s row = record s { stage = stages.Order; count = stated_on (codes "order") row; order = [] }
staged_next stages.Order s row = if nat_lt (length s.order) s.count then with_task s row else peak_next s row
staged_next stages.Bound s row = record s { stage = stages.Evidence; bound = stated_on (codes "bound") row }
staged_next stages.Evidence s row = sort_next (sort_on row) s row
staged_next stages.Claims s row = if nat_lt (length s.claims) s.count then with_claim s row else record s { stage = stages.Ended }
staged_next stages.BaseSection s row = base_next s row
staged_next stages.Base s row = if nat_lt (length s.base) s.count then with_base_amount s row else after_amounts s row
staged_next stages.Own s row = if nat_lt (length s.own) s.count then with_own_amount s row else after_amounts s row
staged_next stages.End s row = record s { stage = stages.Ended }
staged_next stages.Ended s row = s

abbrev pub next : Stated → Row → Stated
next s row = staged_next s.stage s row

abbrev pub staged_step : Stage → Stated → Row → Result Stated (Refusal PlanKind)
staged_step stage s row = tested (staged_tests stage s row) (staged_next stage s row)

unfoldable pub plan_step : Stated → Row → Result Stated (Refusal PlanKind)
plan_step s row = staged_step s.stage s row

unfoldable pub plan_end : Stated → ℕ → Result Stated (Refusal PlanKind)
plan_end s past = tested (end_tests_after s past) s

-- the reader stands after these lines
abbrev pub took : Stated → List Row → Type 0
took s rows = s ≡ stated rows
