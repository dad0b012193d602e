-- No public clause names this.
-- What the reader of plan files does with a line, from what the lines before state. The format itself stands in PlanFile.antt.
use Rattle.std.specs.Prelude.{◌≡◌, ℕ, nat_lt, List, [], ◌∷◌, ◌++◌, length, codes, if◌then◌else◌, Result}
use Rattle.mp_text.specs.declared.refusals.Refusal.{Refusal}
use Rattle.mp_text.specs.Text.{Row}
use Rattle.file_frame.specs.declared.version.Version.{Version}
use Rattle.file_frame.specs.declared.version.Version.TheVariants.{One, Two}
use Rattle.mp_text.specs.Reading.{tested}
use Rattle.plan_files.specs.PlanFile.{Stated, plan_version, task_on, claim_on, staged_tests, end_tests_after, stated}
use Rattle.plan_files.specs.declared.kind.PlanKind.{PlanKind}
use Rattle.plan_files.specs.declared.stage.Stage.{Stage}
use Rattle.plan_files.specs.declared.stage.Stage.TheVariants as stages
use Rattle.file_frame.specs.Frame.{stated_on}

-- what is stated with one line more

abbrev pub peak_next : Stated → Row → Stated
peak_next s row = record s { stage = stages.ClaimsSection; peak = stated_on (codes "peak") row }

abbrev pub ranks_next : Stated → Row → Stated
ranks_next s row = record s { stage = stages.Priority; tasks = s.count; count = stated_on (codes "priority") row; priority = [] }

abbrev pub after_order_next : Version → Stated → Row → Stated
after_order_next One s row = peak_next s row
after_order_next Two s row = ranks_next s row

abbrev pub with_task : Stated → Row → Stated
with_task s row = record s { order = s.order ++ task_on row ∷ [] }

abbrev pub with_rank : Stated → Row → Stated
with_rank s row = record s { priority = s.priority ++ task_on row ∷ [] }

abbrev pub with_claim : Stated → Row → Stated
with_claim s row = record s { claims = s.claims ++ claim_on row ∷ [] }

abbrev pub staged_next : Stage → Stated → Row → Stated
staged_next stages.Header s row = record s { stage = stages.OrderSection; version = plan_version row }
staged_next stages.OrderSection s row = record s { stage = stages.Order; count = stated_on (codes "order") row }
staged_next stages.Order s row = if nat_lt (length s.order) s.count then with_task s row else after_order_next s.version s row
staged_next stages.Priority s row = if nat_lt (length s.priority) s.count then with_rank s row else peak_next s row
staged_next stages.ClaimsSection s row = record s { stage = stages.Claims; count = stated_on (codes "claims") row }
staged_next stages.Claims s row = if nat_lt (length s.claims) s.count then with_claim s row else record s { stage = stages.Ended }
staged_next stages.Ended s row = s

abbrev pub next : Stated → Row → Stated
next s row = staged_next s.stage s row

abbrev pub staged_step : Stage → Stated → Row → Result Stated (Refusal PlanKind)
staged_step stage s row = tested (staged_tests stage s row) (staged_next stage s row)

unfoldable pub plan_step : Stated → Row → Result Stated (Refusal PlanKind)
plan_step s row = staged_step s.stage s row

unfoldable pub plan_end : Stated → ℕ → Result Stated (Refusal PlanKind)
plan_end s past = tested (end_tests_after s past) s

-- the reader stands after these lines
abbrev pub took : Stated → List Row → Type 0
took s rows = s ≡ stated rows
