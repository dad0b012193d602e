-- No public clause names this.
-- What the reader of fence files does with a line, from what the lines before state. The format itself stands in FenceFile.antt.
use Rattle.std.specs.Prelude.{◌≡◌, ℕ, nat_lt, List, [], ◌∷◌, ◌++◌, length, codes, if◌then◌else◌, Result}
use Rattle.mp_text.specs.declared.refusals.Refusal.{Refusal}
use Rattle.mp_text.specs.Text.{Row}
use Rattle.mp_text.specs.Reading.{tested}
use Rattle.file_frame.specs.Frame.{stated_on}
use Rattle.fence_files.specs.FenceFile.{Stated, one_on, fence_on, staged_tests, end_tests_after, stated}
use Rattle.fence_files.specs.declared.kind.FenceKind.{FenceKind}
use Rattle.fence_files.specs.declared.stage.Stage.{Stage}
use Rattle.fence_files.specs.declared.stage.Stage.TheVariants as stages

-- what is stated with one line more

abbrev pub with_join : Stated → Row → Stated
with_join s row = record s { joins = s.joins ++ one_on row ∷ [] }

abbrev pub with_fence : Stated → Row → Stated
with_fence s row = record s { fences = s.fences ++ fence_on row ∷ [] }

abbrev pub with_amount : Stated → Row → Stated
with_amount s row = record s { amounts = s.amounts ++ one_on row ∷ [] }

abbrev pub fences_next : Stated → Row → Stated
fences_next s row = record s { stage = stages.Fences; count = stated_on (codes "fences") row }

abbrev pub amounts_next : Stated → Row → Stated
amounts_next s row = record s { stage = stages.Amounts; count = stated_on (codes "amounts") row }

abbrev pub staged_next : Stage → Stated → Row → Stated
staged_next stages.Header s row = record s { stage = stages.Bound }
staged_next stages.Bound s row = record s { stage = stages.Workers; bound = stated_on (codes "bound") row }
staged_next stages.Workers s row = record s { stage = stages.Room; workers = stated_on (codes "workers") row }
staged_next stages.Room s row = record s { stage = stages.JoinsSection; room = stated_on (codes "room") row }
staged_next stages.JoinsSection s row = record s { stage = stages.Joins; count = stated_on (codes "joins") row }
staged_next stages.Joins s row = if nat_lt (length s.joins) s.count then with_join s row else fences_next s row
staged_next stages.Fences s row = if nat_lt (length s.fences) s.count then with_fence s row else amounts_next s row
staged_next stages.Amounts s row = if nat_lt (length s.amounts) s.count then with_amount s row else record s { stage = stages.Ended }
staged_next stages.Ended s row = s

abbrev pub next : Stated → Row → Stated
next s row = staged_next s.stage s row

abbrev pub staged_step : Stage → Stated → Row → Result Stated (Refusal FenceKind)
staged_step stage s row = tested (staged_tests stage s row) (staged_next stage s row)

unfoldable pub fences_step : Stated → Row → Result Stated (Refusal FenceKind)
fences_step s row = staged_step s.stage s row

unfoldable pub fences_end : Stated → ℕ → Result Stated (Refusal FenceKind)
fences_end s past = tested (end_tests_after s past) s

-- the reader stands after these lines
abbrev pub took : Stated → List Row → Type 0
took s rows = s ≡ stated rows
