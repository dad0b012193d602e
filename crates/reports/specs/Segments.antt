-- `segments`: how low memory can come within each bound, from the first state on and from the last one back, of the subtree of each node
-- or of the term at each position.
use Rattle.std.specs.Prelude.{◌≡◌, ℕ, ◌+◌, ◌-◌, ◌≤◌, List, [], ◌∷◌, ◌++◌, length, map, slice_index_or, Contains}
use Rattle.std.specs.Prelude.{codes, decimal, ◌⊎◌}
use Rattle.std.specs.List.{enumerate_from, flat_map, range_with_len}
use Rattle.limits.specs.Limits.{most_steps, word_of as limit_word}
use Rattle.limits.specs.declared.name.LimitName.TheVariants as limits
use Rattle.mp_text.specs.Report.{text_of_lines}
use Rattle.sp_terms.specs.declared.position.Position.{Position}
use Rattle.sp_terms.specs.Term.{Term, Direction, forward, backward, initial_of, final_of}
use Rattle.sp_terms.specs.Places.{term_of_position}
use Rattle.hill_valley.specs.declared.steps.Step.{Step}
use Rattle.cut_laws.specs.Standing.{IsLowestReached}
use Rattle.sp_cuts.specs.Stairs.{BothSteps, AreStairsOf, AreStairs, step_total, PassesLimit}
use Rattle.requests.specs.Request.{Input, tree_input, workflow_named, tree_named, matrix_named}
use Rattle.judging.specs.declared.status.Status.TheVariants as status
use Rattle.judging.specs.Files.{limit_refused, Answer}
use Rattle.judging.specs.Numbered.{IsNumberedTerm}

-- ---- the terms that are told

-- a term under its number, with the steps of both staircases
pub record ReportRow : Type 0 where
  pub number : ℕ
  pub term : Term
  pub steps : BothSteps

abbrev pub no_steps : BothSteps
no_steps = record { front = []; back = [] }

-- of a number and the position for which it stands
abbrev pub report_row_at : List Position → List BothSteps → ℕ × ℕ → ReportRow
report_row_at ps all p = record { number = p.0; term = term_of_position ps p.1; steps = slice_index_or all (p.1 - 1) no_steps }

abbrev pub report_rows : List Position → List BothSteps → List ℕ → List ReportRow
report_rows ps all numbered = map (report_row_at ps all) (enumerate_from 1 numbered)

-- ---- the report

-- `BOUND LEVEL` for each step
abbrev pub step_tokens : List Step → List (List ℕ)
step_tokens steps = flat_map (λ s. decimal s.bound ∷ decimal s.level ∷ []) steps

-- `NUMBER DIRECTION START`, and the steps
abbrev pub side_line : ℕ → List ℕ → ℕ → List Step → List (List ℕ)
side_line number direction start steps = decimal number ∷ direction ∷ decimal start ∷ step_tokens steps

-- a line for each direction: from the first state on, and from the last one back
abbrev pub both_lines : ℕ → ℕ → ℕ → BothSteps → List (List (List ℕ))
both_lines number initial fin steps =
    side_line number (codes "F") initial steps.front ∷ side_line number (codes "R") fin steps.back ∷ []

abbrev pub row_lines : ReportRow → List (List (List ℕ))
row_lines row = both_lines row.number (initial_of row.term) (final_of row.term) row.steps

-- `segments N`, two lines for each of them, `end`
abbrev pub segments_lines : List ReportRow → List (List (List ℕ))
segments_lines rows = (codes "segments" ∷ decimal (length rows) ∷ []) ∷ flat_map row_lines rows ++ (codes "end" ∷ []) ∷ []

abbrev pub segments_answer : List ReportRow → Answer
segments_answer rows = record { status = status.Done; text = text_of_lines (segments_lines rows) }

-- the word for the file that an input is read from
abbrev pub input_word : Input → List ℕ
input_word (tree_input (tree_named name)) = codes "tree"
input_word (tree_input (matrix_named m)) = codes "matrix"
input_word (workflow_named name) = codes "workflow"

-- the staircases of all positions have too many steps, or those of the numbered ones are told
abbrev pub IsSegmentsAnswer : Input → List Position → List ℕ → Answer → Type 0
IsSegmentsAnswer input ps numbered answer =
    (PassesLimit ps × (answer ≡ limit_refused (input_word input) (limit_word limits.Steps)))
    ⊎ ((all : List BothSteps) × AreStairs ps all × (step_total all ≤ most_steps) × (answer ≡ segments_answer (report_rows ps all numbered)))

-- the texts are those of the input's files
abbrev pub IsSegmentsOf : Input → List (List ℕ) → Answer → Type 0
IsSegmentsOf input texts answer =
    (ps : List Position) × (numbered : List ℕ) × IsNumberedTerm input texts ps numbered × IsSegmentsAnswer input ps numbered answer

-- ---- what is said of printed staircases

abbrev pub steps_in : Direction → BothSteps → List Step
steps_in forward steps = steps.front
steps_in backward steps = steps.back

-- two staircases were printed for each node of a tree, or for each position of a workflow. They say for every bound how low memory can come
-- in the term: of each printed pair the level is the memory of a state that is reached within the bound, and none that is reached
-- within it has a lower one. The texts are those of the input's files
pub record IsReached (input : Input) (texts : List (List ℕ)) (printed : List ℕ) : Type 0 where
  pub positions : List Position
  pub numbered : List ℕ
  pub is_numbered : IsNumberedTerm input texts positions numbered
  pub rows : List ReportRow
  pub many : length rows ≡ length numbered
  -- the i-th row is of the term at the i-th of these positions
  pub numbers : map (λ row. row.number) rows ≡ range_with_len 1 (length numbered)
  pub terms : map (λ row. row.term) rows ≡ map (term_of_position positions) numbered
  -- for every bound
  pub stairs : (row : ReportRow) → Contains rows row → AreStairsOf row.term row.steps
  -- of each pair
  pub pairs : (row : ReportRow) → Contains rows row → (d : Direction) (s : Step) → Contains (steps_in d row.steps) s
      → IsLowestReached d row.term (s.bound + 1) s.level
  pub printed_is : printed ≡ (segments_answer rows).text
