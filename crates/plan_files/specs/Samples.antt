-- No public clause names this.
-- Worked examples: texts of the plan of a tree of five nodes and of a plan with a priority, and files that are refused.
use Rattle.std.specs.Prelude.{◌≡◌, ℕ, ◌+◌, List, [], ◌∷◌, ◌++◌, map, Option, Some, None, codes, refl}
use Rattle.std.specs.Fmt.{decimal, digits}
use Rattle.limits.specs.Limits.{most_positions}
use Rattle.mp_text.specs.declared.layout.Layout.TheVariants.{Commented}
use Rattle.mp_text.specs.declared.refusals.Refusal.{Refusal}
use Rattle.mp_text.specs.declared.refusals.Refusal.TheVariants as refusals
use Rattle.limits.specs.declared.name.LimitName.TheVariants as limits
use Rattle.mp_text.specs.Text.{lines_of, tokens_of, number_of, number_from, signed_of, rows_from}
use Rattle.mp_text.specs.Ahead.{rows_of_bytes, past_of_bytes}
use Rattle.file_frame.specs.Words.{after_word, version_of}
use Rattle.mp_text.specs.Grammar.{fault_at, first_failure, tests_of_all}
use Rattle.plans.specs.Samples.{five, ranked}
use Rattle.plan_files.specs.PlanFile.{dir_named, stated, plan_stated, plan_format}
use Rattle.plan_files.specs.Printed.{plan_text, plan_text_2}
use Rattle.plan_files.specs.Json.{json_of}
use Rattle.plan_files.specs.declared.kind.PlanKind.{PlanKind}
use Rattle.plan_files.specs.declared.kind.PlanKind.TheVariants as kinds

-- ---- printing

pub printed : plan_text five ∷ plan_text_2 five ∷ plan_text ranked ∷ []
    ≡ codes "plan 1\norder 5\n1\n3\n2\n4\n5\npeak 11\nclaims 4\n5 R 5 5\n10 R 5 5\n11 R 10 10\n13 R 10 0\nend\n"
    ∷ codes "plan 2\norder 5\n1\n3\n2\n4\n5\npriority 0\npeak 11\nclaims 4\n5 R 5 5\n10 R 5 5\n11 R 10 10\n13 R 10 0\nend\n"
    ∷ codes "plan 2\norder 2\n1\n2\npriority 2\n2\n1\npeak 6\nclaims 1\n1 F -1 0\nend\n"
    ∷ []
unfolding digits
printed = refl

pub as_json : json_of five ∷ json_of ranked ∷ []
    ≡ codes "{\"claims\":[[5,\"R\",5,5],[10,\"R\",5,5],[11,\"R\",10,10],[13,\"R\",10,0]],\"order\":[1,3,2,4,5],\"peak\":11}"
    ∷ codes "{\"claims\":[[1,\"F\",-1,0]],\"order\":[1,2],\"peak\":6}"
    ∷ []
unfolding digits
as_json = refl

-- ---- reading

pub stated_plan : plan_stated (stated (rows_of_bytes Commented
    (codes "# two tasks\nplan 2\norder 2\n1\n2\n\npriority 2\n2\n01\npeak 6\nclaims 1\n1 F -1 0\nend"))) ≡ ranked
unfolding lines_of tokens_of number_of number_from signed_of rows_from after_word version_of dir_named stated
stated_plan = refl

-- the first test of a file's lines and of its end that fails, if one does
abbrev pub refusal_of : List ℕ → Option (Refusal PlanKind)
refusal_of bytes =
    let rows = rows_of_bytes Commented bytes in
    first_failure (tests_of_all plan_format.line_tests [] rows ++ plan_format.end_tests rows (past_of_bytes bytes))

-- a file that is read, one without its last line, a claim of three tokens, a task that is ranked twice, too many claims
pub refusals_of : map refusal_of (
    codes "plan 1\norder 1\n1\npeak 3\nclaims 1\n3 R 2 0\nend\n"
    ∷ codes "plan 1\norder 1\n1\npeak 3\nclaims 0\n"
    ∷ codes "plan 1\norder 0\npeak 3\nclaims 1\n3 R 2\nend\n"
    ∷ codes "plan 2\norder 2\n1\n2\npriority 2\n2\n2\n"
    ∷ (codes "plan 1\norder 0\npeak 0\nclaims " ++ decimal (most_positions + 1) ++ codes "\n")
    ∷ []) ≡ None ∷ Some (fault_at 6 kinds.NoEnd) ∷ Some (fault_at 5 kinds.Claim) ∷ Some (fault_at 7 kinds.Priority)
    ∷ Some (refusals.Limit limits.Positions) ∷ []
unfolding digits lines_of tokens_of number_of number_from signed_of rows_from after_word version_of dir_named stated
refusals_of = refl
