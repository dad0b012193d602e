-- No public clause names this.
-- Worked examples: the plan of a tree of five nodes with a set of two blockers as its evidence, and files that are refused.
use Rattle.std.specs.Prelude.{◌≡◌, ℕ, List, [], ◌∷◌, ◌++◌, map, Option, Some, None, codes, refl}
use Rattle.std.specs.Fmt.{decimal, digits}
use Rattle.limits.specs.Limits.{most_positions}
use Rattle.limits.specs.declared.name.LimitName.TheVariants as limits
use Rattle.mp_text.specs.declared.layout.Layout.TheVariants.{Commented}
use Rattle.mp_text.specs.declared.refusals.Refusal.{Refusal}
use Rattle.mp_text.specs.declared.refusals.Refusal.TheVariants as refusals
use Rattle.mp_text.specs.Text.{lines_of, tokens_of, number_of, number_from, signed_of, rows_from}
use Rattle.mp_text.specs.Ahead.{rows_of_bytes, past_of_bytes}
use Rattle.mp_text.specs.Grammar.{fault_at, first_failure, tests_of_all}
use Rattle.file_frame.specs.Words.{after_word}
use Rattle.plan_files.specs.PlanFile.{dir_named}
use Rattle.plan_files.specs.declared.kind.PlanKind.{PlanKind}
use Rattle.plan_files.specs.declared.kind.PlanKind.TheVariants as kinds
use Rattle.peak_bounds.specs.Samples.{leaves}
use Rattle.peak_bounds.specs.declared.evidence.Evidence.TheVariants.{Start, Need, Set}
use Rattle.bounded_plans.specs.BoundedPlan.{BoundedPlanValue}
use Rattle.bounded_plans.specs.declared.evidence.BoundEvidence.TheVariants.{Sums, States}
use Rattle.bounded_plan_files.specs.BoundedPlanFile.{sort_named, stated, plan_stated, bounded_plan_format}
use Rattle.bounded_plan_files.specs.Printed.{bounded_plan_text, bound_text}
use Rattle.bounded_plan_files.specs.Json.{evidence_json, bounded_json_of}

-- one of the leaves starts last, and then the memory is 11; the task that reads most needs 10
abbrev pub five : BoundedPlanValue
five = record { order = 1 ∷ 3 ∷ 2 ∷ 4 ∷ 5 ∷ []; peak = 11; bound = 11; evidence = Sums (Set leaves) }

-- ---- printing

pub printed : bounded_plan_text five
    ≡ codes "plan 3\norder 5\n1\n3\n2\n4\n5\npeak 11\n"
    ++ codes "bound 11\nlast 2\nbase 2\n1 1\n2 1\nblocker 1 4\n1 0\n2 0\n3 1\n4 1\nblocker 3 0\nend\n"
unfolding digits
printed = refl

pub printed_need : bound_text 10 (Sums (Need 5)) ≡ codes "bound 10\nneed 5\nend\n"
unfolding digits
printed_need = refl

pub printed_start : bound_text 0 (Sums Start) ≡ codes "bound 0\nneed 0\nend\n"
unfolding digits
printed_start = refl

pub printed_states : bound_text 12 (States 7) ≡ codes "bound 12\nstates 7\nend\n"
unfolding digits
printed_states = refl

pub json : bounded_json_of five
    ≡ codes "{\"bound\":11,\"evidence\":{\"last\":{\"base\":[[1,1],[2,1]],\"blockers\":[[1,[[1,0],[2,0],[3,1],[4,1]]],[3,[]]]}},"
    ++ codes "\"order\":[1,3,2,4,5],\"peak\":11}"
unfolding digits
json = refl

pub json_states : evidence_json (States 7) ≡ codes "{\"states\":7}"
unfolding digits
json_states = refl

-- ---- reading

pub stated_plan : plan_stated (stated (rows_of_bytes Commented (
    codes "plan 3\norder 5\n1\n3\n2\n4\n5\npeak 11\n# by the leaves\nbound 11\nlast 2\nbase 2\n1 1\n2 1\n"
    ++ codes "blocker 1 4\n1 0\n2 -0\n3 01\n4 1\nblocker 3 0\nend"))) ≡ five
unfolding lines_of tokens_of number_of number_from signed_of rows_from after_word sort_named stated
stated_plan = refl

-- a file with this after the peak
abbrev pub bounded : List ℕ → List ℕ
bounded rest = codes "plan 3\norder 0\npeak 0\n" ++ rest

-- a plan of no tasks: its bound is what is there at the start
pub stated_start : plan_stated (stated (rows_of_bytes Commented (bounded (codes "bound 7\nneed 0\nend\n"))))
    ≡ record { order = []; peak = 0; bound = 7; evidence = Sums Start }
unfolding lines_of tokens_of number_of number_from rows_from after_word sort_named stated
stated_start = refl

pub stated_states : plan_stated (stated (rows_of_bytes Commented (bounded (codes "bound 7\nstates 12\nend\n"))))
    ≡ record { order = []; peak = 0; bound = 7; evidence = States 12 }
unfolding lines_of tokens_of number_of number_from rows_from after_word sort_named stated
stated_states = refl

-- the first test of a file's lines and of its end that fails, if one does
abbrev pub refusal_of : List ℕ → Option (Refusal PlanKind)
refusal_of bytes =
    let rows = rows_of_bytes Commented bytes in
    first_failure (tests_of_all bounded_plan_format.line_tests [] rows ++ bounded_plan_format.end_tests rows (past_of_bytes bytes))

-- files that are read; another version; no evidence; no end; states without a number, with a word for it, too many, and said twice; places that
-- do not rise; a blocker too few and one too many; a claim of three tokens; amounts past the limit
pub read_of : map refusal_of (
    bounded (codes "bound 0\nneed 1\nend\n")
    ∷ bounded (codes "bound 0\nstates 4294967295\nend\n")
    ∷ bounded (codes "bound 0\nclaims 1\n3 R 2 0\nend\n")
    ∷ bounded (codes "bound 0\nfirst 1\nbase 1\n7 -5\nblocker 2 1\n7 5\nend\n")
    ∷ []) ≡ None ∷ None ∷ None ∷ None ∷ []
unfolding lines_of tokens_of number_of number_from signed_of rows_from after_word sort_named dir_named stated
read_of = refl

pub refusals_of : map refusal_of (
    codes "plan 2\n"
    ∷ bounded (codes "bound 0\nsome 1\n")
    ∷ bounded (codes "bound 0\nneed 1\n")
    ∷ bounded (codes "bound 0\nstates\n")
    ∷ bounded (codes "bound 0\nstates x\n")
    ∷ bounded (codes "bound 0\nstates 4294967296\n")
    ∷ bounded (codes "bound 0\nstates 7\nstates 7\n")
    ∷ bounded (codes "bound 0\nfirst 0\nbase 2\n2 1\n2 1\n")
    ∷ bounded (codes "bound 0\nlast 1\nbase 0\nend\n")
    ∷ bounded (codes "bound 0\nlast 0\nbase 0\nblocker 1 0\n")
    ∷ bounded (codes "bound 0\nclaims 1\n3 R 2\n")
    ∷ (bounded (codes "bound 0\nlast 1\nbase 1\n1 1\nblocker 1 ") ++ decimal most_positions ++ codes "\n")
    ∷ []) ≡ Some (fault_at 1 kinds.Header) ∷ Some (fault_at 5 kinds.Section) ∷ Some (fault_at 6 kinds.NoEnd)
    ∷ Some (fault_at 5 kinds.Section) ∷ Some (fault_at 5 kinds.Number) ∷ Some (fault_at 5 kinds.Number)
    ∷ Some (fault_at 6 kinds.NoEnd)
    ∷ Some (fault_at 8 kinds.Amount) ∷ Some (fault_at 7 kinds.Section) ∷ Some (fault_at 7 kinds.NoEnd)
    ∷ Some (fault_at 6 kinds.Claim) ∷ Some (refusals.Limit limits.Positions) ∷ []
unfolding digits lines_of tokens_of number_of number_from signed_of rows_from after_word sort_named dir_named stated
refusals_of = refl
