-- No public clause names this.
-- The text of each report and of each refusal, as docs/FORMATS.md and examples/README.md have them; and answers to some requests.
use Rattle.std.specs.Prelude.{◌≡◌, ℕ, pos, Option, Some, None, unwrap_or, List, [], ◌∷◌, ◌++◌, map, codes, refl}
use Rattle.std.specs.Fmt.{digits}
use Rattle.std.proofs.Common.{lit<, lit≤, ap, subst, inl, inr}
use Rattle.mp_text.specs.Text.{lines_of, tokens_of, rows_from}
use Rattle.file_frame.specs.Words.{after_word, version_of}
use Rattle.mp_text.specs.Report.{text_of_lines}
use Rattle.mp_text.specs.Grammar.{fault_at}
use Rattle.mp_system.specs.declared.system.OrderKind.TheVariants.{Unknown, Missing}
use Rattle.tree_files.specs.declared.kind.TreeKind.TheVariants as trees
use Rattle.tree_files.specs.TreeFile.{RefusesTree}
use Rattle.trees.specs.Samples.{five}
use Rattle.sp_terms.specs.declared.position.Position.{Position}
use Rattle.sp_terms.specs.declared.position.Position.TheVariants.{Hold}
use Rattle.sp_terms.specs.declared.position.Position.TheVariants as at
use Rattle.plans.specs.declared.claim.Direction.TheVariants.{Backward}
use Rattle.plans.specs.Plan.{PlanValue}
use Rattle.claim_check.specs.declared.shape.Shape.TheVariants as shapes
use Rattle.claim_check.specs.declared.objection.Objection.TheVariants as objections
use Rattle.claim_check.specs.declared.verdict.Verdict.TheVariants.{Yes, No}
use Rattle.sp_cuts.specs.Stairs.{BothSteps}
use Rattle.assembly_tree.specs.Samples.{node}
use Rattle.activation.specs.Machine.{phase_in, with_phase}
use Rattle.activation.specs.Samples.{setting, wide, fan}
use Rattle.judging.specs.declared.status.Status.TheVariants as status
use Rattle.requests.specs.Request.{Request, Input, check, reduce, upgrade, tree_upgrade, as_json}
use Rattle.judging.specs.Files.{Answer, format_refused, limit_refused, order_refused, bound_refused}
use Rattle.reports.specs.Replay.{peak_answer, IsReplayAnswer}
use Rattle.reports.specs.Tree.{tree_answer}
use Rattle.reports.specs.Post.{post_answer}
use Rattle.reports.specs.Check.{verdict_answer, IsCheck, IsCertified}
use Rattle.peak_bounds.specs.declared.evidence.BlockerTest.TheVariants as tests
use Rattle.peak_bounds.specs.declared.evidence.Evidence.TheVariants.{Start, Need}
use Rattle.peak_bounds.specs.declared.evidence.Objection.TheVariants as objections_to_sums
use Rattle.bound_check.specs.declared.objection.BoundObjection.TheVariants as against
use Rattle.state_search.specs.declared.judging.StatesObjection.TheVariants as objections_to_states
use Rattle.bound_check.specs.declared.verdict.BoundVerdict.TheVariants as verdicts
use Rattle.reports.specs.Bound.{bound_answer}
use Rattle.reports.specs.CheckGraph.{bound_verdict_answer}
use Rattle.reports.specs.Plan.{plan_answer}
use Rattle.reports.specs.Simulate.{simulation_answer, setting_of, IsSimulation}
use Rattle.reports.specs.Spill.{spill_answer, working_set_refused}
use Rattle.reports.specs.SpilledGaps.{gap_answer}
use Rattle.reports.specs.Segments.{no_steps, report_rows, segments_answer}
use Rattle.judging.specs.Numbered.{node_positions}
use Rattle.reports.specs.Reduce.{rest_answer, arcs_answer, item_lines, too_many_lines, HasIrreducibleRest, IsReducedItems}
use Rattle.reports.specs.Fronts.{fronts_answer}
use Rattle.reports.specs.Demo.{demo_lines}
use Rattle.reports.specs.Upgrade.{upgrade_answer, tree_value}
use Rattle.reports.specs.Reports.{IsAnswer}
use Rattle.reports.specs.Promises.{Says, done_answer as done}
use Rattle.reports.specs.Clauses.{IsAnswered}
use Rattle.reports.specs.Samples.Graphs.{bridge}
use Rattle.reports.specs.Samples.Plans.{system, positions, plan, claims, is_not_cut, yes_to_the_plan, another_peak}
use Rattle.reports.specs.Samples.Plans.{nothing_is_a_shared_traversal}
use Rattle.shared_systems.specs.OneReader.{shared_of}

-- ---- reports

abbrev pub no : List ℕ → Answer
no text = record { status = status.No; text = text }

-- the bound of README's tree as a graph by what its root reads, beside an order and alone
pub bound_lines :
    bound_answer (Some 15) 10 (Need 5) ∷ bound_answer None 0 Start ∷ []
    ≡ done (codes "peak 15\nbound 10\nneed 5\nend\n") ∷ done (codes "bound 0\nneed 0\nend\n") ∷ []
unfolding digits
bound_lines = refl

pub bound_verdict_lines :
    map bound_verdict_answer
    (verdicts.Least 11 ∷ verdicts.Above 15 10
    ∷ verdicts.No (against.Sums (objections_to_sums.Blocker tests.Level 2))
    ∷ verdicts.No (against.States objections_to_states.Many)
    ∷ verdicts.No against.NoTerm
    ∷ [])
    ≡ done (codes "yes 11 least\n") ∷ done (codes "yes 15 above 10\n") ∷ no (codes "no blocker 2 level\n") ∷ no (codes "no states many\n")
    ∷ no (codes "no term\n") ∷ []
unfolding digits
bound_verdict_lines = refl

pub peak_line : peak_answer 11 ≡ done (codes "peak 11\n")
unfolding digits
peak_line = refl

-- the fronts of the arrow
pub tree_lines :
    tree_answer (node 3 1 2 0 1 ∷ node 3 1 2 0 1 ∷ node 0 0 3 0 2 ∷ [])
    ≡ done (codes "tree 1\nnodes 3\n3 1 2 1\n3 1 2 1\n0 0 3 2\nend\n")
unfolding digits
tree_lines = refl

pub post_lines : post_answer 15 (1 ∷ 2 ∷ 3 ∷ 4 ∷ 5 ∷ []) ≡ done (codes "peak 15\norder 5\n1\n2\n3\n4\n5\nend\n")
unfolding digits
post_lines = refl

pub yes_line : verdict_answer (Yes 11) ≡ done (codes "yes 11\n")
unfolding digits
yes_line = refl

-- the plan of one task
abbrev pub one_plan : PlanValue
one_plan = record { order = 1 ∷ []; peak = 9; claims = record { position = 3; dir = Backward; bound = pos 8; rest = 7 } ∷ []; priority = [] }

pub json_line : plan_answer as_json one_plan ≡ done (codes "{\"claims\":[[3,\"R\",8,7]],\"order\":[1],\"peak\":9}\n")
unfolding digits
json_line = refl

-- both leaves at once, on two workers
pub run_lines : simulation_answer (setting 22 2) wide
    ≡ done (codes "makespan 3\nused 20\nbooked 20\nevents 15\n0 activate 1\n0 activate 3\n0 start 1\n0 start 3\n1 finish 1\n1 finish 3\n"
    ++ codes "1 activate 2\n1 activate 4\n1 activate 5\n1 start 2\n1 start 4\n2 finish 2\n2 finish 4\n2 start 5\n3 finish 5\nend\n")
unfolding digits phase_in with_phase
run_lines = refl

-- 4 of the second item; only what is spilled is told
pub spill_lines : spill_answer 4 (0 ∷ 4 ∷ 0 ∷ 0 ∷ 0 ∷ []) ≡ done (codes "volume 4\nitems 1\n2 4\nend\n")
unfolding digits
spill_lines = refl

-- 3 of the first item while it waits for task 3, of the gaps of a system in which three tasks read it
pub gap_lines_of_a_fan : gap_answer fan 3 (0 ∷ 3 ∷ 0 ∷ 0 ∷ 0 ∷ 0 ∷ 0 ∷ []) ≡ done (codes "volume 3\ngaps 1\n1 3 3\nend\n")
unfolding digits
gap_lines_of_a_fan = refl

-- a node that needs 9 and leaves 7: back from its end memory comes down to 0 within 9
abbrev pub one_term : List Position
one_term = Hold 0 ∷ Hold 7 ∷ at.Task 2 0 1 ∷ []

abbrev pub falls : BothSteps
falls = record { front = []; back = record { bound = 9; level = 0 } ∷ [] }

pub segments_lines :
    segments_answer (report_rows one_term (no_steps ∷ no_steps ∷ falls ∷ []) (node_positions (1 ∷ []) one_term))
    ≡ done (codes "segments 1\n1 F 0\n1 R 7 9 0\nend\n")
unfolding digits
segments_lines = refl

pub fronts_lines : fronts_answer ((1 ∷ 2 ∷ []) ∷ (3 ∷ []) ∷ []) 4 ((1 ∷ 3 ∷ []) ∷ (2 ∷ 3 ∷ []) ∷ (3 ∷ 4 ∷ []) ∷ [])
    ≡ done (codes "fronts 3\nrounds 2\nused 4\n1 2\n3\n1 3\n2 3\n3 4\nend\n")
unfolding digits
fronts_lines = refl

pub grid_lines : text_of_lines (demo_lines (codes "grid") 2 5 9 (Some 9) (codes "yes"))
    ≡ codes "demo grid\ntasks 2\npositions 5\npeak 9\npostorder 9\ncheck yes\nend\n"
unfolding digits
grid_lines = refl

pub upgraded_lines : upgrade_answer (tree_value five)
    ≡ done (codes "tree 2\nnodes 5\n2 1 9 0 1\n5 5 0 0 1\n4 1 9 0 1\n5 5 0 0 1\n0 0 0 0 1\nend\n")
unfolding digits
upgraded_lines = refl

-- ---- refusals, and what is said against an order or a plan

pub objection_lines :
    map (λ o. verdict_answer (No o))
    (objections.Order (record { place = 5; kind = Unknown }) ∷ objections.Peak 15 11 ∷
    objections.Root 13 ∷ objections.Claim 5 shapes.Series ∷ [])
    ≡ map (λ text. record { status = status.No; text = text })
    (codes "no order 5 unknown\n" ∷ codes "no peak 15 11\n" ∷ codes "no root 13\n" ∷ codes "no claim 5 series\n" ∷ [])
unfolding digits
objection_lines = refl

pub refused_lines :
    format_refused (codes "tree") (codes "cycle") 3 ∷ limit_refused (codes "tree") (codes "steps") ∷ order_refused 3 Missing
    ∷ bound_refused 10 11 ∷ working_set_refused 1 10 9 ∷ rest_answer bridge ∷ []
    ≡ record { status = status.Format; text = codes "refused format tree cycle 3\n" }
    ∷ record { status = status.Limit; text = codes "refused limit tree steps\n" }
    ∷ record { status = status.No; text = codes "no order 3 missing\n" }
    ∷ record { status = status.Bound; text = codes "refused bound 10 11\n" }
    ∷ record { status = status.WorkingSet; text = codes "refused working-set 1 10 9\n" }
    ∷ record { status = status.NotSeriesParallel; text = codes "refused graph rest 7\n0 1\n1 2\n1 3\n2 3\n2 4\n3 4\n4 0\nend\n" } ∷ []
unfolding digits
refused_lines = refl

-- why graphs of version 2 have no term
pub refused_items :
    arcs_answer (codes "uses") ((0, 3) ∷ (3, 0) ∷ [])
    ≡ record { status = status.NotSeriesParallel; text = codes "refused graph uses 2\n0 3\n3 0\nend\n" }
unfolding digits
refused_items = refl

pub refused_items_in_a_line :
    text_of_lines (item_lines 1) ∷ text_of_lines too_many_lines ∷ [] ≡ codes "refused graph item 1\n" ∷ codes "refused graph arcs\n" ∷ []
unfolding digits
refused_items_in_a_line = refl

-- ---- answers: over one item of data of size 3, which has no task

pub replayed : IsReplayAnswer (shared_of system) [] (peak_answer 3)
replayed = inl (nothing_is_a_shared_traversal, refl)

pub replayed_without_task_1 : IsReplayAnswer (shared_of system) (1 ∷ []) (order_refused 1 Unknown)
replayed_without_task_1 = inr (1, Unknown, refl, refl)

pub checked : IsCheck system positions (plan claims [] 3) (verdict_answer (Yes 3))
checked = (Yes 3, yes_to_the_plan, refl)

pub checked_with_another_peak : IsCheck system positions (plan claims [] 4) (verdict_answer (No (objections.Peak 3 4)))
checked_with_another_peak = (No (objections.Peak 3 4), another_peak, refl)

pub simulated_within_2 :
    IsSimulation (setting_of (shared_of system) [] (record { bound = 2; workers = 1; priority = None })) [] (bound_refused 2 3)
simulated_within_2 = inr (inl (nothing_is_a_shared_traversal, lit< tt, refl))

-- ---- a whole answer: of `upgrade --tree t`, where `t` is a tree file of version 3, of which there is none

abbrev pub version_3 : List ℕ
version_3 = codes "tree 3"

abbrev pub refused : Answer
refused = format_refused (codes "tree") (codes "header") 1

pub line_1_fails : RefusesTree version_3 (fault_at 1 trees.Header)
unfolding lines_of tokens_of rows_from after_word version_of
line_1_fails = inl (inl (record {
  before = [];
  row = record { number = 1; tokens = codes "tree" ∷ codes "3" ∷ [] };
  after = [];
  split = refl;
  passed = λ before after row same. absurd (is_not_cut before after row same);
  fails = refl;
}))

abbrev pub asked : Request
asked = upgrade (tree_upgrade (codes "t"))

pub is_refused : IsAnswer asked (version_3 ∷ []) refused
is_refused = inl (inl (inr (lit≤ tt, (fault_at 1 trees.Header, line_1_fails, refl))))

-- where every file tells this text, the clause of the top call holds of what is written
abbrev pub told : List ℕ → Option (List ℕ)
told name = Some version_3

pub is_answered : IsAnswered told asked status.Format (Some []) (Some refused.text)
is_answered [] none = absurd none
is_answered (text ∷ []) tells =
    subst (λ text. (answer : Answer) × IsAnswer asked (text ∷ []) answer ×
    ((answer.status ≡ status.Format) × (refused.text ≡ [] ++ answer.text)))
    (ap (λ o. unwrap_or o []) (tells.0)) (refused, is_refused, (refl, refl))
is_answered (text ∷ more ∷ texts) tells = absurd (tells.1)

-- ---- promises: what a line says at the status of which it speaks

-- the first lines of graphs
abbrev pub version_1 : List ℕ
version_1 = codes "graph 1\n"

abbrev pub version_2 : List ℕ
version_2 = codes "graph 2\n"

pub a_yes_certifies : (input : Input) (plan : List ℕ) (workers : ℕ) (texts : List (List ℕ)) (printed : List ℕ)
    → Says (check input plan workers) texts status.Done printed → IsCertified input texts printed
a_yes_certifies input plan workers texts printed says = says refl

pub a_rest_has_no_term : (name : List ℕ) (printed : List ℕ)
    → Says (reduce name) (version_1 ∷ []) status.NotSeriesParallel printed → HasIrreducibleRest (version_1 ∷ []) printed
unfolding lines_of tokens_of rows_from after_word version_of
a_rest_has_no_term name printed says = says.1 refl

pub a_term_tells_all_orders : (name : List ℕ) (printed : List ℕ)
    → Says (reduce name) (version_2 ∷ []) status.Done printed → IsReducedItems (version_2 ∷ []) printed
unfolding lines_of tokens_of rows_from after_word version_of
a_term_tells_all_orders name printed says = says.0 refl
