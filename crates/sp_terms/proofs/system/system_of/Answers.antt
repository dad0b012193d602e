use Rattle.std.proofs.Common.{arith, ap, ◌∙◌, List, length, ◌≤◌}
use Rattle.std.specs.Prelude.{None}
use Rattle.limits.specs.Limits.{most_tasks}
use Rattle.sp_terms.specs.declared.position.Position.{Position}
use Rattle.sp_terms.specs.SystemOfTerm.{task_count, tasks_of_term, items_of_term}
use Rattle.sp_terms.specs.Values.{term_of}
use Rattle.sp_terms.specs.Pending.{tasks_in}
use Rattle.sp_terms.proofs.SystemLemmas.{is_system, tasks-of, length-tasks}
use Rattle.sp_terms.proofs.system.system_of.Goals as goal

pub overflow_cast-len : goal.overflow_cast-len
overflow_cast-len c =
    let few : length (tasks_of_term (term_of c.args.terms.now)) ≤ most_tasks =
    (is_system c.args.terms.now c.positions-positions.ensures.terms).few_tasks in
    let same = ap length c.in_ok-tasks.ensures in
    let as_terms = ap (λ (l : List Position). length (tasks_in l)) c.positions-positions.ensures.value in
    let as_tasks = ap length (tasks-of c.args.terms.now c.positions-positions.ensures.terms) in
    omega (arith, few, same, as_terms, as_tasks, c.len.ensures, c.in_ok-tasks.tasks.ok.0)

pub items_of-requires-clause-tasks : goal.items_of-requires-clause-tasks
items_of-requires-clause-tasks c =
    let same = ap length c.in_ok-tasks.ensures in
    let as_terms = ap (λ (l : List Position). length (tasks_in l)) c.positions-positions.ensures.value in
    let as_tasks = ap length (tasks-of c.args.terms.now c.positions-positions.ensures.terms) in
    let w = length-tasks (term_of c.args.terms.now) in
    let as_width = ap (λ (l : List Position). task_count (term_of l)) c.positions-positions.ensures.value in
    omega (arith, same, as_terms, as_tasks, w, as_width, c.len.ensures, c.in_ok-tasks.tasks.ok.0)

pub new-requires : goal.new-requires
new-requires c =
    let tasks_is = c.in_ok-tasks.ensures ∙ ap tasks_in c.positions-positions.ensures.value
    ∙ tasks-of c.args.terms.now c.positions-positions.ensures.terms in
    let items_is =
    c.in_ok-items.ensures ∙ ap (λ (l : List Position). items_of_term 1 None None (term_of l)) c.positions-positions.ensures.value in
    rw (tasks_is, items_is) (is_system c.args.terms.now c.positions-positions.ensures.terms)

pub returns : goal.returns
returns c =
    let tasks_is = c.in_ok-tasks.ensures ∙ ap tasks_in c.positions-positions.ensures.value
    ∙ tasks-of c.args.terms.now c.positions-positions.ensures.terms in
    let items_is =
    c.in_ok-items.ensures ∙ ap (λ (l : List Position). items_of_term 1 None None (term_of l)) c.positions-positions.ensures.value in
    c.new.ensures ∙ (λ i. record { tasks = tasks_is i; items = items_is i })
