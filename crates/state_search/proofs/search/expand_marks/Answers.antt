use Rattle.std.proofs.Common.{ℕ, Bool, List, length, sym, ap, ◌∙◌}
use Rattle.mp_system.specs.Memory.{stands_in}
use Rattle.state_search.proofs.Keeping.{row_looked}
use Rattle.state_search.proofs.LastTasks.{step_can}
use Rattle.state_search.proofs.TaskMarks.{mark_inside}
use Rattle.state_search.proofs.Looked.{is_start, is_no_start, looked_length, last_parts}
use Rattle.state_search.proofs.search.expand_marks.Goals as goal

pub returns-then-not-is_any_marked-clause-start : goal.returns-then-not-is_any_marked-clause-start
returns-then-not-is_any_marked-clause-start c = λ e.
    let system = c.args.system.now in
    let len = ap (λ (m : List Bool). length m) c.requires.marks
    ∙ looked_length system c.args.bound (row_looked system c.args.bound c.args.search.now.states c.requires.looked c.args.place c.requires.inside) in
    is_start system c.args.bound c.args.marks.now len (sym c.is_any_marked.ensures ∙ c.if-not-is_any_marked.true)

pub last_of-requires-clause-len : goal.last_of-requires-clause-len
last_of-requires-clause-len c =
    let system = c.args.system.now in
    ap (λ (m : List Bool). length m) c.requires.marks
    ∙ looked_length system c.args.bound (row_looked system c.args.bound c.args.search.now.states c.requires.looked c.args.place c.requires.inside)

pub follow-requires-clause-tasks : goal.follow-requires-clause-tasks
follow-requires-clause-tasks c = λ v e.
    let system = c.args.system.now in
    let marks = c.args.marks.now in
    let step = (c.in_ok-steps.ensures v).0 (ap (λ (l : List ℕ). stands_in l v) (sym c.deref.ensures.value) ∙ e) in
    let done = (last_parts system c.args.bound marks v (step_can system c.args.bound marks v step)).done in
    let inside = mark_inside marks v done in
    (inside.0, inside.1, done)

pub returns-clause-looked : goal.returns-clause-looked
returns-clause-looked c =
    c.in_ok-follow.ensures.looked c.args.system.now c.args.bound c.requires.looked
    (λ v e. (c.in_ok-steps.ensures v).0 (ap (λ (l : List ℕ). stands_in l v) (sym c.deref.ensures.value) ∙ e))

pub returns-clause-followed : goal.returns-clause-followed
returns-clause-followed c = λ e few.
    let system = c.args.system.now in
    let len = ap (λ (m : List Bool). length m) c.requires.marks
    ∙ looked_length system c.args.bound (row_looked system c.args.bound c.args.search.now.states c.requires.looked c.args.place c.requires.inside) in
    record {
      not_start = is_no_start system c.args.bound c.args.marks.now len (sym c.is_any_marked.ensures ∙ c.if-not-is_any_marked.false);
      followed = λ v step. c.in_ok-follow.ensures.kept few v (ap (λ (l : List ℕ). stands_in l v) c.deref.ensures.value ∙ (c.in_ok-steps.ensures v).1 step);
    }
