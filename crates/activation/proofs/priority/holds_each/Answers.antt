use Rattle.std.proofs.Common.{◌≡◌, ◌-◌, false, get_or, length, sym, ◌∙◌, arith, rules}
use Rattle.std.proofs.lemmas.Bool.{true≢false, false≢true}
use Rattle.std.proofs.lemmas.List.{get_or_read}
use Rattle.shared_systems.specs.Shared.{HasTask}
use Rattle.activation.proofs.Priorities.{one_marked, holds_a_task, holds_none_twice, each_held, all_found}
use Rattle.activation.proofs.priority.holds_each.Goals as goal
use Rattle.activation.proofs.priority.holds_each.Goals.{then-not-is_number-via-then-not-is_number}
use Rattle.activation.proofs.priority.holds_each.Goals.{then-not-is_number-via-else-not-is_number+then-index}

pub returns-then-not-is_number : goal.returns-then-not-is_number
returns-then-not-is_number c = (
  λ z. absurd (false≢true z),
  λ each.
      let m = c.loop-task.invariant in
      let is = holds_a_task m c.loop-task-test.true each in
      elim c.then-not-is_number.branch [
        | then-not-is_number-via-then-not-is_number w ↦
            absurd (true≢false (sym (c.is_number.ensures.1 (is.0, omega (arith, is.1, m.long, c.len.ensures))) ∙ w.if-not-is_number.true))
        | then-not-is_number-via-else-not-is_number+then-index w ↦
            let at = get_or_read c.loop-task.found.items (get_or c.args.priority.now c.loop-task.task-index 0 - 1) w.index.result.now
            (omega (arith, is.0, is.1, m.long)) w.index.ensures false in
            absurd (holds_none_twice m c.loop-task-test.true each (sym at ∙ w.if-index.true))
      ],
)

pub loop-task-preserved : goal.loop-task-preserved
loop-task-preserved c =
    let m = c.loop-task.invariant in
    let n = c.is_number.ensures.0 c.if-not-is_number.false in
    let is : HasTask c.args.system.now (get_or c.args.priority.now c.loop-task.task-index 0) =
    (n.0, omega (arith, n.1, m.long, c.len.ensures)) in
    let at = get_or_read c.loop-task.found.items (get_or c.args.priority.now c.loop-task.task-index 0 - 1) c.index.result.now
    (omega (arith, is.0, is.1, m.long)) c.index.ensures false in
    one_marked m c.loop-task-test.true is (sym at ∙ c.if-index.false)

pub returns : goal.returns
returns c =
    let m = c.loop-task.invariant in
    let end : length c.args.priority.now ≡ c.loop-task.task-index = omega (arith, c.loop-task.auto.task-index-end) in (
      λ z. each_held m end (λ k w. search rules),
      λ each. let all = all_found m end each in search rules,
    )
