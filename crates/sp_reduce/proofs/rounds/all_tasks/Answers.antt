use Rattle.std.proofs.Common.{◌≡◌, ℕ, length, true, inl, inr, sym, ap, subst, arith}
use Rattle.std.proofs.lemmas.Bool.{cases_eq}
use Rattle.sp_reduce.specs.Work.{stands}
use Rattle.sp_reduce.proofs.rounds.all_tasks.Goals as goal

pub loop-v-init : goal.loop-v-init
loop-v-init c = record {
  listed = λ x lt. absurd (omega (arith, lt, ap length c.new-todo.ensures.items));
  each = λ u low high. absurd (omega (arith, low, high));
}

pub loop-v-preserved : goal.loop-v-preserved
loop-v-preserved c = record {
  listed = c.in_ok-note.ensures.listed c.args.tasks (omega (arith, c.loop-v-test.true)) c.loop-v.invariant.listed;
  each = λ u low high. elim (cases_eq u c.loop-v.v) [
    | inl e ↦ subst (λ (w : ℕ). stands w c.note.new.todo.items ≡ true) (sym e) (c.in_ok-note.ensures.has (omega (arith, low, e)))
    | inr ne ↦ c.in_ok-note.ensures.keeps u (c.loop-v.invariant.each u low (omega (arith, high, ne)))
  ];
}

pub returns-clause-each : goal.returns-clause-each
returns-clause-each c = λ u low high. c.loop-v.invariant.each u low (omega (arith, high, c.loop-v-test.false, c.loop-v.auto.v-end))
