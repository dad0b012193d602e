use Rattle.std.proofs.Common.{inl, inr, refl, sym, ap, subst, length, ◌∙◌, arith}
use Rattle.std.proofs.lemmas.Bool.{eqb-true, eq-eqb}
use Rattle.std.proofs.lemmas.List.{take_all, take_more}
use Rattle.permutations.specs.Perm.{IsPart}
use Rattle.permutations.proofs.PermLemmas.{perm_from_part}
use Rattle.plans.proofs.Priorities.{part-more, next-of-perm}
use Rattle.plans.proofs.parts.is_priority.Goals as goal

pub returns-then-not-takes : goal.returns-then-not-takes
returns-then-not-takes c =
    let value = rw (c.loop-task.invariant.ranked, c.from.ensures) at c.if-not-takes.ensures.value in (
      λ e. absurd cc,
      λ ranked. elim ranked [
        | inl none ↦ absurd (omega (arith, ap length none, c.loop-task-test.true))
        | inr all ↦ value ∙ next-of-perm c.args.tasks c.args.priority.now c.loop-task.task-index c.loop-task-test.true all
      ],
    )

pub loop-task-preserved : goal.loop-task-preserved
loop-task-preserved c =
    let xs = c.args.priority.now in
    let i = c.loop-task.task-index in
    let value = rw (c.loop-task.invariant.ranked, c.from.ensures) at c.if-not-takes.ensures.value in
    record {
      ranked = rw (c.in_ok-push.ensures, c.loop-task.invariant.ranked, take_more xs i 0 c.loop-task-test.true) refl;
      part = part-more c.args.tasks xs i c.loop-task-test.true c.loop-task.invariant.part (sym value);
    }

pub returns : goal.returns
returns c =
    let xs = c.args.priority.now in
    let n = c.args.tasks in
    let part : IsPart n xs = subst (IsPart n) (take_all c.loop-task.task-index xs c.loop-task-test.false) c.loop-task.invariant.part in (
      λ e. inr (perm_from_part n xs part (eqb-true (length xs) n e)),
      λ ranked. elim ranked [
        | inl none ↦ absurd (let bad = rw none at c.if-is_empty.ensures in cc)
        | inr all ↦ eq-eqb (length xs) n all.len
      ],
    )
