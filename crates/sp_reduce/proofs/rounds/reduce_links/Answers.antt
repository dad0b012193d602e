use Rattle.std.proofs.Common.{ℕ, arith, sym, ap, subst, ◌∙◌}
use Rattle.std.proofs.lemmas.List.Sorted.{IsPermutation-refl}
use Rattle.sp_reduce.specs.Reductions.{in_order}
use Rattle.sp_reduce.specs.Work.{AreNoted, AreTasks, pairs_of, stands}
use Rattle.sp_reduce.proofs.Works.{stands_none, stands_before}
use Rattle.sp_reduce.proofs.Rows.{leads-trans}
use Rattle.sp_reduce.proofs.rounds.reduce_links.Goals as goal

pub loop-task-init : goal.loop-task-init
loop-task-init c = record {
  row = in_order (IsPermutation-refl (pairs_of c.args.links.now.list));
  carried = λ graph h. h;
  lens = c.requires.lens;
  room = omega arith;
  listed = c.requires.listed;
  noted = c.requires.noted;
}

pub visit-requires-clause-noted : goal.visit-requires-clause-noted
visit-requires-clause-noted c = λ u low high ne one_in one_out. stands_before u c.in-Some.task c.pop.new.self.items ne
    (sym (ap (stands u) c.in-Some.ensures.items) ∙ c.loop-task.invariant.noted u low high one_in one_out)

pub loop-task-preserved : goal.loop-task-preserved
loop-task-preserved c = record {
  row = leads-trans (pairs_of c.args.links.now.list) (pairs_of c.loop-task.links.list)
      (pairs_of c.visit.new.links.list) c.loop-task.invariant.row c.in_ok-visit.ensures.row;
  carried = λ graph h. c.in_ok-visit.ensures.carried graph (c.loop-task.invariant.carried graph h);
  lens = c.in_ok-visit.ensures.lens;
  room = omega (arith, c.in_ok-visit.ensures.room, c.loop-task.invariant.room);
  listed = subst (λ (n : ℕ). AreTasks n c.visit.new.todo.items) (sym c.in_ok-visit.ensures.tasks) c.in_ok-visit.ensures.listed;
  noted = subst (λ (n : ℕ). AreNoted n c.visit.new.links.list c.visit.new.todo.items)
      (sym c.in_ok-visit.ensures.tasks) c.in_ok-visit.ensures.noted;
}

pub returns-clause-idle : goal.returns-clause-idle
returns-clause-idle c = λ u low high one_in one_out.
    stands_none u c.loop-task.todo.items (omega (arith, c.in_default.ensures.cases, c.loop-task.todo.ok.0))
    (c.loop-task.invariant.noted u low high one_in one_out)
