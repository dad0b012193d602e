use Rattle.hill_valley.specs.Ropes.{Extends}
use Rattle.sp_cuts.specs.Notes.{AreNotesOf, noted_in}
use Rattle.sp_cuts.proofs.Pushed.{Standing, Spent}
use Rattle.sp_cuts.proofs.planning.part_of.Given as goal

abbrev pub invariant-loop-done : goal.invariant-loop-done
invariant-loop-done g l = record {
  kept : Extends l.fn.ropes l.ropes;
  standing : Standing l.terms l.done l.ropes l.stack.items l.next;
  notes : AreNotesOf l.terms l.done (noted_in l.notes);
  spent : Spent l.terms l.done l.fn.steps l.steps;
}
