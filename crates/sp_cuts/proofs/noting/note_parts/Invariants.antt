use Rattle.sp_cuts.specs.Notes.{noted_in}
use Rattle.sp_cuts.proofs.Noted.{SoFar}
use Rattle.sp_cuts.proofs.noting.note_parts.Given as goal

abbrev pub invariant-loop-i : goal.invariant-loop-i
invariant-loop-i l = record { so_far : SoFar l.parts l.most l.i (noted_in l.fn.notes) (noted_in l.notes) }
