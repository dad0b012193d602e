use Rattle.std.proofs.Common.{reverse}
use Rattle.sp_cuts.specs.Notes.{noted_in}
use Rattle.plan_claims.specs.Walks.{IsLeft, IsRight}
use Rattle.plan_claims.proofs.claiming.claims_from.Given as goal

abbrev pub invariant-loop-position : goal.invariant-loop-position
invariant-loop-position l = record {
  left : IsLeft l.terms l.position (noted_in l.notes) l.todo.items;
  right : IsRight l.terms l.position l.fn.root l.todo.items (reverse l.claims.items);
}

abbrev pub decreases-loop-position : goal.decreases-loop-position
decreases-loop-position l = l.position
