use Rattle.std.proofs.Common.{◌≡◌, length}
use Rattle.std.specs.Vec.Iter.{into_iter_items, into_iter_len}
use Rattle.sp_cuts.proofs.Together.{Splitting}
use Rattle.sp_cuts.proofs.composing.split.Given as goal

abbrev pub invariant-loop-part : goal.invariant-loop-part
invariant-loop-part l = record {
  goes : goal.iterator-loop-part.can_next l.part-iterator × goal.iterator-loop-part.is_finite l.part-iterator;
  splitting :
      Splitting l.yielded (into_iter_items l.part-iterator) l.fn.parts.items l.fronts.items l.backs.items l.start l.end l.least l.peak;
  len : into_iter_len l.part-iterator ≡ length (into_iter_items l.part-iterator);
}
