use Rattle.std.proofs.Common.{◌≡◌, ℕ, ◌<◌, None, Ok}
use Rattle.std.specs.Prelude.{slice_index_or}
use Rattle.peak_bounds.proofs.chunks.first_found.Given as goal

abbrev pub invariant-loop-part : goal.invariant-loop-part
invariant-loop-part l = (n : ℕ) (d : _) → n < l.part-index → slice_index_or l.found n d ≡ Ok None
