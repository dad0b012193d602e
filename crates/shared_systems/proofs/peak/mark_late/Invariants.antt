use Rattle.std.proofs.Common.{◌≡◌, ◌||◌, ℕ, Some, false, take, get_or}
use Rattle.shared_systems.specs.Places.{is_late}
use Rattle.shared_systems.proofs.peak.mark_late.Given as goal

abbrev pub invariant-loop-reader : goal.invariant-loop-reader
invariant-loop-reader l = (v : ℕ) → get_or l.late v false
    ≡ (get_or l.initial.late v false || is_late (λ u. get_or l.places u 0) (Some l.producer) (take l.reader-index l.readers) v)
