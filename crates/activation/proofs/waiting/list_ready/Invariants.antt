use Rattle.std.proofs.Common.{length, take}
use Rattle.std.specs.Prelude.{slice_index, nat_lt, ◌&&◌, ◌==◌}
use Rattle.activation.proofs.Ranking.{AreRefreshed}
use Rattle.activation.proofs.waiting.list_ready.Given as goal

abbrev pub invariant-loop-place : goal.invariant-loop-place
invariant-loop-place l = AreRefreshed (length l.initial.startable) (take l.place-index l.row) (λ k. k) l.initial.startable
    (λ k. nat_lt k l.activated && (slice_index l.waiting k == 0)) l.startable
