use Rattle.std.proofs.Common.{length, take}
use Rattle.std.specs.Prelude.{slice_index}
use Rattle.activation.specs.Tables.{is_startable}
use Rattle.activation.proofs.Ranking.{AreRefreshed}
use Rattle.activation.proofs.cores.Core.refresh_consumers.Given as goal

abbrev pub invariant-loop-consumer : goal.invariant-loop-consumer
invariant-loop-consumer l = AreRefreshed (length l.self.setting.order) (take l.consumer-index l.consumer-items) (slice_index l.ranks)
    l.initial.ready (λ k. is_startable l.self.setting l.self.state (slice_index l.self.setting.order k)) l.ready
