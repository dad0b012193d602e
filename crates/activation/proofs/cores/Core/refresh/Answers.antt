use Rattle.std.specs.Prelude.{slice_index}
use Rattle.activation.specs.Tables.{is_startable}
use Rattle.activation.proofs.Ranking.{marked}
use Rattle.activation.proofs.cores.Core.refresh.Goals as goal

pub returns-clause-marks : goal.returns-clause-marks
returns-clause-marks c =
    let v = c.args.self.now in
    λ k w. rw (c.put.ensures, c.is_startable.ensures)
    (marked (λ k. slice_index c.args.ranks.now k) c.requires.ranks.within c.requires.ranks.once
    c.args.place c.requires.place c.args.ready.now c.requires.long
    (λ j. is_startable v.setting v.state (slice_index v.setting.order j)) k w)
