use Rattle.std.proofs.Common.{◌≡◌, drop}
use Rattle.side_laws.specs.Segments.{lowest}
use Rattle.hill_valley.specs.Numbers.{segments_listed}
use Rattle.plan_claims.proofs.handing.lowest_below.Given as goal

abbrev pub invariant-loop-seg : goal.invariant-loop-seg
invariant-loop-seg l =
    lowest l.limit l.at (segments_listed (drop l.seg-index l.segments)) ≡ lowest l.limit l.level (segments_listed l.segments)
