use Rattle.hill_valley.specs.Numbers.{segments_listed}
use Rattle.plan_claims.specs.Levels.{kept_level}
use Rattle.plan_claims.proofs.Loops.{Keeping}
use Rattle.plan_claims.proofs.beside.level_above.Given as goal

abbrev pub invariant-loop-seg : goal.invariant-loop-seg
invariant-loop-seg l = record {
  keeping :
      Keeping l.segments l.seg-index (record { up = 0; net = 0 }) l.over l.level (kept_level l.over l.least (segments_listed l.segments));
}
