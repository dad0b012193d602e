use Rattle.std.proofs.Common.{◌≡◌, drop}
use Rattle.hill_valley.specs.Numbers.{segments_listed}
use Rattle.plans.specs.Plan.{direction_of}
use Rattle.plan_claims.specs.Levels.{left_over}
use Rattle.plan_claims.proofs.Loops.{Places}
use Rattle.plan_claims.proofs.beside.left_of.Given as goal

abbrev pub invariant-loop-part : goal.invariant-loop-part
invariant-loop-part l = record {
  places : Places l.parts l.part-index l.gone l.at;
  told : left_over (direction_of l.dir) l.over l.left (drop l.part-index l.parts) (drop l.at (segments_listed l.gone))
      ≡ left_over (direction_of l.dir) l.over l.total l.parts (segments_listed l.gone);
}
