use Rattle.std.proofs.Common.{false, get_or, arith}
use Rattle.sp_cuts.specs.declared.notes.PartNote.{PartNote}
use Rattle.plans.specs.Plan.{direction_of}
use Rattle.plan_claims.proofs.Loops.{any_default, place_here, places_on, left_goes}
use Rattle.plan_claims.proofs.beside.left_of.Goals as goal

abbrev none : PartNote
none = record { least = 0; front_up = 0; back_up = 0; read = false; front = 0; back = 0 }

pub level_or-level-requires : goal.level_or-level-requires
level_or-level-requires c = record {
  place = place_here c.args.parts.now c.loop-part.part-index c.args.gone.now c.loop-part.at c.loop-part.invariant.places
      (get_or c.args.parts.now c.loop-part.part-index none) c.loop-part-test.true
      (any_default c.args.parts.now c.loop-part.part-index none c.loop-part-test.true);
}

pub loop-part-preserved : goal.loop-part-preserved
loop-part-preserved c =
    let x : PartNote = get_or c.args.parts.now c.loop-part.part-index none in
    let here = any_default c.args.parts.now c.loop-part.part-index none c.loop-part-test.true in
    record {
      places = places_on c.args.parts.now c.loop-part.part-index c.args.gone.now c.loop-part.at
          c.loop-part.invariant.places x c.loop-part-test.true here _ (let e = c.count_of-at.ensures in omega arith);
      told = left_goes c.args.parts.now c.loop-part.part-index c.args.gone.now c.loop-part.at c.loop-part.invariant.places
          x c.loop-part-test.true here (direction_of c.args.dir) c.args.over c.loop-part.left _ c.level_or-level.result _ _
          c.loop-part.invariant.told c.level_or-level.ensures c.saturating_sub-left.ensures (let e = c.count_of-at.ensures in omega arith);
    }
