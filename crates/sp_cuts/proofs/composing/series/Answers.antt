use Rattle.std.proofs.Common.{arith, ap, ◌∙◌}
use Rattle.cut_laws.specs.Cuts.{series_cut}
use Rattle.sp_cuts.specs.Parts.{cut_of}
use Rattle.sp_cuts.proofs.Kept.{rough}
use Rattle.sp_cuts.proofs.Made.{peak_is}
use Rattle.sp_cuts.proofs.Standing.{series_stands}
use Rattle.sp_cuts.proofs.composing.series.Goals as goal

pub series_part-requires-clause-a : goal.series_part-requires-clause-a
series_part-requires-clause-a g c = rough _ _ c.requires.a

pub series_part-requires-clause-b : goal.series_part-requires-clause-b
series_part-requires-clause-b g c = rough _ _ c.requires.b

pub returns-clause-stands : goal.returns-clause-stands
returns-clause-stands g c =
    series_stands c.composition_law.ensures.series c.args.ropes.now c.args.a c.args.task c.args.b c.args.name _ c.requires.joins
    (c.in_ok-part.ensures.cut
    ∙ ap (λ n. series_cut (cut_of c.args.ropes.now c.args.a) c.args.name n (cut_of c.args.ropes.now c.args.b)) c.hill_between-hill.ensures)

pub returns-clause-part : goal.returns-clause-part
returns-clause-part g c = record {
  both = c.in_ok-part.ensures.rough.both;
  peak = omega (arith, peak_is _ _ _ _ c.in_ok-part.ensures.kinds, c.requires.a.peak, c.requires.b.peak, c.in_ok-part.ensures.peak);
  within = let a = c.requires.a.within in
      let b = c.requires.b.within in
      let h = c.requires.joins.hill in
      omega (arith, c.in_ok-part.ensures.peak, c.hill_between-hill.ensures);
}
