use Rattle.sp_cuts.proofs.Together.{all_rough}
use Rattle.sp_cuts.proofs.composing.parallel.Goals as goal

pub parallel_part-requires-clause-parts : goal.parallel_part-requires-clause-parts
parallel_part-requires-clause-parts g c = all_rough c.args.ropes.now c.args.parts.items c.requires.parts
