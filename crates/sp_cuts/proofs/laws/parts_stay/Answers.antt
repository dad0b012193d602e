use Rattle.sp_cuts.proofs.Kept.{parts_stay, all_parts_stay, rough_kept, cut_kept, all_rough_stay}
use Rattle.sp_cuts.proofs.laws.parts_stay.Goals as goal

pub returns : goal.returns
returns c = let laws = c.all.ensures in record {
  part = parts_stay laws;
  all = all_parts_stay laws;
  rough = λ old new p h k. (rough_kept laws old new p h k, cut_kept laws old new p h.both k);
  all_rough = all_rough_stay laws;
}
