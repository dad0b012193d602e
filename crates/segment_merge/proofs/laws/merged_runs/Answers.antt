use Rattle.segment_merge.proofs.Profiles.{profile_inserts, profile_merge}
use Rattle.segment_merge.proofs.Order.{put_assoc, moved_before, moved_behind}
use Rattle.segment_merge.proofs.AtUp.{are_merged}
use Rattle.segment_merge.proofs.Interleaving.{interleaved}
use Rattle.segment_merge.proofs.Kept.{each_kept, all_kept}
use Rattle.segment_merge.proofs.laws.merged_runs.Goals as goal

pub returns : goal.returns
returns c = let laws = c.runs.ensures in record {
  stay = λ old new sides h k. (all_kept laws old new sides h k, each_kept laws old new sides h k);
  inserts = profile_inserts laws;
  profile = profile_merge laws;
  at_each_up = are_merged laws;
  tasks = interleaved laws;
  associate = put_assoc;
  before = moved_before;
  behind = moved_behind laws;
}
