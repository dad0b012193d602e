use Rattle.segment_merge.proofs.Behind.{appends_insert}
use Rattle.segment_merge.proofs.Crossing.{profile_appends, tasks_appends, profile_crossing, tasks_crossing}
use Rattle.segment_merge.proofs.laws.crossed_runs.Goals as goal

pub returns : goal.returns
returns c = let laws = c.runs.ensures in record {
  appends = appends_insert laws;
  profile_of_appends = profile_appends laws;
  tasks_of_appends = tasks_appends laws;
  profile = profile_crossing laws;
  tasks = tasks_crossing laws;
}
