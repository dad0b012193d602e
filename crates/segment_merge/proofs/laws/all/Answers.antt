use Rattle.segment_merge.proofs.laws.all.Goals as goal

pub returns : goal.returns
returns c = record {
  between = c.one_side.ensures.between;
  monotone = c.one_side.ensures.monotone;
  after_all = c.one_side.ensures.after_all;
  stuck = c.one_side.ensures.stuck;
  above = c.one_side.ensures.above;
  passes = c.one_side.ensures.passes;
  by_last = c.one_side.ensures.by_last;
  append_net = c.appending.ensures.net;
  crossing_net = c.crossing.ensures.net;
  crossing_rises = c.crossing.ensures.rising;
  crossing_lowest = c.crossing.ensures.lowest;
  crossing_top = c.crossing.ensures.top;
  inserts_net = c.merging.ensures.net;
  merge_rises = c.merging.ensures.rising;
  merge_lowest = c.merging.ensures.lowest;
  levels = c.merging.ensures.levels;
  series = c.counting.ensures.series;
  more_tasks = c.counting.ensures.more_tasks;
  parallel = c.counting.ensures.parallel;
  bounded = c.counting.ensures.bounded;
  runs = c.runs.ensures;
  all_stay = c.merged_runs.ensures.stay;
  profile_inserts = c.merged_runs.ensures.inserts;
  profile_merge = c.merged_runs.ensures.profile;
  profile_crossing = c.crossed_runs.ensures.profile;
  before = c.merged_runs.ensures.before;
  behind = c.merged_runs.ensures.behind;
  appends = c.crossed_runs.ensures.appends;
}
