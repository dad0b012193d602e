use Rattle.hill_valley.specs.Side.{run_numbers, run_profile}
use Rattle.hill_valley.proofs.Kept.{list_kept, rope_kept, runs_kept, ropes_kept, extends_self, extends_on}
use Rattle.hill_valley.proofs.Last.{append_is}
use Rattle.hill_valley.proofs.Profiles.{profile_runs, profile_insert, profile_append, tasks_append}
use Rattle.hill_valley.proofs.laws.runs.Goals as goal

pub returns : goal.returns
returns c = record {
  rope = λ old new rope h k. (rope_kept old new rope h k, list_kept old new rope h k);
  stay = λ old new side h k. (ropes_kept old new side h k, runs_kept old new side h k);
  itself = extends_self;
  on = extends_on;
  profile = profile_runs;
  insert = profile_insert;
  rises = λ before r rs h. rw (profile_insert before r rs) (c.inserting.ensures.rising (run_numbers r) (run_profile rs) h);
  append = profile_append;
  tasks = tasks_append;
  appended = append_is;
}
