use Rattle.side_laws.proofs.Counting.{grown, grown_more, par_count, count_bound}
use Rattle.side_laws.proofs.laws.counting.Goals as goal

pub returns : goal.returns
returns c = record { series = λ m n moved a b. grown m n a b moved; more_tasks = grown_more; parallel = par_count; bounded = count_bound }
