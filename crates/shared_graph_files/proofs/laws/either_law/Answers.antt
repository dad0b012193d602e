use Rattle.shared_graph_files.specs.EitherVersion.{is_second}
use Rattle.shared_graph_files.proofs.EitherLemmas.{stated_is_read}
use Rattle.shared_graph_files.proofs.laws.either_law.Goals as goal

pub returns : goal.returns
returns c bytes = stated_is_read (is_second bytes) bytes
