use Rattle.shared_graph_files.specs.EitherVersion.{is_second}
use Rattle.shared_graph_files.proofs.EitherLemmas.{read-is_system}
use Rattle.shared_graph_files.proofs.laws.read_law.Goals as goal

pub returns : goal.returns
returns c bytes = read-is_system c.read_law.ensures c.one_reader_system_law.ensures.graph (is_second bytes) bytes
