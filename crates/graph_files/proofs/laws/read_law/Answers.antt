use Rattle.graph_files.proofs.FileLemmas.{reads-is_graph}
use Rattle.graph_files.proofs.laws.read_law.Goals as goal

pub returns : goal.returns
returns c = reads-is_graph
