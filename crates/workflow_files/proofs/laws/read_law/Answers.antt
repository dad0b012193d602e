use Rattle.workflow_files.proofs.ReadLemmas.{reads-terms}
use Rattle.workflow_files.proofs.laws.read_law.Goals as goal

pub returns : goal.returns
returns c = reads-terms
