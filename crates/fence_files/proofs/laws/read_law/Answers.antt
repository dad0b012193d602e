use Rattle.fence_files.proofs.FormLemmas.{reads-printable}
use Rattle.fence_files.proofs.laws.read_law.Goals as goal

pub returns : goal.returns
returns c = reads-printable
