use Rattle.matrix_files.proofs.PermFileLemmas.{perm_from_read}
use Rattle.matrix_files.proofs.laws.read_is_perm.Goals as goal

pub returns : goal.returns
returns c = perm_from_read
