use Rattle.matrix_files.proofs.InverseFileLemmas.{inverse_perm, inverse_places}
use Rattle.matrix_files.proofs.laws.inverse_is_perm.Goals as goal

pub returns-clause-perm : goal.returns-clause-perm
returns-clause-perm c = inverse_perm

pub returns-clause-places : goal.returns-clause-places
returns-clause-places c = inverse_places
