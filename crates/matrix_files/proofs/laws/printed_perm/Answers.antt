use Rattle.matrix_files.proofs.PrintedPerm.{perm_reads, perm_short}
use Rattle.matrix_files.proofs.laws.printed_perm.Goals as goal

pub returns-clause-reads : goal.returns-clause-reads
returns-clause-reads c = perm_reads c.printed_number.ensures.value c.printed_number.ensures.counted c.printed_file.ensures.rows

pub returns-clause-short : goal.returns-clause-short
returns-clause-short c = perm_short
