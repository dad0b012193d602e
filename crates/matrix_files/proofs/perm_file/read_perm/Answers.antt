use Rattle.std.proofs.lemmas.Result.{MatchResult-weaker}
use Rattle.matrix_files.proofs.PermFileLemmas.{reads_perm, perm_refused}
use Rattle.matrix_files.proofs.perm_file.read_perm.Goals as goal

pub returns : goal.returns
returns c = MatchResult-weaker c.read_numbering.result c.read_numbering.ensures
    (reads_perm c.args.n c.args.bytes.now) (perm_refused c.args.n c.args.bytes.now)
