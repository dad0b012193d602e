use Rattle.std.proofs.lemmas.Result.{err_from_is_err_and}
use Rattle.mp_text.specs.ReadingLaws.{Fails-tested}
use Rattle.matrix_files.specs.PermFile.{perm_token_tests}
use Rattle.matrix_files.specs.OrderReader.{vertex_step}
use Rattle.matrix_files.proofs.perm_file.PermReader.take.Goals as goal

pub returns-in_err-vertex : goal.returns-in_err-vertex
unfolding vertex_step
returns-in_err-vertex g c =
    let p = err_from_is_err_and c.from_residual.result c.from_residual.ensures.1 in
    let s = c.self.inside.taken in
    rw (p.1, p.2, ← c.self.view_is)
    (Fails-tested (perm_token_tests g.row.BASE s.n c.args.line s.numbers c.args.token.now)
    _ _ c.in_err-vertex.field-0.0 c.in_err-vertex.ensures.judged)
