use Rattle.std.proofs.Common.{◌∙◌, ℕ, List, length, subst}
use Rattle.std.proofs.lemmas.Result.{err_from_is_err_and}
use Rattle.mp_text.specs.Ahead.{row}
use Rattle.mp_text.specs.Grammar.{Test}
use Rattle.mp_text.specs.Reading.{Fails, tested}
use Rattle.mp_text.specs.ReadingLaws.{Fails-tested}
use Rattle.matrix_files.specs.MatrixFile.{banner_tests, size_tests, entry_tests, pair_of}
use Rattle.matrix_files.specs.Reader.{matrix_step}
use Rattle.matrix_files.specs.declared.kind.MatrixKind.{MatrixKind}
use Rattle.matrix_files.proofs.reader.MatrixReader.take_line.Goals as goal

pub returns-in_err-self-inside-in-Banner : goal.returns-in_err-self-inside-in-Banner
unfolding matrix_step
returns-in_err-self-inside-in-Banner c =
    let p = err_from_is_err_and c.from_residual.result c.from_residual.ensures.1 in
    rw (← c.self.view_is, c.in-Banner.is, p.1, p.2)
    (Fails-tested (banner_tests (row c.args.line.number c.args.line.text.now)) _ _ _ c.in_err-self-inside-in-Banner.ensures)

pub returns-in_err-self-inside-in-Size : goal.returns-in_err-self-inside-in-Size
unfolding matrix_step
returns-in_err-self-inside-in-Size c =
    let p = err_from_is_err_and c.from_residual-in_err-self-inside-in-Size.result c.from_residual-in_err-self-inside-in-Size.ensures.1 in
    rw (← c.self.view_is, c.in-Size.is, p.1, p.2)
    (Fails-tested (size_tests (row c.args.line.number c.args.line.text.now)) _ _ _ c.in_err-self-inside-in-Size.ensures.judged)

pub returns-in_err-pair-in-Entries : goal.returns-in_err-pair-in-Entries
unfolding matrix_step
returns-in_err-pair-in-Entries c =
    let p = err_from_is_err_and c.from_residual-in_err-pair-in-Entries.result c.from_residual-in_err-pair-in-Entries.ensures.1 in
    let r = row c.args.line.number c.args.line.text.now in
    let v = c.self.inside.values in
    let tests : ℕ → List (Test MatrixKind) = λ taken. entry_tests v c.self.inside.size.order c.self.inside.size.entries taken r in
    let judged = subst (λ (taken : ℕ). Fails (tested (tests taken) (pair_of v r)) c.in_err-pair-in-Entries.field-0.0)
    (c.len-taken.ensures ∙ c.self.inside.pairs.ok.0) c.in_err-pair-in-Entries.ensures.judged in
    rw (← c.self.view_is, c.in-Entries.is, p.1, p.2)
    (Fails-tested (tests (length c.self.inside.pairs.items)) (pair_of v r) _ c.in_err-pair-in-Entries.field-0.0 judged)
