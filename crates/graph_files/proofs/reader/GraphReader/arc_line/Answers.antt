use Rattle.std.proofs.lemmas.Result.{err_from_is_err_and}
use Rattle.mp_text.specs.Ahead.{row}
use Rattle.graph_files.specs.GraphFile.{arc_tests, arc_of}
use Rattle.mp_text.specs.ReadingLaws.{Fails-tested}
use Rattle.graph_files.proofs.reader.GraphReader.arc_line.Goals as goal

pub returns-in_err-arc : goal.returns-in_err-arc
returns-in_err-arc c =
    let p = err_from_is_err_and c.from_residual.result c.from_residual.ensures.1 in
    let r = row c.args.line.number c.args.line.text.now in
    rw (← c.self.view_is, p.1, p.2)
    (Fails-tested (arc_tests c.self.inside.count c.self.inside.total r)
    (arc_of r) _ c.in_err-arc.field-0.0 c.in_err-arc.ensures.judged)
