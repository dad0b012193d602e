use Rattle.std.proofs.lemmas.Result.{err_from_is_err_and}
use Rattle.mp_text.specs.Ahead.{row}
use Rattle.graph_files.specs.GraphFile.{task_tests, task_on_row}
use Rattle.mp_text.specs.ReadingLaws.{Fails-tested}
use Rattle.shared_graph_files.proofs.reader.ItemsReader.task_line.Goals as goal

pub returns-in_err-task : goal.returns-in_err-task
returns-in_err-task c =
    let p = err_from_is_err_and c.from_residual.result c.from_residual.ensures.1 in
    let r = row c.args.line.number c.args.line.text.now in
    rw (← c.self.view_is, p.1, p.2)
    (Fails-tested (task_tests c.self.inside.total r) (task_on_row r) _ c.in_err-task.field-0.0 c.in_err-task.ensures.judged)
