use Rattle.std.proofs.lemmas.Result.{err_from_is_err_and}
use Rattle.mp_text.specs.Ahead.{row}
use Rattle.mp_text.specs.ReadingLaws.{Fails-tested}
use Rattle.shared_graph_files.specs.SharedGraphFile.{item_tests, item_on_row}
use Rattle.shared_graph_files.specs.Reader.{uses_so_far, with_item_on}
use Rattle.shared_graph_files.proofs.reader.ItemsReader.item_line.Goals as goal

pub returns-in_err-size : goal.returns-in_err-size
returns-in_err-size c =
    let p = err_from_is_err_and c.from_residual.result c.from_residual.ensures.1 in
    let s = c.self.inside in
    let r = row c.args.line.number c.args.line.text.now in
    rw (← c.self.view_is, p.1, p.2)
    (Fails-tested (item_tests s.count s.total (uses_so_far s.items) r) (with_item_on s.items (item_on_row r)) _
    c.in_err-size.field-0.0 c.in_err-size.ensures.judged)
