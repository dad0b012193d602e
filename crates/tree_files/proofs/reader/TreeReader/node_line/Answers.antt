use Rattle.std.proofs.lemmas.Result.{err_from_is_err_and}
use Rattle.mp_text.specs.Ahead.{row}
use Rattle.tree_files.specs.TreeFile.{node_tests, node_of}
use Rattle.mp_text.specs.ReadingLaws.{Fails-tested}
use Rattle.tree_files.proofs.reader.TreeReader.node_line.Goals as goal

pub returns-in_err-node : goal.returns-in_err-node
returns-in_err-node c =
    let p = err_from_is_err_and c.from_residual.result c.from_residual.ensures.1 in
    let r = row c.args.line.number c.args.line.text.now in
    rw (← c.self.view_is, p.1, p.2)
    (Fails-tested (node_tests c.self.inside.version c.self.inside.count c.self.inside.total r)
    (node_of c.self.inside.version r) _ c.in_err-node.field-0.0 c.in_err-node.ensures.judged)
