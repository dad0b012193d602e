use Rattle.std.proofs.Common.{◌≡◌, ◌∙◌, Some, sym}
use Rattle.mp_text.specs.Ahead.{row}
use Rattle.tree_files.specs.TreeFile.{fields_stated}
use Rattle.tree_files.proofs.NodeLines.{fields_no_end}
use Rattle.tree_files.proofs.lines.node_fields.Goals as goal

pub returns-in-Some-clause-read : goal.returns-in-Some-clause-read
returns-in-Some-clause-read c =
    let r = row c.args.line.number c.args.line.text.now in
    let read : fields_stated c.args.version r ≡ Some c.in-Some.fields = sym c.fields_on.ensures ∙ c.in-Some.is in
    (read, fields_no_end c.args.version r c.in-Some.fields read)
