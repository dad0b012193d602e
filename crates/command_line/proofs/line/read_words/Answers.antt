use Rattle.std.proofs.Common.{◌∙◌, sym, ap, subst, Some}
use Rattle.std.proofs.lemmas.Option.{none-some}
use Rattle.command_line.specs.Table.{AreGiven}
use Rattle.command_line.proofs.LineLemmas.{rows_held, name_held, line_held, name_of_rows}
use Rattle.command_line.proofs.OptionLemmas.{line_there}
use Rattle.command_line.proofs.TableLemmas.{rows_given}
use Rattle.command_line.proofs.line.read_words.Goals as goal

pub invariant_of-result : goal.invariant_of-result
invariant_of-result c =
    let found = line_there _ (sym c.in_ok-are_line.ensures ∙ c.if-not-branch.false) in
    let rows = rows_held c.in-Ok.matches found.0 _ (c.in-Ok.ensures.line found.0 found.1) c.in-Some.ensures.rows in
    subst AreGiven (sym rows) (rows_given found.0.options)

pub returns-in-Some : goal.returns-in-Some
returns-in-Some c =
    let found = line_there _ (sym c.in_ok-are_line.ensures ∙ c.if-not-branch.false) in
    let is = c.in-Ok.ensures.line found.0 found.1 in
    let rows = rows_held c.in-Ok.matches found.0 _ is c.in-Some.ensures.rows in
    ap (λ line. Some line) (line_held found.0 _ _ (name_held c.in-Ok.matches found.0 _ is c.in-Some.ensures.name) rows) ∙ sym found.1

-- clap has met a command
pub returns-in-Ok : goal.returns-in-Ok
returns-in-Ok c =
    let found = line_there _ (sym c.in_ok-are_line.ensures ∙ c.if-not-branch.false) in
    absurd (none-some found.0.command (c.in-None.ensures.name ∙ name_of_rows c.in-Ok.matches _ _ (c.in-Ok.ensures.line found.0 found.1)))
