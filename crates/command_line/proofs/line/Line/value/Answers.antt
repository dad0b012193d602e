use Rattle.std.proofs.Common.{◌∙◌, ap, map}
use Rattle.clap.proofs.WalkLemmas.{first_value-rows}
use Rattle.clap.specs.Matches.{found_of}
use Rattle.clap.specs.Walk.{first_of, rows_of}
use Rattle.command_line.specs.Table.{given_of}
use Rattle.command_line.specs.Words.{Line, value_of}
use Rattle.command_line.proofs.RowLemmas.{value_found}
use Rattle.command_line.proofs.line.Line.value.Goals as goal

-- what clap's rows hold is what the line gives
pub returns : goal.returns
returns c =
    let name = c.args.name.now in
    let found = found_of c.self.inside.options in
    c.get_str.ensures ∙ first_value-rows found name ∙ ap (first_of name) c.self.invariant
    ∙ value_found name (map given_of (rows_of found)) ∙ ap (λ (line : Line). value_of name line.options) c.self.view_is
