use Rattle.std.proofs.Common.{◌∙◌, ap, map, string_bytes}
use Rattle.std.proofs.lemmas.Result.{IfErr-weaker, IfOk-weaker}
use Rattle.clap.specs.Simple.{is_simple, subcommand_of}
use Rattle.clap.specs.Takes.{takes}
use Rattle.command_line.specs.Views.{shapes_view}
use Rattle.command_line.proofs.OptionLemmas.{line_there}
use Rattle.command_line.proofs.TableLemmas.{app_simple}
use Rattle.command_line.proofs.CommandLemmas.{taken}
use Rattle.command_line.proofs.parser.parse.Goals as goal

pub returns-clause-line : goal.returns-clause-line
returns-clause-line c =
    let shapes = shapes_view c.args.shapes.now in
    let words = map (λ w. string_bytes w) c.args.words.now in
    let app_is = c.in_ok-command_of.ensures in
    IfOk-weaker c.try_get_matches_from.result _ _
    (λ m h line is. (h (ap is_simple app_is ∙ app_simple shapes)).1 ∙ ap (λ app. subcommand_of app words) app_is
    ∙ (taken shapes words line is).finds)
    c.try_get_matches_from.ensures.matches

-- words that are a line pass all that clap tests
pub returns-clause-memory : goal.returns-clause-memory
returns-clause-memory c =
    let shapes = shapes_view c.args.shapes.now in
    let words = map (λ w. string_bytes w) c.args.words.now in
    let found = line_there _ c.requires in
    IfErr-weaker c.try_get_matches_from.result _ _
    (λ e h. h (ap (λ app. takes app words) c.in_ok-command_of.ensures ∙ (taken shapes words found.0 found.1).takes))
    c.try_get_matches_from.ensures.passes
