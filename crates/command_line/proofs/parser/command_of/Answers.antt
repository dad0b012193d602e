use Rattle.std.proofs.Common.{◌∙◌, ap, ap₂, sym}
use Rattle.clap.specs.Simple.{App, with_subcommand}
use Rattle.command_line.specs.Views.{shape_view}
use Rattle.command_line.proofs.TableLemmas.{one_command, map_more, app_so_far}
use Rattle.command_line.proofs.parser.command_of.Goals as goal

pub loop-shape-preserved : goal.loop-shape-preserved
loop-shape-preserved c =
    let shapes = c.args.shapes.now in
    let i = c.loop-shape.shape-index in
    c.in_ok-command.ensures.shape c.in_ok-subcommand_of.ensures.local
    ∙ ap₂ with_subcommand c.loop-shape.invariant (ap (λ (a : App). a.top) c.in_ok-subcommand_of.ensures.app)
    ∙ one_command _ _ ∙ ap app_so_far (sym (map_more shape_view shapes i _ c.loop-shape-test.true))
