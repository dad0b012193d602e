use Rattle.std.proofs.Common.{◌∙◌, List, [], ap, sym, fold, get_or, take}
use Rattle.std.specs.Borrow.{Bor}
use Rattle.command_line.specs.Words.{Text}
use Rattle.command_line.specs.Table.{with_option}
use Rattle.command_line.specs.Views.{texts, names_of}
use Rattle.command_line.proofs.TableLemmas.{more_options, flat_map_one_more, leaf_app}
use Rattle.command_line.proofs.parser.subcommand_of.Goals as goal

pub loop-group-preserved : goal.loop-group-preserved
loop-group-preserved c =
    let name = c.args.shape.name.now in
    let groups = c.args.shape.options.now in
    let i = c.loop-group.group-index in
    let none : Bor (List (Bor Text)) = record { ref_ptr = (0, 0); now = [] } in
    let names = texts (get_or groups i none).now in
    let more = flat_map_one_more (λ (group : Bor (List (Bor Text))). texts group.now) groups i none c.loop-group-test.true in
    let adds = c.in_ok-command.ensures in
    record {
      app = adds.app ∙ ap (λ app. fold with_option app names) c.loop-group.invariant.app
          ∙ more_options name (names_of (take i groups)) names ∙ ap (leaf_app name) (sym more);
      local = adds.local ∙ c.loop-group.invariant.local;
    }
