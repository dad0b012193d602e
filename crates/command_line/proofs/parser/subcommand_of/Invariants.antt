use Rattle.std.proofs.Common.{◌≡◌, take, false}
use Rattle.clap.specs.Words.{app_of}
use Rattle.clap.specs.declared.builder.command.Command.TheViews.{out-Command as fields_of}
use Rattle.command_line.specs.Views.{names_of}
use Rattle.command_line.proofs.TableLemmas.{leaf_app}
use Rattle.command_line.proofs.parser.subcommand_of.Given as goal

abbrev pub invariant-loop-group : goal.invariant-loop-group
invariant-loop-group l = record {
  app : app_of l.command ≡ leaf_app l.shape.name.now (names_of (take l.group-index l.shape.options.now));
  local : (fields_of l.command).has_globals ≡ false;
}
