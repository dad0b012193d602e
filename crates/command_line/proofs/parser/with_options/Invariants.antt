use Rattle.std.proofs.Common.{◌≡◌, take, fold}
use Rattle.clap.specs.Words.{app_of}
use Rattle.clap.specs.declared.builder.command.Command.TheViews.{out-Command as fields_of}
use Rattle.command_line.specs.Table.{with_option}
use Rattle.command_line.specs.Views.{texts}
use Rattle.command_line.proofs.parser.with_options.Given as goal

abbrev pub invariant-loop-option : goal.invariant-loop-option
invariant-loop-option l = record {
  app : app_of l.command ≡ fold with_option (app_of l.fn.command) (texts (take l.option-index l.names));
  local : (fields_of l.command).has_globals ≡ (fields_of l.fn.command).has_globals;
}
