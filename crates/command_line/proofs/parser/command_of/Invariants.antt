use Rattle.std.proofs.Common.{◌≡◌, take}
use Rattle.clap.specs.Words.{app_of}
use Rattle.command_line.specs.Views.{shapes_view}
use Rattle.command_line.proofs.TableLemmas.{app_so_far}
use Rattle.command_line.proofs.parser.command_of.Given as goal

abbrev pub invariant-loop-shape : goal.invariant-loop-shape
invariant-loop-shape l = app_of l.command ≡ app_so_far (shapes_view (take l.shape-index l.shapes))
