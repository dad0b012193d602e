-- The line that clap's matches hold.
use Rattle.std.proofs.Common.{◌≡◌, ◌∙◌, List, Option, Some, None, option_map, map, ap, ap₂}
use Rattle.std.proofs.Common.{box_value}
use Rattle.std.proofs.lemmas.Option.{some_pair_parts, same_Some}
use Rattle.clap.specs.Walk.{Row, rows_of}
use Rattle.clap.specs.Simple.{subcommand_rows_of}
use Rattle.clap.specs.Matches.{subcommand_name_of, found_of}
use Rattle.clap.specs.declared.parser.matches.ArgMatches.{ArgMatches}
use Rattle.clap.specs.declared.parser.matches.ArgMatches.TheViews.{out-ArgMatches, out-SubCommand}
use Rattle.command_line.specs.Words.{Text, Line}
use Rattle.command_line.specs.Table.{row_for, given_of}
use Rattle.command_line.proofs.TableLemmas.{given_rows}

same_name : {B : Type 0} (name : B → Text) (rows : B → List Row) (found : Option B) (command : Text) (all : List Row)
    → ◌≡◌ {A = Option (Text × List Row)} (option_map (λ b. (name b, rows b)) found) (Some (command, all))
    → option_map name found ≡ Some command
same_name name rows None command all e = absurd cc
same_name name rows (Some b) command all e = ap (λ n. Some n) (some_pair_parts (name b) command (rows b) all e).0

-- the name of the subcommand is that which goes with its rows
pub name_of_rows : (m : ArgMatches) (command : Text) (rows : List Row) → subcommand_rows_of m ≡ Some (command, rows)
    → subcommand_name_of m ≡ Some command
name_of_rows m command rows e =
    same_name (λ b. (out-SubCommand (box_value b)).name.now) (λ b. rows_of (found_of (out-SubCommand (box_value b)).matches))
    (out-ArgMatches m).subcommand command rows e

-- the rows of that subcommand are those of the line's options
pub rows_held : (m : ArgMatches) (line : Line) (rows : List Row) → subcommand_rows_of m ≡ Some (line.command, map row_for line.options)
    → Some rows ≡ option_map (λ p. p.1) (subcommand_rows_of m) → rows ≡ map row_for line.options
rows_held m line rows is e = same_Some rows (map row_for line.options) (e ∙ ap (option_map (λ p. p.1)) is)

pub name_held : (m : ArgMatches) (line : Line) (command : Text) → subcommand_rows_of m ≡ Some (line.command, map row_for line.options)
    → Some command ≡ subcommand_name_of m → command ≡ line.command
name_held m line command is e = same_Some command line.command (e ∙ name_of_rows m line.command (map row_for line.options) is)

pub line_held : (line : Line) (command : Text) (rows : List Row) → command ≡ line.command → rows ≡ map row_for line.options
    → record { command = command; options = map given_of rows } ≡ line
line_held line command rows name is =
    ap₂ (λ c options. record { command = c; options = options }) name (ap (map given_of) is ∙ given_rows line.options)
