-- No public clause names this.
-- A table as a command of clap, and the words of a line as clap finds them.
use Rattle.std.specs.Prelude.{◌≡◌, true, false, List, [], ◌∷◌, Some, None, map, slice_get, unwrap_or}
use Rattle.clap.specs.Simple.{App, new_rule, new_shape, with_rule}
use Rattle.clap.specs.Simple as clap
use Rattle.clap.specs.Walk.{Rule, Row}
use Rattle.clap.specs.Values.{reading_of}
use Rattle.clap.specs.declared.builder.value_parser.ValueParser.TheVariants as parser
use Rattle.clap.specs.declared.parser.matches.ValueSource.TheVariants.{CommandLine}
use Rattle.command_line.specs.Words.{Text, Shape, Given}

-- an option as clap is told of it
abbrev pub rule_for : Text → Rule
rule_for name = record (new_rule name) { long = Some name }

-- a command that is told of one more option
abbrev pub with_option : App → Text → App
with_option app name = with_rule app (rule_for name)

abbrev pub leaf_for : Shape → clap.Shape
leaf_for shape = record (new_shape shape.name) { rules = map rule_for shape.options }

abbrev pub app_for : List Shape → App
app_for shapes = record {
  top = record (new_shape []) { no_binary_name = true; disable_help_flag = true; disable_help_subcommand = true; is_leaf = false };
  subs = map leaf_for shapes;
}

-- what clap holds of an option that is given
abbrev pub row_for : Given → Row
row_for given = record {
  id = given.name;
  values = given.value ∷ [];
  count = None;
  source = Some CommandLine;
  reading = reading_of parser.String;
}

abbrev pub given_of : Row → Given
given_of row = record { name = row.id; value = unwrap_or (slice_get row.values 0) [] }

-- each of the rows holds an option that is given
abbrev pub AreGiven : List Row → Type 0
AreGiven rows = rows ≡ map row_for (map given_of rows)
