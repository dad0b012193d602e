use Rattle.std.proofs.Common.{◌≡◌, is_some, length, map, string_bytes}
use Rattle.command_line.specs.Words.{options_among}
use Rattle.command_line.specs.Forms.{options_in}
use Rattle.command_line.specs.Views.{texts, names_of}
use Rattle.command_line.proofs.OptionLemmas.{passes}
use Rattle.command_line.proofs.form.are_options.Given as goal

abbrev pub invariant-loop-name : goal.invariant-loop-name
invariant-loop-name l = is_some (options_among (names_of l.groups) (map (λ w. string_bytes w) l.words))
    ≡ passes (names_of l.groups) (texts l.given.items) (options_in (map (λ w. string_bytes w) l.rest))

abbrev pub decreases-loop-name : goal.decreases-loop-name
decreases-loop-name l = length l.rest
