use Rattle.std.proofs.Common.{◌∙◌, ap, append_assoc, List, [], ◌∷◌, ◌++◌, Option, option_map, option_and_then, find, bytes_eq}
use Rattle.command_line.specs.Words.{Text, Given, Shape, Line, if_allowed}
use Rattle.command_line.specs.Forms.{options_in}
use Rattle.command_line.proofs.FormLemmas.{one_or_two}
use Rattle.command_line.proofs.laws.one_word_or_two.Goals as goal

-- the line, by what the words after the command give
abbrev line_from : List Shape → Text → Option (List Given) → Option Line
line_from shapes command given = option_and_then
    (λ shape. option_map (λ options. record { command = command; options = options }) (option_and_then (if_allowed shape.options) given))
    (find (λ shape. bytes_eq shape.name command) shapes)

pub returns : goal.returns
returns c = λ shapes command before after name value e.
    ap (λ text. line_from shapes command (options_in (before ++ (45 ∷ 45 ∷ text) ∷ after))) (append_assoc name (61 ∷ []) value)
    ∙ ap (line_from shapes command) (one_or_two before after name value e)
