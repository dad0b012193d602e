use Rattle.std.proofs.Common.{rules, tests, ◌≡◌, ◌∙◌, ◌||◌, Bool, List, [], ◌∷◌, is_some, ap, refl}
use Rattle.std.proofs.lemmas.Iterator.{YieldsList-from_slice}
use Rattle.std.proofs.lemmas.Iterator.Search.{any_from_yields_List}
use Rattle.std.specs.Borrow.{Bor}
use Rattle.std.specs.List.{list_any}
use Rattle.command_line.specs.Views.{texts}
use Rattle.command_line.specs.Words.{Text, Given, value_of}
use Rattle.requests.specs.Request.{gives_any}
use Rattle.requests.proofs.request.gives_any.Goals as goal

any_text : (options : List Given) (names : List (Bor Text))
    → list_any (λ name. is_some (value_of name.now options)) names ≡ gives_any (texts names) options
any_text options [] = refl
any_text options (name ∷ names) = ap (λ b. is_some (value_of name.now options) || b) (any_text options names)

pub returns : goal.returns
returns c =
    let options = c.args.line.now.options in
    let names = c.args.names.now in
    let has : Bor Text → Bool = λ name. is_some (value_of name.now options) in
    any_from_yields_List has _ _ c.any.result c.any.ensures.ran (YieldsList-from_slice names cc) (λ x b q k. search (rules, tests))
    ∙ any_text options names
