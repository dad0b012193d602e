use Rattle.std.proofs.Common.{◌≡◌, ◌∙◌, ℕ, List, [], ◌∷◌, Bool, true, false, None, ap, sym, refl, option_and_then}
use Rattle.std.specs.Str.{bytes_eq}
use Rattle.std.proofs.lemmas.Slice.Eq.{bytes_eq-Decides}
use Rattle.requests.specs.Words.{Command, commands, named}
use Rattle.requests.proofs.commands.command_of.Goals as goal

untrue : (b : Bool) → (b ≡ true → ⊥) → b ≡ false
untrue true not = absurd (not refl)
untrue false not = refl

-- the word is no name of the table
abbrev IsNone : List ℕ → List Command → Type 0
IsNone word [] = Unit {0}
IsNone word (command ∷ others) = (word ≡ command.name → ⊥) × IsNone word others

none_named : (word : List ℕ) (table : List Command) → IsNone word table → named word table ≡ None
none_named word [] none = refl
none_named word (command ∷ others) none =
    rw (untrue (bytes_eq command.name word) (λ same. none.0 (sym ((bytes_eq-Decides command.name word).0 same))))
    (none_named word others none.1)

pub returns-in_default-clause-value : goal.returns-in_default-clause-value
returns-in_default-clause-value c =
    let none : IsNone c.command.result.now commands = assumption (c.in_default) in
    let word = sym (ap (λ name. named name commands) c.command.ensures) in
    sym (ap (option_and_then (λ (command : Command). command.asks c.args.line.now.options))
    (word ∙ none_named c.command.result.now commands none))
