use Rattle.std.proofs.Common.{rules, tests, ◌∙◌, Bool, List, bytes_eq}
use Rattle.std.proofs.lemmas.Iterator.{YieldsList-from_slice}
use Rattle.std.proofs.lemmas.Iterator.Search.{any_from_yields_List}
use Rattle.std.specs.Borrow.{Bor}
use Rattle.std.specs.List.{list_any}
use Rattle.command_line.specs.Words.{Text}
use Rattle.command_line.proofs.OptionLemmas.{any_group}
use Rattle.command_line.proofs.form.is_listed.Goals as goal

pub returns : goal.returns
returns c =
    let name = c.args.name.now in
    let groups = c.args.groups.now in
    let has : Bor (List (Bor Text)) → Bool = λ group. list_any (λ listed. bytes_eq listed.now name) group.now in
    any_from_yields_List has _ _ c.any.result c.any.ensures.ran (YieldsList-from_slice groups cc) (λ x b q k. search (rules, tests))
    ∙ any_group name groups
