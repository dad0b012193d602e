use Rattle.std.proofs.Common.{◌∙◌, ap, ◌++◌}
use Rattle.elimination.proofs.ListWrites.{list_here, list_other, list_get}
use Rattle.elimination.proofs.twins.extend_at.Goals as goal

pub returns-in_err-extend_from_slice-clause-others : goal.returns-in_err-extend_from_slice-clause-others
returns-in_err-extend_from_slice-clause-others c = λ y ne. list_other c.args.lists.now c.args.at y c.extend_from_slice.new.self ne

pub returns-clause-put : goal.returns-clause-put
returns-clause-put c =
    list_here c.args.lists.now c.args.at c.extend_from_slice.new.self c.requires ∙ c.in_ok-extend_from_slice.ensures.items
    ∙ ap (λ v. v ++ c.args.numbers.now) (list_get c.args.lists.now c.args.at c.index-lists-at.result c.requires)

pub returns-clause-others : goal.returns-clause-others
returns-clause-others c = λ y ne. list_other c.args.lists.now c.args.at y c.extend_from_slice.new.self ne
