use Rattle.std.proofs.Common.{◌∙◌, ap, ◌++◌, ◌∷◌, []}
use Rattle.elimination.proofs.ListWrites.{list_here, list_other, list_get}
use Rattle.elimination.proofs.twins.push_at.Goals as goal

pub returns-in_err-push-clause-others : goal.returns-in_err-push-clause-others
returns-in_err-push-clause-others c = λ y ne. list_other c.args.lists.now c.args.at y c.push.new.self ne

pub returns-clause-pushed : goal.returns-clause-pushed
returns-clause-pushed c =
    list_here c.args.lists.now c.args.at c.push.new.self c.requires ∙ c.in_ok-push.ensures.items
    ∙ ap (λ v. v ++ c.args.number ∷ []) (list_get c.args.lists.now c.args.at c.index-lists-at.result c.requires)

pub returns-clause-others : goal.returns-clause-others
returns-clause-others c = λ y ne. list_other c.args.lists.now c.args.at y c.push.new.self ne
