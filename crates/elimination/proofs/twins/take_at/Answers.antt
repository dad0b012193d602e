use Rattle.std.proofs.Common.{◌∙◌, ap}
use Rattle.elimination.proofs.ListWrites.{list_here, list_other, list_get}
use Rattle.elimination.proofs.twins.take_at.Goals as goal

pub returns-clause-value : goal.returns-clause-value
returns-clause-value c = ap (λ v. v.items) c.replace.ensures.value ∙ list_get c.args.lists.now c.args.at c.index-lists-at.result c.requires

pub returns-clause-empty : goal.returns-clause-empty
returns-clause-empty c = list_here c.args.lists.now c.args.at c.replace.new.dest c.requires ∙ ap (λ v. v.items) c.replace.ensures.after
    ∙ c.new.ensures.items

pub returns-clause-others : goal.returns-clause-others
returns-clause-others c = λ y ne. list_other c.args.lists.now c.args.at y c.replace.new.dest ne
