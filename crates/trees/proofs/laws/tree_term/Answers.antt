use Rattle.trees.proofs.LimitLemmas.{tree-terms, tree-renamed}
use Rattle.trees.proofs.laws.tree_term.Goals as goal

pub returns-clause-terms : goal.returns-clause-terms
returns-clause-terms c = λ nodes f is h. tree-terms nodes f is h c.terms_law.ensures.form

pub returns-clause-system : goal.returns-clause-system
returns-clause-system c = λ nodes f is h. tree-renamed nodes f is h c.terms_law.ensures.form
