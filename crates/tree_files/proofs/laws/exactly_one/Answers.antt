use Rattle.tree_files.proofs.FileLemmas.{read_or_refused, not_both, one_refusal}
use Rattle.tree_files.proofs.laws.exactly_one.Goals as goal

pub returns-clause-some : goal.returns-clause-some
returns-clause-some c = read_or_refused c.exactly_one.ensures.some

pub returns-clause-not_both : goal.returns-clause-not_both
returns-clause-not_both c = not_both c.exactly_one.ensures.not_both

pub returns-clause-one_refusal : goal.returns-clause-one_refusal
returns-clause-one_refusal c = one_refusal c.exactly_one.ensures.not_both c.exactly_one.ensures.one_refusal
