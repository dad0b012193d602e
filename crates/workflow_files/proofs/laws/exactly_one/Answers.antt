use Rattle.std.proofs.Common.{sym, ◌∙◌}
use Rattle.workflow_files.proofs.ReadLemmas.{read_or_refused}
use Rattle.workflow_files.proofs.laws.exactly_one.Goals as goal

pub returns-clause-some : goal.returns-clause-some
returns-clause-some c = read_or_refused c.exactly_one.ensures.some

pub returns-clause-not_both : goal.returns-clause-not_both
returns-clause-not_both c = λ bytes positions refusal reads refused. c.exactly_one.ensures.not_both _ _ _ refusal reads.form refused

pub returns-clause-one_workflow : goal.returns-clause-one_workflow
returns-clause-one_workflow c = λ bytes one two this that. this.stated ∙ sym that.stated

pub returns-clause-one_refusal : goal.returns-clause-one_refusal
returns-clause-one_refusal c = λ bytes one two this that. c.exactly_one.ensures.one_refusal _ _ _ one two this that
