use Rattle.workflow_files.specs.NamedText.{name_lines}
use Rattle.workflow_files.proofs.NamedLines.{names-small, named-comments, named-length}
use Rattle.workflow_files.proofs.laws.named_workflow.Goals as goal

pub returns-clause-reads : goal.returns-clause-reads
returns-clause-reads c = λ positions names terms few within.
    c.commented_workflow.ensures.reads positions (name_lines names) terms
    (named-comments c.printed_number.ensures.token names few (names-small names within))

pub returns-clause-length : goal.returns-clause-length
returns-clause-length c = λ positions names terms few within.
    named-length positions names few (names-small names within) (c.commented_workflow.ensures.room positions terms)
