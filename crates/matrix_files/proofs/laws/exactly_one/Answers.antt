use Rattle.mp_text.specs.declared.layout.Layout.TheVariants.{Banner}
use Rattle.mp_text.specs.Ahead.{rows_of_bytes, past_of_bytes}
use Rattle.matrix_files.specs.MatrixFile.{matrix_format, order_stated, pairs_stated}
use Rattle.patterns.proofs.SameRows.{same_patterns}
use Rattle.matrix_files.proofs.FileLemmas.{read_or_refused}
use Rattle.matrix_files.proofs.laws.exactly_one.Goals as goal

pub returns-clause-some : goal.returns-clause-some
returns-clause-some c = read_or_refused c.exactly_one.ensures.some

pub returns-clause-not_both : goal.returns-clause-not_both
returns-clause-not_both c = λ bytes rows refusal reads refused.
    c.exactly_one.ensures.not_both matrix_format (rows_of_bytes Banner bytes) (past_of_bytes bytes) refusal reads.form refused

pub returns-clause-one_pattern : goal.returns-clause-one_pattern
returns-clause-one_pattern c = λ bytes one two first second. same_patterns (order_stated (rows_of_bytes Banner bytes))
    (pairs_stated (rows_of_bytes Banner bytes)) one two first.pattern second.pattern

pub returns-clause-one_refusal : goal.returns-clause-one_refusal
returns-clause-one_refusal c = λ bytes one two first second.
    c.exactly_one.ensures.one_refusal matrix_format (rows_of_bytes Banner bytes) (past_of_bytes bytes) one two first second
