use Rattle.std.proofs.Common.{◌∙◌, arith}
use Rattle.mp_text.proofs.LineLemmas.{blank-line, percent-line, hash-line, other-line}
use Rattle.mp_text.proofs.line_scan.says_nothing.Goals as goal

pub returns-in-empty : goal.returns-in-empty
returns-in-empty c = blank-line c.args.line.now c.after_blanks.result.now c.after_blanks.ensures c.args.layout c.in-empty.len_below

pub returns-in-37 : goal.returns-in-37
returns-in-37 c =
    percent-line c.args.line.now c.after_blanks.result.now c.after_blanks.ensures c.args.layout c.in-37.len_at_least (omega arith)

pub returns-in-35 : goal.returns-in-35
returns-in-35 c = c.eq.ensures
    ∙ hash-line c.args.line.now c.after_blanks.result.now c.after_blanks.ensures c.args.layout c.in-35.len_at_least (omega arith)

pub returns-in_default : goal.returns-in_default
returns-in_default c =
    other-line c.args.line.now c.after_blanks.result.now c.after_blanks.ensures c.args.layout c.in_default.len_at_least
    (λ e. omega arith) (λ e. omega arith)
