use Rattle.std.proofs.Common.{◌∙◌}
use Rattle.std.proofs.lemmas.Result.{err_from_is_err_and}
use Rattle.mp_text.specs.Ahead.{rows_of, rows_of_bytes}
use Rattle.mp_text.proofs.ReadingLemmas.{stands-next, line-refused, end-read, end-refused}
use Rattle.mp_text.proofs.reading.read_with.Goals as goal

pub loop-line-preserved : goal.loop-line-preserved
loop-line-preserved g c =
    let stands = c.loop-line.invariant.stands in
    let next = c.in-Some.ensures in
    record {
      stands =
          stands-next g.J.Reader.format g.J.Reader.took c.args.reader c.loop-line.reader (rows_of_bytes c.args.layout c.args.bytes.now)
          (rows_of c.loop-line.lines) (rows_of c.next_line.new.self) _ next.rows stands _ c.in_ok-line.ensures;
      past = next.past ∙ c.loop-line.invariant.past;
    }

pub returns-in_err-line-clause-refused : goal.returns-in_err-line-clause-refused
returns-in_err-line-clause-refused g c =
    let stands = c.loop-line.invariant.stands in
    let given = err_from_is_err_and c.from_residual.result c.from_residual.ensures.1 in
    rw (given.1, given.2)
    (line-refused g.J.Reader.format g.J.Reader.took c.args.reader c.loop-line.reader (rows_of_bytes c.args.layout c.args.bytes.now)
    (rows_of c.loop-line.lines) (rows_of c.next_line.new.self) _ c.in-Some.ensures.rows stands _ _ c.in_err-line.ensures)

pub returns-in_err-end-clause-refused : goal.returns-in_err-end-clause-refused
returns-in_err-end-clause-refused g c =
    let stands = c.loop-line.invariant.stands in
    let ended = c.in_default.ensures in
    let given = err_from_is_err_and c.from_residual-in_err-end.result c.from_residual-in_err-end.ensures.1 in
    let past_is = c.past.ensures ∙ ended.past ∙ c.loop-line.invariant.past in
    rw (given.1, given.2, ← past_is)
    (end-refused g.J.Reader.format g.J.Reader.took c.args.reader c.loop-line.reader (rows_of_bytes c.args.layout c.args.bytes.now)
    (rows_of c.loop-line.lines) c.past.result ended.rows stands _ c.in_err-end.ensures)

pub returns-clause-read : goal.returns-clause-read
returns-clause-read g c =
    let stands = c.loop-line.invariant.stands in
    let ended = c.in_default.ensures in
    let past_is = c.past.ensures ∙ ended.past ∙ c.loop-line.invariant.past in
    rw (← past_is)
    (end-read g.J.Reader.format g.J.Reader.took c.args.reader c.loop-line.reader (rows_of_bytes c.args.layout c.args.bytes.now)
    (rows_of c.loop-line.lines) c.past.result ended.rows stands _ c.in_ok-end.ensures)
