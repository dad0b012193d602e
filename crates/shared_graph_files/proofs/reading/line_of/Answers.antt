use Rattle.std.proofs.Common.{◌≡◌, ◌+◌, ◌∙◌, List, [], get_or, drop, sym, ap, arith}
use Rattle.mp_text.specs.declared.layout.Layout.TheVariants.{Commented}
use Rattle.mp_text.specs.Text.{Row}
use Rattle.mp_text.specs.Ahead.{row, rows_of, rows_of_bytes}
use Rattle.file_frame.proofs.RowsAhead.{rows_from_next, row_ahead}
use Rattle.shared_graph_files.proofs.reading.line_of.Goals as goal

pub loop-before-preserved : goal.loop-before-preserved
loop-before-preserved c =
    let rows = rows_of_bytes Commented c.args.bytes.now in
    rows_from_next c.next_line.result (λ line. row line.number line.text.now) rows
    (rows_of c.loop-before.lines) (rows_of c.next_line.new.self) c.loop-before._before c.loop-before.invariant
    c.next_line.ensures.rows c.next_line.ensures.none

pub returns-in-Some : goal.returns-in-Some
returns-in-Some c =
    let rows = rows_of_bytes Commented c.args.bytes.now in
    let none : Row = record { number = 0; tokens = [] } in
    let place : c.loop-before._before ≡ c.args.task + 1 = omega arith in
    let ahead : rows_of c.loop-before.lines ≡ drop (c.args.task + 1) rows = c.loop-before.invariant ∙ ap (λ k. drop k rows) place in
    sym (ap (λ (r : Row). r.number) (row_ahead rows (rows_of c.loop-before.lines) (c.args.task + 1) none ahead
    ∙ ap (λ (l : List Row). get_or l 0 none) c.in-Some.ensures.rows))

pub returns-in-None : goal.returns-in-None
returns-in-None c =
    let rows = rows_of_bytes Commented c.args.bytes.now in
    let none : Row = record { number = 0; tokens = [] } in
    let place : c.loop-before._before ≡ c.args.task + 1 = omega arith in
    let ahead : rows_of c.loop-before.lines ≡ drop (c.args.task + 1) rows = c.loop-before.invariant ∙ ap (λ k. drop k rows) place in
    sym (ap (λ (r : Row). r.number) (row_ahead rows (rows_of c.loop-before.lines) (c.args.task + 1) none ahead
    ∙ ap (λ (l : List Row). get_or l 0 none) c.in-None.ensures.rows))
