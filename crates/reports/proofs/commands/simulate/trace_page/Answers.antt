use Rattle.std.proofs.Common.{◌≡◌, ◌∙◌, ℕ, List, [], ◌∷◌, ◌++◌, ap, map, length, codes, vec_len, arith}
use Rattle.activation.specs.declared.events.Event.{Event}
use Rattle.mp_text.specs.Report.{line_text, text_of_lines}
use Rattle.reports.specs.Simulate.{count_line, event_line}
use Rattle.judging.specs.declared.status.Status.TheVariants as status
use Rattle.judging.proofs.PageLemmas.{trace-lines}
use Rattle.reports.proofs.commands.simulate.trace_page.Goals as goal

pub returns : goal.returns
returns c =
    let trace = c.args.trace.now in
    let events = trace.events.items in
    let long : vec_len trace.events ≡ length events = omega (arith, trace.events.ok.0) in
    let makespan = count_line (codes "makespan") trace.makespan in
    let count = λ (n : ℕ). c.print_count-3.new.report ++ line_text (count_line (codes "events") n) in
    let lines = λ (es : List Event). c.print_count-4.new.report ++ text_of_lines (map event_line es) in
    ap (λ (text : List ℕ). record { status = status.Done; text = text })
    (trace-lines c.printed_lines.ensures.more makespan (count_line (codes "used") trace.used) (count_line (codes "booked") trace.booked)
    (count_line (codes "events") (length events)) (codes "end" ∷ []) (map event_line events)
    c.print_count.new.report c.print_count-2.new.report c.print_count-3.new.report
    c.print_count-4.new.report c.print_events.new.report c.print_end.new.report
    (c.in_ok-print_count.ensures.text ∙ ap (λ (text : List ℕ). text ++ line_text makespan) c.new-report.ensures)
    c.in_ok-print_count-2.ensures.text c.in_ok-print_count-3.ensures.text
    (c.in_ok-print_count-4.ensures.text ∙ ap count (c.len.ensures ∙ long))
    (c.in_ok-print_events.ensures.text ∙ ap lines c.deref.ensures.value) c.in_ok-print_end.ensures)
