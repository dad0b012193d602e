use Rattle.std.proofs.Common.{◌≡◌, ◌++◌, take, map}
use Rattle.std.specs.Bool.{IsTrue}
use Rattle.mp_text.specs.Report.{is_line_start, text_of_lines}
use Rattle.reports.specs.Simulate.{event_line}
use Rattle.reports.proofs.commands.simulate.print_events.Given as goal

abbrev pub invariant-loop-event : goal.invariant-loop-event
invariant-loop-event l = record {
  text : l.report ≡ l.fn.report ++ text_of_lines (map event_line (take l.event-index l.events));
  start : IsTrue (is_line_start l.report);
}
