use Rattle.std.proofs.Common.{◌≡◌, true}
use Rattle.std.specs.List.{list_all}
use Rattle.mp_text.specs.Report.{is_token, with_tokens}
use Rattle.reports.proofs.StairPages.{side_up_to}
use Rattle.reports.proofs.commands.segments.print_side.Given as goal

abbrev pub invariant-loop-step : goal.invariant-loop-step
invariant-loop-step l = record {
  text : l.report ≡ with_tokens l.fn.report (side_up_to l.number l.direction l.start l.steps l.step-index);
  are : list_all is_token (side_up_to l.number l.direction l.start l.steps l.step-index) ≡ true;
}
