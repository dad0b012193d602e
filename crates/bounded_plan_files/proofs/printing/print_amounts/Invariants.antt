use Rattle.std.proofs.Common.{◌≡◌, ◌++◌, take, map}
use Rattle.std.specs.Bool.{IsTrue}
use Rattle.mp_text.specs.Report.{is_line_start, text_of_lines}
use Rattle.bounded_plan_files.specs.Printed.{amount_line}
use Rattle.bounded_plan_files.proofs.printing.print_amounts.Given as goal

abbrev pub invariant-loop-amount : goal.invariant-loop-amount
invariant-loop-amount l = record {
  text : l.report ≡ l.fn.report ++ text_of_lines (map amount_line (take l.amount-index l.amounts));
  start : IsTrue (is_line_start l.report);
}
