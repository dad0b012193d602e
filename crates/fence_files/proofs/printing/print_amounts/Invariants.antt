use Rattle.std.proofs.Common.{◌≡◌, ◌∷◌, ◌++◌, length, take, map}
use Rattle.std.specs.Bool.{IsTrue}
use Rattle.std.specs.Prelude.{codes}
use Rattle.mp_text.specs.Report.{is_line_start, text_of_lines}
use Rattle.file_frame.specs.Printed.{section_line}
use Rattle.fence_files.specs.Printed.{number_line}
use Rattle.fence_files.proofs.printing.print_amounts.Given as goal

abbrev pub invariant-loop-amount : goal.invariant-loop-amount
invariant-loop-amount l = record {
  text : l.report
      ≡ l.fn.report ++ text_of_lines (section_line (codes "amounts") (length l.amounts) ∷ map number_line (take l.amount-index l.amounts));
  start : IsTrue (is_line_start l.report);
}
