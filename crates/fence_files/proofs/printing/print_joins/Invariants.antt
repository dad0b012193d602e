use Rattle.std.proofs.Common.{◌≡◌, ◌∷◌, ◌++◌, length, take, map}
use Rattle.std.specs.Bool.{IsTrue}
use Rattle.std.specs.Prelude.{codes}
use Rattle.mp_text.specs.Report.{is_line_start, text_of_lines}
use Rattle.file_frame.specs.Printed.{section_line}
use Rattle.fence_files.specs.Printed.{number_line}
use Rattle.fence_files.proofs.printing.print_joins.Given as goal

abbrev pub invariant-loop-place : goal.invariant-loop-place
invariant-loop-place l = record {
  text : l.report ≡ l.fn.report ++ text_of_lines (section_line (codes "joins") (length l.joins) ∷ map number_line (take l.place-index l.joins));
  start : IsTrue (is_line_start l.report);
}
