use Rattle.std.proofs.Common.{◌≡◌, ◌∷◌, ◌++◌, length, take, map}
use Rattle.std.specs.Bool.{IsTrue}
use Rattle.std.specs.Prelude.{codes}
use Rattle.mp_text.specs.Report.{is_line_start, text_of_lines}
use Rattle.file_frame.specs.Printed.{section_line}
use Rattle.fence_files.specs.Printed.{fence_line}
use Rattle.fence_files.proofs.printing.print_fence_lines.Given as goal

abbrev pub invariant-loop-fence : goal.invariant-loop-fence
invariant-loop-fence l = record {
  text : l.report ≡ l.fn.report ++ text_of_lines (section_line (codes "fences") (length l.fences) ∷ map fence_line (take l.fence-index l.fences));
  start : IsTrue (is_line_start l.report);
}
