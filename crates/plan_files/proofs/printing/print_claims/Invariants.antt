use Rattle.std.proofs.Common.{◌≡◌, ◌∷◌, ◌++◌, length, take, map}
use Rattle.std.specs.Bool.{IsTrue}
use Rattle.std.specs.Prelude.{codes}
use Rattle.mp_text.specs.Report.{is_line_start, text_of_lines}
use Rattle.plan_files.specs.Printed.{claim_line}
use Rattle.plan_files.proofs.printing.print_claims.Given as goal
use Rattle.file_frame.specs.Printed.{section_line}

abbrev pub invariant-loop-claim : goal.invariant-loop-claim
invariant-loop-claim l = record {
  text : l.report
      ≡ l.fn.report ++ text_of_lines (section_line (codes "claims") (length l.claims) ∷ map claim_line (take l.claim-index l.claims));
  start : IsTrue (is_line_start l.report);
}
