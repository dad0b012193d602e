use Rattle.std.proofs.Common.{◌≡◌, ◌++◌, [], ◌∷◌, take, map}
use Rattle.std.specs.Bool.{IsTrue}
use Rattle.std.specs.Fmt.{decimal}
use Rattle.mp_text.specs.Report.{is_line_start, text_of_lines}
use Rattle.judging.proofs.page.print_numbers.Given as goal

abbrev pub invariant-loop-number : goal.invariant-loop-number
invariant-loop-number l = record {
  text : l.report ≡ l.fn.report ++ text_of_lines (map (λ v. decimal v ∷ []) (take l.number-index l.numbers));
  start : IsTrue (is_line_start l.report);
}
