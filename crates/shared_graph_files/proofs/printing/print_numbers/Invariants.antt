use Rattle.std.proofs.Common.{◌≡◌, true}
use Rattle.std.specs.List.{list_all}
use Rattle.mp_text.specs.Report.{is_token, with_tokens}
use Rattle.shared_graph_files.proofs.PrintedTexts.{numbers_up_to}
use Rattle.shared_graph_files.proofs.printing.print_numbers.Given as goal

abbrev pub invariant-loop-reader : goal.invariant-loop-reader
invariant-loop-reader l = record {
  text : l.report ≡ with_tokens l.fn.report (numbers_up_to l.size l.from l.readers l.reader-index);
  are : list_all is_token (numbers_up_to l.size l.from l.readers l.reader-index) ≡ true;
}
