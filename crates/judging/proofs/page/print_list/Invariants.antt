use Rattle.std.proofs.Common.{◌≡◌, take, map}
use Rattle.std.specs.Bool.{IsTrue}
use Rattle.std.specs.Fmt.{decimal}
use Rattle.std.specs.List.{list_all}
use Rattle.mp_text.specs.Report.{is_token, with_tokens}
use Rattle.judging.proofs.page.print_list.Given as goal

abbrev pub invariant-loop-number : goal.invariant-loop-number
invariant-loop-number l = record {
  text : l.report ≡ with_tokens l.fn.report (map decimal (take l.number-index l.numbers));
  tokens : IsTrue (list_all is_token (map decimal (take l.number-index l.numbers)));
}
