use Rattle.std.proofs.Common.{◌≡◌, true, map, take}
use Rattle.std.specs.List.{list_all}
use Rattle.mp_text.specs.Report.{is_token, token_text, with_tokens}
use Rattle.mp_text.proofs.reports.Report.put_line.Given as goal

abbrev pub invariant-loop-token : goal.invariant-loop-token
invariant-loop-token l = record {
  text : l.self ≡ with_tokens l.fn.self (map token_text (take l.token-index l.tokens));
  are : list_all is_token (map token_text (take l.token-index l.tokens)) ≡ true;
}
