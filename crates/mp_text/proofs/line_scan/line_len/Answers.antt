use Rattle.std.proofs.Common.{◌∙◌}
use Rattle.mp_text.proofs.LineLemmas.{feed-at}
use Rattle.mp_text.proofs.line_scan.line_len.Goals as goal

pub returns-clause-value : goal.returns-clause-value
returns-clause-value c = c.unwrap_or.ensures ∙ feed-at c.args.bytes.now c.memchr.result c.memchr.ensures
