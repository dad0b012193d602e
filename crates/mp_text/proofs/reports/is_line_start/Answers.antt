use Rattle.std.proofs.Common.{ℕ, nat_eq, ap, sym}
use Rattle.mp_text.proofs.ReportLemmas.{last_or-value}
use Rattle.mp_text.proofs.reports.is_line_start.Goals as goal

pub returns-in-len1-up : goal.returns-in-len1-up
returns-in-len1-up c = ap (λ (b : ℕ). nat_eq b 10) (sym (last_or-value 10 c.args.text.now 0 c.in-len1-up.len_at_least))
