use Rattle.std.proofs.Common.{arith}
use Rattle.mp_text.proofs.ReportLemmas.{is_token-decimal}
use Rattle.mp_text.proofs.reports.Report.num.Goals as goal

pub returns-clause-token : goal.returns-clause-token
returns-clause-token c = is_token-decimal c.args.n (omega arith)
