use Rattle.mp_text.proofs.ReportLemmas.{is_token-signed_decimal}
use Rattle.mp_text.proofs.reports.Report.int.Goals as goal

pub returns-clause-token : goal.returns-clause-token
returns-clause-token c = is_token-signed_decimal c.args.n c.ranges.n
