use Rattle.mp_text.proofs.ReportLemmas.{rows_of_bytes-commented}
use Rattle.mp_text.proofs.laws.printed_comments.Goals as goal

pub returns : goal.returns
returns c = rows_of_bytes-commented
