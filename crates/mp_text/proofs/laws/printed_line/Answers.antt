use Rattle.mp_text.proofs.ReportLemmas.{with_tokens-line, is_line_start-line, text_of_lines-push}
use Rattle.mp_text.proofs.laws.printed_line.Goals as goal

pub returns : goal.returns
returns c = record { line = with_tokens-line; start = is_line_start-line; more = text_of_lines-push }
