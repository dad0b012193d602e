use Rattle.mp_text.proofs.ReportLemmas.{text_of_lines-push, text_of_lines-append, is_line_start-lines}
use Rattle.mp_text.proofs.laws.printed_lines.Goals as goal

pub returns : goal.returns
returns c = record { more = text_of_lines-push; parts = text_of_lines-append; start = is_line_start-lines }
