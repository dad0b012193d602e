use Rattle.mp_text.proofs.ReportLemmas.{rows_of_bytes-printed, past_of_bytes-printed, numbered_from-append, length-numbered_from}
use Rattle.mp_text.proofs.laws.printed_file.Goals as goal

pub returns : goal.returns
returns c =
    record { rows = rows_of_bytes-printed; past = past_of_bytes-printed; parts = numbered_from-append; count = length-numbered_from }
