use Rattle.file_frame.proofs.PrintedLaws.{AreLaws}
use Rattle.fence_files.proofs.PrintedLemmas.{printed-reads}
use Rattle.fence_files.proofs.laws.printed_fences.Goals as goal

pub returns : goal.returns
returns c =
    let number = c.printed_number.ensures in
    let file = c.printed_file.ensures in
    let laws : AreLaws = record {
      token = number.token;
      value = number.value;
      values = number.values;
      signed_token = number.signed_token;
      signed_value = number.signed_value;
      counted = number.counted;
      rows = file.rows;
      parts = file.parts;
      count = file.count;
    } in
    printed-reads laws
