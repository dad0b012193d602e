use Rattle.mp_text.proofs.ReportLemmas.{is_token-decimal, number_of-decimal, numbers_of-decimals, is_token-signed_decimal}
use Rattle.mp_text.proofs.ReportLemmas.{signed_of-signed_decimal, is_counted-decimal}
use Rattle.mp_text.proofs.laws.printed_number.Goals as goal

pub returns : goal.returns
returns c = record {
  token = is_token-decimal;
  value = number_of-decimal;
  values = numbers_of-decimals;
  signed_token = is_token-signed_decimal;
  signed_value = signed_of-signed_decimal;
  counted = is_counted-decimal;
}
