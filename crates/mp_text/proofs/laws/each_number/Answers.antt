use Rattle.mp_text.proofs.CursorLemmas.{numbers_of-each, numbers_of-all}
use Rattle.mp_text.proofs.laws.each_number.Goals as goal

pub returns : goal.returns
returns c = record { each = numbers_of-each; all = numbers_of-all }
