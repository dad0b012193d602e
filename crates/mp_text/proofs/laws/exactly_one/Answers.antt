use Rattle.mp_text.proofs.GrammarLemmas.{well_formed_or_refused, one_refusal}
use Rattle.mp_text.proofs.laws.exactly_one.Goals as goal

pub returns-clause-some : goal.returns-clause-some
returns-clause-some g c = λ format rows past. well_formed_or_refused format rows past

pub returns-clause-one_refusal : goal.returns-clause-one_refusal
returns-clause-one_refusal g c = λ format rows past one two. one_refusal format rows past one two
