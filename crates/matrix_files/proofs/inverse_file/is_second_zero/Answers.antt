use Rattle.std.proofs.Common.{refl}
use Rattle.mp_text.specs.Text.{number_of}
use Rattle.matrix_files.proofs.inverse_file.is_second_zero.Goals as goal

pub returns-in-None : goal.returns-in-None
unfolding number_of
returns-in-None c = rw (← c.in-None.ensures) refl
