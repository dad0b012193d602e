use Rattle.std.proofs.Common.{refl, ◌∙◌}
use Rattle.file_frame.specs.Words.{version_of}
use Rattle.file_frame.proofs.version.version_of.Goals as goal

pub returns-in_err-after_word : goal.returns-in_err-after_word
unfolding version_of
returns-in_err-after_word c = rw (c.from_residual.ensures, ← c.in_err-after_word.ensures) refl

pub returns : goal.returns
unfolding version_of
returns c = c.version_named.ensures ∙ rw (← c.in_ok-after_word.ensures) refl
