-- Lines after the second: what the word that they begin with makes of them.
use Rattle.std.specs.Prelude.{◌≡◌, false, Some, None, drop, refl}
use Rattle.std.proofs.Common.{inl, inr}
use Rattle.std.proofs.lemmas.Bool.{cases_Bool}
use Rattle.mp_text.specs.Text.{Row, numbers_of}
use Rattle.workflow_files.specs.declared.word.Word.{Word}
use Rattle.workflow_files.specs.WorkflowFile.{word_stated, begins_end}
use Rattle.workflow_files.specs.Reader.{ReaderState, position_step, end_step, body_step}

pub body_of_word : (s : ReaderState) (row : Row) (word : Word) → word_stated row ≡ Some word → begins_end row ≡ false
    → body_step s row ≡ position_step s row.number word (numbers_of (drop 1 row.tokens))
body_of_word s row word stated no_end = rw (no_end, stated) refl

pub body_of_none : (s : ReaderState) (row : Row) → word_stated row ≡ None → body_step s row ≡ end_step s row
body_of_none s row none = elim (cases_Bool (begins_end row)) [ inl end ↦ rw end refl | inr other ↦ rw (other, none) refl ]
