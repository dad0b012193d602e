-- What a reader that took all lines of a well-formed matrix file states.
use Rattle.std.proofs.Common.{◌≡◌, ℕ, List, ap, ◌∙◌, sym}
use Rattle.mp_text.specs.declared.layout.Layout.TheVariants.{Banner}
use Rattle.mp_text.specs.Ahead.{rows_of_bytes, past_of_bytes}
use Rattle.mp_text.specs.Grammar.{IsWellFormed}
use Rattle.matrix_files.specs.MatrixFile.{matrix_format, order_stated, pairs_stated}
use Rattle.matrix_files.specs.Reader.{MatrixState, took, staged_took}
use Rattle.matrix_files.specs.Stated.{AreStated}
use Rattle.matrix_files.specs.declared.stage.Stage.{Stage}
use Rattle.matrix_files.specs.declared.stage.Stage.TheVariants as stages
use Rattle.matrix_files.proofs.FileLemmas.{well_formed_within}

staged_stated : (bytes : List ℕ) (stage : Stage) (s : MatrixState)
    → IsWellFormed matrix_format (rows_of_bytes Banner bytes) (past_of_bytes bytes)
    → staged_took stage s (rows_of_bytes Banner bytes) → AreStated bytes s.order s.pairs
staged_stated bytes stages.Banner s form t = let e = rw t.0 at form.end in absurd cc
staged_stated bytes stages.Size s form t = let e = rw t.rows_are at form.end in absurd cc
staged_stated bytes stages.Entries s form t =
    let w = well_formed_within (rows_of_bytes Banner bytes) (past_of_bytes bytes) form in
    let order_is : s.order ≡ order_stated (rows_of_bytes Banner bytes) = t.order ∙ sym (ap order_stated t.rows_are) in
    let pairs_are : s.pairs ≡ pairs_stated (rows_of_bytes Banner bytes) = t.pairs ∙ sym (ap pairs_stated t.rows_are) in
    record {
      form = form;
      order_is = order_is;
      pairs_are = pairs_are;
      some = rw order_is w.some;
      small = rw order_is w.small;
      few = rw pairs_are w.few;
      within = rw (order_is, pairs_are) w.within;
    }

pub took_stated : (bytes : List ℕ) (s : MatrixState) → IsWellFormed matrix_format (rows_of_bytes Banner bytes) (past_of_bytes bytes)
    → took s (rows_of_bytes Banner bytes) → AreStated bytes s.order s.pairs
took_stated bytes s form taken = staged_stated bytes s.stage s form taken
