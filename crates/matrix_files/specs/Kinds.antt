-- The words of what is wrong with a matrix file.
use Rattle.std.specs.Prelude.{ℕ, List, codes}
use Rattle.matrix_files.specs.declared.kind.MatrixKind.{MatrixKind}
use Rattle.matrix_files.specs.declared.kind.MatrixKind.TheVariants.{Banner, NotMatrix, ArrayFormat, Field, Symmetry, SizeLine, NotSquare}
use Rattle.matrix_files.specs.declared.kind.MatrixKind.TheVariants.{Entry, Index, TooFew, TooMany}

-- the word for it in reports
abbrev pub word_of : MatrixKind → List ℕ
word_of Banner = codes "banner"
word_of NotMatrix = codes "not-matrix"
word_of ArrayFormat = codes "array-format"
word_of Field = codes "field"
word_of Symmetry = codes "symmetry"
word_of SizeLine = codes "size-line"
word_of NotSquare = codes "not-square"
word_of Entry = codes "entry"
word_of Index = codes "index"
word_of TooFew = codes "too-few"
word_of TooMany = codes "too-many"
