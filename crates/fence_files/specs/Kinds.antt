-- The words of what is wrong with a fence file.
use Rattle.std.specs.Prelude.{ℕ, List, codes}
use Rattle.fence_files.specs.declared.kind.FenceKind.{FenceKind}
use Rattle.fence_files.specs.declared.kind.FenceKind.TheVariants.{Header, Section, Number, Join, Fence, Amount, Workers, NoEnd}

-- the word for it in reports
abbrev pub word_of : FenceKind → List ℕ
word_of Header = codes "header"
word_of Section = codes "section"
word_of Number = codes "number"
word_of Join = codes "join"
word_of Fence = codes "fence"
word_of Amount = codes "amount"
word_of Workers = codes "workers"
word_of NoEnd = codes "no-end"
