-- The words of what is wrong with a tree file.
use Rattle.std.specs.Prelude.{ℕ, List, codes}
use Rattle.tree_files.specs.declared.kind.TreeKind.{TreeKind}
use Rattle.tree_files.specs.declared.kind.TreeKind.TheVariants.{Header, Number, Parent, Cycle, Count, NoEnd, Share}

-- the word for it in reports
abbrev pub word_of : TreeKind → List ℕ
word_of Header = codes "header"
word_of Number = codes "number"
word_of Parent = codes "parent"
word_of Cycle = codes "cycle"
word_of Count = codes "count"
word_of NoEnd = codes "no-end"
word_of Share = codes "share"
