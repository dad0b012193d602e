-- The words of what is wrong with a graph file.
use Rattle.std.specs.Prelude.{ℕ, List, codes}
use Rattle.graph_files.specs.declared.kind.GraphKind.{GraphKind}
use Rattle.graph_files.specs.declared.kind.GraphKind.TheVariants.{Header, Number, Section, Cycle, Share, NoEnd}
use Rattle.graph_files.specs.declared.kind.GraphKind.TheVariants as kinds

-- the word for it in reports
abbrev pub word_of : GraphKind → List ℕ
word_of Header = codes "header"
word_of Number = codes "number"
word_of Section = codes "section"
word_of kinds.Arc = codes "arc"
word_of kinds.Item = codes "item"
word_of Cycle = codes "cycle"
word_of Share = codes "share"
word_of NoEnd = codes "no-end"
