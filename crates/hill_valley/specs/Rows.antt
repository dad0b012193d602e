-- No public clause names this.
-- A side as a slot, a row or a tree.
use Rattle.std.specs.Prelude.{List}
use Rattle.hill_valley.specs.declared.side.Seg.{Seg}
use Rattle.hill_valley.specs.declared.side.Segments.{Segments}
use Rattle.hill_valley.specs.declared.side.Segments.TheVariants.{Slot, Row, Tree}

-- the segments of each
abbrev pub segs_in : Segments → List Seg
segs_in (Slot slot) = slot
segs_in (Row row) = row
segs_in (Tree tree) = tree
