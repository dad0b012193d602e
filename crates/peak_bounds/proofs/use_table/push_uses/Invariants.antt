use Rattle.std.proofs.Common.{◌≡◌, ◌++◌, map, take}
use Rattle.peak_bounds.proofs.use_table.push_uses.Given as goal

abbrev pub invariant-loop-reader : goal.invariant-loop-reader
invariant-loop-reader l = record {
  makers : l.makers.items ≡ l.initial.makers.items ++ map (λ reader. l.from) (take l.reader-index l.readers);
  takers : l.takers.items ≡ l.initial.takers.items ++ take l.reader-index l.readers;
}
