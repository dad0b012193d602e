use Rattle.std.proofs.Common.{◌≡◌, ◌++◌, map, take}
use Rattle.shared_systems.specs.Collected.{wait}
use Rattle.shared_systems.proofs.collecting.push_waits_of.Given as goal

abbrev pub invariant-loop-reader : goal.invariant-loop-reader
invariant-loop-reader l = l.items.items ≡ l.initial.items.items ++ map (λ c. wait c l.collector) (take l.reader-index l.readers)
