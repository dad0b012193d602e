use Rattle.std.proofs.Common.{◌≡◌, ◌++◌, map, take}
use Rattle.reports.proofs.GapLemmas.{name_to}
use Rattle.reports.proofs.commands.gap_report.push_names.Given as goal

abbrev pub invariant-loop-reader : goal.invariant-loop-reader
invariant-loop-reader l = l.names.items ≡ l.initial.names.items ++ map (name_to l.item) (take l.reader-index l.readers)
