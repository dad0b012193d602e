use Rattle.std.proofs.Common.{◌≡◌, take}
use Rattle.reports.specs.SpilledGaps.{gap_names}
use Rattle.reports.proofs.commands.gap_report.names_of.Given as goal

abbrev pub invariant-loop-i : goal.invariant-loop-i
invariant-loop-i l = l.names.items ≡ gap_names 1 (take l.i l.items)
