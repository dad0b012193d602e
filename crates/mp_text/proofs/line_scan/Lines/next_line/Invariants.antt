use Rattle.std.proofs.Common.{◌≡◌, length}
use Rattle.mp_text.proofs.ScanLemmas.{IsPast}
use Rattle.mp_text.proofs.line_scan.Lines.next_line.Given as goal

abbrev pub invariant-loop-line : goal.invariant-loop-line
invariant-loop-line l = record { past : IsPast l.fn.self l.self; layout : l.layout ≡ l.fn.self.layout }

abbrev pub decreases-loop-line : goal.decreases-loop-line
decreases-loop-line l = length l.self.lines
