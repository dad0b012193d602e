use Rattle.std.proofs.Common.{◌≡◌, take, length}
use Rattle.mp_text.proofs.CursorLemmas.{Goes}
use Rattle.mp_text.proofs.token_scan.Tokens.numbers.Given as goal

abbrev pub invariant-loop-i : goal.invariant-loop-i
invariant-loop-i g l = record { goes : Goes l.fn.self (take l.i l.values) l.self; long : length l.values ≡ g.row.N }
