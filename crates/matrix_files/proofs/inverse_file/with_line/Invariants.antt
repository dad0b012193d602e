use Rattle.std.proofs.Common.{◌≡◌, ◌+◌, ◌-◌, ◌^◌, ◌||◌, length, min}
use Rattle.std.specs.List.{list_any}
use Rattle.mp_text.specs.Text.{tokens_of}
use Rattle.matrix_files.specs.ListingFile.{states}
use Rattle.matrix_files.proofs.inverse_file.with_line.Given as goal

abbrev pub invariant-loop-token : goal.invariant-loop-token
invariant-loop-token l = record {
  tokens : min (l.seen.tokens + length l.token-iterator) (2 ^ 64 - 1) ≡ min (l.fn.before.tokens + length (tokens_of l.line)) (2 ^ 64 - 1);
  zero : (l.seen.zero || list_any (states 0) l.token-iterator) ≡ (l.fn.before.zero || list_any (states 0) (tokens_of l.line));
}
