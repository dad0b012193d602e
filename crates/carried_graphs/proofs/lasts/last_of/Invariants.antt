use Rattle.std.proofs.Common.{◌≡◌, ◌<◌, length, take, get_or}
use Rattle.carried_graphs.specs.Places.{IsGreatest}
use Rattle.carried_graphs.proofs.lasts.last_of.Given as goal

abbrev pub invariant-loop-reader : goal.invariant-loop-reader
invariant-loop-reader l = record {
  greatest : IsGreatest (λ v. get_or l.places v 0) (take l.reader-index l.readers) l.last;
  some : 0 < l.last → (l.last < length l.places) × (0 < l.reader-index);
  none : l.last ≡ 0 → l.reader-index ≡ 0;
}
