use Rattle.std.proofs.Common.{◌≡◌, true, take}
use Rattle.std.specs.List.{sum_by, list_all}
use Rattle.mp_system.specs.Replay.{is_marked}
use Rattle.mp_system.proofs.InputPlaces.{size_at, is_produced_at}
use Rattle.mp_system.proofs.inputs.sum_if_ready.Given as goal

abbrev pub invariant-loop-i : goal.invariant-loop-i
invariant-loop-i l = record {
  summed : l.sum ≡ sum_by (size_at l.items) (take l.i-index l.i-items);
  produced : list_all (is_produced_at (is_marked l.ran) l.items) (take l.i-index l.i-items) ≡ true;
}
