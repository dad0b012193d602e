use Rattle.std.proofs.Common.{◌≡◌, ◌+◌, ℕ, false, length, get_or, take}
use Rattle.std.specs.List.{list_any}
use Rattle.mp_system.specs.Replay.{is_marked}
use Rattle.shared_systems.specs.Shared.{shared_size_where}
use Rattle.shared_systems.specs.SharedMemory.{is_held}
use Rattle.state_search.specs.States.{is_taken_up}
use Rattle.state_search.specs.Views.{is_regained}
use Rattle.state_search.proofs.view.view_of.Given as goal

abbrev pub invariant-loop-i : goal.invariant-loop-i
invariant-loop-i l = record {
  memory : l.memory ≡ shared_size_where (is_held (is_marked l.marks)) (take l.i l.items);
  regained_len : length l.regained.items ≡ l.count + 1;
  regained : (v : ℕ) → get_or l.regained.items v 0 ≡ shared_size_where (is_regained l.marks v) (take l.i l.items);
  taken_up_len : length l.taken_up.items ≡ l.count + 1;
  taken_up : (v : ℕ) → get_or l.taken_up.items v false ≡ list_any (is_taken_up l.marks v) (take l.i l.items);
}
