-- The tables of a core at its start.
use Rattle.std.proofs.Common.{◌≡◌, ℕ, ◌≤◌, false, not, cond, List, [], length, refl, sym, ◌∙◌, ap}
use Rattle.std.specs.Prelude.{count_by, slice_index, replicate}
use Rattle.std.proofs.lemmas.List.{length-replicate}
use Rattle.bit_rows.proofs.RowBits.{none_in}
use Rattle.limits.specs.Limits.{most_workers}
use Rattle.lists.proofs.Lists.{sum-same as sum_same}
use Rattle.shared_systems.specs.Shared.{SharedItem, shared_item_at}
use Rattle.shared_systems.specs.SharedMemory.{shared_memory}
use Rattle.activation.specs.declared.events.Phase.{Phase}
use Rattle.activation.specs.Machine.{Setting, IsSetting, is_done, is_running, is_done_phase, is_running_phase}
use Rattle.activation.specs.Machine.{start_state, booked_memory, used_memory}
use Rattle.activation.specs.Safe.{IsSafe}
use Rattle.activation.specs.Tables.{FixedTables, AreFixed, AreByPlace, AreLeft, AreCoreTables, is_awaited, awaited, shared_items_of}
use Rattle.activation.specs.Tables.{readers_left}
use Rattle.activation.proofs.Safety.{phase_replicate, count_zero}
use Rattle.activation.proofs.Awaiting.{awaited_same}

awaited_first : (c : Setting) (t : ℕ) → awaited c.system (is_done (start_state c)) t ≡ count_by (is_awaited (λ _. false) t) c.system.items
unfolding awaited
awaited_first c t =
    awaited_same c.system (is_done (start_state c)) (λ _. false) (λ u. ap is_done_phase (phase_replicate (length c.system.tasks) u)) t

left_first : (c : Setting) (x : SharedItem) → readers_left (is_done (start_state c)) x ≡ readers_left (λ _. false) x
left_first c x =
    sum_same (λ t. cond (not (is_done (start_state c) t)) 1 0) (λ t. 1)
    (λ t. ap (λ (p : Phase). cond (not (is_done_phase p)) 1 0) (phase_replicate (length c.system.tasks) t)) x.readers

pub start_tables : (c : Setting) → IsSetting c → c.workers ≤ most_workers → IsSafe c (start_state c) →
    booked_memory c (start_state c) ≡ shared_memory c.system (λ _. false)
    → used_memory c (start_state c) ≡ shared_memory c.system (λ _. false) →
    (fixed : FixedTables) → AreFixed c fixed →
    (waiting : List ℕ) → AreByPlace c.order (λ t n. n ≡ count_by (is_awaited (λ _. false) t) c.system.items) waiting →
    length c.order ≡ length c.system.tasks →
    (left : List ℕ) → AreLeft (λ _. false) (shared_items_of c.system) left →
    (memory : ℕ) → memory ≡ shared_memory c.system (λ _. false) →
    AreCoreTables c (start_state c)
    (record {
      fixed = fixed;
      waiting = waiting;
      startable = replicate (length c.system.tasks) false;
      left = left;
      running = record { listed = []; room = c.workers; count = length c.system.tasks };
      booked = memory;
      used = memory;
    })
start_tables c set few safe booked used fixed are waiting waits long left lefts memory is =
    let idle = phase_replicate (length c.system.tasks) in
    record {
      setting = set;
      few_workers = few;
      safe = safe;
      fixed = are;
      waiting_are = record { long = waits.long; each = λ k w. waits.each k w ∙ sym (awaited_first c (slice_index c.order k)) };
      startable_are = record {
        long = length-replicate (length c.system.tasks) false ∙ sym long;
        each = λ k w. none_in (length c.system.tasks) k;
      };
      left_are = record { long = lefts.long; each = λ j lt. lefts.each j lt ∙ sym (left_first c (shared_item_at (shared_items_of c.system) j)) };
      running_room = refl;
      running_numbers = refl;
      running_length = sym (count_zero (is_running (start_state c)) c.order (λ x h. ap is_running_phase (idle x)));
      running_are = λ t. sym (ap is_running_phase (idle t));
      booked_is = is ∙ sym booked;
      used_is = is ∙ sym used;
    }
