-- No public clause names this.
-- Where the tasks of an order stand, where the last reader of each item does, and which tasks stand too early.
use Rattle.std.specs.Prelude.{◌==◌, ℕ, max, Bool, true, not, ◌&&◌, ◌||◌, nat_lt, Option, Some, None, List, [], ◌∷◌, map}
use Rattle.std.specs.List.{filter, position_or_len, list_any, list_all}
use Rattle.mp_system.specs.System.{is_named}
use Rattle.mp_system.specs.Memory.{is_done_or}
use Rattle.shared_systems.specs.Shared.{SharedItem, is_read_by}
use Rattle.shared_systems.specs.SharedMemory.{is_made}
use Rattle.shared_systems.specs.Collected.{is_shared}

-- the place from 0 at which the task stands first; the length of the order if it does not
abbrev pub place_in : List ℕ → ℕ → ℕ
place_in order v = position_or_len (λ u. u == v) order

-- the greatest of the readers' places
abbrev pub last_place : (ℕ → ℕ) → List ℕ → ℕ
last_place place [] = 0
last_place place (c ∷ cs) = max (place c) (last_place place cs)

-- that of each shared item
abbrev pub last_places : (ℕ → ℕ) → List SharedItem → List ℕ
last_places place xs = map (λ x. last_place place x.readers) (filter is_shared xs)

-- that of some readers, and none without any
abbrev pub last_if_any : (ℕ → ℕ) → List ℕ → Option ℕ
last_if_any place [] = None
last_if_any place (c ∷ cs) = Some (last_place place (c ∷ cs))

-- whether the last reader of the item stands at this place
abbrev pub is_freed_at : (ℕ → ℕ) → ℕ → SharedItem → Bool
is_freed_at place i x = is_named (last_if_any place x.readers) i

-- the tasks that stand before task v
abbrev pub stands_before : (ℕ → ℕ) → ℕ → ℕ → Bool
stands_before place v u = nat_lt (place u) (place v)

-- whether task v is one of the readers and stands no later than the producer
abbrev pub is_late : (ℕ → ℕ) → Option ℕ → List ℕ → ℕ → Bool
is_late place producer readers v = list_any (λ c. c == v) readers && not (is_done_or true (stands_before place v) producer)

-- whether all that task v reads is made by tasks that stand before it
abbrev pub are_in_time : (ℕ → ℕ) → ℕ → List SharedItem → Bool
are_in_time place v items = list_all (λ x. not (is_read_by v x) || is_made (stands_before place v) x) items
