-- No public clause names this.
-- Worked examples: a result that two tasks read, an input that three read, and items with one reader each.
use Rattle.std.specs.Prelude.{◌≡◌, ℕ, Option, Some, None, List, [], ◌∷◌, map, refl}
use Rattle.mp_system.specs.declared.system.Task.{Task}
use Rattle.mp_system.specs.declared.system.Item.{Item}
use Rattle.mp_system.specs.System.{TaskSystem}
use Rattle.mp_system.specs.Memory.{state_memory, stands_in, peak_of}
use Rattle.shared_systems.specs.Shared.{SharedTaskSystem, SharedItem, shared_need_of}
use Rattle.shared_systems.specs.SharedMemory.{shared_memory, shared_peak_of}
use Rattle.shared_systems.specs.Collected.{collected, dropped, wait_count}
use Rattle.shared_systems.specs.Woven.{woven}
use Rattle.shared_systems.specs.OneReader.{shared_of, unshared}

abbrev pub task : ℕ → ℕ → Task
task extra share = record { extra = extra; share = share; time = 1 }

abbrev pub shared_item : ℕ → Option ℕ → List ℕ → SharedItem
shared_item size from readers = record { size = size; from = from; readers = readers }

abbrev pub item : ℕ → Option ℕ → Option ℕ → Item
item size from to = record { size = size; from = from; to = to }

-- tasks 2 and 3 both read what task 1 makes, and task 4 reads what they make; task 4 takes 1 of its inputs over
abbrev pub diamond : SharedTaskSystem
diamond = record {
  tasks = task 0 0 ∷ task 1 0 ∷ task 2 0 ∷ task 2 1 ∷ [];
  items = shared_item 5 (Some 1) (2 ∷ 3 ∷ []) ∷ shared_item 1 (Some 2) (4 ∷ []) ∷ shared_item 3 (Some 3) (4 ∷ []) ∷ shared_item 2 (Some 4) [] ∷ [];
}

-- task 5 collects the first item: it runs after tasks 2 and 3, which wait for task 1
pub diamond_tasks : (collected diamond).tasks ≡ task 0 0 ∷ task 1 0 ∷ task 2 0 ∷ task 2 1 ∷ task 0 0 ∷ []
diamond_tasks = refl

pub diamond_items :
    (collected diamond).items
    ≡ item 5 (Some 1) (Some 5) ∷ item 0 (Some 1) (Some 2) ∷ item 0 (Some 1) (Some 3) ∷ item 0 (Some 2) (Some 5) ∷ item 0 (Some 3) (Some 5)
    ∷ item 1 (Some 2) (Some 4) ∷ item 3 (Some 3) (Some 4) ∷ item 2 (Some 4) None ∷ []
diamond_items = refl

-- two readers wait for the producer, and the collector for two readers
pub diamond_waits : map wait_count diamond.items ≡ 4 ∷ 0 ∷ 0 ∷ 0 ∷ []
diamond_waits = refl

-- the item of size 5 is held until both have read it
abbrev pub memory_after : List ℕ → ℕ
memory_after done = shared_memory diamond (stands_in done)

pub diamond_states :
    memory_after [] ∷ memory_after (1 ∷ []) ∷ memory_after (1 ∷ 3 ∷ []) ∷ memory_after (1 ∷ 3 ∷ 2 ∷ []) ∷ memory_after (1 ∷ 3 ∷ 2 ∷ 4 ∷ []) ∷ []
    ≡ 0 ∷ 5 ∷ 8 ∷ 4 ∷ 2 ∷ []
diamond_states = refl

pub diamond_needs : map (shared_need_of diamond) (1 ∷ 2 ∷ 3 ∷ 4 ∷ []) ≡ 5 ∷ 2 ∷ 5 ∷ 3 ∷ []
diamond_needs = refl

-- task 3 first: 5 is there, and it needs 5; the other way the 1 that task 2 leaves is there too
pub diamond_peak : shared_peak_of diamond (1 ∷ 3 ∷ 2 ∷ 4 ∷ []) ≡ 10
diamond_peak = refl

pub diamond_higher : shared_peak_of diamond (1 ∷ 2 ∷ 3 ∷ 4 ∷ []) ≡ 11
diamond_higher = refl

-- the collector stands after task 2, the last reader, and the peak is the same
pub diamond_woven : woven diamond (1 ∷ 3 ∷ 2 ∷ 4 ∷ []) ≡ 1 ∷ 3 ∷ 2 ∷ 5 ∷ 4 ∷ []
diamond_woven = refl

pub woven_peak : peak_of (collected diamond) (1 ∷ 3 ∷ 2 ∷ 5 ∷ 4 ∷ []) ≡ 10
woven_peak = refl

-- a collector that comes late holds the item until then; left out, the order has the lower peak
pub late_peak : peak_of (collected diamond) (1 ∷ 3 ∷ 2 ∷ 4 ∷ 5 ∷ []) ≡ 12
late_peak = refl

pub late_state : state_memory (collected diamond) (stands_in (1 ∷ 3 ∷ 2 ∷ [])) ≡ 9
late_state = refl

pub late_dropped : dropped diamond (1 ∷ 3 ∷ 2 ∷ 4 ∷ 5 ∷ []) ≡ 1 ∷ 3 ∷ 2 ∷ 4 ∷ []
late_dropped = refl

-- three tasks read an input that is there from the start, and nothing else stays
abbrev pub index : SharedTaskSystem
index = record {
  tasks = task 1 0 ∷ task 2 0 ∷ task 3 0 ∷ [];
  items = shared_item 7 None (1 ∷ 2 ∷ 3 ∷ []) ∷ shared_item 4 None [] ∷ [];
}

pub index_items :
    (collected index).items
    ≡ item 7 None (Some 4) ∷ item 0 (Some 1) (Some 4) ∷ item 0 (Some 2) (Some 4) ∷ item 0 (Some 3) (Some 4) ∷ item 4 None None ∷ []
index_items = refl

pub index_waits : map wait_count index.items ≡ 3 ∷ 0 ∷ []
index_waits = refl

pub index_peak : shared_peak_of index (3 ∷ 1 ∷ 2 ∷ []) ≡ 14
index_peak = refl

pub index_woven : woven index (3 ∷ 1 ∷ 2 ∷ []) ≡ 3 ∷ 1 ∷ 2 ∷ 4 ∷ []
index_woven = refl

-- an input, which task 1 alone reads, what it makes for task 2, which takes 3 of it over, and a result that stays
abbrev pub chain : TaskSystem
chain = record {
  tasks = task 0 0 ∷ task 2 3 ∷ [];
  items = item 2 None (Some 1) ∷ item 5 (Some 1) (Some 2) ∷ item 4 (Some 2) None ∷ [];
}

-- the one consumer is the only reader, and an item without a consumer has none
pub chain_shared :
    (shared_of chain).items ≡ shared_item 2 None (1 ∷ []) ∷ shared_item 5 (Some 1) (2 ∷ []) ∷ shared_item 4 (Some 2) [] ∷ []
chain_shared = refl

pub chain_needs : map (shared_need_of (shared_of chain)) (1 ∷ 2 ∷ []) ≡ 5 ∷ 3 ∷ []
chain_needs = refl

-- 5 is there, and task 2 needs 3
pub chain_peak : shared_peak_of (shared_of chain) (1 ∷ 2 ∷ []) ≡ 8
chain_peak = refl

pub chain_back : unshared (shared_of chain) ≡ chain
chain_back = refl

-- an item that two tasks read would be left without a consumer
pub diamond_unshared : (unshared diamond).items ≡ item 5 (Some 1) None ∷ item 1 (Some 2) (Some 4) ∷ item 3 (Some 3) (Some 4) ∷ item 2 (Some 4) None ∷ []
diamond_unshared = refl
