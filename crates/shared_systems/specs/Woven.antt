-- An order of a shared system with the collectors put in: each right after the last of its readers.
use Rattle.std.specs.Prelude.{ℕ, ◌+◌, Bool, ◌&&◌, not, if◌then◌else◌, List, [], ◌∷◌, ◌++◌, length}
use Rattle.mp_system.specs.Memory.{stands_in}
use Rattle.shared_systems.specs.Shared.{SharedTaskSystem, SharedItem}
use Rattle.shared_systems.specs.SharedMemory.{are_done}
use Rattle.shared_systems.specs.Collected.{is_shared, next_from}

-- whether a shared item has all readers done in the later of two states, and not in the earlier one
abbrev pub is_due : (ℕ → Bool) → (ℕ → Bool) → SharedItem → Bool
is_due done later x = is_shared x && (are_done later x.readers && not (are_done done x.readers))

-- the collectors of these items; the numbers begin at k
abbrev pub due_from : (ℕ → Bool) → (ℕ → Bool) → ℕ → List SharedItem → List ℕ
due_from done later k [] = []
due_from done later k (x ∷ xs) = (if is_due done later x then k ∷ [] else []) ++ due_from done later (next_from k x) xs

-- the collectors whose last reader is task v, where those of `before` have run
abbrev pub due_after : SharedTaskSystem → List ℕ → ℕ → List ℕ
due_after system before v = due_from (stands_in before) (stands_in (before ++ v ∷ [])) (length system.tasks + 1) system.items

-- the tasks of `rest`, which run after those of `before`, each with the collectors whose last reader it is
abbrev pub woven_from : SharedTaskSystem → List ℕ → List ℕ → List ℕ
woven_from system before [] = []
woven_from system before (v ∷ rest) = (v ∷ due_after system before v) ++ woven_from system (before ++ v ∷ []) rest

abbrev pub woven : SharedTaskSystem → List ℕ → List ℕ
woven system order = woven_from system [] order
