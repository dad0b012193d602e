-- No public clause names this.
-- Uses of what tasks make, one after the other, and kinds of tasks, which part as readers are looked at.
use Rattle.std.specs.Prelude.{◌≡◌, ◌==◌, ◌↔◌, ℕ, ◌+◌, ◌-◌, ◌<◌, ◌≤◌, Bool}
use Rattle.std.specs.Prelude.{false, ◌&&◌, ◌||◌, unwrap_or, List, [], ◌∷◌, length, slice_index, replicate}
use Rattle.std.specs.List.{flat_map}
use Rattle.shared_systems.specs.Shared.{SharedItem}

-- for each reader of each item the producer, 0 for none; and the reader
abbrev pub makers : List SharedItem → List ℕ
makers items = flat_map (λ x. replicate (length x.readers) (unwrap_or x.from 0)) items

abbrev pub takers : List SharedItem → List ℕ
takers items = flat_map (λ x. x.readers) items

-- whether, at some place of both lists, one has u and the other v
abbrev pub meet : List ℕ → List ℕ → ℕ → ℕ → Bool
meet [] ts u v = false
meet (f ∷ fs) [] u v = false
meet (f ∷ fs) (t ∷ ts) u v = (f == u && t == v) || meet fs ts u v

-- a kind c below m has the part `parts` c, if that is at least m; parts of different kinds are different
pub record AreParts (m : ℕ) (parts : List ℕ) : Type 0 where
  pub some : 1 ≤ m
  pub long : m ≤ length parts
  pub low : (c : ℕ) → slice_index parts c < length parts
  pub apart : (c d : ℕ) → m ≤ slice_index parts c → slice_index parts c ≡ slice_index parts d → c ≡ d

-- the kinds of tasks after some of them have parted from the others: two are the same where they were the same and both or neither parted
abbrev pub ArePartedBy : (ℕ → Bool) → List ℕ → List ℕ → Type 0
ArePartedBy parted old new =
    (u v : ℕ) → ((slice_index new u ≡ slice_index new v) ↔ ((slice_index old u ≡ slice_index old v) × (parted u ≡ parted v)))

-- for each task, from 1 on, the first of its kind
pub record AreFirsts (kinds leaders : List ℕ) : Type 0 where
  pub len : length leaders ≡ length kinds - 1
  pub low : (i : ℕ) → i < length leaders → (1 ≤ slice_index leaders i) × (slice_index leaders i ≤ i + 1)
  pub kind : (i : ℕ) → i < length leaders → slice_index kinds (slice_index leaders i) ≡ slice_index kinds (i + 1)
  pub one : (i j : ℕ) → i < length leaders → j < length leaders → slice_index kinds (i + 1) ≡ slice_index kinds (j + 1)
      → slice_index leaders i ≡ slice_index leaders j

-- for each of n tasks the first that supplies the same ones
pub record AreLeaders (supplies : ℕ → ℕ → Bool) (n : ℕ) (leaders : List ℕ) : Type 0 where
  pub len : length leaders ≡ n
  pub low : (v : ℕ) → 1 ≤ v → v ≤ n → (1 ≤ slice_index leaders (v - 1)) × (slice_index leaders (v - 1) ≤ v)
  pub own : (v : ℕ) → 1 ≤ v → v ≤ n → slice_index leaders (slice_index leaders (v - 1) - 1) ≡ slice_index leaders (v - 1)
  pub same : (u v : ℕ) → 1 ≤ u → u ≤ n → 1 ≤ v → v ≤ n
      → ((slice_index leaders (u - 1) ≡ slice_index leaders (v - 1)) ↔ ((w : ℕ) → supplies u w ≡ supplies v w))
