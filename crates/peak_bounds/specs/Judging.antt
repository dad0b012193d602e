-- No public clause names this.
-- Uses of items as the code holds them, what a search over them finds, and sums of lowered sizes.
use Rattle.std.specs.Prelude.{◌≡◌, ◌==◌, ℕ, ◌+◌, ◌^◌, ◌<◌, ◌≤◌, Bool, true, not, ◌⊎◌, All, List, [], ◌∷◌, length, map, count_by}
use Rattle.std.specs.Prelude.{slice_index, slice_index_or, unwrap_or, ℤ, pos, neg_ℤ, ◌+ℤ◌, ◌≤ℤ◌, unsigned_abs, if◌then◌else◌}
use Rattle.std.specs.List.{list_any}
use Rattle.limits.specs.Limits.{most_total}
use Rattle.mp_system.specs.Memory.{stands_in}
use Rattle.mp_system.specs.Replay.{is_marked}
use Rattle.row_table.specs.Rows.{row_at, numbers_with}
use Rattle.shared_systems.specs.Shared.{SharedTaskSystem}
use Rattle.peak_bounds.specs.declared.uses.Use.{Use}
use Rattle.peak_bounds.specs.declared.use_table.UseTable.{UseTable}
use Rattle.peak_bounds.specs.Moments.{uses_of}

-- ---- uses

-- who makes what is used, and who takes it up; 0 for none
abbrev pub maker_of : Use → ℕ
maker_of a_use = unwrap_or a_use.from 0

abbrev pub taker_of : Use → ℕ
taker_of a_use = unwrap_or a_use.to 0

-- row v has the places at which v stands
pub record AreRows (n : ℕ) (keys : List ℕ) (rows : List (List ℕ)) : Type 0 where
  pub len : length rows ≡ n + 1
  pub each : (v : ℕ) → v ≤ n → row_at rows v ≡ numbers_with keys 0 v

-- links, each from what stands at a place of one list to what stands there in the other, which is 0 for none; in rows by the former
pub record AreLinks (n : ℕ) (near far : List ℕ) (rows : List (List ℕ)) : Type 0 where
  pub same_len : length far ≡ length near
  pub small : All (λ v. v ≤ n) far
  pub in_rows : AreRows n near rows

pub record AreUses (system : SharedTaskSystem) (uses : UseTable) : Type 0 where
  pub makers : uses.makers.items ≡ map maker_of (uses_of system.items)
  pub takers : uses.takers.items ≡ map taker_of (uses_of system.items)
  pub made : AreLinks (length system.tasks) uses.makers.items uses.takers.items uses.made
  pub taken : AreLinks (length system.tasks) uses.takers.items uses.makers.items uses.taken
  pub few : length uses.makers.items < 2 ^ 24

-- ---- a search

pub record IsLink (near far : List ℕ) (u v : ℕ) : Type 0 where
  pub place : ℕ
  pub within : place < length near
  pub near_is : slice_index near place ≡ u
  pub far_is : slice_index far place ≡ v
  pub some : 1 ≤ v

-- v is reached from u over one link or several
pub data Reaches (near far : List ℕ) : ℕ → ℕ → Type 0 where
  one : {u v : ℕ} → IsLink near far u v → Reaches near far u v
  more : {u w v : ℕ} → Reaches near far u w → IsLink near far w v → Reaches near far u v

abbrev pub IsReached : List ℕ → List ℕ → List ℕ → ℕ → Type 0
IsReached near far start v = (u : ℕ) × (stands_in start u ≡ true) × Reaches near far u v

-- just what was marked from the start, and what is reached from these tasks, is marked
pub record AreReached (near far : List ℕ) (first : List Bool) (start : List ℕ) (marks : List Bool) : Type 0 where
  pub sound : (v : ℕ) → is_marked marks v ≡ true → (is_marked first v ≡ true) ⊎ IsReached near far start v
  pub kept : (v : ℕ) → is_marked first v ≡ true → is_marked marks v ≡ true
  pub all : (v : ℕ) → IsReached near far start v → is_marked marks v ≡ true

-- whether a link at one of these places leads to v
abbrev pub leads : List ℕ → List ℕ → ℕ → Bool
leads far places v = list_any (λ k. slice_index far k == v) places

abbrev pub unmarked : List Bool → ℕ
unmarked marks = count_by (λ mark. not mark) marks

-- ---- sums

abbrev pub size_at : List ℤ → ℕ → ℤ
size_at sizes k = slice_index_or sizes k (pos 0)

abbrev pub AreSmall : List ℤ → Type 0
AreSmall sizes = All (λ z. unsigned_abs z ≤ most_total) sizes

-- a number at most so much above 0, or below
abbrev pub IsWithin : ℕ → ℤ → Type 0
IsWithin n z = (neg_ℤ (pos n) ≤ℤ z) × (z ≤ℤ pos n)

-- ---- what tasks have to spare

-- the sizes at the places where a key stands, together
abbrev pub keyed_sum : List ℕ → ℕ → List ℤ → ℤ
keyed_sum [] v sizes = pos 0
keyed_sum (key ∷ keys) v [] = pos 0
keyed_sum (key ∷ keys) v (size ∷ sizes) = (if key == v then size else pos 0) +ℤ keyed_sum keys v sizes

-- the ends of uses are numbers of so many tasks, or 0
pub record AreEnds (n : ℕ) (uses : UseTable) : Type 0 where
  pub same_len : length uses.takers.items ≡ length uses.makers.items
  pub makers : All (λ v. v ≤ n) uses.makers.items
  pub takers : All (λ v. v ≤ n) uses.takers.items
  pub few : length uses.makers.items < 2 ^ 24

-- for each number below a count what the task leaves beyond what it takes up, in these sizes
pub record AreSpare (uses : UseTable) (sizes spare : List ℤ) : Type 0 where
  pub makers_len : length uses.makers.items ≡ length sizes
  pub takers_len : length uses.takers.items ≡ length sizes
  pub makers : All (λ v. v < length spare) uses.makers.items
  pub takers : All (λ v. v < length spare) uses.takers.items
  pub few : length sizes < 2 ^ 24
  pub small : AreSmall sizes
  pub each : (v : ℕ) → v < length spare
      → keyed_sum uses.takers.items v sizes +ℤ size_at spare v ≡ keyed_sum uses.makers.items v sizes
