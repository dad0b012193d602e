-- What is said of files and sinks: their contents, where an object tells them, and their counts
-- of faults.
use Rattle.std.specs.Prelude.{◌≡◌, ℕ, ◌+◌, ◌-◌, ◌^◌, ◌<◌, ◌≤◌, min, List, ◌++◌, length, take, drop, Option, Some, None}

-- a counter after one more: it stops at the last value of a u64
abbrev pub one_more : ℕ → ℕ
one_more count = min (count + 1) (2 ^ 64 - 1)

-- a count of faults rose: it is greater than before, or stands at the counter's last value
abbrev pub Rose : ℕ → ℕ → Type 0
Rose before now = one_more before ≤ now

-- a load gave n bytes of a text from a place on: some, unless the place is at or past the end
-- or the buffer is empty
pub record Loads (text : List ℕ) (place n : ℕ) (buf : List ℕ) : Type 0 where
  pub front : take n buf ≡ take n (drop place text)
  pub within : n ≤ length text - place
  pub some : 0 < length buf → place < length text → 0 < n

-- the same of contents that may not be told
abbrev pub LoadsTold : Option (List ℕ) → ℕ → ℕ → List ℕ → Type 0
LoadsTold None place n buf = Unit {0}
LoadsTold (Some text) place n buf = Loads text place n buf

-- these bytes were put at the end of what a sink had taken, where it tells that
abbrev pub Appended : Option (List ℕ) → Option (List ℕ) → List ℕ → Type 0
Appended None None bytes = Unit {0}
Appended None (Some after) bytes = ⊥
Appended (Some before) None bytes = ⊥
Appended (Some before) (Some after) bytes = after ≡ before ++ bytes
