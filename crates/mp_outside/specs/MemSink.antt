-- A sink in memory, as contracts see it.
use Rattle.std.specs.Prelude.{◌≡◌, ℕ, ◌-◌, ◌^◌, ◌<◌, List, [], ◌++◌, length, Contains, ◌⊎◌}
use Rattle.mp_outside.specs.Outside.{one_more}

-- the bytes taken, the number of bytes that there is still room for, the most bytes that a write
-- takes, the number of writes so far, the numbers of the writes that fail, and how many failed
pub record SinkState : Type 0 where
  pub taken : List ℕ
  pub room : ℕ
  pub most : ℕ
  pub calls : ℕ
  pub failing : List ℕ
  pub faults : ℕ

-- nothing is taken yet, nothing is to fail, and a write takes as many bytes as there is room for
abbrev pub empty_sink : ℕ → SinkState
empty_sink room = record { taken = []; room = room; most = 2 ^ 64 - 1; calls = 0; failing = []; faults = 0 }

-- the next write, of this piece, fails: its number is listed, or the piece is not empty and the
-- room is used up
abbrev pub WriteFails : SinkState → List ℕ → Type 0
WriteFails s piece = Contains s.failing (one_more s.calls) ⊎ ((0 < length piece) × (s.room ≡ 0))

-- the sink after a write that failed
abbrev pub after_fault : SinkState → SinkState
after_fault s = record s { calls = one_more s.calls; faults = one_more s.faults }

-- the sink after a write that took these bytes
abbrev pub after_taking : SinkState → List ℕ → SinkState
after_taking s bytes = record s { taken = s.taken ++ bytes; room = s.room - length bytes; calls = one_more s.calls }
