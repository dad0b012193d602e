-- No public clause names this.
-- The place in a row at which a segment of some `up` belongs.
use Rattle.std.specs.Prelude.{◌≡◌, ℕ, zero, suc, ◌+◌, ◌<◌, ◌≤◌, List, [], ◌∷◌, length, ⊤}
use Rattle.hill_valley.specs.declared.side.Seg.{Seg}

-- the `up` of the segment at a place, and 0 behind the last
abbrev pub up_at : ℕ → List Seg → ℕ
up_at i [] = 0
up_at zero (s ∷ ss) = s.up
up_at (suc i) (s ∷ ss) = up_at i ss

-- the segment before the place goes up less than `up`, and the one at the place at least as much
pub record IsPlace (up at : ℕ) (ss : List Seg) : Type 0 where
  pub within : at ≤ length ss
  pub below : (i : ℕ) → i + 1 ≡ at → up_at i ss < up
  pub above : at < length ss → up ≤ up_at at ss

-- all before the place go up less, and all from there on more
abbrev pub IsGap : ℕ → ℕ → List Seg → Type 0
IsGap up zero [] = ⊤
IsGap up (suc at) [] = ⊥
IsGap up zero (s ∷ ss) = up < s.up
IsGap up (suc at) (s ∷ ss) = (s.up < up) × IsGap up at ss

-- all before the place go up less, and there is this segment, which goes up as much
abbrev pub IsThere : ℕ → ℕ → List Seg → Seg → Type 0
IsThere up at [] own = ⊥
IsThere up zero (s ∷ ss) own = (s ≡ own) × (s.up ≡ up)
IsThere up (suc at) (s ∷ ss) own = (s.up < up) × IsThere up at ss own
