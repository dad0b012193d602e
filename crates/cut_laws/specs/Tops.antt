-- The sides and the peaks of a cut that is made of others.
use Rattle.std.specs.Prelude.{◌≡◌, ℕ, ◌+◌, ◌-◌, ◌≤◌, max, ◌⊎◌, List, [], ◌∷◌}
use Rattle.side_laws.specs.Segments.{net_sum, IsRising}
use Rattle.hill_valley.specs.Side.{run_profile}
use Rattle.sp_terms.specs.Term.{Direction}
use Rattle.cut_laws.specs.Cuts.{Cut, front_peak, back_peak, top_of}

-- both sides lead down to the least memory
pub record MeetsAtLeast (c : Cut) : Type 0 where
  pub front : net_sum (run_profile c.front) + c.least ≡ c.initial
  pub back : net_sum (run_profile c.back) + c.least ≡ c.fin

-- the runs of both sides rise
pub record BothRise (c : Cut) : Type 0 where
  pub front : IsRising (run_profile c.front)
  pub back : IsRising (run_profile c.back)

-- a series is cut in its first part: its front is that part's, and its back goes over all else
pub record LiesInFirst (a b : Cut) (hill : ℕ) (c : Cut) : Type 0 where
  pub front : front_peak c ≡ front_peak a
  pub back : back_peak c ≡ max (back_peak a) (max hill (max (front_peak b) (back_peak b)))

-- or in its second part: its back is that part's, and its front goes over all else
pub record LiesInSecond (a b : Cut) (hill : ℕ) (c : Cut) : Type 0 where
  pub front : front_peak c ≡ max (max (front_peak a) (back_peak a)) (max hill (front_peak b))
  pub back : back_peak c ≡ back_peak b

-- of parts that stand at these levels, which sum to `total`, some part's side reaches the limit less the levels of the others
abbrev pub SomeReaches : Direction → ℕ → ℕ → List Cut → List ℕ → Type 0
SomeReaches d limit total [] levels = ⊥
SomeReaches d limit total (c ∷ cs) [] = ⊥
SomeReaches d limit total (c ∷ cs) (level ∷ levels) = (limit - (total - level) ≤ top_of d c) ⊎ SomeReaches d limit total cs levels

-- the peaks of the parts' sides, together
abbrev pub tops : Direction → List Cut → ℕ
tops d [] = 0
tops d (c ∷ cs) = top_of d c + tops d cs
