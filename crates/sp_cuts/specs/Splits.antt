-- Parts whose peaks are bounds, and parts taken apart into their sides.
use Rattle.std.specs.Prelude.{◌≡◌, ℕ, ◌≤◌, max, List, sum_by}
use Rattle.std.specs.List.{AllByRecursion}
use Rattle.limits.specs.Limits.{most_total}
use Rattle.hill_valley.specs.declared.side.Seg.{Seg}
use Rattle.cut_laws.specs.Cuts.{front_peak, back_peak}
use Rattle.sp_cuts.specs.declared.parts.Part.{Part}
use Rattle.sp_cuts.specs.Parts.{cut_of, HasSides, front_sides, backs_of}

-- a part whose `peak` is only a bound of its peak
pub record IsRough (lists : List (List ℕ)) (p : Part) : Type 0 where
  pub both : HasSides lists p
  pub bound : max (front_peak (cut_of lists p)) (back_peak (cut_of lists p)) ≤ p.peak
  pub within : p.peak ≤ most_total

abbrev pub AreRough : List (List ℕ) → List Part → Type 0
AreRough lists ps = AllByRecursion (IsRough lists) ps

-- ---- no public clause names this

-- the sides of the parts, and the sums of their numbers
pub record AreSplit (parts : List Part) (fs bs : List (List Seg)) (start end low most : ℕ) : Type 0 where
  pub front : fs ≡ front_sides parts
  pub back : bs ≡ backs_of parts
  pub start_is : start ≡ sum_by (λ p. p.initial) parts
  pub end_is : end ≡ sum_by (λ p. p.fin) parts
  pub low_is : low ≡ sum_by (λ p. p.least) parts
  pub most_is : most ≡ sum_by (λ p. p.peak) parts
