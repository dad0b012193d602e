-- The laws, as statements.
use Rattle.std.specs.Prelude.{◌≡◌, ℕ, ◌≤◌, List}
use Rattle.hill_valley.specs.Ropes.{Extends}
use Rattle.sp_cuts.specs.declared.parts.Part.{Part}
use Rattle.sp_cuts.specs.Parts.{cut_of, cuts_of, IsPart, AreParts}
use Rattle.sp_cuts.specs.Splits.{IsRough, AreRough}
use Rattle.sp_terms.specs.Term.{Term}
use Rattle.cut_laws.specs.Names.{Names}
use Rattle.cut_laws.specs.TermCuts.{cut_of_term}
use Rattle.sp_cuts.specs.Notes.{cut_numbers}

-- a part is the same cut for good, however many more ropes are made
abbrev pub PartsStay : Type 0
PartsStay = (old new : List (List ℕ)) (p : Part) → IsPart old p → Extends old new → IsPart new p × (cut_of new p ≡ cut_of old p)

abbrev pub AllPartsStay : Type 0
AllPartsStay =
    (old new : List (List ℕ)) (ps : List Part) → AreParts old ps → Extends old new → AreParts new ps × (cuts_of new ps ≡ cuts_of old ps)

-- the same for parts whose peaks are bounds
abbrev pub RoughPartsStay : Type 0
RoughPartsStay =
    (old new : List (List ℕ)) (p : Part) → IsRough old p → Extends old new → IsRough new p × (cut_of new p ≡ cut_of old p)

abbrev pub AllRoughPartsStay : Type 0
AllRoughPartsStay =
    (old new : List (List ℕ)) (ps : List Part) → AreRough old ps → Extends old new → AreRough new ps × (cuts_of new ps ≡ cuts_of old ps)

-- the numbers of a part are within its peak
abbrev pub NumbersWithinPeak : Type 0
NumbersWithinPeak = (lists : List (List ℕ)) (p : Part) → IsPart lists p
    → (p.least ≤ p.initial) × (p.least ≤ p.fin) × (p.initial ≤ p.peak) × (p.fin ≤ p.peak)

-- the numbers of a term's cut are the same whatever its tasks are called
abbrev pub NumbersWithoutNames : Type 0
NumbersWithoutNames = (t : Term) (n m : Names t) → cut_numbers (cut_of_term t n) ≡ cut_numbers (cut_of_term t m)
