-- Where the terms of a list of positions stand. Positions are counted from 1; a term stands at its last position, behind its parts.
use Rattle.std.specs.Prelude.{◌≡◌, ℕ, ◌+◌, ◌-◌, List, [], ◌∷◌}
use Rattle.sp_terms.specs.declared.position.Position.{Position}
use Rattle.sp_terms.specs.declared.position.Position.TheVariants.{Hold, Par}
use Rattle.sp_terms.specs.declared.position.Position.TheVariants as at
use Rattle.sp_terms.specs.Term.{Term, hold, series, par, Parts, no_parts, part, count, width_of}
use Rattle.sp_terms.specs.Values.{term_at}

-- the term that stands at a position
abbrev pub term_of_position : List Position → ℕ → Term
term_of_position ps k = term_at ps (k - 1)

-- parts as a list
abbrev pub list_of_parts : Parts → List Term
list_of_parts no_parts = []
list_of_parts (part t ts) = t ∷ list_of_parts ts

-- the parts of a term, in their order
abbrev pub parts_of : Term → List Term
parts_of (hold size) = []
parts_of (series a v b) = a ∷ b ∷ []
parts_of (par ts) = list_of_parts ts

-- the positions of terms that follow each other after so many positions
abbrev pub positions_after : ℕ → List Term → List ℕ
positions_after before [] = []
positions_after before (t ∷ ts) = (before + width_of t) ∷ positions_after (before + width_of t) ts

-- the positions of the parts of a term that stands at k
abbrev pub part_positions : ℕ → Term → List ℕ
part_positions k t = positions_after (k - width_of t) (parts_of t)

-- the term that stands at a position is what the position says: a data item, a series with this task, or so many parts
abbrev pub IsTermAt : Position → Term → Type 0
IsTermAt (Hold size) t = t ≡ hold size
IsTermAt (at.Task extra share time) t = (a b : Term) × (t ≡ series a (record { extra = extra; share = share; time = time }) b)
IsTermAt (Par k) t = (ts : Parts) × (count ts ≡ k) × (t ≡ par ts)
