-- Terms of which every `par` has a part.
use Rattle.std.specs.Prelude.{◌≤◌}
use Rattle.std.proofs.Common.{arith}
use Rattle.sp_terms.specs.Term.{Term, hold, series, par, Parts, no_parts, part, count, IsAllowed, AreAllowed}

abbrev pub IsSomePart : Parts → Type 0
IsSomePart no_parts = ⊥
IsSomePart (part t ts) = Unit {0}

abbrev mutual
  pub HasParts : Term → Type 0
  HasParts (hold size) = Unit {0}
  HasParts (series a v b) = HasParts a × HasParts b
  HasParts (par ts) = IsSomePart ts × HaveParts ts

  pub HaveParts : Parts → Type 0
  HaveParts no_parts = Unit {0}
  HaveParts (part t ts) = HasParts t × HaveParts ts

some-parts : (ts : Parts) → 2 ≤ count ts → IsSomePart ts
some-parts no_parts l = absurd (omega arith)
some-parts (part t ts) l = tt

mutual
  pub has_parts : (t : Term) → IsAllowed t → HasParts t
  has_parts (hold size) g = tt
  has_parts (series a v b) (s, o, g, h) = (has_parts a g, has_parts b h)
  has_parts (par ts) (n, g) = (some-parts ts n, have_parts ts g)

  pub have_parts : (ts : Parts) → AreAllowed ts → HaveParts ts
  have_parts no_parts g = tt
  have_parts (part t ts) (g, h) = (has_parts t g, have_parts ts h)
