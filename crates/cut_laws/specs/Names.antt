-- Names of the tasks of a term, in the shape of the term.
use Rattle.std.specs.Prelude.{ℕ, ◌+◌, List, [], ◌∷◌, ◌++◌}
use Rattle.sp_terms.specs.SystemOfTerm.{task_count, own_number}
use Rattle.sp_terms.specs.Term.{Term, hold, series, par, Parts, no_parts, part}

abbrev mutual
  pub Names : Term → Type 0
  Names (hold size) = Unit {0}
  Names (series a v b) = Names a × ℕ × Names b
  Names (par ts) = NamesOfParts ts

  pub NamesOfParts : Parts → Type 0
  NamesOfParts no_parts = Unit {0}
  NamesOfParts (part t ts) = Names t × NamesOfParts ts

-- the names in the order of the positions: a series' own task comes after those of both parts
abbrev mutual
  pub names_of : (t : Term) → Names t → List ℕ
  names_of (hold size) n = []
  names_of (series a v b) (na, x, nb) = names_of a na ++ (names_of b nb ++ x ∷ [])
  names_of (par ts) ns = names_of_parts ts ns

  pub names_of_parts : (ts : Parts) → NamesOfParts ts → List ℕ
  names_of_parts no_parts ns = []
  names_of_parts (part t ts) (n, ns) = names_of t n ++ names_of_parts ts ns

-- the tasks named by their numbers, in the order of the positions from `base` on
abbrev mutual
  pub numbered : ℕ → (t : Term) → Names t
  numbered base (hold size) = tt
  numbered base (series a v b) = (numbered base a, own_number base a b, numbered (base + task_count a) b)
  numbered base (par ts) = numbered_parts base ts

  pub numbered_parts : ℕ → (ts : Parts) → NamesOfParts ts
  numbered_parts base no_parts = tt
  numbered_parts base (part t ts) = (numbered base t, numbered_parts (base + task_count t) ts)
