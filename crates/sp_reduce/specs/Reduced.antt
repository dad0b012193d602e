-- The term of a graph: its system is that of the completed graph, under the names of the tasks.
use Rattle.std.specs.Prelude.{◌≡◌, ◌==◌, ℕ, List, All, map, count_by}
use Rattle.std.specs.List.Sorted.{IsPermutation}
use Rattle.mp_system.specs.System.{TaskSystem, IsTask, task_at}
use Rattle.mp_system.specs.Renaming.{name_in, renamed}
use Rattle.sp_terms.specs.Term.{Term, hold, series, par, Parts, no_parts, part}
use Rattle.sp_terms.specs.SystemOfTerm.{system_of_term}

-- the names are those of the tasks of the system, each once; task k of the term is the one that its name says, and the items of the
-- term are those of the system under these names, in any order
pub record HasSystem (names : List ℕ) (t : Term) (system : TaskSystem) : Type 0 where
  pub once : (v : ℕ) → IsTask system v → count_by (λ u. u == v) names ≡ 1
  pub within : All (IsTask system) names
  pub tasks : (system_of_term t).tasks ≡ map (task_at system) names
  pub items : IsPermutation (map (renamed (name_in names)) (system_of_term t).items) system.items

abbrev pub HasOne : Parts → Type 0
HasOne no_parts = ⊥
HasOne (part t ts) = Unit {0}

-- every `par` has a part
abbrev mutual
  pub HasParts : Term → Type 0
  HasParts (hold size) = Unit {0}
  HasParts (series a v b) = HasParts a × HasParts b
  HasParts (par ts) = HasOne ts × AllHaveParts ts

  pub AllHaveParts : Parts → Type 0
  AllHaveParts no_parts = Unit {0}
  AllHaveParts (part t ts) = HasParts t × AllHaveParts ts
