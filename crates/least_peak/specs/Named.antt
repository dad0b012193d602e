-- No public clause names this.
-- A system that is that of a term, under the names of its tasks.
use Rattle.std.specs.Prelude.{◌≡◌, ℕ, List, Option, Some, None, map}
use Rattle.mp_system.specs.Renaming.{IsRenamed, name_in}
use Rattle.mp_system.specs.System.{TaskSystem, IsSystem}
use Rattle.sp_terms.specs.declared.position.Position.{Position}
use Rattle.sp_terms.specs.SystemOfTerm.{system_of_term}
use Rattle.sp_terms.specs.Values.{IsTerms, term_of}

-- the system is the term's own, or the same under these names of its tasks
abbrev pub IsNamedBy : Option (List ℕ) → TaskSystem → TaskSystem → Type 0
IsNamedBy None own system = own ≡ system
IsNamedBy (Some names) own system = IsRenamed names own system

-- the positions are a term within the limits, and the system, which is within them too, is that of the term, under the names
pub record IsNamedTerm (names : Option (List ℕ)) (positions : List Position) (system : TaskSystem) : Type 0 where
  pub terms : IsTerms positions
  pub within : IsSystem system
  pub named : IsNamedBy names (system_of_term (term_of positions)) system

-- the tasks of an order, each by its name
abbrev pub order_named : Option (List ℕ) → List ℕ → List ℕ
order_named None order = order
order_named (Some names) order = map (name_in names) order
