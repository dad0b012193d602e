-- Which tasks come after which, by what they read; and orders that tell it.
use Rattle.std.specs.Prelude.{◌≡◌, ℕ, Bool, true, ◌&&◌, List, ◌∷◌, ◌++◌}
use Rattle.std.specs.List.{list_any}
use Rattle.mp_system.specs.Memory.{stands_in}
use Rattle.shared_systems.specs.Shared.{SharedTaskSystem, is_made_by, is_read_by}
use Rattle.shared_systems.specs.SharedTraversal.{IsSharedTraversal}

-- whether task v reads what task u makes
abbrev pub reads_from : SharedTaskSystem → ℕ → ℕ → Bool
reads_from system u v = list_any (λ x. is_made_by u x && is_read_by v x) system.items

-- task v comes after task u: it reads, directly or over others in between, what u makes
pub data ComesAfter (system : SharedTaskSystem) : ℕ → ℕ → Type 0 where
  reads : {u v : ℕ} → reads_from system u v ≡ true → ComesAfter system u v
  over : {u w v : ℕ} → ComesAfter system u w → reads_from system w v ≡ true → ComesAfter system u v

-- task v stands in the order, and task u before it
pub record StandsBefore (order : List ℕ) (u v : ℕ) : Type 0 where
  pub before : List ℕ
  pub rest : List ℕ
  pub split : order ≡ before ++ v ∷ rest
  pub stands : stands_in before u ≡ true

-- two traversals that tell which tasks come after which: where one stands before another in both, the other comes after it. The other way
-- round that holds of any two (Dushnik and Miller 1941, Partially ordered sets, where two such orders realize one of dimension two)
pub record IsRealizer (system : SharedTaskSystem) (first second : List ℕ) : Type 0 where
  pub first_traversal : IsSharedTraversal system first
  pub second_traversal : IsSharedTraversal system second
  pub both : (u v : ℕ) → StandsBefore first u v → StandsBefore second u v → ComesAfter system u v
