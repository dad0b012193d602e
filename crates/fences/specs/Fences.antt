-- Fences: items of size 0 that are added to a system, so that fewer tasks may run at once.
use Rattle.std.specs.Prelude.{◌≡◌, ℕ, ◌≤◌, Some, ◌++◌, All, List, [], ◌∷◌}
use Rattle.mp_system.specs.declared.system.Item.{Item}
use Rattle.mp_system.specs.System.{TaskSystem, IsItemWithin}
use Rattle.mp_system.specs.Memory.{peak_of}
use Rattle.mp_system.specs.Traversal.{IsTraversal}
use Rattle.fences.specs.Amounts.{AreHandedOn, certified_bound}

-- the system `fenced` has the same tasks and items, and fences
pub record IsFenced (system fenced : TaskSystem) : Type 0 where
  pub fences : List Item
  pub tasks : fenced.tasks ≡ system.tasks
  pub items : fenced.items ≡ system.items ++ fences
  pub empty : All (λ fence. fence.size ≡ 0) fences

-- fences that keep a system within a bound: some order still passes them, and amounts certify the bound
pub record HasFences (system : TaskSystem) (bound : ℕ) : Type 0 where
  pub fenced : TaskSystem
  pub order : List ℕ
  pub amounts : List ℕ
  pub is_fenced : IsFenced system fenced
  pub within : All (IsItemWithin fenced) fenced.items
  pub traversal : IsTraversal fenced order
  pub handed : AreHandedOn fenced amounts
  pub value : certified_bound fenced amounts ≤ bound

-- some traversal keeps the bound alone
pub record HasTraversal (system : TaskSystem) (bound : ℕ) : Type 0 where
  pub order : List ℕ
  pub traversal : IsTraversal system order
  pub peak : peak_of system order ≤ bound

-- a fence from each task of an order to the next
abbrev pub fence : ℕ → ℕ → Item
fence u v = record { size = 0; from = Some u; to = Some v }

abbrev pub fences_from : ℕ → List ℕ → List Item
fences_from u [] = []
fences_from u (v ∷ rest) = fence u v ∷ fences_from v rest

abbrev pub fences_along : List ℕ → List Item
fences_along [] = []
fences_along (u ∷ rest) = fences_from u rest

abbrev pub chained : TaskSystem → List ℕ → TaskSystem
chained system order = record { tasks = system.tasks; items = system.items ++ fences_along order }
