-- No public clause names this.
-- The state of the reduction: arcs that carry terms.
use Rattle.std.specs.Prelude.{◌≡◌, ℕ, ◌≤◌, cond, Bool, true, false, List, [], ◌∷◌, Option, Some, None}
use Rattle.std.specs.List.{sum_by}
use Rattle.mp_system.specs.declared.system.Item.{Item}
use Rattle.sp_reduce.specs.Nets.{Net, hold, weigh, times, hits}
use Rattle.sp_reduce.specs.NetGraphs.{arc, arc_weight, Fits}

-- an arc with the term that it stands for; one that is dead counts for nothing
pub record Edge : Type 0 where
  pub alive : Bool
  pub from : Option ℕ
  pub net : Net
  pub to : Option ℕ

abbrev pub dead : Edge
dead = record { alive = false; from = None; net = hold 0; to = None }

abbrev pub edge_weight : (Option ℕ → Net → Option ℕ → ℕ) → Edge → ℕ
edge_weight f e = cond e.alive (f e.from e.net e.to) 0

abbrev pub total : (Option ℕ → Net → Option ℕ → ℕ) → List Edge → ℕ
total f es = sum_by (edge_weight f) es

-- the graph of the arcs alive; their sizes don't matter
abbrev pub arcs_of : List Edge → List Item
arcs_of [] = []
arcs_of (e ∷ es) = cond e.alive (arc e.from 0 e.to ∷ arcs_of es) (arcs_of es)

-- the terms of the arcs alive have together the arcs of the graph, each task stands in at most one of them, and
-- in none while an arc leads to it; and where a term has the graph, one has what is left
pub record IsNetForest (graph : List Item) (es : List Edge) : Type 0 where
  pub whole : (f : Option ℕ → ℕ → Option ℕ → ℕ) → total (λ p n q. weigh f p q n) es ≡ sum_by (arc_weight f) graph
  pub once : (v : ℕ) → total (λ p n q. times v n) es ≤ 1
  pub open_tasks : (v : ℕ) → 1 ≤ total (λ p n q. hits q (Some v)) es → total (λ p n q. times v n) es ≡ 0
  pub keeps : (t : Net) → Fits t graph → (u : Net) × Fits u (arcs_of es)

-- each arc with its own data as its term
abbrev pub planted : List Item → List Edge
planted [] = []
planted (x ∷ xs) = record { alive = true; from = x.from; net = hold x.size; to = x.to } ∷ planted xs
