-- No public clause names this.
-- Graphs as lists of arcs, and the two reductions.
use Rattle.std.specs.Prelude.{◌≡◌, ℕ, ◌≤◌, List, [], ◌∷◌, Option, Some, None}
use Rattle.std.specs.List.{sum_by}
use Rattle.mp_system.specs.declared.system.Item.{Item}
use Rattle.sp_reduce.specs.Nets.{Net, IsDistinct, weigh, count, pair, into, out_of}

abbrev pub arc_weight : (Option ℕ → ℕ → Option ℕ → ℕ) → Item → ℕ
arc_weight f x = f x.from x.size x.to

abbrev pub arc_count : (Option ℕ → Option ℕ → ℕ) → Item → ℕ
arc_count g x = g x.from x.to

abbrev pub counted : (Option ℕ → Option ℕ → ℕ) → List Item → ℕ
counted g xs = sum_by (arc_count g) xs

-- the term's arcs are those of the graph, in any order
pub record Makes (t : Net) (graph : List Item) : Type 0 where
  pub distinct : IsDistinct t
  pub arcs : (f : Option ℕ → ℕ → Option ℕ → ℕ) → weigh f None None t ≡ sum_by (arc_weight f) graph

-- the same but for the sizes
pub record Fits (t : Net) (graph : List Item) : Type 0 where
  pub distinct : IsDistinct t
  pub ends : (g : Option ℕ → Option ℕ → ℕ) → count g None None t ≡ counted g graph

-- the same arcs in any order
abbrev pub Same : List Item → List Item → Type 0
Same xs ys = (f : Option ℕ → ℕ → Option ℕ → ℕ) → sum_by (arc_weight f) xs ≡ sum_by (arc_weight f) ys

abbrev pub arc : Option ℕ → ℕ → Option ℕ → Item
arc p n q = record { from = p; size = n; to = q }

-- two arcs with the same ends become one
pub record IsParallel (before after : List Item) : Type 0 where
  pub from : Option ℕ
  pub to : Option ℕ
  pub one : ℕ
  pub two : ℕ
  pub new : ℕ
  pub rest : List Item
  pub was : Same before (arc from one to ∷ arc from two to ∷ rest)
  pub is : Same after (arc from new to ∷ rest)

-- a task with one arc in and one arc out is taken out
pub record IsSeries (before after : List Item) : Type 0 where
  pub from : Option ℕ
  pub to : Option ℕ
  pub task : ℕ
  pub one : ℕ
  pub two : ℕ
  pub new : ℕ
  pub rest : List Item
  pub was : Same before (arc from one (Some task) ∷ arc (Some task) two to ∷ rest)
  pub is : Same after (arc from new to ∷ rest)
  pub one_in : counted (into (Some task)) before ≡ 1
  pub one_out : counted (out_of (Some task)) before ≡ 1

pub data Row : List Item → List Item → Type 0 where
  stop : {g : List Item} → Row g g
  parallel : {g h k : List Item} → IsParallel g h → Row h k → Row g k
  series_at : {g h k : List Item} → IsSeries g h → Row h k → Row g k

-- no reduction applies
pub record IsIrreducible (graph : List Item) : Type 0 where
  pub no_pair : (p q : Option ℕ) → counted (pair p q) graph ≤ 1
  pub no_task : (v : ℕ) → counted (into (Some v)) graph ≡ 1 → counted (out_of (Some v)) graph ≡ 1 → ⊥

-- one single arc from none to none
abbrev pub IsSingle : List Item → Type 0
IsSingle graph = (n : ℕ) × (graph ≡ arc None n None ∷ [])

-- the row of reductions decides whether a term has the graph
pub record Decides (graph rest : List Item) : Type 0 where
  pub yes : IsSingle rest → (t : Net) × Makes t graph
  pub no : (IsSingle rest → ⊥) → (t : Net) → Makes t graph → ⊥
