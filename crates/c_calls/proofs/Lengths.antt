-- How long orders and amounts of a tree are: as its nodes.
use Rattle.std.proofs.Common.{◌≡◌, ◌∙◌, ℕ, suc, ◌+◌, List, [], ◌∷◌, length, refl, sym, ap}
use Rattle.std.proofs.lemmas.List.{length-map}
use Rattle.mp_system.specs.System.{TaskSystem}
use Rattle.trees.specs.declared.node.Node.{Node}
use Rattle.trees.specs.Tree.{task_of_node, items_from, system_of_nodes}
use Rattle.least_peak.specs.Problem.{system_of}
use Rattle.least_peak.specs.declared.problem.Origin.{Origin}
use Rattle.least_peak.specs.declared.problem.Origin.TheVariants as origins

-- a traversal of the tree's system
pub order_long : (tree nodes : List Node) (order : List ℕ) (room : ℕ) → tree ≡ nodes → room ≡ length nodes
    → length order ≡ length (system_of_nodes tree).tasks → length order ≡ room
order_long tree nodes order room same is long = long ∙ length-map tree task_of_node ∙ ap (λ (ns : List Node). length ns) same ∙ sym is

-- of a problem that is the tree's
pub plan_long : (origin : Origin) (tree nodes : List Node) (order : List ℕ) (room : ℕ) → origin ≡ origins.Tree tree → tree ≡ nodes
    → room ≡ length nodes → length order ≡ length (system_of origin).tasks → length order ≡ room
plan_long origin tree nodes order room made same is long =
    order_long tree nodes order room same is (long ∙ ap (λ (o : Origin). length (system_of o).tasks) made)

items_long : (nodes : List Node) (i : ℕ) → length (items_from i nodes) ≡ length nodes
items_long [] i = refl
items_long (node ∷ nodes) i = ap suc (items_long nodes (i + 1))

-- as many items as there are nodes
pub amounts_long : (system : TaskSystem) (nodes : List Node) (amounts : List ℕ) (room : ℕ) → system ≡ system_of_nodes nodes
    → room ≡ length nodes → length amounts ≡ length system.items → length amounts ≡ room
amounts_long system nodes amounts room same is long = long ∙ ap (λ (s : TaskSystem). length s.items) same ∙ items_long nodes 1 ∙ sym is
