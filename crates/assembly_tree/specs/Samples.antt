-- No public clause names this.
-- Worked examples: the arrow, whose vertex 1 is joined to 2, 3 and 4, in two orders, and the grid of 2 by 2.
use Rattle.std.specs.Prelude.{◌≡◌, ℕ, true, false, nat_lt, [], ◌∷◌, refl, map}
use Rattle.std.specs.List.{range_with_len}
use Rattle.trees.specs.declared.node.Node.{Node}
use Rattle.assembly_tree.specs.declared.assembly.Super.{Super}
use Rattle.assembly_tree.specs.declared.front.Shape.TheVariants.{Triangle, Square}
use Rattle.assembly_tree.specs.Assembly.{AssemblyTree}
use Rattle.assembly_tree.specs.Supernodes.{first_of, last_of}
use Rattle.assembly_tree.specs.Amalgamation.{amalgamated}
use Rattle.assembly_tree.specs.Fronts.{nodes_of_fronts}
use Rattle.assembly_tree.specs.Relaxation.{enlarged, number_among}

abbrev pub supernode : ℕ → ℕ → ℕ → Super
supernode columns rest parent = record { columns = columns; rest = rest; parent = parent }

abbrev pub node : ℕ → ℕ → ℕ → ℕ → ℕ → Node
node parent out extra share time = record { parent = parent; out = out; extra = extra; share = share; time = time }

-- ---- the arrow in the order 2, 3, 1, 4: two leaves, and the columns 3 and 4 together

abbrev pub turned_arrow : AssemblyTree
turned_arrow = record { supers = supernode 1 1 3 ∷ supernode 1 1 3 ∷ supernode 2 0 0 ∷ []; nodes = 1 ∷ 2 ∷ 3 ∷ 3 ∷ [] }

pub turned_arrow_firsts : map (first_of turned_arrow.supers) (range_with_len 1 3) ≡ 1 ∷ 2 ∷ 3 ∷ []
turned_arrow_firsts = refl

pub turned_arrow_lasts : map (last_of turned_arrow.supers) (range_with_len 1 3) ≡ 1 ∷ 2 ∷ 4 ∷ []
turned_arrow_lasts = refl

pub turned_arrow_fronts : nodes_of_fronts Triangle false turned_arrow.supers ≡ node 3 1 2 0 1 ∷ node 3 1 2 0 1 ∷ node 0 0 3 0 2 ∷ []
turned_arrow_fronts = refl

pub turned_arrow_inplace : nodes_of_fronts Triangle true turned_arrow.supers ≡ node 3 1 2 0 1 ∷ node 3 1 2 0 1 ∷ node 0 0 3 1 2 ∷ []
turned_arrow_inplace = refl

pub turned_arrow_squares : nodes_of_fronts Square false turned_arrow.supers ≡ node 3 1 3 0 1 ∷ node 3 1 3 0 1 ∷ node 0 0 4 0 2 ∷ []
turned_arrow_squares = refl

-- the first leaf is merged for one zero; the second would then take two
pub turned_arrow_amalgamated : amalgamated 1 turned_arrow
    ≡ record { supers = supernode 1 1 2 ∷ supernode 3 0 0 ∷ []; nodes = 2 ∷ 1 ∷ 2 ∷ 2 ∷ [] }
turned_arrow_amalgamated = refl

pub turned_arrow_merged : amalgamated 2 turned_arrow ≡ record { supers = supernode 4 0 0 ∷ []; nodes = 1 ∷ 1 ∷ 1 ∷ 1 ∷ [] }
turned_arrow_merged = refl

-- ---- the arrow in the order 1, 2, 3, 4: one front

pub arrow_front : nodes_of_fronts Triangle false (supernode 4 0 0 ∷ []) ≡ node 0 0 10 0 4 ∷ []
arrow_front = refl

-- ---- the grid: column 1, and the columns 2, 3 and 4 together

pub grid_fronts : nodes_of_fronts Triangle false (supernode 1 2 2 ∷ supernode 3 0 0 ∷ []) ≡ node 2 3 3 0 1 ∷ node 0 0 6 0 3 ∷ []
grid_fronts = refl

-- ---- a chain: the first supernode goes into the second, which goes into the third
pub chain_amalgamated : amalgamated 2 (record { supers = supernode 1 1 2 ∷ supernode 1 1 3 ∷ supernode 1 0 0 ∷ []; nodes = 1 ∷ 2 ∷ 3 ∷ [] })
    ≡ record { supers = supernode 3 0 0 ∷ []; nodes = 1 ∷ 1 ∷ 1 ∷ [] }
chain_amalgamated = refl

-- told without the visits: the first two go, the second with two columns
pub chain_enlarged :
    map (enlarged (λ s. nat_lt s 3) (λ s. s) (supernode 1 1 2 ∷ supernode 1 1 3 ∷ supernode 1 0 0 ∷ []) 3) (range_with_len 1 3)
    ≡ supernode 1 1 2 ∷ supernode 2 1 3 ∷ supernode 3 0 0 ∷ []
chain_enlarged = refl

pub chain_number : number_among (λ s. nat_lt s 3) 3 ≡ 1
chain_number = refl
