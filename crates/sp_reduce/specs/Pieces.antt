-- No public clause names this.
-- Terms in a list of pieces, each made of earlier ones, and the links that carry them.
use Rattle.std.specs.Prelude.{◌≡◌, ℕ, ◌*◌, ◌<◌, cond, true, List, [], ◌∷◌, ◌++◌, length, slice_index, slice_index_or}
use Rattle.limits.specs.Limits.{most_arcs}
use Rattle.mp_system.specs.declared.system.Item.{Item}
use Rattle.graphs.specs.Graph.{end_of}
use Rattle.sp_reduce.specs.declared.link.Link.{Link}
use Rattle.sp_reduce.specs.declared.piece.Piece.{Piece}
use Rattle.sp_reduce.specs.declared.piece.Piece.TheVariants.{Hold, Series, Both}
use Rattle.sp_reduce.specs.Nets.{Net, hold, series, both}
use Rattle.sp_reduce.specs.Forests.{Edge, dead, IsNetForest, planted}
use Rattle.sp_reduce.specs.Work.{link_at}

-- pieces: one for each arc, and one for each arc that is joined with another
abbrev pub most_pieces : ℕ
most_pieces = 2 * most_arcs

abbrev pub net_at : List Net → ℕ → Net
net_at nets i = slice_index_or nets i (hold 0)

-- the term of a piece, from those of the earlier ones
abbrev pub piece_net : List Net → Piece → Net
piece_net nets (Hold n) = hold n
piece_net nets (Series a v b) = series (net_at nets a) v (net_at nets b)
piece_net nets (Both a b) = both (net_at nets a) (net_at nets b)

abbrev pub grown : List Net → List Piece → List Net
grown nets [] = nets
grown nets (p ∷ ps) = grown (nets ++ piece_net nets p ∷ []) ps

abbrev pub nets_of : List Piece → List Net
nets_of ps = grown [] ps

-- the edge of a link, with the term of the piece that it carries
abbrev pub edge_of : List Net → Link → ℕ → Edge
edge_of nets l node = cond l.alive (record { alive = true; from = end_of l.from; net = net_at nets node; to = end_of l.to }) dead

abbrev pub edges_of : List Net → List Link → List ℕ → List Edge
edges_of nets [] nodes = []
edges_of nets (l ∷ ls) [] = edge_of nets l 0 ∷ edges_of nets ls []
edges_of nets (l ∷ ls) (n ∷ ns) = edge_of nets l n ∷ edges_of nets ls ns

-- a piece at this place is made of earlier ones
abbrev pub IsBuilt : ℕ → Piece → Type 0
IsBuilt i (Hold n) = Unit {0}
IsBuilt i (Series a v b) = (a < i) × (b < i)
IsBuilt i (Both a b) = (a < i) × (b < i)

abbrev pub piece_at : List Piece → ℕ → Piece
piece_at ps i = slice_index_or ps i (Hold 0)

abbrev pub AreMade : List Piece → Type 0
AreMade ps = (i : ℕ) → i < length ps → IsBuilt i (piece_at ps i)

-- each link that is alive carries a piece, and these are the terms of a forest of the graph, with the arcs that are still to come
pub record IsCarried (graph rest : List Item) (pieces : List Piece) (links : List Link) (nodes : List ℕ) : Type 0 where
  pub lens : length nodes ≡ length links
  pub made : AreMade pieces
  pub within : (x : ℕ) → x < length links → (link_at links x).alive ≡ true → slice_index nodes x < length pieces
  pub forest : IsNetForest graph (edges_of (nets_of pieces) links nodes ++ planted rest)
