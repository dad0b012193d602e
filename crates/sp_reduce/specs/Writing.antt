-- No public clause names this.
-- What is written of a piece, and what is still to be written: the positions come out from the last one back.
use Rattle.std.specs.Prelude.{ℕ, ◌+◌, Bool, true, false, cond, List, [], ◌∷◌, ◌++◌}
use Rattle.mp_system.specs.declared.system.Task.{Task}
use Rattle.sp_terms.specs.declared.position.Position.{Position}
use Rattle.sp_terms.specs.declared.position.Position.TheVariants.{Par}
use Rattle.sp_terms.specs.declared.position.Position.TheVariants as at
use Rattle.sp_terms.specs.Term.{no_parts}
use Rattle.sp_terms.specs.Postfix.{at_task, postfix, all_postfix}
use Rattle.graphs.specs.Graph.{IsAmong}
use Rattle.sp_reduce.specs.declared.piece.Piece.{Piece}
use Rattle.sp_reduce.specs.declared.piece.Piece.TheVariants.{Hold, Series, Both}
use Rattle.sp_reduce.specs.declared.postfix.Pending.{Pending}
use Rattle.sp_reduce.specs.Nets.{Net, names}
use Rattle.sp_reduce.specs.Pieces.{net_at}
use Rattle.sp_reduce.specs.Shapes.{shape_of, size_of}

-- the task of a series is one of so many
abbrev pub IsKnown : ℕ → Piece → Type 0
IsKnown n (Hold size) = Unit {0}
IsKnown n (Series a v b) = IsAmong n v
IsKnown n (Both a b) = Unit {0}

abbrev pub pending : ℕ → Bool → Pending
pending piece among = record { piece = piece; among = among }

-- the pieces that a piece is made of
abbrev pub children : Bool → Piece → List Pending
children among (Hold size) = []
children among (Series a v b) = pending a false ∷ pending b false ∷ []
children among (Both a b) = pending a true ∷ pending b true ∷ []

-- its own position, if it has one; pairs among the parts of a `par` have none
abbrev pub own_positions : (ℕ → Task) → Bool → ℕ → Piece → List Position
own_positions tasks among count (Hold size) = at.Hold size ∷ []
own_positions tasks among count (Series a v b) = at_task (tasks v) ∷ []
own_positions tasks among count (Both a b) = cond among [] (Par count ∷ [])

abbrev pub own_names : Piece → List ℕ
own_names (Hold size) = []
own_names (Series a v b) = v ∷ []
own_names (Both a b) = []

-- the positions of a net, alone or among the parts of a `par`
abbrev pub positions_of : (ℕ → Task) → Bool → Net → List Position
positions_of tasks among t = cond among (all_postfix ((shape_of tasks t).among no_parts)) (postfix ((shape_of tasks t).whole))

-- those of all nets that are still to be written, the last of which comes next
abbrev pub all_positions : (ℕ → Task) → List Net → List Pending → List Position
all_positions tasks nets [] = []
all_positions tasks nets (p ∷ ps) = positions_of tasks p.among (net_at nets p.piece) ++ all_positions tasks nets ps

abbrev pub all_names : List Net → List Pending → List ℕ
all_names nets [] = []
all_names nets (p ∷ ps) = names (net_at nets p.piece) ++ all_names nets ps

abbrev pub all_sizes : List Net → List Pending → ℕ
all_sizes nets [] = 0
all_sizes nets (p ∷ ps) = size_of (net_at nets p.piece) + all_sizes nets ps
