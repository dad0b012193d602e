-- Older ropes stand for the same lists.
use Rattle.std.proofs.Common.{◌≡◌, ℕ, List, [], ◌∷◌, ◌++◌, ◌<◌, get_or, length, reverse, refl, ap}
use Rattle.std.proofs.lemmas.Grind.{common_steps}
use Rattle.std.proofs.Common.{arith}
use Rattle.hill_valley.specs.declared.ropes.Rope.{Rope}
use Rattle.hill_valley.specs.declared.ropes.Piece.{Piece}
use Rattle.hill_valley.specs.declared.ropes.Piece.TheVariants.{Empty, Task, Joined, Turned}
use Rattle.hill_valley.specs.declared.side.Seg.{Seg}
use Rattle.hill_valley.specs.Ropes.{list_of_piece, IsPiece, list_of, IsRope, Extends}
use Rattle.hill_valley.specs.Side.{HaveRopes, runs_of}

get_kept : (old more : List (List ℕ)) (i : ℕ) → i < length old → get_or (old ++ more) i [] ≡ get_or old i []
get_kept old more i h = grind (arith, common_steps)

piece_kept : (old more : List (List ℕ)) (p : Piece) → IsPiece (length old) p
    → list_of_piece (λ i. get_or (old ++ more) i []) p ≡ list_of_piece (λ i. get_or old i []) p
piece_kept old more Empty h = refl
piece_kept old more (Task task) h = refl
piece_kept old more (Joined i) h = get_kept old more i h
piece_kept old more (Turned i) h = ap (reverse {A = ℕ}) (get_kept old more i h)

piece_stays : (old more : List (List ℕ)) (p : Piece) → IsPiece (length old) p → IsPiece (length (old ++ more)) p
piece_stays old more Empty h = tt
piece_stays old more (Task task) h = tt
piece_stays old more (Joined i) h = grind (arith, common_steps)
piece_stays old more (Turned i) h = grind (arith, common_steps)

pub list_kept : (old new : List (List ℕ)) (r : Rope) → IsRope old r → Extends old new → list_of new r ≡ list_of old r
list_kept old new r h (more, e) = rw e (piece_kept old more r.piece h)

pub rope_kept : (old new : List (List ℕ)) (r : Rope) → IsRope old r → Extends old new → IsRope new r
rope_kept old new r h (more, e) = rw e (piece_stays old more r.piece h)

pub runs_kept : (old new : List (List ℕ)) (ss : List Seg) → HaveRopes old ss → Extends old new → runs_of new ss ≡ runs_of old ss
runs_kept old new [] h k = refl
runs_kept old new (s ∷ ss) h k = rw (list_kept old new s.tasks h.0 k, runs_kept old new ss h.1 k) refl

pub ropes_kept : (old new : List (List ℕ)) (ss : List Seg) → HaveRopes old ss → Extends old new → HaveRopes new ss
ropes_kept old new [] h k = tt
ropes_kept old new (s ∷ ss) h k = (rope_kept old new s.tasks h.0 k, ropes_kept old new ss h.1 k)

pub extends_on : (a b c : List (List ℕ)) → Extends a b → Extends b c → Extends a c
extends_on a b c (m, e) (n, f) = (m ++ n, rw (f, e) (grind (arith, common_steps)))

pub extends_self : (a : List (List ℕ)) → Extends a a
extends_self a = ([], grind (arith, common_steps))
