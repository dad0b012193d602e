use Rattle.std.proofs.Common.{◌≡◌, ℕ, List, length, arith, ap, subst}
use Rattle.hill_valley.specs.Ropes.{IsPiece}
use Rattle.hill_valley.proofs.Joins.{length_lists}
use Rattle.hill_valley.proofs.ropes.Ropes.list.Goals as goal

pub list_from-requires-clause-piece : goal.list_from-requires-clause-piece
list_from-requires-clause-piece c =
    let e = ap (length {A = List ℕ}) c.self.view_is in
    let d = ap (length {A = _}) c.deref.ensures.value in
    let same : length c.args.self.now ≡ length c.deref.result.now = omega (arith, length_lists c.self.inside.joins.items, e, d) in
    subst (λ (n : ℕ). IsPiece n c.args.rope.piece) same c.requires.rope
