use Rattle.std.proofs.Common.{◌≡◌, ◌≤◌, sym, ap, ◌∙◌, arith}
use Rattle.std.proofs.lemmas.List.{get_or_default}
use Rattle.fencing.specs.declared.ledger.Piece.{Piece}
use Rattle.fencing.proofs.Taken.{takes_at}
use Rattle.fencing.proofs.ledger.Ledger.take_along.Goals as goal

pub returns-clause-takes : goal.returns-clause-takes
returns-clause-takes c =
    let pieces = c.args.self.now.pieces.items in
    let at = c.in-Some-place_of.at in
    let place = c.in-Some-place_of.ensures in
    let piece = c.index_mut.result.now in
    let read : c.index.result.now ≡ piece = c.index.ensures ∙ get_or_default pieces at _ _ place.0 ∙ sym c.index_mut.ensures.value in
    let same : c.index.result.now.amount ≡ piece.amount = ap (λ (p : Piece). p.amount) read in
    let low : c.min-amount.result ≤ piece.amount = omega (arith, same, c.min-amount.ensures) in
    rw c.in_ok-note.ensures
    (takes_at c.args.items.now c.in-Some.from c.args.task c.min-amount.result c.args.index pieces at piece c.args.self.now.takings.items place.0
    c.index_mut.ensures.value (ap (λ (p : Piece). p.task) c.index_mut.ensures.value ∙ place.1 piece) low (c.requires.input.0, c.in-Some.is, c.requires.input.1))
