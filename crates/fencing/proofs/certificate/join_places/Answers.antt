use Rattle.std.proofs.Common.{◌<◌, ◌+◌, ℕ, List, [], ◌∷◌, ◌++◌, append-nil, length, take, ap, sym, ◌∙◌, arith, true, false}
use Rattle.shared_systems.specs.Collected.{are_several}
use Rattle.fences.specs.Certificates.{join_places_from}
use Rattle.fencing.proofs.Joins.{are_few, are_more, places_next}
use Rattle.fencing.proofs.certificate.join_places.Goals as goal
use Rattle.fencing.proofs.certificate.join_places.Goals.{then-readers-gt1+in_ok-push, else-readers-gt1}

pub loop-i-preserved : goal.loop-i-preserved
loop-i-preserved c =
    let i = c.loop-i.i in
    let items = c.args.items.now in
    let lt : i < length items = omega (arith, c.loop-i-test.true, c.len-i-end.ensures) in
    let read = ap are_several c.readers.ensures in
    elim c.if-readers-gt1.branch [
      | then-readers-gt1+in_ok-push w ↦ ap (λ z. z.items) w.places-is ∙ w.in_ok-push.ensures.items
          ∙ ap (λ (l : List ℕ). l ++ (i + 1) ∷ []) c.loop-i.invariant
          ∙ sym (places_next items i true lt (sym read ∙ are_more c.readers.result.now w.if-readers-gt1.true))
      | else-readers-gt1 w ↦ ap (λ z. z.items) w.places-is ∙ c.loop-i.invariant
          ∙ sym (append-nil (join_places_from 1 (take i items)))
          ∙ sym (places_next items i false lt (sym read ∙ are_few c.readers.result.now (omega (arith, w.if-readers-gt1.false))))
    ]
