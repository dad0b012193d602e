use Rattle.std.proofs.Common.{◌||◌, get_or, take, [], ◌∷◌, ◌++◌, ap, sym, ◌∙◌}
use Rattle.std.specs.List.{list_any}
use Rattle.std.proofs.lemmas.List.Folds.{list_any_more}
use Rattle.patterns.specs.Pattern.{has}
use Rattle.rounds_run.specs.Gathering.{is_later}
use Rattle.rounds_run.proofs.Additions.{adds_more, adds_none, later_yes, later_no}
use Rattle.patterns.proofs.NumberLists.{has_push}
use Rattle.rounds_run.proofs.gathering.add_later.Goals as goal
use Rattle.rounds_run.proofs.gathering.add_later.Goals.{then-column-first+in_ok-push, else-column-first}

pub loop-vertex-preserved : goal.loop-vertex-preserved
loop-vertex-preserved c = λ x.
    let vertices = c.args.vertices.now in
    let i = c.loop-vertex.vertex-index in
    let v = get_or vertices i 0 in
    let order = c.args.perm.now in
    let first = c.args.first in
    let test = is_later order first x in
    let old = c.args.list.now.items in
    let so_far = c.loop-vertex.list.items in
    let more = ap (λ b. has old x || b) (sym (list_any_more test vertices i 0 c.loop-vertex-test.true)) in
    elim c.if-column-first.branch [
      | then-column-first+in_ok-push w ↦
          ap (λ z. has z x) (ap (λ z. z.items) w.list-is ∙ w.in_ok-push.ensures.items)
          ∙ adds_more (has (so_far ++ c.place-column.result ∷ []) x) (has so_far x) (has old x) (list_any test (take i vertices)) (test v)
          (has_push so_far c.place-column.result x ∙ ap (λ b. has so_far x || b)
          (sym (later_yes order first x v c.place-column.result c.place-column.ensures.value w.if-column-first.true)))
          (c.loop-vertex.invariant x) ∙ more
      | else-column-first w ↦
          ap (λ z. has z.items x) w.list-is
          ∙ adds_none (has so_far x) (has old x) (list_any test (take i vertices)) (test v)
          (later_no order first x v c.place-column.result c.place-column.ensures.value w.if-column-first.false)
          (c.loop-vertex.invariant x) ∙ more
    ]
