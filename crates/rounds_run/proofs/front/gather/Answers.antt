use Rattle.std.proofs.Common.{◌≡◌, ◌∷◌, ◌++◌, [], ◌||◌, eqb, get_or, ap, sym, ◌∙◌, arith}
use Rattle.std.specs.List.{list_any}
use Rattle.std.proofs.lemmas.List.{get_or_default}
use Rattle.patterns.specs.Pattern.{has, neighbours_of}
use Rattle.rounds_run.specs.Gathering.{in_lists, is_later}
use Rattle.patterns.proofs.NumberLists.{has_push}
use Rattle.patterns.proofs.NumberLists.{has_at}
use Rattle.rounds_run.proofs.front.gather.Goals as goal

pub add_later-requires : goal.add_later-requires
add_later-requires c = λ k d lt.
    let row = c.neighbours-neighbours.result.now in
    let inside = c.keeps.ensures.inside c.at.result (get_or row k 0)
    (ap (λ z. has z (get_or row k 0)) (sym c.neighbours-neighbours.ensures) ∙ has_at row k lt) in
    let same = get_or_default row k d 0 lt in
    let long = c.requires.perm in
    omega (arith, inside.1)

pub returns : goal.returns
returns c = λ x.
    let first = c.args.first in
    let own : has c.push.new.self.items x ≡ eqb first x =
    ap (λ z. has z x) (c.in_ok-push.ensures.items ∙ ap (λ z. z ++ first ∷ []) c.new-rows.ensures.items) ∙ has_push [] first x in
    let row = ap (λ z. list_any (is_later c.args.perm.now first x) z)
    (c.neighbours-neighbours.ensures ∙ ap (neighbours_of c.args.pattern.now) c.at.ensures.value) in
    c.in_ok-add_lists.ensures x
    ∙ ap (λ b. b || in_lists c.args.lists.now x)
    (c.in_ok-add_later.ensures x ∙ ap (λ b. b || list_any (is_later c.args.perm.now first x) c.neighbours-neighbours.result.now) own
    ∙ ap (λ b. eqb first x || b) row)
