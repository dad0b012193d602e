use Rattle.std.proofs.Common.{◌≡◌, ◌≤◌, ◌+◌, ◌++◌, ◌∷◌, [], arith, subst, sym, ap, ◌∙◌, inl, inr, not, take, set, get_or, true}
use Rattle.std.specs.Int.{from_bool}
use Rattle.std.proofs.lemmas.Bool.{cases_Bool}
use Rattle.std.proofs.lemmas.List.{take_more, take_all}
use Rattle.elimination.specs.Hoods.{IsVisited, AreLeft, mark_at}
use Rattle.elimination.proofs.ListFacts.{has_left, has_right}
use Rattle.elimination.proofs.Visits.{visit_none, visit_more, visit_written}
use Rattle.elimination.proofs.hoods.write_unmarked.Goals as goal

pub loop-b-init : goal.loop-b-init
loop-b-init c = record {
  room = omega arith;
  visits = λ n u turn rep t left. visit_none n u turn rep (take c.args.from c.args.near.now) c.args.seen.now t;
}

pub loop-b-preserved : goal.loop-b-preserved
loop-b-preserved c =
    let list = c.args.list.now in
    let i = c.loop-b.b-index in
    let b = get_or list i 0 in
    let near = c.loop-b.near in
    let seen = c.loop-b.seen in
    let count = c.loop-b.count in
    let more = c.from-count.result in
    let few : more ≤ 1 = elim (cases_Bool (mark_at seen b)) [
      | inl t ↦ let e = c.from-count.ensures ∙ ap (λ m. from_bool (not m)) t in omega arith
      | inr f ↦ let e = c.from-count.ensures ∙ ap (λ m. from_bool (not m)) f in omega arith
    ] in
    let room = c.loop-b.invariant.room in
    record {
      room = omega arith;
      visits = λ n u turn rep t left.
          let old = take c.args.from c.args.near.now in
          let e : take (i + 1) list ≡ take i list ++ b ∷ [] = take_more list i 0 c.loop-b-test.true in
          let parts : AreLeft n turn (take i list ++ b ∷ []) = subst (λ z. AreLeft n turn z) e left in
          let first : AreLeft n turn (take i list) = λ x h. parts x (has_left (take i list) (b ∷ []) x h) in
          let last : AreLeft n turn (b ∷ []) = λ x h. parts x (has_right (take i list) (b ∷ []) x h) in
          let v = c.loop-b.invariant.visits n u turn rep t first in
          let w = visit_written n u turn rep b count more near seen v.tracked last
          (let k = c.requires.within i c.loop-b-test.true in omega arith) (let k = c.requires.room in omega arith) c.from-count.ensures in
          subst (λ z. IsVisited n u turn rep z old (take (count + more) (set near count b)) c.args.seen.now (set seen b true)) (sym e)
          (visit_more n u turn rep (take i list) (b ∷ []) old (take count near) (take (count + more) (set near count b)) c.args.seen.now
          seen (set seen b true) v w);
    }

pub returns-clause-visits : goal.returns-clause-visits
returns-clause-visits c = λ n u turn rep t left.
    let list = c.args.list.now in
    let e : take c.loop-b.b-index list ≡ list = take_all c.loop-b.b-index list (omega arith) in
    subst (λ z. IsVisited n u turn rep z (take c.args.from c.args.near.now) (take c.loop-b.count c.loop-b.near) c.args.seen.now
    c.loop-b.seen) e
    (c.loop-b.invariant.visits n u turn rep t (subst (λ z. AreLeft n turn z) (sym e) left))
