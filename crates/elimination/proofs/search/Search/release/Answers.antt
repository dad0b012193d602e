use Rattle.std.proofs.Common.{◌≡◌, ◌<◌, length, subst, sym, ap, ◌∙◌, IsTrue, false, arith, get_or}
use Rattle.std.specs.Vec.{with_items}
use Rattle.std.proofs.lemmas.List.{with_items_is}
use Rattle.patterns.specs.Pattern.{has}
use Rattle.elimination.specs.Quotients.{at, inner_at}
use Rattle.elimination.specs.Hoods.{mark_at}
use Rattle.elimination.proofs.Gatherings.{released, touched_within, own_within}
use Rattle.elimination.proofs.search.Search.release.Goals as goal

pub unmark-requires-2 : goal.unmark-requires-2
unmark-requires-2 c = λ j lt.
    let s = c.args.self.now in
    let e = c.deref-2.ensures.value in
    let start = c.requires.start in
    let k = touched_within start.0 (at s.turns.items) s.links.items (inner_at s.rims.items) c.args.u s.hood.near.items s.hood.touched.items
    s.seen.items
    start.1.gathered j (subst (λ z. j < length z) e lt) in
    let len = c.requires.lengths in
    let links = len.links in
    let seen = len.seen in
    subst (λ z. get_or z j 0 < length c.deref_mut-2.result.now) (sym e) (omega arith)

pub returns-clause-released : goal.returns-clause-released
returns-clause-released c = λ q m.
    let s = c.args.self.now in
    let near = s.hood.near.items in
    let touched = s.hood.touched.items in
    let seen1 = c.unmark.new.seen in
    let seen2 = c.unmark-2.new.seen in
    let g = m.gathered in
    let own = own_within q (at s.turns.items) s.links.items (inner_at s.rims.items) c.args.u near touched s.seen.items g in
    let len = c.requires.lengths in
    let links = len.links in
    let seen_len = len.seen in
    let e = c.deref.ensures.value in
    let e2 = c.deref-2.ensures.value in
    let before = c.deref_mut.ensures.value in
    let w1 : (with_items s.seen seen1).items ≡ seen1 = with_items_is s.seen seen1 (omega (arith, s.seen.ok.0)) in
    let w2 : (with_items (with_items s.seen seen1) seen2).items ≡ seen2 =
    with_items_is (with_items s.seen seen1) seen2 (omega (arith, s.seen.ok.0)) in
    let between : c.deref_mut-2.result.now ≡ seen1 = c.deref_mut-2.ensures.value ∙ w1 in
    record {
      stand = record {
        quotient = g.quotient;
        hidden = released q (at s.turns.items) s.links.items (inner_at s.rims.items) c.args.u near touched s.seen.items g seen1
            (with_items (with_items s.seen seen1) seen2).items
            (λ x h. c.unmark.ensures.gone x (subst (λ z. IsTrue (has z x)) (sym e) h))
            (λ x h. c.unmark.ensures.others x (subst (λ z. has z x ≡ false) (sym e) h) ∙ ap (λ z. mark_at z x) before)
            (λ x h. ap (λ z. mark_at z x) w2 ∙ c.unmark-2.ensures.gone x (subst (λ z. IsTrue (has z x)) (sym e2) h))
            (λ x h. ap (λ z. mark_at z x) w2 ∙ c.unmark-2.ensures.others x (subst (λ z. has z x ≡ false) (sym e2) h)
            ∙ ap (λ z. mark_at z x) between)
            (let l = ap length w2 in omega arith);
        grouped = m.grouped;
        bounds = m.bounds;
      };
      vertex = g.vertex;
      here = g.here;
      stands = g.stands;
      hood = g.hood;
    }
