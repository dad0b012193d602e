use Rattle.std.proofs.Common.{◌≡◌, ◌<◌, arith, subst, sym, ◌∙◌, ap, length, get_or, refl, IsTrue}
use Rattle.std.specs.Vec.{with_items}
use Rattle.std.proofs.lemmas.List.{with_items_is}
use Rattle.std.proofs.lemmas.Grind.{get_or_default_zero}
use Rattle.patterns.specs.Pattern.{has, neighbours_of}
use Rattle.elimination.specs.declared.search.Search.{Search}
use Rattle.elimination.specs.Quotients.{AreLinks, LeadsTo, at}
use Rattle.elimination.specs.Twins.{AreRowsMarked}
use Rattle.elimination.specs.Tables.{tables}
use Rattle.elimination.specs.Turns.{HasMarks}
use Rattle.elimination.proofs.VertexLists.{row_within}
use Rattle.patterns.proofs.NumberLists.{has_at}
use Rattle.elimination.proofs.Choices.{marked_still}
use Rattle.elimination.proofs.search.Search.find_twin.Goals as goal
use Rattle.elimination.proofs.search.Search.find_twin.Goals.{After-all_marked, After-neighbours-row}

pub all_marked-requires-clause-row : goal.all_marked-requires-clause-row
all_marked-requires-clause-row c = λ j lt.
    let k = row_within c.args.pattern.now c.index-u.result.now c.neighbours-row.result.now c.keeps.ensures
    c.neighbours-row.ensures j lt in
    let e = ap length c.deref.ensures.value in
    let same = ap (λ (z : Search). length z.turns.items) c.loop-i.invariant.same in
    let len = c.requires.lengths.turns in
    omega arith

pub returns-then-tries-ge-MOST_TRIES-clause-marked : goal.returns-then-tries-ge-MOST_TRIES-clause-marked
returns-then-tries-ge-MOST_TRIES-clause-marked c = λ q u m.
    let i = c.loop-i.invariant in
    subst (λ z. HasMarks q (tables z) u) (sym i.same)
    (marked_still q (tables c.args.self.now) u m c.loop-i.self.links.items i.len i.linked (i.leads q.part m.gathered.quotient.leads))

pub returns-clause-marked : goal.returns-clause-marked
returns-clause-marked c = λ q u m.
    let i = c.loop-i.invariant in
    subst (λ z. HasMarks q (tables z) u) (sym i.same)
    (marked_still q (tables c.args.self.now) u m c.loop-i.self.links.items i.len i.linked (i.leads q.part m.gathered.quotient.leads))

turns_are : (c : After-all_marked) → c.deref.result.now ≡ c.args.self.now.turns.items
turns_are c = c.deref.ensures.value ∙ ap (λ (z : Search). z.turns.items) c.loop-i.invariant.same

pub returns-then-all_marked-clause-marked : goal.returns-then-all_marked-clause-marked
returns-then-all_marked-clause-marked c = λ q u m.
    let s = c.args.self.now in
    let turn = at s.turns.items in
    let i = c.loop-i.invariant in
    let links = c.loop-i.self.links in
    let links' = c.all_marked.new.links in
    let now = with_items links links' in
    let before = c.deref_mut.ensures.value in
    let w : now.items ≡ links' = with_items_is links links' (omega (arith, links.ok.0)) in
    let turns = turns_are (goal.at.returns-then-all_marked-clause-marked c).After-all_marked in
    let linked : AreLinks turn now.items = subst (AreLinks turn) (sym w)
    (subst (λ z. AreLinks (at z) links') turns c.if-all_marked.ensures.linked) in
    let from : LeadsTo (at c.deref.result.now) q.part c.deref_mut.result.now =
    subst (λ z. LeadsTo (at c.deref.result.now) q.part z) (sym before) (subst (λ z. LeadsTo (at z) q.part links.items) (sym turns)
    (i.leads q.part m.gathered.quotient.leads)) in
    let leads : LeadsTo turn q.part now.items =
    subst (LeadsTo turn q.part) (sym w) (subst (λ z. LeadsTo (at z) q.part links') turns (c.if-all_marked.ensures.leads q.part from)) in
    subst (λ (z : Search). HasMarks q (tables (record z { links = now })) u) (sym i.same)
    (marked_still q (tables s) u m now.items (let l = ap length w in let k = i.len in let b = ap length before in omega arith) linked leads)

pub returns-then-all_marked-clause-twin : goal.returns-then-all_marked-clause-twin
returns-then-all_marked-clause-twin c =
    let s = c.args.self.now in
    let turn = at s.turns.items in
    let near = s.hood.near.items in
    let i = c.loop-i.invariant in
    let n = c.loop-i.i in
    let u = c.index-u.result.now in
    let turns = turns_are (goal.at.returns-then-all_marked-clause-twin c).After-all_marked in
    let same_near : c.loop-i.self.hood.near.items ≡ near = ap (λ (z : Search). z.hood.near.items) i.same in
    let lt : n < length near = let l = ap length same_near in let e = c.len.ensures in let m = c.min-end.ensures in omega
    (arith, c.loop-i-test.true, c.loop-i.auto.i-end, s.hood.near.ok.0) in
    let is : u ≡ get_or near n 0 = c.index-u.ensures ∙ ap (λ z. get_or z n u) same_near ∙ get_or_default_zero near n u lt in
    let bounds = ap (λ (z : Search). at z.bounds u) i.same in
    let seen : c.deref-in-loop-i.result.now ≡ s.seen.items = c.deref-in-loop-i.ensures.value ∙ ap (λ (z : Search). z.seen.items) i.same in
    record {
      near_it = subst (λ z. IsTrue (has near z)) (sym is) (has_at near n lt);
      most = omega arith;
      marked = λ part h.
          let from : LeadsTo (at c.deref.result.now) part c.deref_mut.result.now =
          subst (λ z. LeadsTo (at c.deref.result.now) part z) (sym c.deref_mut.ensures.value)
          (subst (λ z. LeadsTo (at z) part c.loop-i.self.links.items) (sym turns) (i.leads part h)) in
          subst (λ z. AreRowsMarked turn part (neighbours_of c.args.pattern.now u) z) seen
          (subst (λ z. AreRowsMarked turn part z c.deref-in-loop-i.result.now) c.neighbours-row.ensures
          (subst (λ z. AreRowsMarked (at z) part c.neighbours-row.result.now c.deref-in-loop-i.result.now) turns
          (c.if-all_marked.ensures.marked refl part from)));
    }
