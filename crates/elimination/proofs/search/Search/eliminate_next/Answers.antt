use Rattle.std.proofs.Common.{◌≡◌, ◌<◌, ◌+◌, length, ℕ, arith, subst, sym, ap, set, get_or, IsTrue, false}
use Rattle.std.specs.Vec.{with_items}
use Rattle.std.proofs.lemmas.List.{with_items_is}
use Rattle.patterns.specs.Pattern.{has}
use Rattle.elimination.specs.Quotients.{at, inner_at}
use Rattle.elimination.specs.Tables.{tables}
use Rattle.elimination.specs.Turns.{IsChosen, IsAbsorbed, IsEliminated, quotient_of}
use Rattle.elimination.proofs.BoundSteps.{at_other, at_here}
use Rattle.elimination.proofs.Turnings.{parts_within, members_in, merged_linked, the_turn, eliminated_so}
use Rattle.elimination.proofs.search.Search.eliminate_next.Goals as goal
use Rattle.elimination.proofs.search.Search.eliminate_next.Goals.{In_ok-vertex, In_ok-absorb}

chosen : (c : In_ok-vertex) → IsChosen c.args.pattern.now c.requires.start.0 (tables c.choose.new.self) c.in_ok-vertex.vertex
chosen c = c.in_ok-vertex.ensures.chosen c.requires.start.0 c.requires.start.1

vertex_in : (c : In_ok-vertex) → c.in_ok-vertex.vertex < length c.args.pattern.now + 1
vertex_in c = let b = (chosen c).released.vertex.1 in omega arith

pub at-requires : goal.at-requires
at-requires c = let v = vertex_in (goal.at.at-requires c).In_ok-vertex in let b = c.in_ok-vertex.ensures.lengths.bounds in omega arith

pub lower-requires : goal.lower-requires
lower-requires c = λ j lt.
    let e = c.deref.ensures.value in
    let ch = chosen (goal.at.lower-requires c).In_ok-vertex in
    let b = c.in_ok-vertex.ensures.lengths.bounds in
    let k = (ch.released.hood.vertices j 0 (subst (λ z. j < length z) e lt)).1 in
    subst (λ z. get_or z j 0 < length c.choose.new.self.bounds) (sym e) (omega arith)

pub put-requires : goal.put-requires
put-requires c =
    let v = vertex_in (goal.at.put-requires c).In_ok-vertex in
    let b = c.in_ok-vertex.ensures.lengths.bounds in
    let l = c.lower.ensures.len in
    omega arith

pub index_mut-requires : goal.index_mut-requires
index_mut-requires c =
    let v = vertex_in (goal.at.index_mut-requires c).In_ok-vertex in
    let b = c.in_ok-vertex.ensures.lengths.turns in
    let k = c.choose.new.self.turns.ok.0 in
    omega arith

pub absorb-requires-clause-v : goal.absorb-requires-clause-v
absorb-requires-clause-v c =
    let v = vertex_in (goal.at.absorb-requires-clause-v c).In_ok-vertex in
    let b = c.in_ok-vertex.ensures.lengths.links in
    let e = ap length c.deref_mut.ensures.value in
    omega arith

pub absorb-requires-clause-links : goal.absorb-requires-clause-links
absorb-requires-clause-links c = λ j lt.
    let ch = chosen (goal.at.absorb-requires-clause-links c).In_ok-vertex in
    let q = quotient_of c.args.pattern.now c.requires.start.0 ch.part ch.rim ch.rep in
    let k = parts_within q (tables c.choose.new.self) c.in_ok-vertex.vertex ch.released j lt in
    let e = ap length c.deref_mut.ensures.value in
    omega arith

pub give_back-requires-clause-group : goal.give_back-requires-clause-group
give_back-requires-clause-group c =
    let ch = chosen (goal.at.give_back-requires-clause-group c).In_ok-vertex in
    members_in (quotient_of c.args.pattern.now c.requires.start.0 ch.part ch.rim ch.rep)
    (tables c.choose.new.self) c.in_ok-vertex.vertex ch.released

-- the links and the rims once the parts are merged
merged_len : (c : In_ok-absorb) → length (with_items c.choose.new.self.links c.absorb.new.links).items ≡ length
    c.choose.new.self.links.items
merged_len c =
    let links = c.choose.new.self.links in
    let e = ap length c.deref_mut.ensures.value in
    let w = ap length (with_items_is links c.absorb.new.links (omega (arith, links.ok.0))) in
    omega arith

absorbed : (c : In_ok-absorb) → IsAbsorbed c.in_ok-vertex.vertex c.choose.new.self.hood.near.items c.choose.new.self.hood.touched.items
    c.choose.new.self.links.items (with_items c.choose.new.self.links c.absorb.new.links).items
    (inner_at c.choose.new.self.rims.items) (inner_at (with_items c.choose.new.self.rims c.absorb.new.rims).items)
absorbed c =
    let s = c.choose.new.self in
    let v = c.in_ok-vertex.vertex in
    let near = s.hood.near.items in
    let touched = s.hood.touched.items in
    let links' = c.absorb.new.links in
    let rims' = c.absorb.new.rims in
    let e1 = c.deref_mut.ensures.value in
    let e2 = c.deref_mut-2.ensures.value in
    let w1 : (with_items s.links links').items ≡ links' = with_items_is s.links links' (omega (arith, s.links.ok.0)) in
    let w2 : (with_items s.rims rims').items ≡ rims' = with_items_is s.rims rims' (omega (arith, s.rims.ok.0)) in
    subst (λ z. IsAbsorbed v near touched s.links.items z (inner_at s.rims.items) (inner_at (with_items s.rims rims').items)) (sym w1)
    (subst (λ z. IsAbsorbed v near touched s.links.items links' (inner_at s.rims.items) (inner_at z)) (sym w2)
    (subst (λ z. IsAbsorbed v near touched z links' (inner_at s.rims.items) (inner_at rims')) e1
    (subst (λ z. IsAbsorbed v near touched c.deref_mut.result.now links' (inner_at z) (inner_at rims')) e2 c.in_ok-absorb.ensures)))

latest : (c : In_ok-absorb) (x : ℕ) → at c.choose.new.self.turns.items x < c.args.place
latest c x = subst (λ z. at z.items x < c.args.place) (sym c.in_ok-vertex.ensures.turns) (c.requires.latest x)

pub give_back-requires-clause-linked : goal.give_back-requires-clause-linked
give_back-requires-clause-linked c =
    let ch = chosen (goal.at.give_back-requires-clause-linked c).In_ok-vertex in
    let v = c.in_ok-vertex.vertex in
    let s = c.choose.new.self in
    let inside = vertex_in (goal.at.give_back-requires-clause-linked c).In_ok-vertex in
    let turns_len = c.in_ok-vertex.ensures.lengths.turns in
    let now = (goal.at.give_back-requires-clause-linked c).In_ok-absorb in
    merged_linked (quotient_of c.args.pattern.now c.requires.start.0 ch.part ch.rim ch.rep) (tables s) v ch.released
    (at (set s.turns.items v c.args.place)) c.args.place (latest now) (at_here s.turns.items v c.args.place (omega arith))
    (at_other s.turns.items v c.args.place)
    (with_items s.links c.absorb.new.links).items (inner_at (with_items s.rims c.absorb.new.rims).items) (merged_len now) (absorbed now)

pub returns-clause-eliminated : goal.returns-clause-eliminated
returns-clause-eliminated c = λ left init.
    let ch = c.in_ok-vertex.ensures.chosen left init in
    let v = c.in_ok-vertex.vertex in
    let place = c.args.place in
    let s = c.choose.new.self in
    let t = tables s in
    let t' = tables c.give_back.new.self in
    let turn' = at (set s.turns.items v place) in
    let inside = vertex_in (goal.at.returns-clause-eliminated c).In_ok-vertex in
    let len = c.in_ok-vertex.ensures.lengths in
    let turns_len = len.turns in
    let links_len = len.links in
    let end_len = c.in_ok-give_back.ensures.lengths.links in
    let now = (goal.at.returns-clause-eliminated c).In_ok-absorb in
    let links1 = (with_items s.links c.absorb.new.links).items in
    let lists1 = inner_at (with_items s.rims c.absorb.new.rims).items in
    let len1 = merged_len now in
    let e = c.deref.ensures.value in
    let low = c.saturating_sub-bound.ensures in
    let read = c.at.ensures in
    let stand = the_turn (quotient_of c.args.pattern.now left ch.part ch.rim ch.rep) t v ch.released turn' place (latest now)
    (at_here s.turns.items v place (omega arith)) (at_other s.turns.items v place) links1 lists1 len1 (absorbed now)
    c.saturating_sub-bound.result c.lower.new.bounds c.put.new.self t' (omega arith) c.in_ok-give_back.ensures.back
    c.lower.ensures.len (λ x h. c.lower.ensures.listed x (subst (λ z. IsTrue (has z x)) (sym e) h))
    (λ x h. c.lower.ensures.others x (subst (λ z. has z x ≡ false) (sym e) h)) c.put.ensures (omega arith) in
    subst (λ z. IsEliminated c.args.pattern.now left (at z.items) t' v) c.in_ok-vertex.ensures.turns
    (eliminated_so c.args.pattern.now left t v ch t' turn' (ap (λ z. at z.items) c.in_ok-give_back.ensures.turns) stand)
