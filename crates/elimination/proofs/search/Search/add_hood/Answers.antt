use Rattle.std.proofs.Common.{◌≡◌, inl, inr, ℕ, ◌≤◌, ◌<◌, get_or, length, arith, refl, subst, sym, ap, ◌∙◌, IsTrue}
use Rattle.std.proofs.lemmas.Bool.{eq-eqb, eqb-true}
use Rattle.patterns.specs.Pattern.{has}
use Rattle.elimination.specs.Quotients.{at, inner_at}
use Rattle.elimination.specs.Tables.{tables}
use Rattle.bit_rows.specs.Bits.{bit_in}
use Rattle.patterns.proofs.NumberLists.{place_of}
use Rattle.patterns.proofs.NumberLists.{has_at}
use Rattle.elimination.proofs.ListWrites.{list_get}
use Rattle.elimination.proofs.Switches.{group_vertex, full_exact}
use Rattle.elimination.proofs.search.Search.add_hood.Goals as goal
use Rattle.elimination.proofs.search.Search.add_hood.Goals.{After-deref}

-- the group of v
group_is : (c : After-deref) → c.deref.result.now ≡ inner_at c.args.self.now.groups.items c.args.v
group_is c =
    let s = c.requires.start.1 in
    let n = s.vertex.1 in
    let size = s.stand.quotient.size in
    let links = c.requires.lengths.links in
    let groups = c.requires.lengths.groups in
    c.deref.ensures.value ∙ ap (λ v. v.items) c.index.ensures
    ∙ list_get c.args.self.now.groups.items c.args.v c.index.result.now (omega arith)

-- a vertex has a place in the table
has_place : (c : After-deref) (x : ℕ) → x ≤ c.requires.start.0.order → x < length c.args.numbers.now
has_place c x le =
    let size = c.requires.start.1.stand.quotient.size in
    let links = c.requires.lengths.links in
    let len = c.requires.len in
    omega arith

pub set_numbers-requires-clause-within : goal.set_numbers-requires-clause-within
set_numbers-requires-clause-within c = λ j lt.
    let s = c.requires.start.1 in
    let x = get_or c.deref.result.now j 0 in
    let first = (goal.at.set_numbers-requires-clause-within c).After-deref in
    let h = subst (λ z. IsTrue (has z x)) (group_is first) (has_at c.deref.result.now j lt) in
    has_place first x (group_vertex c.requires.start.0 (tables c.args.self.now) c.args.v s c.args.v x h).1

near_vertex : (c : After-deref) (x : ℕ) → IsTrue (has c.args.self.now.hood.near.items x) → x ≤ c.requires.start.0.order
near_vertex c x h =
    let at = place_of c.args.self.now.hood.near.items x h in
    subst (λ z. z ≤ c.requires.start.0.order) at.2 (c.requires.start.1.hood.vertices at.0 0 at.1).1

pub set_numbers-requires-2-clause-within : goal.set_numbers-requires-2-clause-within
set_numbers-requires-2-clause-within c = λ j lt.
    let x = get_or c.deref-2.result.now j 0 in
    let first = (goal.at.set_numbers-requires-2-clause-within c).After-deref in
    let h = subst (λ z. IsTrue (has z x)) c.deref-2.ensures.value (has_at c.deref-2.result.now j lt) in
    has_place first x (near_vertex first x h)

pub set_numbers-requires-2-clause-fit : goal.set_numbers-requires-2-clause-fit
set_numbers-requires-2-clause-fit c = λ x.
    let fit = c.requires.fit x in
    let len = c.set_numbers.ensures.len in
    omega arith

pub set_groups-requires-clause-within : goal.set_groups-requires-clause-within
set_groups-requires-clause-within c = λ j lt.
    let x = get_or c.deref-3.result.now j 0 in
    let h = subst (λ z. IsTrue (has z x)) c.deref-3.ensures.value (has_at c.deref-3.result.now j lt) in
    let le = near_vertex (goal.at.set_groups-requires-clause-within c).After-deref x h in
    let size = c.requires.start.1.stand.quotient.size in
    let links = c.requires.lengths.links in
    let groups = c.requires.lengths.groups in
    let e = ap length c.deref-4.ensures.value in
    omega arith

pub set_groups-requires-clause-inner : goal.set_groups-requires-clause-inner
set_groups-requires-clause-inner c = λ r x near h.
    let group = subst (λ z. IsTrue (has (inner_at z r) x)) c.deref-4.ensures.value h in
    has_place (goal.at.set_groups-requires-clause-inner c).After-deref x
    (group_vertex c.requires.start.0 (tables c.args.self.now) c.args.v c.requires.start.1 r x group).1

pub set_groups-requires-clause-fit : goal.set_groups-requires-clause-fit
set_groups-requires-clause-fit c = λ x.
    let fit = c.requires.fit x in
    let one = c.set_numbers.ensures.len in
    let two = c.set_numbers-2.ensures.len in
    omega arith

pub returns-clause-len : goal.returns-clause-len
returns-clause-len c = c.set_groups.ensures.len ∙ c.set_numbers-2.ensures.len ∙ c.set_numbers.ensures.len

pub returns-clause-exact : goal.returns-clause-exact
returns-clause-exact c = λ q vertices s a.
    let v = c.args.v in
    let numbers = c.args.numbers.now in
    let groups = inner_at c.args.self.now.groups.items in
    let list = c.args.self.now.hood.near.items in
    let is = group_is (goal.at.returns-clause-exact c).After-deref in
    let kept : (y : ℕ) → IsTrue (bit_in c.set_numbers.new.row y) → IsTrue (bit_in c.set_groups.new.row y) = λ y t.
    c.set_groups.ensures.kept y (c.set_numbers-2.ensures.kept y t) in
    full_exact q (tables c.args.self.now) v s vertices numbers a c.set_groups.new.row
    (kept (at numbers v) (c.set_numbers.ensures.kept (at numbers v)
    (c.requires.own (at numbers v) ∙ eq-eqb (at numbers v) (at numbers v) refl)))
    (λ x h. kept (at numbers x) (c.set_numbers.ensures.to x (subst (λ z. IsTrue (has z x)) (sym is) h)))
    (λ x h. c.set_groups.ensures.kept (at numbers x)
    (c.set_numbers-2.ensures.to x (subst (λ z. IsTrue (has z x)) (sym c.deref-2.ensures.value) h)))
    (λ r x h g. c.set_groups.ensures.to r x
    (subst (λ z. IsTrue (has z r)) (sym c.deref-3.ensures.value) h)
    (subst (λ z. IsTrue (has (inner_at z r) x)) (sym c.deref-4.ensures.value) g))
    (λ y h. elim (c.set_groups.ensures.from y h) [
      | inl old ↦ elim (c.set_numbers-2.ensures.from y old) [
        | inl first ↦ elim (c.set_numbers.ensures.from y first) [
          | inl e ↦ inl (eqb-true (at numbers v) y (sym (c.requires.own y) ∙ e))
          | inr g ↦ inr (inl (g.0, subst (λ z. IsTrue (has z g.0)) is g.1, g.2))
        ]
        | inr n ↦ inr (inr (inl (n.0, subst (λ z. IsTrue (has z n.0)) c.deref-2.ensures.value n.1, n.2)))
      ]
      | inr i ↦ inr (inr (inr (
        i.0,
        subst (λ z. IsTrue (has z i.0)) c.deref-3.ensures.value i.1,
        (i.2.0, subst (λ z. IsTrue (has (inner_at z i.0) i.2.0)) c.deref-4.ensures.value i.2.1, i.2.2),
      )))
    ])
