use Rattle.std.proofs.Common.{◌≡◌, inl, inr, ℕ, List, get_or, arith, subst, sym, ap, ◌∙◌, IsTrue}
use Rattle.std.proofs.lemmas.Bool.{cases_eq, both_ways}
use Rattle.patterns.specs.Pattern.{has}
use Rattle.elimination.specs.Elimination.{IsVertex}
use Rattle.elimination.specs.Quotients.{Quotient, at, inner_at}
use Rattle.elimination.specs.Tables.{tables}
use Rattle.elimination.specs.Turns.{CanGather, IsReleased}
use Rattle.bit_rows.specs.Bits.{bit_in}
use Rattle.elimination.specs.Switch.{AreNumbers, CanFill}
use Rattle.elimination.proofs.search.Search.put_vertex.Goals as goal
use Rattle.elimination.proofs.search.Search.put_vertex.Goals.{After-neighbours, In_ok-gather, After-release, In_ok-row, In_ok-put_group}

stands : (c : After-neighbours) (q : Quotient) → CanFill c.args.pattern.now q (tables c.args.self.now)
    → q.rep c.args.v ≡ c.args.v
stands c q f = elim (cases_eq (q.rep c.args.v) c.args.v) [
  | inl e ↦ e
  | inr ne ↦ absurd (both_ways _ c.requires.v.2 (f.stand.hidden.marked c.args.v ne))
]

can_gather : (c : After-neighbours) (q : Quotient) → CanFill c.args.pattern.now q (tables c.args.self.now)
    → CanGather q (tables c.args.self.now) c.args.v c.neighbours.result.now
can_gather c q f = record {
  stand = f.stand;
  listed = record {
    here = c.requires.v.1;
    stands = stands c q f;
    vertex = subst (λ n. IsVertex n c.args.v) (sym f.order) c.requires.v.0;
    row = λ x. ap (λ z. has z x) c.neighbours.ensures ∙ f.joined c.args.v x;
  };
}

pub gather-requires-clause-start : goal.gather-requires-clause-start
gather-requires-clause-start c =
    let start = c.requires.start in
    (start.0, can_gather (goal.at.gather-requires-clause-start c).After-neighbours start.0 start.2)

pub release-requires-clause-start : goal.release-requires-clause-start
release-requires-clause-start c =
    let start = c.requires.start in
    let can = can_gather (goal.at.release-requires-clause-start c).After-neighbours start.0 start.2 in
    (start.0, c.in_ok-gather.ensures.marked start.0 can)

-- the neighbours are at hand
released : (c : After-release) (q : Quotient) → CanGather q (tables c.args.self.now) c.args.v c.neighbours.result.now
    → IsReleased q (tables c.release.new.self) c.args.v
released c q can = c.release.ensures.released q (c.in_ok-gather.ensures.marked q can)

-- no vertex had a turn
same_turns : (c : After-release) → c.release.new.self.turns ≡ c.args.self.now.turns
same_turns c = c.release.ensures.turns ∙ c.in_ok-gather.ensures.turns

-- the numbers are as they were
numbers_still : (c : After-release) (q : Quotient) (vertices : List ℕ)
    → AreNumbers (at c.args.self.now.turns.items) q.order vertices c.args.numbers.now
    → AreNumbers (at c.release.new.self.turns.items) q.order vertices c.args.numbers.now
numbers_still c q vertices a = subst (λ z. AreNumbers (at z.items) q.order vertices c.args.numbers.now) (sym (same_turns c)) a

pub full_row-requires-clause-start : goal.full_row-requires-clause-start
full_row-requires-clause-start c =
    let start = c.requires.start in
    let can = can_gather (goal.at.full_row-requires-clause-start c).After-neighbours start.0 start.2 in
    (start.0, released (goal.at.full_row-requires-clause-start c).After-release start.0 can)

pub full_row-requires-clause-most : goal.full_row-requires-clause-most
full_row-requires-clause-most c = λ x.
    let start = c.requires.start in
    let most = start.3.most x in
    let order = start.4.order_is in
    let is = c.order.ensures in
    omega arith

pub full_row-requires-clause-few : goal.full_row-requires-clause-few
full_row-requires-clause-few c =
    let start = c.requires.start in
    let few = start.4.few in
    let order = start.4.order_is in
    let is = c.order.ensures in
    omega arith

pub put_group-requires-clause-start : goal.put_group-requires-clause-start
put_group-requires-clause-start c =
    let start = c.requires.start in
    let can = can_gather (goal.at.put_group-requires-clause-start c).After-neighbours start.0 start.2 in
    let r = released (goal.at.put_group-requires-clause-start c).After-release start.0 can in
    let a = numbers_still (goal.at.put_group-requires-clause-start c).After-release start.0 start.1 start.3 in
    (start.0, start.1, r, a, start.4, c.in_ok-row.ensures start.0 start.1 r a (c.order.ensures ∙ start.4.order_is))

pub returns-clause-turns : goal.returns-clause-turns
returns-clause-turns c = same_turns (goal.at.returns-clause-turns c).After-release

pub returns-clause-stands : goal.returns-clause-stands
returns-clause-stands c = λ q f.
    let can = can_gather (goal.at.returns-clause-stands c).After-neighbours q f in
    record {
      stand = (released (goal.at.returns-clause-stands c).After-release q can).stand;
      joined = f.joined;
      order = f.order;
    }

pub returns-clause-filling : goal.returns-clause-filling
returns-clause-filling c = λ q vertices f n filling.
    let can = can_gather (goal.at.returns-clause-filling c).After-neighbours q f in
    let r = released (goal.at.returns-clause-filling c).After-release q can in
    let a = numbers_still (goal.at.returns-clause-filling c).After-release q vertices n in
    c.in_ok-put_group.ensures.filling q vertices r a filling (c.in_ok-row.ensures q vertices r a (c.order.ensures ∙ filling.order_is))

pub returns-clause-put : goal.returns-clause-put
returns-clause-put c = λ q f x e.
    let can = can_gather (goal.at.returns-clause-put c).After-neighbours q f in
    let r = released (goal.at.returns-clause-put c).After-release q can in
    let numbers = c.args.numbers.now in
    elim (cases_eq (q.rep x) x) [
      | inl same ↦ subst (λ z. IsTrue (bit_in c.put_group.new.dense.alive (get_or numbers z 0))) (sym e ∙ same)
          c.in_ok-put_group.ensures.own
      | inr ne ↦ c.in_ok-put_group.ensures.group x
          (subst (λ z. IsTrue (has (inner_at c.release.new.self.groups.items z) x)) e (r.stand.grouped.listed x ne))
    ]
