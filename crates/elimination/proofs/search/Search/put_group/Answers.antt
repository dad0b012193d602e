use Rattle.std.proofs.Common.{◌≡◌, inl, inr, ℕ, ◌<◌, get_or, length, arith, refl, subst, sym, ap, ◌∙◌, IsTrue}
use Rattle.std.proofs.lemmas.Bool.{cases_eq}
use Rattle.patterns.specs.Pattern.{has}
use Rattle.elimination.specs.Quotients.{inner_at}
use Rattle.elimination.specs.Tables.{tables}
use Rattle.bit_rows.specs.Bits.{bit_in}
use Rattle.elimination.specs.Dense.{IsFullRow}
use Rattle.elimination.specs.Switch.{stage_at}
use Rattle.patterns.proofs.NumberLists.{place_of}
use Rattle.patterns.proofs.NumberLists.{has_at}
use Rattle.elimination.proofs.ListWrites.{list_get}
use Rattle.elimination.proofs.Switches.{group_vertex, own_stands, own_bound, twin_stands, twin_bound, twin_full}
use Rattle.elimination.proofs.search.Search.put_group.Goals as goal
use Rattle.elimination.proofs.search.Search.put_group.Goals.{After-deref-x-items}

pub loop-x-init : goal.loop-x-init
loop-x-init c = record { order = refl; filling = λ q vertices s a f r. f; kept = λ x t. t; group = λ j lt. absurd (omega arith) }

-- the group of v
group_is : (c : After-deref-x-items) → c.deref-x-items.result.now ≡ inner_at c.args.self.now.groups.items c.args.v
group_is c =
    let s = c.requires.start.2 in
    let n = s.vertex.1 in
    let size = s.stand.quotient.size in
    let links = c.requires.lengths.links in
    let groups = c.requires.lengths.groups in
    c.deref-x-items.ensures.value ∙ ap (λ v. v.items) c.index.ensures
    ∙ list_get c.args.self.now.groups.items c.args.v c.index.result.now (omega arith)

in_group : (c : After-deref-x-items) (j : ℕ) → j < length c.deref-x-items.result.now
    → IsTrue (has (inner_at c.args.self.now.groups.items c.args.v) (get_or c.deref-x-items.result.now j 0))
in_group c j lt = subst (λ z. IsTrue (has z (get_or c.deref-x-items.result.now j 0))) (group_is c) (has_at c.deref-x-items.result.now j lt)

-- a vertex of the group has a place in the table
pub bounds-numbers-x : goal.bounds-numbers-x
bounds-numbers-x c =
    let s = c.requires.start.2 in
    let x = get_or c.deref-x-items.result.now c.loop-x.x-index 0 in
    let h = in_group (goal.at.bounds-numbers-x c).After-deref-x-items c.loop-x.x-index (omega arith) in
    let most = (group_vertex c.requires.start.0 (tables c.args.self.now) c.args.v s c.args.v x h).1 in
    let size = s.stand.quotient.size in
    let links = c.requires.lengths.links in
    let len = c.requires.len in
    omega arith

pub put-requires : goal.put-requires
put-requires c =
    let start = c.requires.start in
    let h = in_group (goal.at.put-requires c).After-deref-x-items c.loop-x.x-index (omega arith) in (
      stage_at start.0.left start.1,
      c.loop-x.invariant.filling start.0 start.1 start.2 start.3 start.4 start.5,
      twin_stands start.0 (tables c.args.self.now) c.args.v start.2 start.1 c.args.numbers.now start.3
          (get_or c.deref-x-items.result.now c.loop-x.x-index 0) h,
    )

pub loop-x-preserved : goal.loop-x-preserved
loop-x-preserved c =
    let x = get_or c.deref-x-items.result.now c.loop-x.x-index 0 in
    let numbers = c.args.numbers.now in
    let k = get_or numbers x 0 in
    let h = in_group (goal.at.loop-x-preserved c).After-deref-x-items c.loop-x.x-index (omega arith) in
    let inv = c.loop-x.invariant in
    let kept : (y : ℕ) → IsTrue (bit_in c.loop-x.dense.alive y)
    → IsTrue (bit_in c.put.new.self.alive y) = λ y t. elim (cases_eq y k) [
      | inl e ↦ subst (λ z. IsTrue (bit_in c.put.new.self.alive z)) (sym e) c.put.ensures.put
      | inr ne ↦ c.put.ensures.others y ne ∙ t
    ] in
    let copy : c.in_ok-copy.field-0 ≡ c.args.row = (let made = c.in_ok-copy.ensures in let was = c.row.view_is in cc) in
    record {
      order = c.put.ensures.order ∙ inv.order;
      filling = λ q vertices s a f r.
          let t = tables c.args.self.now in
          let filling = inv.filling q vertices s a f r in
          c.put.ensures.filled (stage_at q.left vertices) filling (twin_stands q t c.args.v s vertices numbers a x h)
          (subst (IsFullRow (stage_at q.left vertices) k) (sym copy) (twin_full q t c.args.v s vertices numbers a x h c.args.row r))
          (let b = twin_bound q t c.args.v s vertices numbers a x h in let e = c.at-bound.ensures in omega arith);
      kept = λ y t. kept y (inv.kept y t);
      group = λ j lt. elim (cases_eq j c.loop-x.x-index) [
        | inl e ↦ subst (λ z. IsTrue (bit_in c.put.new.self.alive (get_or numbers (get_or c.deref-x-items.result.now z 0) 0)))
            (sym e) c.put.ensures.put
        | inr ne ↦ kept (get_or numbers (get_or c.deref-x-items.result.now j 0) 0) (inv.group j (omega arith))
      ];
    }

pub put-requires-2 : goal.put-requires-2
put-requires-2 c =
    let start = c.requires.start in (
      stage_at start.0.left start.1,
      c.loop-x.invariant.filling start.0 start.1 start.2 start.3 start.4 start.5,
      own_stands start.0 (tables c.args.self.now) c.args.v start.2 start.1 c.args.numbers.now start.3,
    )

pub returns-clause-filling : goal.returns-clause-filling
returns-clause-filling c = λ q vertices s a f r.
    let t = tables c.args.self.now in
    let numbers = c.args.numbers.now in
    let filling = c.loop-x.invariant.filling q vertices s a f r in
    c.put-2.ensures.filled (stage_at q.left vertices) filling (own_stands q t c.args.v s vertices numbers a) r
    (let b = own_bound q t c.args.v s vertices numbers a in let e = c.at-bound.ensures in omega arith)

pub returns-clause-order : goal.returns-clause-order
returns-clause-order c = c.put-2.ensures.order ∙ c.loop-x.invariant.order

pub returns-clause-kept : goal.returns-clause-kept
returns-clause-kept c = λ y t. elim (cases_eq y (get_or c.args.numbers.now c.args.v 0)) [
  | inl e ↦ subst (λ z. IsTrue (bit_in c.put-2.new.self.alive z)) (sym e) c.put-2.ensures.put
  | inr ne ↦ c.put-2.ensures.others y ne ∙ c.loop-x.invariant.kept y t
]

pub returns-clause-group : goal.returns-clause-group
returns-clause-group c = λ x h.
    let at = place_of c.deref-x-items.result.now x
    (subst (λ z. IsTrue (has z x)) (sym (group_is (goal.at.returns-clause-group c).After-deref-x-items)) h) in
    let lt = at.1 in
    let numbers = c.args.numbers.now in
    elim (cases_eq (get_or numbers x 0) (get_or numbers c.args.v 0)) [
      | inl e ↦ subst (λ z. IsTrue (bit_in c.put-2.new.self.alive z)) (sym e) c.put-2.ensures.put
      | inr ne ↦ c.put-2.ensures.others (get_or numbers x 0) ne
          ∙ subst (λ z. IsTrue (bit_in c.loop-x.dense.alive (get_or numbers z 0))) at.2 (c.loop-x.invariant.group at.0 (omega arith))
    ]
