use Rattle.std.proofs.Common.{◌≡◌, ◌-◌, ◌<◌, length, arith, sym, ap, ◌∙◌, subst}
use Rattle.std.specs.List.{sum_by}
use Rattle.std.specs.Vec.{with_items}
use Rattle.min_tree.specs.Least.{greatest}
use Rattle.std.proofs.lemmas.List.{with_items_is}
use Rattle.elimination.specs.Dense.{row_of, Stage, IsStanding, AreBitRows, AreLowBounds, IsLookedAt, IsDense}
use Rattle.elimination.proofs.Degrees.{degree_le}
use Rattle.elimination.proofs.DenseSteps.{least_stands, first_of_all, raising_falls, counted_bound}
use Rattle.elimination.proofs.dense.choose.Goals as goal
use Rattle.elimination.proofs.dense.choose.Goals.{After-first_least-v, After-deref, After-look-degree}

-- the vertex is left
here : (c : After-first_least-v) (stage : Stage) → IsDense stage c.args.search.now → IsStanding stage c.first_least-v.result
here c stage init =
    let some = c.requires.2 in
    let d = c.search.invariant.stands stage init in
    least_stands stage c.search.search.bounds d.bounds d.few some.0
    (init.rows.alive_from some.0 (c.requires.1.rows.alive_to some.0 some.1)) c.first_least-v.result c.first_least-v.ensures

-- the rows that are looked at stand for what is left
rows_now : (c : After-deref) (stage : Stage) → IsDense stage c.args.search.now
    → AreBitRows stage (row_of c.deref_mut.result.now) c.deref.result.now c.search.search.alive
rows_now c stage init =
    let d = c.search.invariant.stands stage init in
    subst (λ z. AreBitRows stage (row_of z) c.deref.result.now c.search.search.alive) (sym c.deref_mut.ensures.value)
    (subst (λ z. AreBitRows stage (row_of c.search.search.rows.items) z c.search.search.alive) (sym c.deref.ensures.value) d.rows)

pub look-degree-requires-clause-few : goal.look-degree-requires-clause-few
look-degree-requires-clause-few c =
    let d = c.search.invariant.stands c.requires.0 c.requires.1 in
    let few = d.few in
    let len = d.rows_len in
    let e = ap length c.deref_mut.ensures.value in
    omega arith

pub look-degree-requires-clause-stand : goal.look-degree-requires-clause-stand
look-degree-requires-clause-stand c = (
  c.requires.0,
  rows_now (goal.at.look-degree-requires-clause-stand c).After-deref c.requires.0 c.requires.1,
  here (goal.at.look-degree-requires-clause-stand c).After-first_least-v c.requires.0 c.requires.1,
  ap length c.deref_mut.ensures.value ∙ (c.search.invariant.stands c.requires.0 c.requires.1).rows_len,
)

items_are : (c : After-look-degree) → (with_items c.search.search.rows c.look-degree.new.rows).items ≡ c.look-degree.new.rows
items_are c = let l = c.look-degree.ensures.len in let m = c.deref_mut.ensures.len in
    with_items_is c.search.search.rows c.look-degree.new.rows (l ∙ m)

looked : (c : After-look-degree) (stage : Stage) → AreBitRows stage (row_of c.deref_mut.result.now) c.deref.result.now c.search.search.alive
    → IsStanding stage c.first_least-v.result
    → IsLookedAt stage (row_of (with_items c.search.search.rows c.look-degree.new.rows).items) c.search.search.pivots.items
    c.search.search.alive c.first_least-v.result c.look-degree.result
looked c stage rows stands =
    let made = c.look-degree.ensures.looked stage rows stands in
    let v = c.first_least-v.result in
    let d = c.look-degree.result in
    let alive = c.search.search.alive in
    subst (λ z. IsLookedAt stage (row_of z) c.search.search.pivots.items alive v d) (sym (items_are c))
    (subst (λ z. IsLookedAt stage (row_of c.look-degree.new.rows) z alive v d) c.deref.ensures.value made)

pub returns-then-degree-at-clause-chosen : goal.returns-then-degree-at-clause-chosen
returns-then-degree-at-clause-chosen c = λ stage init.
    let c' = (goal.at.returns-then-degree-at-clause-chosen c).After-look-degree in
    let d = c.search.invariant.stands stage init in
    let s = here (goal.at.returns-then-degree-at-clause-chosen c).After-first_least-v stage init in
    let l = looked c' stage (rows_now (goal.at.returns-then-degree-at-clause-chosen c).After-deref stage init) s in
    record {
      dense = record {
        order_is = d.order_is;
        few = d.few;
        rows_len = ap length (items_are c') ∙ c.look-degree.ensures.len ∙ ap length c.deref_mut.ensures.value ∙ d.rows_len;
        rows = l.rows;
        bounds = d.bounds;
      };
      here = s;
      exact = l.exact;
      first = first_of_all stage c.search.search.bounds d.bounds c.first_least-v.result c.first_least-v.ensures
          (let e = l.degree_is in let a = c.at.ensures in omega arith);
    }

pub search-preserved : goal.search-preserved
search-preserved c = record {
  order = c.search.invariant.order;
  stands = λ stage init.
      let c' = (goal.at.search-preserved c).After-look-degree in
      let d = c.search.invariant.stands stage init in
      let s = here (goal.at.search-preserved c).After-first_least-v stage init in
      let l = looked c' stage (rows_now (goal.at.search-preserved c).After-deref stage init) s in
      record {
        order_is = d.order_is;
        few = d.few;
        rows_len = ap length (items_are c') ∙ c.look-degree.ensures.len ∙ ap length c.deref_mut.ensures.value ∙ d.rows_len;
        rows = l.rows;
        bounds = subst (AreLowBounds stage) (sym c.put.ensures)
            (counted_bound stage c.search.search.bounds d.bounds c.first_least-v.result s c.look-degree.result
            l.degree_is);
      };
}

pub search-smaller : goal.search-smaller
search-smaller c =
    let stage = c.requires.0 in
    let init = c.requires.1 in
    let s = here (goal.at.search-smaller c).After-first_least-v stage init in
    let l = looked (goal.at.search-smaller c).After-look-degree stage (rows_now (goal.at.search-smaller c).After-deref stage init) s in
    let few = (c.search.invariant.stands stage init).few in
    let most = degree_le stage.left stage.order c.first_least-v.result in
    let e = l.degree_is in
    let a = c.at.ensures in
    let less = raising_falls c.search.search.bounds c.first_least-v.result c.look-degree.result c.first_least-v.ensures.within
    (omega arith) (omega arith) in
    subst (λ z. sum_by (λ x. greatest - x) z < sum_by (λ x. greatest - x) c.search.search.bounds) (sym c.put.ensures) less
