use Rattle.std.proofs.Common.{◌+◌, ◌∷◌, [], length, arith, subst, sym, ap, ◌∙◌, length-append}
use Rattle.elimination.specs.Dense.{IsDenseUnderWay, IsLeastDegreeOrder, stage_of}
use Rattle.elimination.proofs.DenseOrders.{some_left, under_way_next, under_way_last, rest_first}
use Rattle.elimination.proofs.dense.eliminate_dense.Goals as goal
use Rattle.elimination.proofs.dense.eliminate_dense.Goals.{In_ok-push}

pub choose-v-requires : goal.choose-v-requires
choose-v-requires c =
    let s = c.loop-gone.invariant.under_way c.requires.0 c.requires.1 in
    let here = c.loop-gone.invariant.here in
    let order = c.loop-gone.invariant.order in
    let stage = stage_of c.requires.0 c.loop-gone.search.order c.loop-gone.vertices.items in
    (stage, s.dense, some_left c.requires.0 c.loop-gone.vertices.items c.loop-gone.search s (omega arith))

pub eliminate-requires : goal.eliminate-requires
eliminate-requires c =
    let s = c.loop-gone.invariant.under_way c.requires.0 c.requires.1 in
    let stage = stage_of c.requires.0 c.loop-gone.search.order c.loop-gone.vertices.items in
    (stage, c.choose-v.ensures.chosen stage s.dense)

pub loop-gone-preserved : goal.loop-gone-preserved
loop-gone-preserved c = record {
  here = ap length c.in_ok-push.ensures.items ∙ length-append c.loop-gone.vertices.items (c.choose-v.result ∷ [])
      ∙ ap (λ n. n + 1) c.loop-gone.invariant.here;
  order = c.eliminate.ensures.order ∙ c.choose-v.ensures.order ∙ c.loop-gone.invariant.order;
  under_way = λ joined start.
      let s = c.loop-gone.invariant.under_way joined start in
      let stage = stage_of joined c.loop-gone.search.order c.loop-gone.vertices.items in
      let choice = c.choose-v.ensures.chosen stage s.dense in
      subst (λ z. IsDenseUnderWay joined z c.eliminate.new.search) (sym c.in_ok-push.ensures.items)
      (under_way_next joined c.loop-gone.vertices.items c.loop-gone.search s c.choose-v.result c.choose-v.new.search c.eliminate.new.search
      (c.eliminate.ensures.order ∙ c.choose-v.ensures.order) choice (c.in_ok-eliminate.ensures.eliminated stage choice));
}

pub returns-then-bound-order : goal.returns-then-bound-order
returns-then-bound-order c = λ joined start.
    let s = c.loop-gone.invariant.under_way joined start in
    let least = c.least-bound.ensures in
    let here = c.loop-gone.invariant.here in
    let order = c.loop-gone.invariant.order in
    let rest = rest_first joined c.loop-gone.vertices.items c.loop-gone.search s least.0 least.1
    (omega (arith, least.2)) in
    subst (λ n. IsLeastDegreeOrder joined n c.finish.new.vertices.items) order
    (c.in_ok-finish.ensures joined rest)

pub returns : goal.returns
returns c = λ joined start.
    let s = c.loop-gone.invariant.under_way joined start in
    let here = c.loop-gone.invariant.here in
    let order = c.loop-gone.invariant.order in
    subst (λ n. IsLeastDegreeOrder joined n c.loop-gone.vertices.items) order
    (under_way_last joined c.loop-gone.vertices.items c.loop-gone.search s (omega arith))
