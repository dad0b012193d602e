use Rattle.std.proofs.Common.{below_more, ◌≢◌, ◌-◌, get_or, refl, ◌∙◌, arith}
use Rattle.std.proofs.lemmas.List.{length-set}
use Rattle.std.proofs.lemmas.List.Elements.{All-get_or}
use Rattle.shared_systems.specs.Shared.{HasTask}
use Rattle.activation.proofs.Numbers.{number_set_same, number_set_other}
use Rattle.activation.proofs.Lengths.{each_long}
use Rattle.activation.proofs.Orders.{stands_once}
use Rattle.activation.proofs.Consuming.{places_number}
use Rattle.activation.proofs.places.places_of.Goals as goal

pub loop-i-preserved : goal.loop-i-preserved
loop-i-preserved c =
    let i = c.loop-i.i in
    let order = c.args.order.now in
    let places = c.loop-i.places.items in
    let is : HasTask c.args.system.now (get_or order i 0) =
    All-get_or (HasTask c.args.system.now) order i 0 c.loop-i-test.true c.requires.within in
    record {
      long = length-set places (get_or order i 0 - 1) i ∙ c.loop-i.invariant.long;
      there = below_more _ i
          (λ k w.
          let other : get_or order k 0 ≢ get_or order i 0 = λ e. let same =
          stands_once c.args.system.now order c.requires (get_or order i 0) k i (omega arith) c.loop-i-test.true e refl in
          omega (arith, same) in
          number_set_other places (get_or order i 0) (get_or order k 0) i is.0 other ∙ c.loop-i.invariant.there k w)
          (number_set_same places (get_or order i 0) i is.0 (omega (arith, is.1, c.loop-i.invariant.long)));
    }

pub returns-clause-numbers : goal.returns-clause-numbers
returns-clause-numbers c = places_number c.requires (each_long c.args.system.now c.args.order.now c.requires) c.loop-i.invariant.long
    (λ k w. c.loop-i.invariant.there k (omega (arith, w, c.loop-i-test.false)))

pub overflow_cast-i : goal.overflow_cast-i
overflow_cast-i c =
    omega (arith, c.loop-i-test.true, each_long c.args.system.now c.args.order.now c.requires, c.tasks.ensures.system.few_tasks)
