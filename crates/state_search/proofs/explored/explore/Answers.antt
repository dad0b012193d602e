use Rattle.std.proofs.Common.{ℕ, ◌≤◌, List, Bool, length, vec_len, sym, subst, ◌∙◌, arith}
use Rattle.state_search.specs.Shown.{AreNoStart}
use Rattle.state_search.specs.Runs.{Runs}
use Rattle.state_search.proofs.Reaches.{none_below}
use Rattle.state_search.proofs.Runs.{order_of_runs}
use Rattle.state_search.proofs.Keeping.{many_states}
use Rattle.state_search.proofs.Exploring.{exploring_closes, exploring_on, place_inside, nothing_waits}
use Rattle.state_search.proofs.explored.explore.Goals as goal

pub returns-then-seen-most-clause-many : goal.returns-then-seen-most-clause-many
returns-then-seen-most-clause-many c =
    many_states c.args.system.now c.args.bound c.loop-round.search.states c.loop-round.invariant.looked c.args.most
    (omega (arith, c.if-seen-most.true, c.len-seen.ensures))

pub returns-in_default-clause-closed : goal.returns-in_default-clause-closed
returns-in_default-clause-closed c =
    let system = c.args.system.now in
    let search = c.loop-round.search in
    let few : length search.states.rows ≤ c.args.most = omega (arith, c.if-seen-most.false, c.len-seen.ensures) in
    let closed = exploring_closes system c.args.bound c.args.most search.states search.waiting.items c.loop-round.round c.loop-round.invariant few
    (nothing_waits c.pop.result search.waiting.items (vec_len search.waiting) (vec_len c.pop.new.self) _
    (omega (arith, search.waiting.ok)) c.pop.ensures.cases c.in_default.not-Some) in
    (subst (λ (n : ℕ). AreNoStart system c.args.bound n) (sym c.len-seen.ensures) closed, omega (arith, c.if-seen-most.false))

pub returns-in_default-clause-as_many : goal.returns-in_default-clause-as_many
returns-in_default-clause-as_many c = λ n below.
    many_states c.args.system.now c.args.bound c.loop-round.search.states c.loop-round.invariant.looked n
    (omega (arith, below, c.len-seen.ensures))

pub returns-in_default-clause-none : goal.returns-in_default-clause-none
returns-in_default-clause-none c =
    let search = c.loop-round.search in
    let few : length search.states.rows ≤ c.args.most = omega (arith, c.if-seen-most.false, c.len-seen.ensures) in
    let closed = exploring_closes c.args.system.now c.args.bound c.args.most search.states search.waiting.items c.loop-round.round
    c.loop-round.invariant few
    (nothing_waits c.pop.result search.waiting.items (vec_len search.waiting) (vec_len c.pop.new.self) _
    (omega (arith, search.waiting.ok)) c.pop.ensures.cases c.in_default.not-Some) in
    none_below c.args.system.now c.args.bound c.keeps.ensures closed.start

pub expand-requires-clause-inside : goal.expand-requires-clause-inside
expand-requires-clause-inside c =
    place_inside c.args.system.now c.args.bound c.args.most c.loop-round.search.states c.loop-round.search.waiting.items c.loop-round.round
    c.loop-round.invariant c.pop.new.self.items c.in-Some.place c.in-Some.ensures.items

pub expand-requires-clause-looked : goal.expand-requires-clause-looked
expand-requires-clause-looked c = c.loop-round.invariant.looked

pub order_from-requires-clause-inside : goal.order_from-requires-clause-inside
order_from-requires-clause-inside c =
    omega (
      arith,
      c.in_ok-is_start.ensures.extends.longer,
      place_inside c.args.system.now c.args.bound c.args.most c.loop-round.search.states c.loop-round.search.waiting.items c.loop-round.round
          c.loop-round.invariant c.pop.new.self.items c.in-Some.place c.in-Some.ensures.items,
    )

pub returns-then-is_start-clause-order : goal.returns-then-is_start-clause-order
returns-then-is_start-clause-order c =
    let system = c.args.system.now in
    let place = c.in-Some.place in
    let inside = place_inside system c.args.bound c.args.most c.loop-round.search.states c.loop-round.search.waiting.items c.loop-round.round
    c.loop-round.invariant c.pop.new.self.items place c.in-Some.ensures.items in
    let start = c.in_ok-is_start.ensures.extends.same place inside ∙ c.in_ok-is_start.ensures.start c.if-is_start.true in
    let order = c.in_ok-order.order.items in
    order_of_runs system c.args.bound order
    (subst (λ (m : List Bool). Runs system c.args.bound m order) start
    (c.in_ok-order.ensures system c.args.bound c.keeps.ensures c.in_ok-is_start.ensures.looked))

pub loop-round-preserved : goal.loop-round-preserved
loop-round-preserved c =
    exploring_on c.args.system.now c.args.bound c.args.most c.loop-round.search.states c.loop-round.search.waiting.items c.loop-round.round
    c.loop-round.invariant c.pop.new.self.items c.in-Some.place c.in-Some.ensures.items c.expand.new.search.states c.expand.new.search.waiting.items
    c.in_ok-is_start.ensures.looked c.in_ok-is_start.ensures.extends (c.in_ok-is_start.ensures.followed c.if-is_start.false)

pub returns-clause-many : goal.returns-clause-many
returns-clause-many c =
    many_states c.args.system.now c.args.bound c.loop-round.search.states c.loop-round.invariant.looked c.args.most
    (omega (arith, c.loop-round.invariant.count, c.loop-round-test.false))
