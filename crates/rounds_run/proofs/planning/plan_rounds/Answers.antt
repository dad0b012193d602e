use Rattle.std.proofs.Common.{◌≤◌, ◌*◌, [], length, ap, sym, subst, ◌∙◌, arith}
use Rattle.std.proofs.lemmas.List.{get_or_default}
use Rattle.limits.specs.Limits.{most_order}
use Rattle.mp_system.specs.Traversal.{IsTraversal}
use Rattle.shared_systems.proofs.SameSystems.{peak_same}
use Rattle.activation.specs.Machine.{IsSetting, start_state}
use Rattle.rounds_run.specs.RowSystem.{row_system, row_order, row_setting}
use Rattle.rounds_run.specs.Rounds.{AreRounds}
use Rattle.rounds_run.proofs.MostUsed.{most_within}
use Rattle.rounds_run.proofs.OrderlyRounds.{rounds_orderly, rounds_few}
use Rattle.rounds_run.proofs.PlanLemmas.{holds_each, trace_rounds}
use Rattle.rounds_run.proofs.RowTrees.{row_traversal, supers_few, tasks_long}
use Rattle.rounds_run.proofs.Starts.{started_few}
use Rattle.rounds_run.proofs.planning.plan_rounds.Goals as goal
use Rattle.rounds_run.proofs.planning.plan_rounds.Goals.{After-drop-order-2}

pub row_order-requires : goal.row_order-requires
row_order-requires c =
    let few = supers_few c.args.assembly.now c.supers.ensures.assembly in
    omega (arith, few, ap length c.supers.ensures.value)

pub row_core-requires-clause-traversal : goal.row_core-requires-clause-traversal
row_core-requires-clause-traversal c =
    subst (IsTraversal (row_system c.args.assembly.now.supers))
    (sym (c.deref.ensures.value ∙ c.in_ok-order.ensures ∙ ap row_order c.supers.ensures.value))
    (row_traversal c.args.assembly.now c.supers.ensures.assembly)

pub run-trace-requires-clause-priority : goal.run-trace-requires-clause-priority
run-trace-requires-clause-priority c =
    holds_each c.in_ok-new.field-0.setting.system (row_system c.args.assembly.now.supers) c.deref-2.result.now
    (row_order c.args.assembly.now.supers)
    (ap (λ z. z.setting.system) c.in_ok-new.ensures ∙ ap (λ z. z.system) c.in_ok-core.ensures.setting)
    (c.deref-2.ensures.value ∙ c.in_ok-order.ensures ∙ ap row_order c.supers.ensures.value)
    (row_traversal c.args.assembly.now c.supers.ensures.assembly)

rounds_are : (c : After-drop-order-2)
    → AreRounds (row_setting c.args.assembly.now.supers c.args.bound c.args.workers) c.in_ok-rounds.rounds.items c.run-trace.result.used
rounds_are c =
    trace_rounds c.in_ok-new.field-0.setting (row_setting c.args.assembly.now.supers c.args.bound c.args.workers)
    c.deref-2.result.now c.run-trace.result.events.items c.deref-3.result.now c.in_ok-rounds.rounds.items c.run-trace.result.used
    (ap (λ z. z.setting) c.in_ok-new.ensures ∙ c.in_ok-core.ensures.setting)
    (c.deref-2.ensures.value ∙ c.in_ok-order.ensures ∙ ap row_order c.supers.ensures.value)
    c.deref-3.ensures.value c.run-trace.ensures.schedule c.run-trace.ensures.used c.run-trace.ensures.legal
    c.run-trace.ensures.stays_within c.in_ok-rounds.ensures

events_few : (c : After-drop-order-2) → length (rounds_are c).events ≤ 3 * most_order
events_few c =
    let setting = row_setting c.args.assembly.now.supers c.args.bound c.args.workers in
    let is : IsSetting setting = subst IsSetting c.in_ok-core.ensures.setting c.in_ok-core.ensures.within in
    let few = c.once_law.ensures.few setting is (rounds_are c).events (rounds_are c).legal in
    omega (arith, few, tasks_long c.args.assembly.now c.supers.ensures.assembly, supers_few c.args.assembly.now c.supers.ensures.assembly)

pub returns-clause-rounds : goal.returns-clause-rounds
returns-clause-rounds c = rounds_are (goal.at.returns-clause-rounds c).After-drop-order-2

pub returns-clause-orderly : goal.returns-clause-orderly
returns-clause-orderly c =
    let are = rounds_are (goal.at.returns-clause-orderly c).After-drop-order-2 in
    rounds_orderly c.args.assembly.now c.supers.ensures.assembly c.args.bound c.args.workers are.events c.in_ok-rounds.rounds.items
    are.schedule are.starts

pub returns-clause-few : goal.returns-clause-few
returns-clause-few c =
    let are = rounds_are (goal.at.returns-clause-few c).After-drop-order-2 in
    rounds_few c.args.assembly.now c.supers.ensures.assembly c.args.bound c.args.workers are.events c.in_ok-rounds.rounds.items
    are.schedule are.starts (events_few (goal.at.returns-clause-few c).After-drop-order-2)

pub returns-clause-short : goal.returns-clause-short
returns-clause-short c = λ k d lt.
    let here = (goal.at.returns-clause-short c).After-drop-order-2 in
    let are = rounds_are here in
    let at = get_or_default c.in_ok-rounds.rounds.items k d [] lt ∙ are.starts.each k in
    let same = ap length at in
    let few = started_few k are.events in
    let all = events_few here in
    omega (arith, same, few, all)

pub returns-clause-within : goal.returns-clause-within
returns-clause-within c =
    let are = rounds_are (goal.at.returns-clause-within c).After-drop-order-2 in
    let setting = row_setting c.args.assembly.now.supers c.args.bound c.args.workers in
    let most = most_within setting are.events (start_state setting) are.stays_within in
    omega (arith, most, are.used_is)

pub returns-clause-fits : goal.returns-clause-fits
returns-clause-fits c =
    let setting = row_setting c.args.assembly.now.supers c.args.bound c.args.workers in
    let is : IsSetting setting = subst IsSetting c.in_ok-core.ensures.setting c.in_ok-core.ensures.within in
    omega (arith, is.bound, peak_same (row_system c.args.assembly.now.supers) (row_order c.args.assembly.now.supers))
