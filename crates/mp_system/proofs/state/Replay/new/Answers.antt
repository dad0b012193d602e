use Rattle.std.proofs.Common.{◌≡◌, rules, length, replicate, false, ◌∙◌, sym, ap, subst}
use Rattle.mp_system.specs.System.{TaskSystem, size_where}
use Rattle.mp_system.specs.Memory.{is_present}
use Rattle.mp_system.specs.ReplayTables.{IsReplay}
use Rattle.mp_system.proofs.Running.{is_marked-none, begins}
use Rattle.mp_system.proofs.state.Replay.new.Goals as goal

pub invariant_of-result : goal.invariant_of-result
invariant_of-result c =
    let n = length c.tasks.result.now in
    let ran_are : c.in_ok-ran.ran.items ≡ replicate n false = search (rules, c.in_ok-ran.ensures) in
    let memory_is = c.start_memory-memory.ensures ∙ ap (size_where (is_present (λ _. false))) c.items.ensures.value in
    subst (λ (system : TaskSystem). IsReplay system c.in_ok-ran.ran.items c.in_ok-outputs.outputs.items
    c.in_ok-inputs.inputs c.start_memory-memory.result) (sym c.of.ensures)
    (begins _ n ran_are c.args.system.now _ _ _ (ap length c.tasks.ensures.value) c.in_ok-outputs.ensures c.in_ok-inputs.ensures memory_is)

pub returns-clause-none : goal.returns-clause-none
returns-clause-none c =
    let n = length c.tasks.result.now in
    let ran_are : c.in_ok-ran.ran.items ≡ replicate n false = search (rules, c.in_ok-ran.ensures) in
    is_marked-none _ n ran_are
