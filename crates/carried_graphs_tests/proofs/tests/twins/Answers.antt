use Rattle.std.proofs.Common.{◌≡◌, [], ◌∷◌, refl, subst}
use Rattle.std.specs.Prelude.{IfOk}
use Rattle.shared_systems.specs.Shared.{SharedTaskSystem}
use Rattle.shared_systems.specs.Given.{shared_system_given}
use Rattle.carried_graphs_tests.specs.Twins.{twins}
use Rattle.carried_graphs_tests.proofs.tests.twins.Goals as goal

pub returns : goal.returns
returns c =
    let given =
    shared_system_given (c.task.result ∷ c.task-2.result ∷ c.task-3.result ∷ []) (c.item.result ∷ c.item-2.result ∷ []) (2 ∷ 2 ∷ 3 ∷ []) in
    let same : given ≡ twins = rw (c.task.ensures, c.task-2.ensures, c.task-3.ensures, c.item.ensures, c.item-2.ensures) refl in
    subst (λ (s : SharedTaskSystem). IfOk c.shared_system_of_arrays.result (λ system. system ≡ s)) same
    c.shared_system_of_arrays.ensures.system
