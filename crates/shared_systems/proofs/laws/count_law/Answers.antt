use Rattle.std.proofs.Common.{◌+◌, ℕ, length, length-append, ap, ◌∙◌}
use Rattle.std.specs.Prelude.{count_by, replicate}
use Rattle.std.proofs.lemmas.List.{length-replicate}
use Rattle.shared_systems.specs.Collected.{is_shared, collector}
use Rattle.shared_systems.proofs.Systems.{items_long}
use Rattle.shared_systems.proofs.laws.count_law.Goals as goal

pub returns-clause-tasks : goal.returns-clause-tasks
returns-clause-tasks c = λ system.
    length-append system.tasks (replicate (count_by is_shared system.items) collector)
    ∙ ap (λ (n : ℕ). length system.tasks + n) (length-replicate (count_by is_shared system.items) collector)

pub returns-clause-items : goal.returns-clause-items
returns-clause-items c = λ system. items_long (length system.tasks + 1) system.items
