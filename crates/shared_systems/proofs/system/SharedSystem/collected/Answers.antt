use Rattle.std.proofs.Common.{◌+◌, ◌++◌, List, length, ap, ◌∙◌, arith}
use Rattle.std.specs.Prelude.{count_by, replicate}
use Rattle.mp_system.specs.declared.system.Task.{Task}
use Rattle.shared_systems.specs.Shared.{SharedItem}
use Rattle.shared_systems.specs.Collected.{is_shared, collector, items_from}
use Rattle.shared_systems.proofs.Systems.{made_within, room}
use Rattle.shared_systems.proofs.system.SharedSystem.collected.Goals as goal

pub new-requires : goal.new-requires
new-requires c =
    let tasks_are =
    c.in_ok-tasks.ensures
    ∙ ap (λ (l : List Task). l ++ replicate (count_by is_shared c.items-2.result.now) collector) c.tasks-2.ensures.value
    ∙ ap (λ (l : List SharedItem). c.args.self.now.tasks ++ replicate (count_by is_shared l) collector) c.items-2.ensures.value in
    let items_are =
    c.in_ok-items.ensures
    ∙ ap (λ (l : List Task). items_from (length l + 1) c.items.result.now) c.tasks.ensures.value
    ∙ ap (λ (l : List SharedItem). items_from (length c.args.self.now.tasks + 1) l) c.items.ensures.value in
    let has = room c.args.self.now c.in_ok-tasks.tasks.items c.in_ok-items.items.items tasks_are items_are
    (omega (arith, c.if-len-gt-MOST_TASKS.false, c.len.ensures, c.in_ok-tasks.tasks.ok.0))
    (omega (arith, c.if-len-gt-MOST_POSITIONS.false, c.len-else-len-gt-MOST_TASKS.ensures, c.in_ok-items.items.ok.0)) in
    made_within c.args.self.now c.in_ok-tasks.tasks.items c.in_ok-items.items.items c.tasks.ensures.system has tasks_are items_are
