use Rattle.fences.proofs.FencedLists.{fenced_system}
use Rattle.fences.proofs.fenced.fenced.Goals as goal

pub new-requires : goal.new-requires
new-requires c =
    rw (c.in_ok-tasks.ensures.items, c.tasks.ensures.value, c.in_ok-items.ensures, c.items.ensures.value)
    (fenced_system c.args.system.now c.args.fences.now c.requires c.tasks.ensures.system)
