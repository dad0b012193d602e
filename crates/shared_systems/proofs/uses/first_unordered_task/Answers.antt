use Rattle.std.proofs.Common.{List, length, ap, ◌∙◌, arith}
use Rattle.graphs.specs.declared.arc.Arc.{Arc}
use Rattle.shared_systems.proofs.UseArcs.{arcs_within, arcs_long}
use Rattle.shared_systems.proofs.uses.first_unordered_task.Goals as goal

pub first_unordered-requires-clause-within : goal.first_unordered-requires-clause-within
first_unordered-requires-clause-within c =
    rw (c.deref.ensures.value, c.in_ok-arcs.ensures) (arcs_within (length c.args.tasks.now) c.args.items.now c.requires.plain.items)

pub first_unordered-requires-clause-few : goal.first_unordered-requires-clause-few
first_unordered-requires-clause-few c =
    omega (
      arith,
      ap (λ (l : List Arc). length l) (c.deref.ensures.value ∙ c.in_ok-arcs.ensures),
      arcs_long c.args.items.now,
      c.requires.plain.few_uses,
    )
