use Rattle.std.proofs.Common.{List, ℕ, length, arith, ap}
use Rattle.joined_systems.specs.Joins.{join_count}
use Rattle.joined_systems.proofs.JoinNumbers.{few_joins}
use Rattle.joined_systems.proofs.joined.join_tasks.Goals as goal

pub joined_with-requires-clause-small : goal.joined_with-requires-clause-small
joined_with-requires-clause-small c =
    omega (
      arith,
      few_joins c.args.system.now c.in_ok-joins.joins.items c.in_ok-joins.ensures,
      ap join_count c.deref.ensures.value,
      ap (λ (l : List ℕ). length l) c.deref.ensures.value,
    )
