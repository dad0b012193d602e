use Rattle.std.proofs.Common.{◌<◌, length, ap, arith}
use Rattle.std.specs.List.{sum_by}
use Rattle.shared_systems.specs.Growing.{ItemsSoFar}
use Rattle.shared_systems.specs.Shared.{shared_item_at}
use Rattle.shared_systems.specs.Bounds.{reader_count}
use Rattle.joined_systems.proofs.JoinCode.{between-le, after-le, uses_so_far}
use Rattle.joined_systems.proofs.building.items_of.Goals as goal

pub push_joined-requires-clause-few_between : goal.push_joined-requires-clause-few_between
push_joined-requires-clause-few_between c =
    let x = shared_item_at c.args.items.now c.loop-i.i in
    omega (arith, c.join_between-between.ensures, between-le c.args.joins.now x.from x.readers, c.requires.small, c.requires.few)

pub push_joined-requires-clause-few_after : goal.push_joined-requires-clause-few_after
push_joined-requires-clause-few_after c =
    omega (arith, c.join_after-after.ensures, after-le c.args.joins.now c.readers.result.now, c.requires.small, c.requires.few)

pub push_joined-requires-clause-room : goal.push_joined-requires-clause-room
push_joined-requires-clause-room c =
    let inside : c.loop-i.i < length c.args.items.now = omega (arith, c.loop-i-test.true, c.len-i-end.ensures) in
    let made = ap (λ (m : ItemsSoFar). sum_by reader_count m.items) c.loop-i.invariant in
    omega (
      arith,
      made,
      uses_so_far (length c.args.joins.now) c.args.joins.now c.args.items.now c.loop-i.i inside,
      c.requires.few_items,
      c.requires.few_uses,
    )
