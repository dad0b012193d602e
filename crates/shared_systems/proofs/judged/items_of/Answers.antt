use Rattle.std.proofs.Common.{List, length, ap, subst, arith}
use Rattle.shared_systems.specs.Shared.{SharedItem}
use Rattle.shared_systems.specs.Judged.{IsFirstItemFault}
use Rattle.shared_systems.proofs.GivenSystems.{length-given}
use Rattle.shared_systems.proofs.judged.items_of.Goals as goal

pub first_item_fault-requires : goal.first_item_fault-requires
first_item_fault-requires c =
    omega (
      arith,
      ap (λ (l : List SharedItem). length l) c.in_ok-made.ensures,
      length-given c.args.items.now c.args.readers.now,
      c.if-items-gt-MOST_POSITIONS.false,
    )

pub returns-in-Some-first_item_fault-clause-refused : goal.returns-in-Some-first_item_fault-clause-refused
returns-in-Some-first_item_fault-clause-refused c =
    let fault = c.in-Some-first_item_fault in (
      (
        omega (arith, c.if-tasks-gt-MOST_TASKS.false),
        omega (arith, c.if-items-gt-MOST_POSITIONS.false),
        omega (arith, c.if-readers-gt-MOST_USES.false),
      ),
      omega (arith, c.if-readers_given-readers.false, c.readers_given.ensures),
      c.in_default.ensures,
      subst (λ (l : List SharedItem). IsFirstItemFault (length c.args.tasks.now) l fault.fault.test fault.fault.item)
          c.in_ok-made.ensures fault.ensures,
    )
