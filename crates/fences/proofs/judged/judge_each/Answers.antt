use Rattle.std.proofs.Common.{arith, ap, length, ◌+◌, None}
use Rattle.mp_system.specs.declared.system.Item.{Item}
use Rattle.fences.proofs.Accepting.{size_is, amount_is}
use Rattle.fences.proofs.judged.judge_each.Goals as goal

pub returns-in-Some : goal.returns-in-Some
returns-in-Some c =
    let system = c.args.system.now in
    let amounts = c.args.amounts.now in
    let d : Item = record { size = 0; from = None; to = None } in
    let i = c.loop-i.i in
    let items = c.items-items.result.now in
    let fails = c.in-Some.ensures system amounts (i + 1) (size_is system items c.items-items.ensures.value i d c.loop-i-test.true) (amount_is amounts i) in (
      c.requires,
      record {
        is_place = (omega arith, omega (arith, c.loop-i-test.true, ap (length {A = Item}) c.items-items.ensures.value));
        fails = λ fits. fails (fits c.in-Some.test);
        before = c.loop-i.invariant;
      },
      fails,
    )
