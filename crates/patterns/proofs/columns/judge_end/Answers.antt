use Rattle.std.proofs.Common.{arith, length}
use Rattle.patterns.proofs.Starts.{from_base}
use Rattle.patterns.proofs.columns.judge_end.Goals as goal

pub overflow_sub-told-2 : goal.overflow_sub-told-2
overflow_sub-told-2 c =
    from_base c.args.base c.args.starts.now c.requires.starts
    (length c.args.starts.now) (omega (arith, c.requires.counted.some)) (omega arith)

pub returns-then-told-rows : goal.returns-then-told-rows
returns-then-told-rows c =
    let low = from_base c.args.base c.args.starts.now c.requires.starts
    (length c.args.starts.now) (omega (arith, c.requires.counted.some)) (omega arith) in
    (c.requires.counted, c.requires.starts, c.if-told-rows.true, omega (arith, low))

pub returns : goal.returns
returns c =
    let low = from_base c.args.base c.args.starts.now c.requires.starts
    (length c.args.starts.now) (omega (arith, c.requires.counted.some)) (omega arith) in
    omega (arith, low, c.if-told-rows.false)
