use Rattle.std.proofs.Common.{get_or, arith, refl}
use Rattle.row_table.proofs.Closing.{row_ahead, closed-more, closed-table, closed-rows}
use Rattle.row_table.proofs.gaps.close_gaps.Goals as goal

pub move_down-requires : goal.move_down-requires
move_down-requires c =
    row_ahead c.args.starts.now c.args.ends.now c.args.numbers.now c.requires c.loop-k.starts c.loop-k.numbers c.loop-k.k c.loop-k.to
    c.loop-k.invariant c.loop-k-test.true

pub loop-k-preserved : goal.loop-k-preserved
loop-k-preserved c =
    let k = c.loop-k.k in
    closed-more c.args.starts.now c.args.ends.now c.args.numbers.now c.requires c.loop-k.starts c.loop-k.numbers k c.loop-k.to
    c.loop-k.invariant c.loop-k-test.true (get_or c.loop-k.starts k 0) (get_or c.args.ends.now k 0) c.move_down.new.numbers
    refl refl c.move_down.auto.numbers c.move_down.ensures.moved c.move_down.ensures.later

pub returns : goal.returns
returns c =
    let loop = c.loop-k in
    let starts = c.args.starts.now in
    let ends = c.args.ends.now in
    let numbers = c.args.numbers.now in
    record {
      table = closed-table starts ends numbers c.requires loop.starts loop.numbers loop.k loop.to (omega arith) loop.invariant;
      rows = closed-rows starts ends numbers c.requires loop.starts loop.numbers loop.k loop.to (omega arith) loop.invariant;
    }
