use Rattle.std.proofs.Common.{◌∙◌, sym, arith}
use Rattle.hill_valley.proofs.InRow.{gap, there, there_up}
use Rattle.hill_valley.proofs.row.own_at.Goals as goal

pub returns-in_err-own : goal.returns-in_err-own
returns-in_err-own c =
    let past = c.in_err-own.ensures.item.3 in
    record {
      own = rw c.from_residual.ensures
          (gap c.args.up c.args.at c.args.row.now.items c.requires.rising c.requires.place (λ lt. absurd (omega (arith, lt, past))));
    }

pub returns-then-own-up : goal.returns-then-own-up
returns-then-own-up c =
    record {
      own = there c.args.up c.args.at c.args.row.now.items c.in_ok-own.field-0.now c.requires.rising
          c.requires.place c.in_ok-own.ensures.item.3.0 c.in_ok-own.ensures.lookup c.if-own-up.true;
    }

pub returns-else-own-up : goal.returns-else-own-up
returns-else-own-up c =
    record {
      own = gap c.args.up c.args.at c.args.row.now.items c.requires.rising c.requires.place
          (λ lt e.
          c.if-own-up.false (there_up c.args.row.now.items c.args.at c.in_ok-own.field-0.now lt c.in_ok-own.ensures.lookup ∙ sym e));
    }
