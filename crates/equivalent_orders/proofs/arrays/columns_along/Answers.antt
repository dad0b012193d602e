use Rattle.std.proofs.Common.{◌∙◌, ap, length}
use Rattle.equivalent_orders.proofs.ColumnArrays.{as_many, keys_fit, numbers, rows_fit, sorted}
use Rattle.equivalent_orders.proofs.arrays.columns_along.Goals as goal

pub fronts_in_turn-requires : goal.fronts_in_turn-requires
fronts_in_turn-requires c = numbers c.args.base c.args.columns.now c.args.front_of.now c.args.fronts.now c.in_ok-judge.ensures

pub group-requires-clause-below : goal.group-requires-clause-below
group-requires-clause-below c =
    keys_fit c.numbers_law.ensures.filtered c.args.base c.args.columns.now c.args.front_of.now c.args.fronts.now c.deref.result.now
    c.in_ok-judge.ensures (c.deref.ensures.value ∙ c.in_ok-keys.ensures)

pub columns_of_rows-requires-clause-places : goal.columns_of_rows-requires-clause-places
columns_of_rows-requires-clause-places c =
    rows_fit c.numbers_law.ensures.filtered c.args.base c.args.columns.now c.args.front_of.now c.args.fronts.now c.deref.result.now
    c.in_ok-judge.ensures (c.deref.ensures.value ∙ c.in_ok-keys.ensures) c.in_ok-places.places c.in_ok-places.ensures.rows

pub returns-clause-along : goal.returns-clause-along
returns-clause-along c =
    c.in_ok-columns_of_rows.ensures
    ∙ sorted c.numbers_law.ensures.filtered c.args.base c.args.columns.now c.args.front_of.now c.args.fronts.now c.deref.result.now
    c.in_ok-judge.ensures (c.deref.ensures.value ∙ c.in_ok-keys.ensures) c.in_ok-places.places c.in_ok-places.ensures.rows

pub returns-clause-len : goal.returns-clause-len
returns-clause-len c =
    ap length (c.in_ok-columns_of_rows.ensures
    ∙ sorted c.numbers_law.ensures.filtered c.args.base c.args.columns.now c.args.front_of.now c.args.fronts.now c.deref.result.now
    c.in_ok-judge.ensures (c.deref.ensures.value ∙ c.in_ok-keys.ensures) c.in_ok-places.places c.in_ok-places.ensures.rows)
    ∙ as_many c.args.base c.args.columns.now c.args.front_of.now c.args.fronts.now c.in_ok-judge.ensures
