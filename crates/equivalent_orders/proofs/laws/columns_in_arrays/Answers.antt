use Rattle.equivalent_orders.proofs.ColumnArrays.{counted_back, told_along}
use Rattle.equivalent_orders.proofs.laws.columns_in_arrays.Goals as goal

pub returns : goal.returns
returns c = record {
  along = λ base perm fronts assembly is len. told_along base perm assembly is len fronts;
  counted = counted_back;
}
