use Rattle.std.proofs.Common.{List, Bool, length, ap, arith}
use Rattle.bit_rows.proofs.RowBits.{row_length}
use Rattle.bit_rows.proofs.row.BitRow.len.Goals as goal

pub returns : goal.returns
returns c =
    let f = c.self.inside in
    let same = ap (λ (row : List Bool). length row) c.self.view_is in
    omega (arith, same, row_length f.len f.words.items)
