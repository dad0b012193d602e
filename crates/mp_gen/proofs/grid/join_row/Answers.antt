use Rattle.std.proofs.Common.{◌≡◌, ℕ, List, ◌++◌, ap, sym, ◌∙◌, append_assoc, arith}
use Rattle.std.specs.List.{flat_map, range_with_len}
use Rattle.mp_gen.specs.Grid.{joins_at, joins_in_row}
use Rattle.mp_gen.proofs.GridLemmas.{flat-more}
use Rattle.mp_gen.proofs.grid.join_row.Goals as goal

pub loop-col-preserved : goal.loop-col-preserved
loop-col-preserved c =
    let at = joins_at c.args.rows c.args.cols c.args.row in
    c.in_ok-join.ensures ∙ ap (λ (z : List (ℕ × ℕ)). z ++ at c.loop-col.col) c.loop-col.invariant
    ∙ append_assoc c.args.pairs.now.items (flat_map at (range_with_len 0 c.loop-col.col)) (at c.loop-col.col)
    ∙ ap (λ (z : List (ℕ × ℕ)). c.args.pairs.now.items ++ z) (sym (flat-more at c.loop-col.col))

pub returns : goal.returns
unfolding joins_in_row
returns c =
    let at = joins_at c.args.rows c.args.cols c.args.row in
    let end : c.loop-col.col ≡ c.args.cols = omega arith in
    c.loop-col.invariant ∙ ap (λ (k : ℕ). c.args.pairs.now.items ++ flat_map at (range_with_len 0 k)) end
