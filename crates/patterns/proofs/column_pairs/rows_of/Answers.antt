use Rattle.std.proofs.Common.{◌-◌, arith, drop, get_or}
use Rattle.std.proofs.lemmas.List.{length-take-le, length-drop}
use Rattle.patterns.proofs.Starts.{part_rows, span}
use Rattle.patterns.proofs.column_pairs.rows_of.Goals as goal

pub overflow_sub-first-2 : goal.overflow_sub-first-2
overflow_sub-first-2 c =
    (span c.args.base c.args.starts.now c.args.rows.now c.requires.columns c.args.column c.requires.column.0 c.requires.column.1).0

pub overflow_sub-end : goal.overflow_sub-end
overflow_sub-end c =
    let s = span c.args.base c.args.starts.now c.args.rows.now c.requires.columns c.args.column c.requires.column.0 c.requires.column.1 in
    omega (arith, s.0, s.1)

pub slice_bounds-result-count : goal.slice_bounds-result-count
slice_bounds-result-count c =
    let s = span c.args.base c.args.starts.now c.args.rows.now c.requires.columns c.args.column c.requires.column.0 c.requires.column.1 in
    omega (arith, s.0, s.1)

pub slice_bounds-result-start : goal.slice_bounds-result-start
slice_bounds-result-start c =
    let s = span c.args.base c.args.starts.now c.args.rows.now c.requires.columns c.args.column c.requires.column.0 c.requires.column.1 in
    omega (arith, s.0, s.1, s.2)

pub slice_bounds-result-end : goal.slice_bounds-result-end
slice_bounds-result-end c =
    let s = span c.args.base c.args.starts.now c.args.rows.now c.requires.columns c.args.column c.requires.column.0 c.requires.column.1 in
    omega (arith, s.0, s.1, s.2)

pub returns-clause-len : goal.returns-clause-len
returns-clause-len c =
    let s = span c.args.base c.args.starts.now c.args.rows.now c.requires.columns c.args.column c.requires.column.0 c.requires.column.1 in
    let first = get_or c.args.starts.now (c.args.column - 1) 0 - c.args.base in
    let end = get_or c.args.starts.now c.args.column 0 - c.args.base in
    let long = length-drop first c.args.rows.now in
    omega (arith, s.0, s.1, s.2, long, length-take-le (end - first) (drop first c.args.rows.now) (omega (arith, s.0, s.1, s.2, long)))

pub returns-clause-numbers : goal.returns-clause-numbers
returns-clause-numbers c =
    part_rows c.args.base c.args.starts.now c.args.rows.now c.requires.columns _ _
