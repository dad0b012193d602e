use Rattle.std.proofs.Common.{ℕ, List, eqb, true, false, ◌<◌, length, arith, ap, ◌∙◌, sym}
use Rattle.std.proofs.lemmas.List.{take_all}
use Rattle.shared_systems.specs.Shared.{is_read_by, shared_size_where}
use Rattle.peak_bounds.proofs.Told.{part-le, part_more-le, part_more}
use Rattle.std.specs.List.{list_any}
use Rattle.peak_bounds.proofs.needs.inputs.Goals as goal
use Rattle.peak_bounds.proofs.needs.inputs.Goals.{then-has_reader, else-has_reader}

pub overflow_add-sum : goal.overflow_add-sum
overflow_add-sum c =
    let inside : c.loop-i.i < length c.args.items.now = omega (arith, c.loop-i-test.true, c.len-i-end.ensures) in
    let part = part_more-le (is_read_by c.args.task) c.args.items.now c.loop-i.i inside in
    omega (arith, part, c.loop-i.invariant, c.requires, c.size-sum.ensures)

pub returns-clause-within : goal.returns-clause-within
returns-clause-within c =
    let whole = ap (shared_size_where (is_read_by c.args.task)) (take_all c.loop-i.i c.args.items.now (omega (arith, c.loop-i-test.false, c.len-i-end.ensures))) in
    omega (arith, whole, c.loop-i.invariant, c.requires, part-le (is_read_by c.args.task) c.args.items.now)

pub loop-i-preserved : goal.loop-i-preserved
loop-i-preserved c =
    let inside : c.loop-i.i < length c.args.items.now = omega (arith, c.loop-i-test.true, c.len-i-end.ensures) in
    let read = ap (λ (l : List ℕ). list_any (λ u. eqb u c.args.task) l) (sym c.readers.ensures) ∙ sym c.has_reader.ensures in
    elim c.if-has_reader.branch [
      | then-has_reader w ↦ omega (
        arith,
        w.sum-is,
        w.size-sum.ensures,
        c.loop-i.invariant,
        part_more (is_read_by c.args.task) c.args.items.now c.loop-i.i true inside (read ∙ w.if-has_reader.true),
      )
      | else-has_reader w ↦ omega (
        arith,
        w.sum-is,
        c.loop-i.invariant,
        part_more (is_read_by c.args.task) c.args.items.now c.loop-i.i false inside (read ∙ w.if-has_reader.false),
      )
    ]
