use Rattle.std.proofs.Common.{◌≡◌, ◌<◌, ◌∙◌, List, length, take, ap, arith}
use Rattle.std.specs.List.{filter}
use Rattle.std.proofs.lemmas.List.{take_all}
use Rattle.shared_systems.specs.Shared.{SharedItem}
use Rattle.shared_systems.specs.Bounds.{reader_count}
use Rattle.std.specs.Prelude.{map}
use Rattle.shared_systems.specs.Collected.{is_shared}
use Rattle.activation.specs.Schedule.{task_entry}
use Rattle.activation.specs.Tables.{shared_items_of}
use Rattle.activation.proofs.SharedTables.{few_numbers, item_skipped, item_pushed, left_first}
use Rattle.activation.proofs.readings.tables_of.Goals as goal
use Rattle.activation.proofs.readings.tables_of.Goals.{then-readers-ge2+in_ok-push_number+in_ok-push+in_ok-push-2, else-readers-ge2}

pub overflow_cast-len : goal.overflow_cast-len
overflow_cast-len c =
    let lt : c.loop-i.i < length c.items-items.result.now = omega (arith, c.loop-i-test.true, c.len-i-end.ensures) in
    omega (
      arith,
      few_numbers (task_entry c.args.places.now) c.items-items.result.now c.loop-i.i lt c.loop-i.edges.items
          c.loop-i.left.items c.loop-i.sizes.items c.loop-i.invariant,
      lt,
      c.len.ensures,
      ap (λ (xs : List SharedItem). length xs) c.items-items.ensures.value,
      c.items-items.ensures.system.few_items,
    )

pub loop-i-preserved : goal.loop-i-preserved
loop-i-preserved c =
    let place = task_entry c.args.places.now in
    let xs = c.items-items.result.now in
    let i = c.loop-i.i in
    let lt : i < length xs = omega (arith, c.loop-i-test.true, c.len-i-end.ensures) in
    let readers = c.readers-readers.ensures in
    let have = c.loop-i.invariant in
    elim c.if-readers-ge2.branch [
      | then-readers-ge2+in_ok-push_number+in_ok-push+in_ok-push-2 w ↦
          rw (w.edges-is, w.left-is, w.sizes-is)
          (item_pushed place xs i lt c.loop-i.edges.items c.loop-i.left.items c.loop-i.sizes.items have
          (rw readers at w.if-readers-ge2.true) w.len.result w.push_number.new.edges.items w.push.new.self.items w.push-then-readers-ge2.new.self.items
          (omega (arith, w.len.ensures, c.loop-i.sizes.ok)) (rw readers at w.in_ok-push_number.ensures)
          (rw readers at w.in_ok-push.ensures.items)
          (rw w.size.ensures at w.in_ok-push-2.ensures.items))
      | else-readers-ge2 w ↦
          rw (w.edges-is, w.left-is, w.sizes-is)
          (item_skipped place xs i lt c.loop-i.edges.items c.loop-i.left.items c.loop-i.sizes.items have
          (rw readers at w.if-readers-ge2.false))
    ]

pub returns-clause-left : goal.returns-clause-left
returns-clause-left c =
    let same : filter is_shared (take c.loop-i.i c.items-items.result.now) ≡ shared_items_of c.args.system.now =
    ap (filter is_shared) (take_all c.loop-i.i c.items-items.result.now (omega (arith, c.loop-i-test.false, c.len-i-end.ensures)) ∙ c.items-items.ensures.value) in
    left_first (shared_items_of c.args.system.now) c.loop-i.left.items (c.loop-i.invariant.left_are ∙ ap (map reader_count) same)
