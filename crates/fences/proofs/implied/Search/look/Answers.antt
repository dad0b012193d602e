use Rattle.std.proofs.Common.{◌≡◌, ◌∙◌, ℕ, ◌<◌, get_or, length, subst, sym}
use Rattle.std.specs.Prelude.{IfSome}
use Rattle.fences.specs.Before.{IsBefore, IsFound}
use Rattle.fences.proofs.Before.{maker_found, makers_inside, reading_here}
use Rattle.fences.proofs.implied.Search.look.Goals as goal

pub item-item-requires : goal.item-item-requires
item-item-requires c =
    let here = reading_here c.args.system.now c.args.readings.now c.requires.readings c.args.reader c.requires.reader.is_task
    c.row-k-items.result.now c.row-k-items.ensures c.loop-k.k-index c.loop-k-test.true in
    here.0

pub producer-requires : goal.producer-requires
producer-requires c =
    let here = reading_here c.args.system.now c.args.readings.now c.requires.readings c.args.reader c.requires.reader.is_task
    c.row-k-items.result.now c.row-k-items.ensures c.loop-k.k-index c.loop-k-test.true in
    let reading = c.requires.readings.all (get_or c.row-k-items.result.now c.loop-k.k-index 0) (record { item = 0; reader = 0 }) here.0 in
    rw (c.item-item.ensures, c.items.ensures.value) reading.item

pub find-requires : goal.find-requires
find-requires c =
    let system = c.args.system.now in
    let here = reading_here system c.args.readings.now c.requires.readings c.args.reader c.requires.reader.is_task
    c.row-k-items.result.now c.row-k-items.ensures c.loop-k.k-index c.loop-k-test.true in
    let maker : IfSome c.producer.result (IsBefore system c.args.self.now.task) =
    rw (c.producer.ensures, c.items.ensures.value, c.item-item.ensures)
    (maker_found system c.items.ensures.system c.args.readings.now c.requires.readings c.args.self.now.task c.args.reader
    (get_or c.row-k-items.result.now c.loop-k.k-index 0) c.requires.reader here.0 here.1) in
    makers_inside system c.args.self.now.task (length c.loop-k.self.marks.items) c.loop-k.invariant.search.0.long c.producer.result maker

pub loop-k-preserved : goal.loop-k-preserved
loop-k-preserved c =
    let system = c.args.system.now in
    let task = c.args.self.now.task in
    let here = reading_here system c.args.readings.now c.requires.readings c.args.reader c.requires.reader.is_task
    c.row-k-items.result.now c.row-k-items.ensures c.loop-k.k-index c.loop-k-test.true in
    let maker : IfSome c.producer.result (IsBefore system task) =
    rw (c.producer.ensures, c.items.ensures.value, c.item-item.ensures)
    (maker_found system c.items.ensures.system c.args.readings.now c.requires.readings task c.args.reader
    (get_or c.row-k-items.result.now c.loop-k.k-index 0) c.requires.reader here.0 here.1) in
    let before = subst (λ (t : ℕ). IfSome c.producer.result (IsBefore system t)) (sym c.loop-k.invariant.task) maker in
    record {
      task = c.in_ok-find.ensures.task ∙ c.loop-k.invariant.task;
      search = c.in_ok-find.ensures.search system c.loop-k.invariant.search before;
    }
