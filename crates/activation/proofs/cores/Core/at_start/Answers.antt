use Rattle.std.proofs.Common.{◌≡◌, ℕ, ◌≤◌, List, length, ap, refl, rules}
use Rattle.std.specs.Prelude.{replicate}
use Rattle.activation.specs.declared.events.Phase.TheVariants.{Idle}
use Rattle.shared_systems.specs.Shared.{SharedTaskSystem, HasTask, shared_task_at}
use Rattle.shared_systems.specs.Bounds.{IsSharedSystem}
use Rattle.shared_systems.specs.SharedMemory.{shared_peak_of}
use Rattle.shared_systems.specs.SharedTraversal.{IsSharedTraversal}
use Rattle.activation.specs.Machine.{Setting, IsSetting}
use Rattle.activation.proofs.Consuming.{order_rows, order_readings}
use Rattle.activation.proofs.Placing.{placed}
use Rattle.activation.proofs.Beginning.{start_tables}
use Rattle.activation.proofs.cores.Core.at_start.Goals as goal

set : {system : SharedTaskSystem} {order : List ℕ} {bound workers : ℕ} → IsSharedSystem system → IsSharedTraversal system order
    → shared_peak_of system order ≤ bound → 1 ≤ workers → IsSetting (record { system = system; order = order; bound = bound; workers = workers })
set is traversal within some = record { system = is; traversal = traversal; bound = within; workers = some }

pub places_of-requires : goal.places_of-requires
places_of-requires c = record { once = c.requires.traversal.once; within = c.requires.traversal.tasks }

pub invariant_of-result : goal.invariant_of-result
invariant_of-result c =
    let system = c.args.system.now in
    let order = c.args.order.now in
    let setting : Setting = record { system = system; order = order; bound = c.args.bound; workers = c.args.workers } in
    let is : IsSetting setting = set c.tasks-count.ensures.system c.requires.traversal c.requires.bound c.requires.workers.0 in
    let count = ap length c.tasks-count.ensures.value in
    let phases_made : c.in_ok-phases.phases.items ≡ replicate (length c.tasks-count.result.now) Idle = search rules in
    let phases : c.in_ok-phases.phases.items ≡ replicate (length system.tasks) Idle = rw count at phases_made in
    let tables = start_tables setting is c.requires.workers.1 (c.start_law.ensures.safe setting is)
    (c.start_law.ensures.booked setting) (c.start_law.ensures.used setting)
    (record {
      times = c.in_ok-times.times.items;
      needs = c.in_ok-needs.needs.needs.items;
      frees = c.in_ok-needs.needs.frees.items;
      places = c.in_ok-places.places.items;
      consumers = c.in_ok-consumers.consumers;
      readings = c.in_ok-readings.readings.rows;
      sizes = c.in_ok-readings.readings.sizes.items;
    })
    (record {
      times_are = placed (λ t. (shared_task_at system t).time) {P = HasTask system} c.requires.traversal.tasks c.in_ok-times.ensures (λ t is. refl);
      needs_are = c.in_ok-needs.ensures.needs;
      frees_are = c.in_ok-needs.ensures.frees;
      places_length = c.in_ok-places.ensures.numbers.long;
      places_are = c.in_ok-places.ensures.there;
      consumers_are = order_rows (rw c.deref.ensures.value at c.in_ok-consumers.ensures)
          (c.order_law.ensures.long system order c.requires.traversal) c.requires.traversal.tasks c.in_ok-places.ensures.there;
      readings_are = order_readings (rw c.deref-2.ensures.value at c.in_ok-readings.ensures.rows)
          (c.order_law.ensures.long system order c.requires.traversal) c.requires.traversal.tasks c.in_ok-places.ensures.there;
      sizes_are = c.in_ok-readings.ensures.sizes;
    })
    c.in_ok-waiting.waiting.items c.in_ok-waiting.ensures (c.order_law.ensures.long system order c.requires.traversal)
    c.in_ok-readings.readings.left.items c.in_ok-readings.ensures.left c.start_memory-memory.result c.start_memory-memory.ensures in
    rw (c.in_ok-running.ensures, c.in_ok-startable.ensures, count, phases, c.in_ok-order.ensures.items, c.of.ensures)
    tables
