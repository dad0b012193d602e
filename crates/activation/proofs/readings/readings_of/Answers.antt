use Rattle.std.proofs.Common.{◌≡◌, List, length, arith, ◌∙◌, ap}
use Rattle.std.proofs.lemmas.List.Elements.{All-filter}
use Rattle.shared_systems.specs.Bounds.{reader_count, IsSharedItemWithin}
use Rattle.shared_systems.specs.Collected.{is_shared}
use Rattle.activation.specs.declared.edges.Edge.{Edge}
use Rattle.activation.specs.Schedule.{task_entry}
use Rattle.activation.specs.Tables.{shared_items_of}
use Rattle.activation.specs.Consumers.{ends_from, reading_edges}
use Rattle.activation.proofs.Consuming.{place_within}
use Rattle.activation.proofs.Ends.{few_reading_edges, readings_within, reading_ends}
use Rattle.activation.proofs.ReadNumbers.{sum_filter-le}
use Rattle.activation.proofs.readings.readings_of.Goals as goal

pub rows_of-requires-clause-within : goal.rows_of-requires-clause-within
rows_of-requires-clause-within c =
    let within = All-filter is_shared (IsSharedItemWithin (length c.args.system.now.tasks)) c.args.system.now.items c.tasks.ensures.system.items in
    rw (c.deref.ensures.value, c.in_ok-edges.ensures.edges, c.tasks.ensures.value)
    (readings_within c.requires 0 (shared_items_of c.args.system.now) within)

pub rows_of-requires-clause-few : goal.rows_of-requires-clause-few
rows_of-requires-clause-few c =
    let items = shared_items_of c.args.system.now in
    let same : c.deref.result.now ≡ reading_edges (task_entry c.args.places.now) 0 items = c.deref.ensures.value ∙ c.in_ok-edges.ensures.edges in
    omega (
      arith,
      ap (λ (es : List Edge). length es) same,
      few_reading_edges (task_entry c.args.places.now) 0 items,
      sum_filter-le is_shared reader_count c.args.system.now.items,
      c.tasks.ensures.system.few_uses,
    )

pub returns-clause-rows : goal.returns-clause-rows
returns-clause-rows c =
    let n = length c.args.system.now.tasks in
    let place = task_entry c.args.places.now in
    let items = shared_items_of c.args.system.now in
    let within = All-filter is_shared (IsSharedItemWithin n) c.args.system.now.items c.tasks.ensures.system.items in
    let long : length c.in_ok-rows.rows ≡ n = c.in_ok-rows.ensures.long ∙ ap (λ ts. length ts) c.tasks.ensures.value in
    let same : c.deref.result.now ≡ reading_edges place 0 items = c.deref.ensures.value ∙ c.in_ok-edges.ensures.edges in
    record {
      long = long;
      rows_are = λ t it.
          c.in_ok-rows.ensures.rows (place t) (omega (arith, place_within c.requires t it, long, c.in_ok-rows.ensures.long))
          ∙ ap (ends_from (place t)) same ∙ reading_ends c.requires t it 0 items within;
    }
