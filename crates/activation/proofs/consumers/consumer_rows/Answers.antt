use Rattle.std.proofs.Common.{◌≡◌, ◌<◌, ℕ, All, length, arith, sym, subst, ◌∙◌, ap, List}
use Rattle.std.specs.Prelude.{count_by, ◌==◌}
use Rattle.row_table.specs.Rows.{row_at}
use Rattle.activation.specs.declared.edges.Edge.{Edge}
use Rattle.activation.specs.Schedule.{task_entry}
use Rattle.activation.specs.Consumers.{ends_from, consumer_edges}
use Rattle.activation.proofs.Consuming.{place_within}
use Rattle.activation.proofs.Ends.{ends_within, starts_within, few_consumer_edges, consumers_within, consumer_counts}
use Rattle.activation.proofs.consumers.consumer_rows.Goals as goal

pub rows_of-requires-clause-within : goal.rows_of-requires-clause-within
rows_of-requires-clause-within c =
    let n = length c.args.system.now.tasks in
    let edges = consumer_edges (task_entry c.args.places.now) c.args.system.now.items in
    rw (c.deref.ensures.value, c.in_ok-edges.ensures, c.tasks.ensures.value)
    (starts_within n n edges (consumers_within c.requires c.args.system.now.items c.tasks.ensures.system.items))

pub rows_of-requires-clause-few : goal.rows_of-requires-clause-few
rows_of-requires-clause-few c =
    let same : c.deref.result.now ≡ consumer_edges (task_entry c.args.places.now) c.args.system.now.items =
    c.deref.ensures.value ∙ c.in_ok-edges.ensures in
    omega (
      arith,
      ap (λ (es : List Edge). length es) same,
      few_consumer_edges (task_entry c.args.places.now) c.args.system.now.items,
      c.tasks.ensures.system.few_uses,
    )

pub returns : goal.returns
returns c =
    let n = length c.args.system.now.tasks in
    let place = task_entry c.args.places.now in
    let items = c.args.system.now.items in
    let within = c.tasks.ensures.system.items in
    let edges = consumer_edges place items in
    let long : length c.in_ok-rows.rows ≡ n = c.in_ok-rows.ensures.long ∙ ap (λ ts. length ts) c.tasks.ensures.value in
    let same : c.deref.result.now ≡ edges = c.deref.ensures.value ∙ c.in_ok-edges.ensures in
    let row : (k : ℕ) → k < n → row_at c.in_ok-rows.rows k ≡ ends_from k edges =
    λ k w. c.in_ok-rows.ensures.rows k (omega (arith, w, long, c.in_ok-rows.ensures.long)) ∙ ap (ends_from k) same in
    record {
      long = long;
      within = λ k w. subst (All (λ p. p < n)) (sym (row k (omega (arith, w, long))))
          (ends_within n n k edges (consumers_within c.requires items within));
      counts = λ t u it iu.
          ap (count_by (λ p. p == place u)) (row (place t) (place_within c.requires t it)) ∙ consumer_counts c.requires t u it iu items within;
    }
