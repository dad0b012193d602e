use Rattle.std.proofs.Common.{◌≡◌, ℕ, ◌-◌, ◌<◌, ◌≤◌, All, length, map, arith, sym, subst, ◌∙◌, ap, zero-add, rules}
use Rattle.std.specs.Prelude.{slice_index, slice_index_or}
use Rattle.std.proofs.lemmas.List.{length-map}
use Rattle.std.proofs.lemmas.List.Elements.{All-weaker}
use Rattle.row_table.specs.Rows.{row_at, numbers_with}
use Rattle.activation.specs.declared.edges.Edge.{Edge}
use Rattle.activation.specs.Consumers.{edge}
use Rattle.activation.proofs.Ends.{ends_are}
use Rattle.activation.proofs.edges.rows_of.Goals as goal

pub write_ends-requires-clause-within : goal.write_ends-requires-clause-within
write_ends-requires-clause-within c = λ k w.
    let edges = c.args.edges.now in
    let starts : c.in_ok-starts.starts.items ≡ map (λ (e : Edge). e.from) edges = search rules in
    let row : row_at c.in_ok-rows.rows k ≡ numbers_with (map (λ (e : Edge). e.from) edges) 0 k =
    c.in_ok-rows.ensures.rows k (omega (arith, w, c.in_ok-rows.ensures.len))
    ∙ ap (λ ks. numbers_with ks 0 k) (c.deref.ensures.value ∙ starts) in
    subst (All (λ i. i < length edges)) (sym row)
    (All-weaker (λ v. (0 ≤ v) × (v - 0 < length (map (λ (e : Edge). e.from) edges)) × (slice_index (map (λ (e : Edge). e.from) edges) (v - 0) ≡ k))
    (λ i. i < length edges)
    (λ i h. omega (arith, h, length-map edges (λ (e : Edge). e.from)))
    (numbers_with (map (λ (e : Edge). e.from) edges) 0 k) (c.numbers_law.ensures.each (map (λ (e : Edge). e.from) edges) 0 k))

pub returns-clause-rows : goal.returns-clause-rows
returns-clause-rows c = λ k w.
    let edges = c.args.edges.now in
    let starts : c.in_ok-starts.starts.items ≡ map (λ (e : Edge). e.from) edges = search rules in
    let end : ℕ → ℕ = λ i. (slice_index_or edges i (edge 0 0)).to in
    c.in_ok-write_ends.ensures.rows k (omega (arith, w, c.in_ok-rows.ensures.len))
    ∙ ap (map end) (c.in_ok-rows.ensures.rows k w ∙ ap (λ ks. numbers_with ks 0 k) (c.deref.ensures.value ∙ starts))
    ∙ ends_are k end edges 0 (λ i lt. ap end (zero-add i))
