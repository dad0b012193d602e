use Rattle.std.proofs.Common.{◌≡◌, ℕ, Bool, length}
use Rattle.elimination.specs.Dense.{IsDenseUnderWay}
use Rattle.elimination.proofs.dense.eliminate_dense.Given as goal

abbrev pub invariant-loop-gone : goal.invariant-loop-gone
invariant-loop-gone l = record {
  here : length l.vertices.items ≡ l.gone;
  order : l.search.order ≡ l.fn.search.order;
  under_way : (joined : ℕ → ℕ → Bool) → IsDenseUnderWay joined l.fn.vertices.items l.fn.search
      → IsDenseUnderWay joined l.vertices.items l.search;
}
