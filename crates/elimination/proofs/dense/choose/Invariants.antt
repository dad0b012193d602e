use Rattle.std.proofs.Common.{◌≡◌, ◌-◌}
use Rattle.std.specs.List.{sum_by}
use Rattle.min_tree.specs.Least.{greatest}
use Rattle.elimination.specs.Dense.{Stage, IsDense}
use Rattle.elimination.proofs.dense.choose.Given as goal

abbrev pub invariant-search : goal.invariant-search
invariant-search l = record {
  order : l.search.order ≡ l.fn.search.order;
  stands : (stage : Stage) → IsDense stage l.fn.search → IsDense stage l.search;
}

abbrev pub decreases-search : goal.decreases-search
decreases-search l = sum_by (λ x. greatest - x) l.search.bounds
