use Rattle.std.proofs.Common.{◌≡◌, ◌+◌, ℕ, cond, eqb, get_or, take}
use Rattle.std.specs.List.{list_any}
use Rattle.state_search.proofs.view.add_sizes.Given as goal

abbrev pub invariant-loop-task : goal.invariant-loop-task
invariant-loop-task l = (v : ℕ) → get_or l.sums v 0 ≡ get_or l.initial.sums v 0 + cond (list_any (λ c. eqb c v) (take l.task-index l.tasks)) l.size 0
