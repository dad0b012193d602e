use Rattle.std.proofs.Common.{◌≤◌}
use Rattle.graph_plan.specs.Drafts.{IsDraft}
use Rattle.graph_plan.proofs.states.raise_bound.Given as goal

abbrev pub invariant-loop : goal.invariant-loop
invariant-loop l = record { draft : IsDraft l.system l.draft; no_worse : l.draft.peak ≤ l.initial.draft.peak }
