use Rattle.std.proofs.Common.{arith}
use Rattle.fences.specs.Fences.{chained}
use Rattle.fences.proofs.Chains.{chain_fenced, chain_traversal, chain_within}
use Rattle.fences.proofs.ChainAmounts.{chain_amounts}
use Rattle.fences.proofs.laws.chain_law.Goals as goal

pub returns-clause-fenced : goal.returns-clause-fenced
returns-clause-fenced c = chain_fenced

pub returns-clause-traversal : goal.returns-clause-traversal
returns-clause-traversal c = chain_traversal

pub returns-clause-amounts : goal.returns-clause-amounts
returns-clause-amounts c = λ system order within is.
    let amounts = chain_amounts c.ready_law.ensures c.state_step_law.ensures c.peak_law.ensures.bound system order is in
    let fenced = chain_fenced system order in
    let least = c.fence_law.ensures.traversal (chained system order) amounts.0 order (chain_within system order within is.tasks) amounts.1 (chain_traversal system order is) in
    (amounts.0, amounts.1, omega (arith, amounts.2, least, c.fenced_law.ensures.peak system (chained system order) order fenced))

pub returns-clause-exist : goal.returns-clause-exist
returns-clause-exist c = λ system bound within. (
  (λ h. record {
    order = h.order;
    traversal = c.fenced_law.ensures.traversal system h.fenced h.order h.is_fenced h.traversal;
    peak = omega (arith, h.value, c.fence_law.ensures.traversal h.fenced h.amounts h.order h.within h.handed h.traversal, c.fenced_law.ensures.peak system h.fenced h.order h.is_fenced);
  }),
  (λ h. let amounts = chain_amounts c.ready_law.ensures c.state_step_law.ensures c.peak_law.ensures.bound system h.order h.traversal in record {
    fenced = chained system h.order;
    order = h.order;
    amounts = amounts.0;
    is_fenced = chain_fenced system h.order;
    within = chain_within system h.order within h.traversal.tasks;
    traversal = chain_traversal system h.order h.traversal;
    handed = amounts.1;
    value = omega (arith, amounts.2, h.peak);
  }),
)
