-- Two systems with orders there and back have the same least peaks.
use Rattle.std.proofs.Common.{◌≡◌, ◌≤◌, ℕ, List, ◌∙◌, arith}
use Rattle.shared_systems.specs.Shared.{SharedTaskSystem}
use Rattle.shared_systems.specs.SharedMemory.{shared_peak_of}
use Rattle.shared_systems.specs.SharedTraversal.{IsSharedTraversal, IsLeastShared}
use Rattle.joined_systems.specs.Joined.{without_joins}

module _ (system other : SharedTaskSystem) (n : ℕ)
    (drop_traversal : (order : List ℕ) → IsSharedTraversal other order → IsSharedTraversal system (without_joins n order))
    (drop_peak : (order : List ℕ) → IsSharedTraversal other order → shared_peak_of system (without_joins n order) ≤ shared_peak_of other order)
    (weave : (order : List ℕ) → IsSharedTraversal system order
    → (woven : List ℕ) × (IsSharedTraversal other woven × (without_joins n woven ≡ order)
    × (shared_peak_of other woven ≡ shared_peak_of system order))) where
  pub least_there : (peak : ℕ) → IsLeastShared system peak → IsLeastShared other peak
  least_there peak least = (
      let there = weave least.order least.traversal in
      record {
        order = there.0;
        traversal = there.1.0;
        attained = there.1.2 ∙ least.attained;
        least = λ order traversal. omega (arith, least.least (without_joins n order) (drop_traversal order traversal), drop_peak order traversal);
      })

  pub least_here : (peak : ℕ) → IsLeastShared other peak → IsLeastShared system peak
  least_here peak least = (
      let here = drop_traversal least.order least.traversal in
      let again = weave (without_joins n least.order) here in
      record {
        order = without_joins n least.order;
        traversal = here;
        attained = omega (arith, least.attained, drop_peak least.order least.traversal, least.least again.0 again.1.0, again.1.2);
        least = λ order traversal. (
            let there = weave order traversal in
            omega (arith, least.least there.0 there.1.0, there.1.2));
      })
