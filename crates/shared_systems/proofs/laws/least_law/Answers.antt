use Rattle.std.proofs.Common.{◌≡◌, ◌≤◌, ℕ, List, refl, sym, ◌∙◌, arith, subst}
use Rattle.mp_system.specs.Memory.{peak_of}
use Rattle.mp_system.specs.Traversal.{IsTraversal, IsLeast}
use Rattle.shared_systems.specs.Shared.{SharedTaskSystem}
use Rattle.shared_systems.specs.SharedMemory.{shared_peak_of}
use Rattle.shared_systems.specs.SharedTraversal.{IsSharedTraversal, IsLeastShared}
use Rattle.shared_systems.specs.Collected.{collected, dropped}
use Rattle.shared_systems.specs.Woven.{woven}
use Rattle.shared_systems.proofs.laws.least_law.Goals as goal

module _ (system : SharedTaskSystem)
    (drop_traversal : (order : List ℕ) → IsTraversal (collected system) order → IsSharedTraversal system (dropped system order))
    (drop_peak : (order : List ℕ) → IsTraversal (collected system) order
    → shared_peak_of system (dropped system order) ≤ peak_of (collected system) order)
    (weave_traversal : (order : List ℕ) → IsSharedTraversal system order → IsTraversal (collected system) (woven system order))
    (weave_peak : (order : List ℕ) → IsSharedTraversal system order
    → peak_of (collected system) (woven system order) ≡ shared_peak_of system order) where
  least_woven : (peak : ℕ) → IsLeastShared system peak → IsLeast (collected system) peak
  least_woven peak least = record {
    order = woven system least.order;
    traversal = weave_traversal least.order least.traversal;
    attained = weave_peak least.order least.traversal ∙ least.attained;
    least =
        λ other traversal. omega (arith, least.least (dropped system other) (drop_traversal other traversal), drop_peak other traversal);
  }

  least_dropped : (order : List ℕ) → IsTraversal (collected system) order → (peak : ℕ) → peak_of (collected system) order ≡ peak
      → ((other : List ℕ) → IsTraversal (collected system) other → peak ≤ peak_of (collected system) other)
      → shared_peak_of system (dropped system order) ≡ peak
  least_dropped order traversal peak is least =
      let there = drop_traversal order traversal in
      omega (
        arith,
        is,
        drop_peak order traversal,
        weave_peak (dropped system order) there,
        least (woven system (dropped system order)) (weave_traversal (dropped system order) there),
      )

  least_shared : (peak : ℕ) → IsLeast (collected system) peak → IsLeastShared system peak
  least_shared peak least = record {
    order = dropped system least.order;
    traversal = drop_traversal least.order least.traversal;
    attained = least_dropped least.order least.traversal peak least.attained least.least;
    least =
        λ other traversal. omega (arith, least.least (woven system other) (weave_traversal other traversal), weave_peak other traversal);
  }

pub returns-clause-same : goal.returns-clause-same
returns-clause-same c = λ system peak within. (
  least_woven system (λ o. c.dropping_law.ensures.traversal system o within) (λ o. c.dropping_law.ensures.peak system o within)
      (λ o. c.weaving_law.ensures.traversal system o within) (λ o. c.weaving_law.ensures.peak system o within) peak,
  least_shared system (λ o. c.dropping_law.ensures.traversal system o within) (λ o. c.dropping_law.ensures.peak system o within)
      (λ o. c.weaving_law.ensures.traversal system o within) (λ o. c.weaving_law.ensures.peak system o within) peak,
)

pub returns-clause-dropped : goal.returns-clause-dropped
returns-clause-dropped c = λ system order within traversal least. (
    let same =
    least_dropped system (λ o. c.dropping_law.ensures.traversal system o within) (λ o. c.dropping_law.ensures.peak system o within)
    (λ o. c.weaving_law.ensures.traversal system o within) (λ o. c.weaving_law.ensures.peak system o within)
    order traversal (peak_of (collected system) order) refl least.least in
    let whole =
    least_shared system (λ o. c.dropping_law.ensures.traversal system o within) (λ o. c.dropping_law.ensures.peak system o within)
    (λ o. c.weaving_law.ensures.traversal system o within)
    (λ o. c.weaving_law.ensures.peak system o within) (peak_of (collected system) order) least in
    (c.dropping_law.ensures.traversal system order within traversal, same, subst (IsLeastShared system) (sym same) whole)
    )
