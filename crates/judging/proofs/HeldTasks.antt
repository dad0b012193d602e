-- Which lists hold each task once: traversals, priorities, permutations.
use Rattle.std.proofs.Common.{◌≡◌, ℕ, List, [], ◌∷◌, length, subst, inl, inr}
use Rattle.judging.specs.Priorities.{priority_or}
use Rattle.activation.specs.Schedule.{HoldsEach}
use Rattle.shared_systems.specs.Shared.{SharedTaskSystem}
use Rattle.shared_systems.specs.SharedTraversal.{IsSharedTraversal}
use Rattle.permutations.specs.Perm.{IsPerm}
use Rattle.plans.specs.Plan.{IsPriority}

pub of_traversal : (system : SharedTaskSystem) (order : List ℕ) → IsSharedTraversal system order → HoldsEach system order
of_traversal system order traversal = record { once = traversal.once; within = traversal.tasks }

pub of_perm : (system : SharedTaskSystem) (priority : List ℕ) → IsPerm (length system.tasks) priority → HoldsEach system priority
of_perm system priority perm = record { once = perm.once; within = perm.vertices }

-- the priority that comes with a traversal of as many tasks
pub of_own : (system : SharedTaskSystem) (order priority : List ℕ) → IsSharedTraversal system order
    → length order ≡ length system.tasks → IsPriority (length order) priority
    → HoldsEach system (priority_or order priority)
of_own system order [] traversal long is = of_traversal system order traversal
of_own system order (v ∷ vs) traversal long (inl is) = absurd (cc is)
of_own system order (v ∷ vs) traversal long (inr perm) = of_perm system (v ∷ vs) (subst (λ (n : ℕ). IsPerm n (v ∷ vs)) long perm)
