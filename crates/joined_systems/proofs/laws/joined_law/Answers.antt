-- Where joins were put in, this is what the laws say of them; otherwise nothing is left out of an order.
use Rattle.std.proofs.Common.{◌≡◌, ◌≤◌, ℕ, List, length, sym, ap, subst, ◌∙◌, arith, inl, inr}
use Rattle.std.proofs.lemmas.List.Elements.{All-weaker}
use Rattle.shared_systems.specs.Shared.{SharedTaskSystem, HasTask}
use Rattle.shared_systems.specs.SharedMemory.{shared_peak_of}
use Rattle.shared_systems.specs.SharedTraversal.{IsSharedTraversal, IsLeastShared}
use Rattle.shared_systems.specs.Bounds.{IsSharedSystem}
use Rattle.joined_systems.specs.Joined.{without_joins}
use Rattle.joined_systems.proofs.WithoutJoins.{without_none}
use Rattle.joined_systems.proofs.laws.joined_law.Goals as goal

nothing_left : (system : SharedTaskSystem) (order : List ℕ) → IsSharedTraversal system order → without_joins (length system.tasks) order ≡ order
nothing_left system order traversal =
    without_none (length system.tasks) order
    (All-weaker (HasTask system) (λ v. v ≤ length system.tasks) (λ v task. task.1) order traversal.tasks)

pub returns-clause-within : goal.returns-clause-within
returns-clause-within c = λ system other is made. elim made.1.1 [
  | inl put ↦ put.1
  | inr left ↦ subst IsSharedSystem (sym left.0) is
]

pub returns-clause-traversal : goal.returns-clause-traversal
returns-clause-traversal c = λ system other order is made traversal. elim made.1.1 [
  | inl put ↦ c.dropping_law.ensures.traversal system made.0 order is
      (subst (λ (s : SharedTaskSystem). IsSharedTraversal s order) put.0 traversal)
  | inr left ↦ (
      let here = subst (λ (s : SharedTaskSystem). IsSharedTraversal s order) left.0 traversal in
      subst (IsSharedTraversal system) (sym (nothing_left system order here)) here
      )
]

pub returns-clause-peak : goal.returns-clause-peak
returns-clause-peak c = λ system other order is made traversal. elim made.1.1 [
  | inl put ↦ (
      let below = c.dropping_law.ensures.peak system made.0 order is
      (subst (λ (s : SharedTaskSystem). IsSharedTraversal s order) put.0 traversal) in
      omega (arith, below, ap (λ (s : SharedTaskSystem). shared_peak_of s order) put.0)
      )
  | inr left ↦ (
      let here = subst (λ (s : SharedTaskSystem). IsSharedTraversal s order) left.0 traversal in
      omega (arith, ap (shared_peak_of system) (nothing_left system order here), ap (λ (s : SharedTaskSystem). shared_peak_of s order) left.0)
      )
]

pub returns-clause-back : goal.returns-clause-back
returns-clause-back c = λ system other order is made traversal. elim made.1.1 [
  | inl put ↦ (
      let there = c.weaving_law.ensures system made.0 order is (c.safe_law.ensures system made.0 made.1.0) traversal in (
        there.0,
        (
          subst (λ (s : SharedTaskSystem). IsSharedTraversal s there.0) (sym put.0) there.1.0,
          there.1.1,
          ap (λ (s : SharedTaskSystem). shared_peak_of s there.0) put.0 ∙ there.1.2,
        ),
      )
      )
  | inr left ↦ (
    order,
    (
      subst (λ (s : SharedTaskSystem). IsSharedTraversal s order) (sym left.0) traversal,
      nothing_left system order traversal,
      ap (λ (s : SharedTaskSystem). shared_peak_of s order) left.0,
    ),
  )
]

pub returns-clause-least : goal.returns-clause-least
returns-clause-least c = λ system other peak is made. elim made.1.1 [
  | inl put ↦ (
      let law = c.least_law.ensures system made.0 peak is (c.safe_law.ensures system made.0 made.1.0) in (
        λ least. subst (λ (s : SharedTaskSystem). IsLeastShared s peak) (sym put.0) (law.0 least),
        λ least. law.1 (subst (λ (s : SharedTaskSystem). IsLeastShared s peak) put.0 least),
      )
      )
  | inr left ↦ (
    λ least. subst (λ (s : SharedTaskSystem). IsLeastShared s peak) (sym left.0) least,
    λ least. subst (λ (s : SharedTaskSystem). IsLeastShared s peak) left.0 least,
  )
]
