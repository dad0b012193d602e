use Rattle.std.proofs.Common.{◌++◌, ◌∷◌, [], List, ℕ, length, append_assoc, sym, ap, ◌∙◌}
use Rattle.sp_terms.specs.Values.{term_of}
use Rattle.term_orders.specs.declared.listing.Step.{Step}
use Rattle.term_orders.specs.declared.listing.Step.TheVariants.{Open, Beside, Own}
use Rattle.term_orders.specs.Steps.{walk}
use Rattle.term_orders.proofs.ListedSteps.{popped, begun}
use Rattle.term_orders.proofs.listing.list_tasks.Goals as goal

pub loop-step-init : goal.loop-step-init
loop-step-init c = (
  walk c.args.side 1 (term_of c.args.positions.now),
  sym (ap (λ (l : List ℕ). l ++ walk c.args.side 1 (term_of c.args.positions.now)) c.new-found.ensures.items),
  begun c.args.positions.now c.args.side c.push.new.self.items c.requires.terms
      (c.in_ok-push.ensures.items
      ∙ ap (λ (l : List Step). l ++ Open 0 (length c.args.positions.now) ∷ []) c.new-steps.ensures.items),
)

pub open_term-requires-clause-here : goal.open_term-requires-clause-here
open_term-requires-clause-here c =
    let p =
    popped c.args.positions.now c.args.side c.loop-step.steps.items c.pop.new.self.items c.in-Some.step
    (Open c.in-Open.start c.in-Open.end) c.loop-step.invariant.0 c.in-Some.ensures.items c.in-Open.is c.loop-step.invariant.2 in
    (p.0, p.3)

pub loop-step-preserved-in-Continue-branch-2 : goal.loop-step-preserved-in-Continue-branch-2
loop-step-preserved-in-Continue-branch-2 c =
    let p =
    popped c.args.positions.now c.args.side c.loop-step.steps.items c.pop.new.self.items c.in-Some.step
    (Open c.in-Open.start c.in-Open.end) c.loop-step.invariant.0 c.in-Some.ensures.items c.in-Open.is c.loop-step.invariant.2 in (
      p.0 ++ p.1,
      c.loop-step.invariant.1 ∙ ap (λ (l : List ℕ). c.loop-step.found.items ++ l) p.2,
      c.in_ok-open_term-in-Open.ensures.listed p.1 p.0 p.4 p.3,
    )

pub open_beside-requires-clause-here : goal.open_beside-requires-clause-here
open_beside-requires-clause-here c =
    let p =
    popped c.args.positions.now c.args.side c.loop-step.steps.items c.pop.new.self.items c.in-Some.step
    (Beside c.in-Beside.start c.in-Beside.end) c.loop-step.invariant.0 c.in-Some.ensures.items c.in-Beside.is c.loop-step.invariant.2 in
    (p.0, p.3)

pub loop-step-preserved-in-Continue-branch-3 : goal.loop-step-preserved-in-Continue-branch-3
loop-step-preserved-in-Continue-branch-3 c =
    let p =
    popped c.args.positions.now c.args.side c.loop-step.steps.items c.pop.new.self.items c.in-Some.step
    (Beside c.in-Beside.start c.in-Beside.end) c.loop-step.invariant.0 c.in-Some.ensures.items c.in-Beside.is c.loop-step.invariant.2 in (
      p.0 ++ p.1,
      c.loop-step.invariant.1 ∙ ap (λ (l : List ℕ). c.loop-step.found.items ++ l) p.2,
      c.in_ok-open_beside-in-Beside.ensures.listed p.1 p.0 p.4 p.3,
    )

pub loop-step-preserved : goal.loop-step-preserved
loop-step-preserved c =
    let p =
    popped c.args.positions.now c.args.side c.loop-step.steps.items c.pop.new.self.items c.in-Some.step
    (Own c.in-Own.task) c.loop-step.invariant.0 c.in-Some.ensures.items c.in-Own.is c.loop-step.invariant.2 in (
      p.1,
      c.loop-step.invariant.1
          ∙ ap (λ (l : List ℕ). c.loop-step.found.items ++ l) (p.2 ∙ ap (λ (l : List ℕ). l ++ p.1) p.3)
          ∙ sym (append_assoc c.loop-step.found.items (c.in-Own.task ∷ []) p.1)
          ∙ sym (ap (λ (l : List ℕ). l ++ p.1) c.in_ok-push-in-Own.ensures.items),
      p.4,
    )
