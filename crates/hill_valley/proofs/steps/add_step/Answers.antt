use Rattle.std.proofs.Common.{◌++◌, ◌∷◌, [], ◌∙◌, sym, ap, List, length, arith}
use Rattle.hill_valley.specs.declared.steps.Step.{Step}
use Rattle.hill_valley.specs.Staircase.{ends_at}
use Rattle.hill_valley.proofs.Staircases.{step, replaced, added}
use Rattle.hill_valley.proofs.steps.add_step.Goals.{then-ends_at, else-ends_at}
use Rattle.hill_valley.proofs.steps.add_step.Goals as goal

pub returns : goal.returns
returns c =
    let size = ap (length {A = Step}) c.deref.ensures.value in
    let test = ap (ends_at c.args.bound) (sym c.deref.ensures.value) in
    c.in_ok-push.ensures.items ∙ elim c.if-ends_at.branch [
      | then-ends_at w ↦
          ap (λ (l : List Step). l ++ step c.args.bound c.args.level ∷ []) (ap (λ v. v.items) w.steps-is)
          ∙ replaced c.args.bound c.args.level c.args.steps.now.items w.pop.new.self.items w.pop.result w.pop.ensures.items
          (λ some. w.pop.ensures.variant.1 (omega (arith, some, size, c.deref.ensures.len))) (test ∙ sym w.if-ends_at.ensures)
      | else-ends_at w ↦
          ap (λ (l : List Step). l ++ step c.args.bound c.args.level ∷ []) (ap (λ v. v.items) w.steps-is)
          ∙ added c.args.bound c.args.level c.args.steps.now.items (test ∙ sym w.if-ends_at.ensures)
    ]
