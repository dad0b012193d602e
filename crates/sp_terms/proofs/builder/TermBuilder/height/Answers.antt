use Rattle.std.proofs.Common.{arith, ap, ◌∙◌, List, length}
use Rattle.sp_terms.specs.declared.position.Position.{Position}
use Rattle.sp_terms.specs.Values.{stack_of}
use Rattle.sp_terms.proofs.BuilderLemmas.{height, few_terms}
use Rattle.sp_terms.proofs.builder.TermBuilder.height.Goals as goal

pub returns-clause-value : goal.returns-clause-value
returns-clause-value c = c.len.ensures ∙ c.self.inside.ends.ok.0 ∙ height _ _ _ _ c.self.invariant
    ∙ ap (λ (ps : List Position). length (stack_of ps)) c.self.view_is

pub returns-clause-few : goal.returns-clause-few
returns-clause-few c =
    omega (arith, c.len.ensures, c.self.inside.ends.ok.0, height _ _ _ _ c.self.invariant, few_terms _ _ _ _ c.self.invariant)
