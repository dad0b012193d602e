use Rattle.std.proofs.Common.{arith, sym, ◌∙◌, subst, refl}
use Rattle.sp_terms.specs.Builder.{IsOneTerm}
use Rattle.sp_terms.proofs.BuilderLemmas.{one_term, height}
use Rattle.sp_terms.proofs.builder.TermBuilder.finish.Goals as goal

pub new-requires : goal.new-requires
new-requires c = one_term _ _ _ _ c.self.invariant (omega (arith, c.len.ensures, c.self.inside.ends.ok.0))

pub returns-else-len-eq1 : goal.returns-else-len-eq1
returns-else-len-eq1 c = (
  (λ one. c.if-len-eq1.false
      (c.len.ensures ∙ c.self.inside.ends.ok.0 ∙ height _ _ _ _ c.self.invariant ∙ subst IsOneTerm (sym c.self.view_is) one)),
  refl,
)
