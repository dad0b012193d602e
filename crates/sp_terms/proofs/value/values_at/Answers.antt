use Rattle.std.proofs.Common.{ap, sym, ◌∙◌, ◌-◌, arith, List, get_or}
use Rattle.sp_terms.specs.declared.position.Position.{Position}
use Rattle.sp_terms.specs.declared.position.Position.TheVariants.{Hold}
use Rattle.sp_terms.proofs.ValuesLemmas.{hold_at}
use Rattle.sp_terms.proofs.value.values_at.Goals as goal

pub returns-in-Hold : goal.returns-in-Hold
returns-in-Hold c = hold_at c.args.terms.now _ _ (Hold 0) c.positions-positions.ensures.terms (omega (arith, c.requires.at))
    (ap (λ (l : List Position). get_or l (c.args.position - 1) (Hold 0)) (sym c.positions-positions.ensures.value) ∙ c.in-Hold.is)
