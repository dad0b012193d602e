use Rattle.claim_rules.proofs.Lists.{PositionLaws, all_derived}
use Rattle.claim_rules.proofs.laws.list_law.Goals as goal

pub returns-clause-derived : goal.returns-clause-derived
returns-clause-derived c = λ ps claim_at terms meet k claim low high is.
    let laws : PositionLaws = record { parts = c.position_law.ensures.parts; before = c.position_law.ensures.before } in
    all_derived laws ps claim_at terms meet k claim low high is

pub returns-clause-sound : goal.returns-clause-sound
returns-clause-sound c = λ ps claim_at terms meet k claim low high is.
    let laws : PositionLaws = record { parts = c.position_law.ensures.parts; before = c.position_law.ensures.before } in
    c.derivation_law.ensures _ claim (c.position_law.ensures.allowed ps k terms low high)
    (all_derived laws ps claim_at terms meet k claim low high is)
