use Rattle.claim_rules.proofs.Reaching.{StateLaws}
use Rattle.claim_rules.proofs.Soundness.{WayLaws, rule_sound}
use Rattle.claim_rules.proofs.laws.rule_law.Goals as goal

pub returns : goal.returns
returns c =
    let states : StateLaws =
    record { first = c.state_law.ensures.first; least = c.state_law.ensures.least; back = c.state_law.ensures.back } in
    let ways : WayLaws = record {
      traversal = c.run_law.ensures.traversal;
      way = c.run_law.ensures.way;
      cut = c.run_law.ensures.cut;
      joined = c.run_law.ensures.joined;
      back = c.way_law.ensures.back;
      each = c.way_law.ensures.each;
      reached = c.way_law.ensures.reached;
    } in
    λ t cs claim allowed sound meets. rule_sound states ways t cs claim allowed sound meets
