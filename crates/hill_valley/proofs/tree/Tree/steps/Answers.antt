use Rattle.std.proofs.Common.{◌∙◌}
use Rattle.hill_valley.proofs.Inserting.{seen_next}
use Rattle.hill_valley.proofs.Walk.{walk_falls, walk_on}
use Rattle.std.proofs.lemmas.Map.Iter.{rest_all}
use Rattle.std.specs.Map.Iter.{deref_pair}
use Rattle.hill_valley.specs.Side.{profile}
use Rattle.hill_valley.proofs.Staircases.{are_steps, combine_all}
use Rattle.hill_valley.proofs.tree.Tree.steps.Goals as goal

pub loop-up-preserved-in-Continue-1 : goal.loop-up-preserved-in-Continue-1
loop-up-preserved-in-Continue-1 c = record {
  walk = walk_on _ _ _ _ (seen_next _ _ _ _ c.in-Some.ensures.steps) c.loop-up.invariant.walk;
  told = rw c.in_ok-add_step.ensures (rw c.max-most.ensures (walk_falls _ _ _ _
      (seen_next _ _ _ _ c.in-Some.ensures.steps) c.loop-up.most c.loop-up.steps.items c.if-descent-gt0.true c.loop-up.invariant.walk))
      ∙ c.loop-up.invariant.told;
}

pub returns : goal.returns
returns c =
    let e = rest_all deref_pair _ _ _ c.in-None.is c.next.ensures.steps in
    let t = rw (e, combine_all c.loop-up.steps.items) at c.loop-up.invariant.told in
    record { steps = rw t (are_steps c.args.level (profile c.args.self.now)) }
