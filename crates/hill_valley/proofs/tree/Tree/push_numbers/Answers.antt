use Rattle.std.proofs.Common.{arith, ap, ◌∙◌}
use Rattle.hill_valley.specs.Descents.{segs_of}
use Rattle.hill_valley.proofs.Inserting.{seen_next}
use Rattle.hill_valley.proofs.Numbering.{numbering_fits, numbering_on}
use Rattle.hill_valley.proofs.tree.Tree.push_numbers.Goals as goal

pub loop-up-init : goal.loop-up-init
loop-up-init c =
    let e = ap segs_of (c.into_iter-up-iterator.ensures.into_iter_gives ∙ c.iter-up-items.ensures.rest) ∙ c.self.view_is in
    record { numbering = record { room = rw e c.requires.room; told = rw e } }

pub overflow_sub-at : goal.overflow_sub-at
overflow_sub-at c =
    let f = numbering_fits _ _ _ _ _ c.loop-up.invariant.numbering
    (record { up = c.in-Some.up.now; net = c.in-Some.descent.now.net }) _ (seen_next _ _ _ _ c.in-Some.ensures.steps) in
    omega arith

pub loop-up-preserved : goal.loop-up-preserved
loop-up-preserved c = record {
  numbering = numbering_on _ _ _ _ _ c.loop-up.invariant.numbering _ _
      (seen_next _ _ _ _ c.in-Some.ensures.steps) c.if-at-stop.false _ c.in_ok-push.ensures.items;
}
