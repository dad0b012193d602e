use Rattle.hill_valley.proofs.Fronts.{next_front}
use Rattle.hill_valley.proofs.row.Row.to_tree.Goals as goal

pub push-requires : goal.push-requires
push-requires c = record {
  side = next_front c.args.self.now c.loop-seg.tree _ _ c.in-Some.seg.now c.loop-seg.invariant.told c.in-Some.ensures.steps
      (rw c.self.view_is at c.self.invariant);
}
