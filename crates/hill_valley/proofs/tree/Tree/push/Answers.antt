use Rattle.hill_valley.proofs.Inserting.{pushed}
use Rattle.hill_valley.proofs.tree.Tree.push.Goals as goal

pub invariant_of-self-2 : goal.invariant_of-self-2
invariant_of-self-2 c =
    rw (pushed c.self.inside.segments.entries c.insert.new.self.entries c.args.self.now c.args.seg.up
    (record { net = c.args.seg.net; tasks = c.args.seg.tasks }) c.self.view_is c.in_ok-insert.ensures.entries c.requires.side.2)
    c.requires.side

pub returns : goal.returns
returns c = record {
  segments = pushed c.self.inside.segments.entries c.insert.new.self.entries c.args.self.now c.args.seg.up
      (record { net = c.args.seg.net; tasks = c.args.seg.tasks }) c.self.view_is c.in_ok-insert.ensures.entries c.requires.side.2;
}
