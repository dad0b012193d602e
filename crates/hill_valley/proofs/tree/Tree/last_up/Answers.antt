use Rattle.std.proofs.Common.{sym}
use Rattle.hill_valley.proofs.Last.{last_at}
use Rattle.hill_valley.proofs.tree.Tree.last_up.Goals as goal

pub returns-in-Some : goal.returns-in-Some
returns-in-Some c = record {
  value = rw (sym c.self.view_is)
      (last_at c.self.inside.segments.entries (c.in-Some.up.now, c.in-Some.field-0-1.now) c.in-Some.ensures.last);
}
