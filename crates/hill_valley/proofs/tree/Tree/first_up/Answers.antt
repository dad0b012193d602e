use Rattle.std.proofs.Common.{sym}
use Rattle.hill_valley.proofs.Inserting.{first_at}
use Rattle.hill_valley.proofs.tree.Tree.first_up.Goals as goal

pub returns-in-Some : goal.returns-in-Some
returns-in-Some c = record {
  value = rw (sym c.self.view_is)
      (first_at c.self.inside.segments.entries (c.in-Some.up.now, c.in-Some.field-0-1.now) c.in-Some.ensures.first);
}
