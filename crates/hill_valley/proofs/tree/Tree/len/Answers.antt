use Rattle.std.proofs.Common.{length, sym, ◌∙◌, ap}
use Rattle.hill_valley.specs.declared.side.Seg.{Seg}
use Rattle.hill_valley.proofs.Inserting.{length_segs}
use Rattle.hill_valley.proofs.tree.Tree.len.Goals as goal

pub returns : goal.returns
returns c = record { len = c.len.ensures.len ∙ sym (length_segs c.self.inside.segments.entries) ∙ ap (length {A = Seg}) c.self.view_is }
