use Rattle.std.proofs.Common.{ℕ, ◌<◌, ◌≤◌, length, arith, length-set, slice_index, ◌∙◌}
use Rattle.column_counts.proofs.AncestorLemmas.{doubled_at, climbed, set_inside}
use Rattle.column_counts.proofs.MarkLemmas.{read_at}
use Rattle.column_counts.proofs.ancestors.Ancestors.least_common.Goals as goal

pub up-preserved-then-next-j : goal.up-preserved-then-next-j
up-preserved-then-next-j c =
    let t = c.requires.tree in
    let i = c.up.invariant in
    let here = i.ancestors t.0 t.2 t.3 in
    let table = c.up.self.table.items in
    let z = c.up.above in
    let place = i.place in
    let low = i.low in
    let top : z ≤ t.1 = here.2 t.1 t.5 t.4 t.6 in
    let pos : 0 < slice_index table z = (here.0.nearest z t.1 (omega arith) t.5 (omega arith) t.4).0 in
    let up = (here.0.rises z pos).0 in
    let near = i.inside z in
    let next = read_at table z c.index-next.result.now place c.index-next.ensures in
    let far = read_at table c.index-next.result.now c.index.result.now (omega arith) c.index.ensures in
    let inside = i.inside c.index-next.result.now in
    let long = length-set {A = ℕ} table z c.index.result.now in
    record {
      len = long ∙ i.len;
      place = omega arith;
      low = omega arith;
      inside = λ x. let k = set_inside table z c.index.result.now (length table) i.inside (omega arith) x in omega arith;
      ancestors = λ first spans can.
          let s = i.ancestors first spans can in
          let n = length c.args.self.now.table.items in
          let k = climbed first n c.args.column c.args.j z c.index-next.result.now
          (slice_index table) next spans s.0 low c.up-test.true s.1 s.2 (omega arith) in (
            doubled_at first n c.args.j table z c.index-next.result.now c.index.result.now place next far spans s.0
                (omega arith) c.if-next-j.true,
            k.0,
            k.1,
          );
    }

pub up-preserved : goal.up-preserved
up-preserved c =
    let t = c.requires.tree in
    let i = c.up.invariant in
    let here = i.ancestors t.0 t.2 t.3 in
    let table = c.up.self.table.items in
    let z = c.up.above in
    let low = i.low in
    let top : z ≤ t.1 = here.2 t.1 t.5 t.4 t.6 in
    let pos : 0 < slice_index table z = (here.0.nearest z t.1 (omega arith) t.5 (omega arith) t.4).0 in
    let up = (here.0.rises z pos).0 in
    let near = i.inside z in
    let next = read_at table z c.index-next.result.now i.place c.index-next.ensures in
    record {
      len = i.len;
      place = omega arith;
      low = omega arith;
      inside = i.inside;
      ancestors = λ first spans can.
          let s = i.ancestors first spans can in
          let k = climbed first (length c.args.self.now.table.items) c.args.column c.args.j z c.index-next.result.now
          (slice_index table) next spans s.0 low c.up-test.true s.1 s.2 (omega arith) in
          (s.0, k.0, k.1);
    }
