use Rattle.std.proofs.Common.{◌-◌, sym, arith, refl, deque_len}
use Rattle.hill_valley.proofs.InRow.{last_in}
use Rattle.hill_valley.proofs.row.Row.last_up.Goals as goal

pub returns-in-Some : goal.returns-in-Some
returns-in-Some c =
    let some = c.in-Some.ensures.variant.0 refl in
    let long = c.self.inside.segments.ok.0 in
    record {
      value = rw (sym c.self.view_is)
          (last_in c.self.inside.segments.items (deque_len c.self.inside.segments - 1) c.in-Some.seg.now
          (omega arith) c.in-Some.ensures.lookup);
    }
