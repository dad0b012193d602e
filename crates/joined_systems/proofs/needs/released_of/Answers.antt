use Rattle.std.proofs.Common.{◌≡◌, ◌<◌, ◌-◌, ◌∙◌, ℕ, Bool, List, true, get_or, set, length, arith, ap, sym, Vec}
use Rattle.std.proofs.Math.ListN.{length-set}
use Rattle.joined_systems.proofs.Marks.{mark_few, mark_other, mark_this}
use Rattle.joined_systems.proofs.needs.released_of.Goals as goal
use Rattle.joined_systems.proofs.needs.released_of.Goals.{then-readers-ge2+then-eq, then-readers-ge2+else-eq, else-readers-ge2}

pub loop-i-preserved : goal.loop-i-preserved
loop-i-preserved c = elim c.if-readers-ge2.branch [
  | then-readers-ge2+then-eq w ↦ (
      let readers = c.readers-readers.result.now in
      let l = get_or c.args.leaders.now (get_or readers 0 0 - 1) 0 in
      let old = c.loop-i.released.items in
      let now : c.if-readers-ge2.released.items ≡ set old l true = ap (λ (v : Vec Bool _). v.items) w.released-is in
      let row = w.row.ensures ∙ c.requires.rows l (omega (arith, c.requires.low (get_or readers 0 0 - 1))) in
      let room : l < length old = omega (arith, c.requires.low (get_or readers 0 0 - 1), c.loop-i.invariant.len) in
      rw now (record {
        len = length-set old l true ∙ c.loop-i.invariant.len;
        is = mark_this c.args.leaders.now c.args.items.now c.loop-i.i old c.loop-i.invariant.is readers w.row.result.now
            c.readers-readers.ensures row w.if-readers-ge2.true (sym w.eq.ensures ∙ w.if-eq.true) room;
      })
      )
  | then-readers-ge2+else-eq w ↦ (
      let readers = c.readers-readers.result.now in
      let l = get_or c.args.leaders.now (get_or readers 0 0 - 1) 0 in
      let old = c.loop-i.released.items in
      let now : c.if-readers-ge2.released.items ≡ old = ap (λ (v : Vec Bool _). v.items) w.released-is in
      let row = w.row.ensures ∙ c.requires.rows l (omega (arith, c.requires.low (get_or readers 0 0 - 1))) in
      rw now (record {
        len = c.loop-i.invariant.len;
        is = mark_other c.args.leaders.now c.args.items.now c.loop-i.i old c.loop-i.invariant.is readers w.row.result.now
            c.readers-readers.ensures row (sym w.eq.ensures ∙ w.if-eq.false);
      })
      )
  | else-readers-ge2 w ↦ (
      let old = c.loop-i.released.items in
      let now : c.if-readers-ge2.released.items ≡ old = ap (λ (v : Vec Bool _). v.items) w.released-is in
      rw now (record {
        len = c.loop-i.invariant.len;
        is = mark_few c.args.leaders.now c.args.items.now c.loop-i.i old c.loop-i.invariant.is
            (omega (arith, w.if-readers-ge2.false, ap (λ (z : List ℕ). length z) c.readers-readers.ensures));
      })
      )
]
