use Rattle.std.proofs.Common.{◌≡◌, ℕ, Bool, ◌<◌, List, length, get_or, cond, arith, w64, FitsSigned, rules, pos, ap, ◌∙◌}
use Rattle.std.specs.Prelude.{ℤ}
use Rattle.std.proofs.lemmas.Int.{ints, to_z-of_z}
use Rattle.std.proofs.lemmas.List.{get_or_read, length-map}
use Rattle.mp_system.specs.Replay.{is_marked}
use Rattle.peak_bounds.specs.Moments.{uses_of, is_held_for}
use Rattle.peak_bounds.proofs.Following.{no_use}
use Rattle.peak_bounds.specs.Judging.{maker_of, taker_of}
use Rattle.peak_bounds.proofs.Told.{either_sides}
use Rattle.peak_bounds.proofs.UseTotals.{lowered_more, use_again}
use Rattle.peak_bounds.proofs.levels.held_sum.Goals as goal

pub loop-k-preserved : goal.loop-k-preserved
loop-k-preserved c =
    let uses = uses_of c.args.system.now.items in
    let test = is_held_for (is_marked c.args.done.now) in
    let sizes = c.args.lowered.now in
    let k = c.loop-k.k in
    let z = get_or sizes k (pos 0) in
    let lt = c.loop-k-test.true in
    let inside : k < length uses = omega (arith, lt, c.requires.lowered) in
    let makers_len = ap (λ (l : List ℕ). length l) c.requires.uses.makers ∙ length-map uses maker_of in
    let takers_len = ap (λ (l : List ℕ). length l) c.requires.uses.takers ∙ length-map uses taker_of in
    let maker = get_or_read c.args.uses.now.makers.items k c.index.result.now (omega (arith, inside, makers_len)) c.index.ensures 0 in
    let taker = get_or_read c.args.uses.now.takers.items k c.index-in-loop-k.result.now (omega (arith, inside, takers_len)) c.index-in-loop-k.ensures 0 in
    let held : c.is_held-held.result ≡ test (get_or uses k no_use) =
    c.is_held-held.ensures ∙ ap test (use_again c.args.system.now c.keeps.ensures c.args.uses.now c.requires.uses k inside c.index.result.now c.index-in-loop-k.result.now maker taker) in
    let fits : FitsSigned w64 z = search rules in
    let counted : c.size_if.result ≡ cond (test (get_or uses k no_use)) z (pos 0) =
    c.size_if.ensures ∙ ap (λ (y : ℤ). cond c.is_held-held.result y (pos 0)) (to_z-of_z w64 z fits) ∙ ap (λ (b : Bool). cond b z (pos 0)) held in
    let sides = either_sides (test (get_or uses k no_use)) z (c.requires.small k (pos 0) lt) in
    let more = lowered_more test uses sizes k c.requires.lowered inside in
    let sum = c.loop-k.invariant.sum in
    let low = c.loop-k.invariant.low in
    let high = c.loop-k.invariant.high in
    let from = c.from-sum.ensures in
    let few = c.requires.uses.few in
    record {
      sum = omega (arith, ints, counted, sides.0, sides.1, more, sum, low, high, from, few, inside, makers_len);
      low = omega (arith, ints, counted, sides.0, sides.1, low, high, from, few, inside, makers_len);
      high = omega (arith, ints, counted, sides.0, sides.1, low, high, from, few, inside, makers_len);
    }
