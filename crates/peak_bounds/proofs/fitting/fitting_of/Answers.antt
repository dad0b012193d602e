use Rattle.std.proofs.Common.{◌≡◌, ◌<◌, ◌+◌, ℕ, List, length, arith, ap, sym, subst, ◌∙◌}
use Rattle.shared_systems.specs.Shared.{shared_item_at}
use Rattle.peak_bounds.specs.Moments.{uses_for, item_uses}
use Rattle.peak_bounds.specs.Fitting.{use_start, AreStarts, AreItemsOfUses}
use Rattle.peak_bounds.proofs.Fits.{items-le, ends-le, starts_more, of_uses_more}
use Rattle.peak_bounds.proofs.fitting.fitting_of.Goals as goal
use Rattle.peak_bounds.proofs.fitting.fitting_of.Goals.{After-len}

inside : (c : After-len) → c.loop-i.i < length c.args.items.now
inside c = omega (arith, c.loop-i-test.true, c.len-i-end.ensures)

count : (c : After-len) → c.use_count.result ≡ length (item_uses (shared_item_at c.args.items.now c.loop-i.i))
count c =
    let x = shared_item_at c.args.items.now c.loop-i.i in
    c.use_count.ensures x.from ∙ ap (λ (l : List ℕ). length (uses_for x.from l)) c.readers.ensures

of_uses : (c : After-len) → AreItemsOfUses c.args.items.now (c.loop-i.i + 1) c.push_item.new.items.items
of_uses c =
    subst (AreItemsOfUses c.args.items.now (c.loop-i.i + 1)) (sym c.in_ok-push_item.ensures)
    (of_uses_more c.args.items.now c.loop-i.i (inside c) c.loop-i.of_uses.items c.use_count.result c.loop-i.invariant.of_uses (count c))

pub overflow_cast-i : goal.overflow_cast-i
overflow_cast-i c = omega (arith, c.loop-i-test.true, c.len-i-end.ensures, items-le c.args.items.now, c.requires.few)

start : (c : After-len) → c.len.result ≡ use_start c.args.items.now (c.loop-i.i + 1)
start c = c.len.ensures ∙ c.push_item.new.items.ok.0 ∙ (of_uses c).len

pub overflow_cast-len : goal.overflow_cast-len
overflow_cast-len c =
    let a = (goal.at.overflow_cast-len c).After-len in
    omega (arith, start a, (ends-le c.args.items.now c.loop-i.i (inside a)).1, c.requires.few)

pub loop-i-preserved : goal.loop-i-preserved
loop-i-preserved c =
    let a = (goal.at.loop-i-preserved c).After-len in
    record {
      starts = subst (AreStarts c.args.items.now (c.loop-i.i + 1)) (sym {A = List ℕ} c.in_ok-push-2.ensures.items) (starts_more c.args.items.now c.loop-i.i (inside a) c.loop-i.starts.items c.len.result c.loop-i.invariant.starts (start a));
      of_uses = of_uses a;
    }
