use Rattle.std.proofs.Common.{◌≡◌, length, arith, All, sym, subst, ◌∙◌, get_or, refl}
use Rattle.std.proofs.lemmas.List.{take_all}
use Rattle.peak_bounds.specs.declared.evidence.Amount.{Amount}
use Rattle.peak_bounds.specs.Fitting.{FitsAt, item_told}
use Rattle.peak_bounds.proofs.Told.{no_amount}
use Rattle.peak_bounds.proofs.Fits.{told_more, told_within}
use Rattle.peak_bounds.proofs.fitting.fit_around.Goals as goal

pub loop-told-preserved-then-item-last : goal.loop-told-preserved-then-item-last
loop-told-preserved-then-item-last c =
    let items = c.args.items.now in
    let l = c.loop-told in
    let told = get_or c.args.own.now l.told-index no_amount in
    let is = told_within items c.args.fitting.now told (length c.args.lowered.now) c.requires.placed (c.requires.own l.told-index no_amount c.loop-told-test.true) c.requires.len in
    let same : l.last ≡ item_told c.args.fitting.now told = sym c.if-item-last.true ∙ c.item_told-item.ensures in
    record {
      last = l.invariant.last;
      each =
          told_more (λ a. FitsAt items c.args.lowered.now (item_told c.args.fitting.now a)) c.args.own.now l.told-index c.loop-told-test.true l.invariant.each
          (subst (FitsAt items c.args.lowered.now) same (l.invariant.last (omega (arith, is, same))));
    }

pub loop-told-preserved : goal.loop-told-preserved
loop-told-preserved c =
    let items = c.args.items.now in
    let l = c.loop-told in
    let fits = c.fits_at.ensures.0 c.if-not-fits_at.false in
    record {
      last = λ lt. fits;
      each =
          told_more (λ a. FitsAt items c.args.lowered.now (item_told c.args.fitting.now a)) c.args.own.now l.told-index c.loop-told-test.true l.invariant.each
          (subst (FitsAt items c.args.lowered.now) c.item_told-item.ensures fits);
    }

pub returns : goal.returns
returns c =
    let fits = λ (a : Amount). FitsAt c.args.items.now c.args.lowered.now (item_told c.args.fitting.now a) in
    (λ e. subst (All fits) (take_all c.loop-told.told-index c.args.own.now c.loop-told-test.false) c.loop-told.invariant.each, λ all. refl)
