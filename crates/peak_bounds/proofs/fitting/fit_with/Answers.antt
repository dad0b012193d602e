use Rattle.std.proofs.Common.{length}
use Rattle.peak_bounds.proofs.Fits.{fit_each, fit_untouched, told_within}
use Rattle.peak_bounds.proofs.fitting.fit_with.Goals as goal

pub returns-then-fitting : goal.returns-then-fitting
returns-then-fitting c = λ base is put.
    let items = c.args.items.now in
    let own = c.args.own.now in
    let sizes = c.args.lowered.now in (
      λ e. fit_untouched items base c.args.fitting.now is c.if-fitting.true own sizes put c.requires.len (c.fit_around.ensures.0 e),
      λ fit. c.fit_around.ensures.1 (λ k d lt.
          (fit_each items sizes).0 fit _ (told_within items c.args.fitting.now _ (length sizes) c.requires.placed (c.requires.own k d lt) c.requires.len)),
    )
