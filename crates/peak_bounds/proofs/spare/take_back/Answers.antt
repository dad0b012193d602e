use Rattle.std.proofs.Common.{◌≡◌, ◌+◌, ◌-◌, ◌<◌, List, length, get_or, set, drop, sym, ap, subst, ◌∙◌, arith, refl, rules, w64, FitsSigned}
use Rattle.std.specs.Prelude.{ℤ}
use Rattle.std.proofs.lemmas.Int.{to_z-of_z}
use Rattle.std.proofs.lemmas.List.{length-set}
use Rattle.peak_bounds.specs.Judging.{size_at}
use Rattle.peak_bounds.proofs.Told.{all_taken, taken_more, no_amount, IsTaken}
use Rattle.peak_bounds.proofs.spare.take_back.Goals as goal

pub loop-i-preserved : goal.loop-i-preserved
loop-i-preserved c =
    let amounts = c.args.amounts.now in
    let base = c.args.base.now in
    let i = c.loop-i.i in
    let sizes = c.loop-i.sizes in
    let place = (get_or amounts i no_amount).place - 1 in
    let told = c.requires.within i no_amount c.loop-i-test.true in
    let inside : place < length sizes = omega (arith, told.some, told.within, c.loop-i.auto.sizes) in
    let fits : FitsSigned w64 (size_at base place) = search rules in
    let new : c.set_size.new.sizes ≡ set sizes place (size_at base place) = c.set_size.ensures.sizes ∙ ap (λ (z : ℤ). set sizes place z) (to_z-of_z w64 (size_at base place) fits) in
    record {
      taken = λ k lt.
          subst (λ (l : List ℤ). IsTaken l base (drop (i + 1) amounts) k) (sym new)
          (taken_more sizes base amounts i place c.loop-i-test.true inside told.some refl c.loop-i.invariant.taken k
          (omega (arith, lt, ap (λ (l : List ℤ). length l) new, length-set sizes place (size_at base place))));
      spare = c.set_size.ensures.spare;
    }

pub returns-clause-sizes : goal.returns-clause-sizes
returns-clause-sizes c =
    all_taken c.loop-i.sizes c.args.base.now c.args.amounts.now c.loop-i.i (c.loop-i.auto.sizes ∙ sym c.requires.len)
    (omega (arith, c.loop-i-test.false)) c.loop-i.invariant.taken
