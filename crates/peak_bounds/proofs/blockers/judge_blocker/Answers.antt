use Rattle.std.proofs.Common.{◌≡◌, ◌+◌, ℕ, List, All, [], length, arith, ap, sym, subst, ◌∙◌}
use Rattle.peak_bounds.specs.declared.evidence.Amount.{Amount}
use Rattle.peak_bounds.specs.declared.judging.FormTest.TheVariants as forms
use Rattle.peak_bounds.specs.EventSets.{BlockerValue}
use Rattle.peak_bounds.specs.Evidence.{use_count, blocker_at, amount_or, IsAmount}
use Rattle.peak_bounds.specs.Judging.{size_at}
use Rattle.peak_bounds.proofs.Told.{lowered-is, base_told}
use Rattle.peak_bounds.proofs.Verdicts.{blocker_is, lowered-len}
use Rattle.peak_bounds.proofs.blockers.judge_blocker.Goals as goal
use Rattle.peak_bounds.proofs.blockers.judge_blocker.Goals.{After-amounts-own}

own : (c : After-amounts-own) → c.amounts-own.result.now ≡ (blocker_at c.args.set.now (c.args.i + 1)).amounts
own c =
    c.amounts-own.ensures
    ∙ ap (λ (b : BlockerValue). b.amounts)
    (blocker_is c.args.set.now c.blockers.result.now c.args.i c.index-blockers-i.result c.blockers.ensures
    (omega (arith, c.requires.i, ap (λ (l : List BlockerValue). length l) c.blockers.ensures)) c.index-blockers-i.is)

long : (c : After-amounts-own) → length c.args.sizes.now ≡ use_count c.args.system.now
long c = lowered-len (use_count c.args.system.now) c.args.set.now.base [] c.args.sizes.now (c.requires.sizes ∙ c.requires.common.sizes)

are_amounts : (c : After-amounts-own) (n : ℕ) → n ≡ use_count c.args.system.now → All (IsAmount n) c.amounts-own.result.now
are_amounts c n same =
    subst (λ (m : ℕ). All (IsAmount m) c.amounts-own.result.now) (sym same)
    (subst (λ (l : List Amount). All (IsAmount (use_count c.args.system.now)) l) (sym (own c))
    (c.requires.formed.each forms.Amounts (c.args.i + 1) (omega arith, omega (arith, c.requires.i))).each)

pub put_amounts-requires-clause-within : goal.put_amounts-requires-clause-within
put_amounts-requires-clause-within c =
    let a = (goal.at.put_amounts-requires-clause-within c).After-amounts-own in
    are_amounts a (length c.args.sizes.now) (long a)

pub take_back-requires-clause-within : goal.take_back-requires-clause-within
take_back-requires-clause-within c =
    let a = (goal.at.take_back-requires-clause-within c).After-amounts-own in
    are_amounts a (length c.put_amounts.new.sizes) (c.put_amounts.auto.sizes ∙ long a)

pub judge_moment-requires-clause-sizes : goal.judge_moment-requires-clause-sizes
judge_moment-requires-clause-sizes c =
    let a = (goal.at.judge_moment-requires-clause-sizes c).After-amounts-own in
    let count = use_count c.args.system.now in
    lowered-is count c.args.set.now.base (blocker_at c.args.set.now (c.args.i + 1)).amounts c.args.sizes.now c.put_amounts.new.sizes (long a) (c.put_amounts.auto.sizes ∙ long a)
    (base_told count c.args.set.now.base c.args.sizes.now (c.requires.sizes ∙ c.requires.common.sizes))
    (λ k lt.
    c.put_amounts.ensures.sizes k (omega (arith, lt, long a)) ∙ ap (λ (l : List Amount). amount_or (size_at c.args.sizes.now k) l (k + 1)) (own a))
