use Rattle.std.proofs.Common.{◌≤◌, ℕ, List, length, sym, subst, ◌∙◌, arith}
use Rattle.std.proofs.lemmas.Bool.{eqb-false, both_ways}
use Rattle.peak_bounds.specs.declared.evidence.Amount.{Amount}
use Rattle.peak_bounds.specs.Evidence.{AreAmounts, use_count}
use Rattle.peak_bounds.proofs.Verdicts.{some_by, formed_by}
use Rattle.peak_bounds.proofs.judging.form_objection.Goals as goal
use Rattle.peak_bounds.proofs.judging.form_objection.Goals.{Else-is_empty, Else-not-are_amounts}

some : (c : Else-is_empty) → 1 ≤ length c.args.set.now.blockers
some c =
    some_by c.args.set.now c.blockers.result.now c.blockers.ensures
    (eqb-false (length c.blockers.result.now) 0 (sym c.is_empty.ensures ∙ c.if-is_empty.false))

base : (c : Else-not-are_amounts) → AreAmounts (use_count c.args.system.now) c.args.set.now.base
base c =
    subst (λ (l : List Amount). AreAmounts (use_count c.args.system.now) l) c.base.ensures
    (subst (λ (n : ℕ). AreAmounts n c.base.result.now) c.requires (c.are_amounts.ensures.0 c.if-not-are_amounts.false))

pub returns-then-not-are_amounts : goal.returns-then-not-are_amounts
returns-then-not-are_amounts c = λ bound. (
  some (goal.at.returns-then-not-are_amounts c).Else-is_empty,
  λ are. both_ways c.are_amounts.result c.if-not-are_amounts.true (c.are_amounts.ensures.1
      (subst (λ (n : ℕ). AreAmounts n c.base.result.now) (sym c.requires)
      (subst (λ (l : List Amount). AreAmounts (use_count c.args.system.now) l) (sym c.base.ensures) are))),
)

pub returns-in-Some : goal.returns-in-Some
returns-in-Some c = λ bound. record {
  some = some (goal.at.returns-in-Some c).Else-is_empty;
  base = base (goal.at.returns-in-Some c).Else-not-are_amounts;
  before = tt;
  first = c.in-Some.ensures bound;
}

pub returns-in-Some-first_unformed : goal.returns-in-Some-first_unformed
returns-in-Some-first_unformed c = λ bound. record {
  some = some (goal.at.returns-in-Some-first_unformed c).Else-is_empty;
  base = base (goal.at.returns-in-Some-first_unformed c).Else-not-are_amounts;
  before = c.in_default.ensures bound;
  first = c.in-Some-first_unformed.ensures bound;
}

pub returns-in-Some-first_unformed-2 : goal.returns-in-Some-first_unformed-2
returns-in-Some-first_unformed-2 c = λ bound. record {
  some = some (goal.at.returns-in-Some-first_unformed-2 c).Else-is_empty;
  base = base (goal.at.returns-in-Some-first_unformed-2 c).Else-not-are_amounts;
  before = (c.in_default.ensures bound, c.in_default-first_unformed.ensures bound);
  first = c.in-Some-first_unformed-2.ensures bound;
}

pub returns : goal.returns
returns c = λ bound.
    formed_by c.args.system.now c.args.set.now bound
    (λ e. absurd (omega (arith, e, some (goal.at.returns c).Else-is_empty))) (base (goal.at.returns c).Else-not-are_amounts)
    (c.in_default.ensures bound) (c.in_default-first_unformed.ensures bound) (c.in_default-first_unformed-2.ensures bound)
