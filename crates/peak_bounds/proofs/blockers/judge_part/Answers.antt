use Rattle.std.proofs.Common.{◌≡◌, ◌+◌, List, Option, length, ap, sym, ◌∙◌, arith, subst, inl, inr}
use Rattle.std.specs.Prelude.{ℤ, MatchOption}
use Rattle.std.proofs.lemmas.Bool.{cases_lt}
use Rattle.std.proofs.lemmas.List.{with_items_is}
use Rattle.peak_bounds.specs.declared.evidence.BlockerTest.{BlockerTest}
use Rattle.peak_bounds.specs.declared.use_table.UseTable.{UseTable}
use Rattle.peak_bounds.specs.Judging.{AreSpare}
use Rattle.peak_bounds.specs.Judged.{PassesAtMoment, FailsAtMoment}
use Rattle.peak_bounds.proofs.blockers.judge_part.Goals as goal

pub returns-in-Some : goal.returns-in-Some
returns-in-Some c =
    let system = c.args.system.now in
    let set = c.args.set.now in
    let bound = c.args.bound in
    let i = c.loop-i.i in
    let fails = subst (λ (o : Option BlockerTest). MatchOption o (PassesAtMoment system set bound (i + 1)) (λ test. FailsAtMoment system set bound test (i + 1))) c.in-Some.is c.in_ok-found.ensures.found in (
      omega (arith, c.loop-i.auto.i),
      omega (arith, c.loop-i-test.true),
      fails,
      λ k low less. c.loop-i.invariant.passed k low (omega (arith, less)),
    )

same_lists : (uses : UseTable) (sizes new spare left : List ℤ) → sizes ≡ new → spare ≡ left → AreSpare uses new left → AreSpare uses sizes spare
same_lists uses sizes new spare left is spare_is are =
    subst (λ (l : List ℤ). AreSpare uses l spare) (sym is) (subst (λ (l : List ℤ). AreSpare uses new l) (sym spare_is) are)

pub loop-i-preserved : goal.loop-i-preserved
loop-i-preserved c =
    let system = c.args.system.now in
    let set = c.args.set.now in
    let bound = c.args.bound in
    let i = c.loop-i.i in
    let sizes_is =
    with_items_is c.loop-i.sizes c.judge_blocker.new.sizes
    (c.judge_blocker.auto.sizes ∙ ap (λ (l : List ℤ). length l) c.deref_mut.ensures.value ∙ sym c.loop-i.sizes.ok.0) in
    let spare_len = c.judge_blocker.auto.spare ∙ ap (λ (l : List ℤ). length l) c.deref_mut-in-loop-i.ensures.value in
    let spare_is = with_items_is c.loop-i.spare c.judge_blocker.new.spare (spare_len ∙ sym c.loop-i.spare.ok.0) in
    let passes = subst (λ (o : Option BlockerTest). MatchOption o (PassesAtMoment system set bound (i + 1)) (λ test. FailsAtMoment system set bound test (i + 1))) c.in_default.is c.in_ok-found.ensures.found in
    record {
      passed = λ k low high. elim (cases_lt k (i + 1)) [
        | inl before ↦ c.loop-i.invariant.passed k low (omega (arith, before))
        | inr last ↦ subst (PassesAtMoment system set bound) (let e : i + 1 ≡ k = omega (arith, last, high) in e) passes
      ];
      sizes = sizes_is ∙ c.in_ok-found.ensures.sizes;
      spare_len = ap (λ (l : List ℤ). length l) spare_is ∙ spare_len ∙ c.loop-i.invariant.spare_len;
      spare = same_lists c.args.common.now.uses _ c.judge_blocker.new.sizes _ c.judge_blocker.new.spare sizes_is spare_is c.in_ok-found.ensures.spare;
      lengths = c.in_ok-found.ensures.lengths;
    }

pub returns : goal.returns
returns c = λ k low high. c.loop-i.invariant.passed k low (omega (arith, c.loop-i-test.false, high))
