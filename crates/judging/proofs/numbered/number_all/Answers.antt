use Rattle.std.proofs.Common.{◌≡◌, ◌∙◌, ◌+◌, ◌++◌, ◌∷◌, [], List, ℕ, suc, ap, sym, subst, arith, length}
use Rattle.std.specs.List.{range_with_len}
use Rattle.judging.specs.Judged.{AreWithin}
use Rattle.judging.proofs.NumberLemmas.{range_more, range_within}
use Rattle.judging.proofs.numbered.number_all.Goals as goal

pub loop-done-preserved : goal.loop-done-preserved
loop-done-preserved c =
    let done = c.loop-done.done in
    let next : suc done ≡ done + 1 = omega arith in
    c.in_ok-push.ensures.items ∙ ap (λ (ks : List ℕ). ks ++ (done + 1) ∷ []) c.loop-done.invariant
    ∙ sym (range_more 1 done (done + 1) (omega arith)) ∙ ap (range_with_len 1) next

pub returns-clause-within : goal.returns-clause-within
returns-clause-within c =
    let n = length c.args.terms in
    let all : n ≡ c.loop-done.done = omega (arith, c.loop-done.auto.done-end, c.loop-done-test.false, c.len-done-end.ensures.value) in
    subst (AreWithin n) (ap (range_with_len 1) all ∙ sym c.loop-done.invariant) (range_within n)
