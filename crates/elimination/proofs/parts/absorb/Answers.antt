use Rattle.std.proofs.Common.{◌≡◌, ℕ, arith, subst, sym, ◌∙◌, IsTrue, false}
use Rattle.patterns.specs.Pattern.{has}
use Rattle.elimination.proofs.ListWrites.{list_here, list_other}
use Rattle.elimination.proofs.BoundSteps.{at_other, at_here}
use Rattle.elimination.proofs.parts.absorb.Goals as goal

pub returns : goal.returns
returns c =
    let v = c.args.v in
    let links = c.put_under.new.links in
    let rims = c.put_under.new.rims in
    let put = c.put_under.ensures in
    let inside : (p : ℕ) → IsTrue (has c.args.hood.now.touched.items p) → IsTrue (has c.deref.result.now p) =
    λ p h. subst (λ z. IsTrue (has z p)) (sym c.deref.ensures.value) h in
    let outside : (p : ℕ) → has c.args.hood.now.touched.items p ≡ false → has c.deref.result.now p ≡ false =
    λ p h. subst (λ z. has z p ≡ false) (sym c.deref.ensures.value) h in
    record {
      own = at_here links v v (omega arith);
      under = λ p ne h. at_other links v v p ne ∙ put.under p (inside p h);
      others = λ p ne h. at_other links v v p ne ∙ put.others p (outside p h);
      made = list_here rims v c.in_ok-rims.field-0 (omega arith) ∙ c.in_ok-rims.ensures.items ∙ c.deref-2.ensures.value;
      emptied = λ p ne h. list_other rims v p c.in_ok-rims.field-0 ne ∙ put.emptied p (inside p h);
      kept = λ p ne h. list_other rims v p c.in_ok-rims.field-0 ne ∙ put.kept p (outside p h);
    }
