use Rattle.std.proofs.Common.{◌≡◌, ◌≢◌, ◌<◌, length, ℕ, arith, subst, sym, ◌∙◌, ap, [], get_or, inl, inr, set, length-set, List, ◌+◌}
use Rattle.std.proofs.lemmas.Bool.{cases_eq}
use Rattle.patterns.proofs.NumberLists.{place_of}
use Rattle.elimination.specs.Quotients.{at, inner_at}
use Rattle.elimination.proofs.ListWrites.{list_here, list_other}
use Rattle.elimination.proofs.BoundSteps.{at_other, at_here}
use Rattle.elimination.proofs.parts.put_under.Goals as goal

pub loop-part-preserved : goal.loop-part-preserved
loop-part-preserved c =
    let i = c.loop-part.part-index in
    let list = c.args.parts.now in
    let part = get_or list i 0 in
    let inv = c.loop-part.invariant in
    let links = c.loop-part.links in
    let rims = c.loop-part.rims in
    let room = c.requires.links i c.loop-part-test.true in
    let same = c.requires.rims in
    let len = inv.len in
    let lt : part < length links = omega arith in
    let ltr : part < length rims = omega arith in
    record {
      len = length-set rims part c.new.result ∙ inv.len;
      under = λ j l. elim (cases_eq (get_or list j 0) part) [
        | inl e ↦ ap (at (set links part c.args.v)) e ∙ at_here links part c.args.v lt
        | inr ne ↦ at_other links part c.args.v (get_or list j 0) ne ∙ inv.under j (earlier list i j l ne)
      ];
      emptied = λ j l. elim (cases_eq (get_or list j 0) part) [
        | inl e ↦ ap (inner_at (set rims part c.new.result)) e ∙ list_here rims part c.new.result ltr ∙ c.new.ensures.items
        | inr ne ↦ list_other rims part (get_or list j 0) c.new.result ne ∙ inv.emptied j (earlier list i j l ne)
      ];
      others = λ p far. at_other links part c.args.v p (λ e. far i (omega arith) (sym e)) ∙ inv.others p (λ j l. far j (omega arith));
      kept = λ p far. list_other rims part p c.new.result (λ e. far i (omega arith) (sym e)) ∙ inv.kept p (λ j l. far j (omega arith));
    }
  where
    earlier : (list : List ℕ) (i j : ℕ) → j < i + 1 → get_or list j 0 ≢ get_or list i 0 → j < i
    earlier list i j l ne = let other : j ≢ i = λ e. ne (ap (λ z. get_or list z 0) e) in omega arith

pub returns-clause-under : goal.returns-clause-under
returns-clause-under c = λ p h.
    let f = place_of c.args.parts.now p h in
    let lt = f.1 in
    subst (λ z. at c.loop-part.links z ≡ c.args.v) f.2 (c.loop-part.invariant.under f.0 (omega arith))

pub returns-clause-emptied : goal.returns-clause-emptied
returns-clause-emptied c = λ p h.
    let f = place_of c.args.parts.now p h in
    let lt = f.1 in
    subst (λ z. inner_at c.loop-part.rims z ≡ []) f.2 (c.loop-part.invariant.emptied f.0 (omega arith))
