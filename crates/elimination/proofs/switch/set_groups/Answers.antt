use Rattle.std.proofs.Common.{◌≡◌, inl, inr, get_or, arith, refl, subst, sym, ap, ◌∙◌, IsTrue}
use Rattle.std.proofs.lemmas.Bool.{cases_eq}
use Rattle.patterns.specs.Pattern.{has}
use Rattle.elimination.specs.Quotients.{inner_at}
use Rattle.patterns.proofs.NumberLists.{place_of}
use Rattle.patterns.proofs.NumberLists.{has_at}
use Rattle.elimination.proofs.ListWrites.{list_get}
use Rattle.elimination.proofs.switch.set_groups.Goals as goal
use Rattle.elimination.proofs.switch.set_groups.Goals.{After-deref}

-- the group that is looked at
group_is : (c : After-deref) → c.deref.result.now ≡ inner_at c.args.groups.now (get_or c.args.list.now c.loop-r.r-index 0)
group_is c =
    let r = get_or c.args.list.now c.loop-r.r-index 0 in
    c.deref.ensures.value ∙ ap (λ v. v.items) c.index-groups-r.is
    ∙ list_get c.args.groups.now r c.index-groups-r.result (c.requires.within c.loop-r.r-index (omega arith))

pub loop-r-init : goal.loop-r-init
loop-r-init c = record { len = refl; kept = λ y t. t; from = λ y t. inl t; to = λ j x lt. absurd (omega arith) }

pub set_numbers-requires-clause-within : goal.set_numbers-requires-clause-within
set_numbers-requires-clause-within c = λ j lt.
    let is = group_is (goal.at.set_numbers-requires-clause-within c).After-deref in
    let r = get_or c.args.list.now c.loop-r.r-index 0 in
    let x = get_or c.deref.result.now j 0 in
    c.requires.inner r x (has_at c.args.list.now c.loop-r.r-index (omega arith))
    (subst (λ z. IsTrue (has z x)) is (has_at c.deref.result.now j lt))

pub set_numbers-requires-clause-fit : goal.set_numbers-requires-clause-fit
set_numbers-requires-clause-fit c = λ x.
    let fit = c.requires.fit x in
    let len = c.loop-r.invariant.len in
    omega arith

pub loop-r-preserved : goal.loop-r-preserved
loop-r-preserved c =
    let i = c.loop-r.r-index in
    let r = get_or c.args.list.now c.loop-r.r-index 0 in
    let groups = inner_at c.args.groups.now in
    let inv = c.loop-r.invariant in
    let is = group_is (goal.at.loop-r-preserved c).After-deref in
    record {
      len = c.set_numbers.ensures.len ∙ inv.len;
      kept = λ y t. c.set_numbers.ensures.kept y (inv.kept y t);
      from = λ y t. elim (c.set_numbers.ensures.from y t) [
        | inl t ↦ inv.from y t
        | inr u ↦ inr (r, has_at c.args.list.now i (omega arith), (u.0, subst (λ z. IsTrue (has z u.0)) is u.1, u.2))
      ];
      to = λ j x lt u. elim (cases_eq j i) [
        | inl e ↦ c.set_numbers.ensures.to x (subst (λ z. IsTrue (has z x)) (sym is)
            (subst (λ z. IsTrue (has (groups (get_or c.args.list.now z 0)) x)) e u))
        | inr ne ↦ c.set_numbers.ensures.kept (get_or c.args.numbers.now x 0) (inv.to j x (omega arith) u)
      ];
    }

pub returns-clause-len : goal.returns-clause-len
returns-clause-len c = c.loop-r.invariant.len

pub returns-clause-to : goal.returns-clause-to
returns-clause-to c = λ r x h u.
    let at = place_of c.args.list.now r h in
    let lt = at.1 in
    c.loop-r.invariant.to at.0 x (omega arith) (subst (λ z. IsTrue (has (inner_at c.args.groups.now z) x)) (sym at.2) u)
