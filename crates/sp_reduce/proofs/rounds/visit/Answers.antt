use Rattle.std.proofs.Common.{◌≡◌, Bool, true, false, inl, inr, sym, subst, arith, ◌∙◌}
use Rattle.std.proofs.lemmas.Bool.{cases_eq}
use Rattle.std.proofs.lemmas.List.Sorted.{IsPermutation-refl}
use Rattle.sp_reduce.specs.Reductions.{in_order}
use Rattle.sp_reduce.specs.Work.{links_into, links_out_of, pairs_of, stands}
use Rattle.sp_reduce.proofs.rounds.visit.Goals as goal

not_both : (b : Bool) → b ≡ true → b ≡ false → ⊥
not_both true t h = cc
not_both false t h = cc

pub returns-then-not-is_in_series-clause-row : goal.returns-then-not-is_in_series-clause-row
returns-then-not-is_in_series-clause-row c = in_order (IsPermutation-refl (pairs_of c.args.links.now.list))

pub returns-then-not-is_in_series-clause-noted : goal.returns-then-not-is_in_series-clause-noted
returns-then-not-is_in_series-clause-noted c = λ u low high one_in one_out.
    let list = c.args.links.now.list in
    elim (cases_eq u c.args.task) [
      | inl e ↦ (let yes : c.is_in_series.result ≡ true = c.is_in_series.ensures.1 (
        subst (λ w. links_into w list ≡ 1) e one_in,
        subst (λ w. links_out_of w list ≡ 1) e one_out,
      ) in
          absurd (not_both c.is_in_series.result yes c.if-not-is_in_series.true))
      | inr other ↦ c.requires.noted u low high other one_in one_out
    ]

pub returns-clause-listed : goal.returns-clause-listed
returns-clause-listed c = c.in_ok-note-2.ensures.listed c.args.links.now.tasks c.in_ok-taken.ensures.within.1
    (c.in_ok-note.ensures.listed c.args.links.now.tasks c.in_ok-taken.ensures.within.0 c.requires.listed)

pub returns-clause-carried : goal.returns-clause-carried
returns-clause-carried c =
    λ graph h. c.in_ok-carry.ensures.carried graph c.args.links.now.list c.take_out.new.self.list c.in_ok-taken.ensures.taken h

pub returns-clause-noted : goal.returns-clause-noted
returns-clause-noted c = λ u low high one_in one_out.
    let taken = c.in_ok-taken.taken in
    elim (cases_eq u c.args.task) [
      | inl e ↦
          (let one : links_into c.args.task c.take_out.new.self.list ≡ 1 =
          subst (λ w. links_into w c.take_out.new.self.list ≡ 1) e one_in in
          absurd (omega (arith, one, c.in_ok-taken.ensures.none_in)))
      | inr not_task ↦ elim (cases_eq u taken.to) [
        | inl e ↦ subst (λ w. stands w c.note-2.new.todo.items ≡ true) (sym e) (c.in_ok-note-2.ensures.has (omega (arith, low, e)))
        | inr not_to ↦ c.in_ok-note-2.ensures.keeps u (elim (cases_eq u taken.from) [
          | inl e ↦ subst (λ w. stands w c.note.new.todo.items ≡ true) (sym e) (c.in_ok-note.ensures.has (omega (arith, low, e)))
          | inr not_from ↦ (let same = c.in_ok-taken.ensures.others u not_task not_from not_to in
              c.in_ok-note.ensures.keeps u (c.requires.noted u low high not_task (sym same.0 ∙ one_in) (sym same.1 ∙ one_out)))
        ])
      ]
    ]
