use Rattle.std.proofs.Common.{◌≡◌, ℕ, List, [], length, sym, ap, subst, ◌∙◌, ◌<◌, arith}
use Rattle.std.proofs.lemmas.List.{same_lists, get_or_default}
use Rattle.activation.specs.declared.events.Event.{Event}
use Rattle.activation.specs.Machine.{start_state}
use Rattle.activation.specs.Schedule.{most_used}
use Rattle.rounds_run.specs.Rounds.{AreStarts}
use Rattle.rounds_run.proofs.laws.one_list_of_rounds.Goals as goal

same_starts : (events : List Event) (one two : List (List ℕ)) → AreStarts events one → AreStarts events two → one ≡ two
same_starts events one two first second =
    same_lists one two (first.many ∙ sym second.many) (λ k d lt.
    let in_two = omega_lt events one two first second k lt in
    get_or_default one k d [] lt ∙ first.each k ∙ sym (second.each k) ∙ sym (get_or_default two k d [] in_two))
  where
    omega_lt : (events : List Event) (one two : List (List ℕ)) → AreStarts events one
        → AreStarts events two → (k : ℕ) → k < length one → k < length two
    omega_lt events one two first second k lt = omega (arith, first.many, second.many, lt)

pub returns-clause-rounds : goal.returns-clause-rounds
returns-clause-rounds c = λ setting one two used more is each first second.
    let same = c.schedule_law.ensures.one setting is setting.order each first.events second.events first.schedule second.schedule in
    same_starts second.events one two (subst (λ z. AreStarts z one) same first.starts) second.starts

pub returns-clause-used : goal.returns-clause-used
returns-clause-used c = λ setting one two used more is each first second.
    let same = c.schedule_law.ensures.one setting is setting.order each first.events second.events first.schedule second.schedule in
    first.used_is ∙ ap (most_used setting (start_state setting)) same ∙ sym second.used_is
