-- The lists of what starts at each moment, one event later.
use Rattle.std.proofs.Common.{◌≡◌, ℕ, ◌+◌, ◌<◌, ◌≤◌, max, inl, inr, true, false, List, [], ◌∷◌}
use Rattle.std.proofs.Common.{◌++◌, length, get_or, set, refl, sym, ap, subst, ◌∙◌, arith}
use Rattle.std.specs.List.{filter}
use Rattle.std.proofs.lemmas.Bool.{cases_eq, both_ways}
use Rattle.std.proofs.lemmas.List.{length-set, length-map, get_or-set_same, get_or-set_other}
use Rattle.std.proofs.lemmas.List.Sums.{length-filter, count_by-le-length}
use Rattle.activation.specs.declared.events.EventKind.{EventKind}
use Rattle.activation.specs.declared.events.EventKind.TheVariants.{Activate, Start, Finish}
use Rattle.activation.specs.declared.events.Event.{Event}
use Rattle.activation.specs.Runs.{is_kind}
use Rattle.rounds_run.specs.Rounds.{is_start_at, started_at, AreStarts}
use Rattle.rounds_run.proofs.Timely.{round_count_more, activated_same, finished_same, started_more, started_same}

-- an event that is no start
other_kind : (kind : EventKind) (time t : ℕ) → is_kind Start kind ≡ false → (xs : List Event) (rounds : List (List ℕ))
    → AreStarts xs rounds → AreStarts (xs ++ record { time = time; kind = kind; task = t } ∷ []) rounds
other_kind Activate time t other xs rounds is = record {
  many = (let more = round_count_more xs (record { time = time; kind = Activate; task = t }) in omega (arith, is.many, more));
  each = λ k. is.each k ∙ sym (activated_same k time t xs);
}
other_kind Start time t other xs rounds is = absurd (both_ways _ other refl)
other_kind Finish time t other xs rounds is = record {
  many = (let more = round_count_more xs (record { time = time; kind = Finish; task = t }) in omega (arith, is.many, more));
  each = λ k. is.each k ∙ sym (finished_same k time t xs);
}

-- a start: there is a list for its moment, and the task comes to its end
start_kind : (kind : EventKind) (time t : ℕ) → is_kind Start kind ≡ true → (xs : List Event) (rounds reached new : List (List ℕ))
    → AreStarts xs rounds → length reached ≡ max (length rounds) (time + 1)
    → ((k : ℕ) → get_or reached k [] ≡ get_or rounds k []) → new ≡ set reached time (get_or reached time [] ++ t ∷ [])
    → AreStarts (xs ++ record { time = time; kind = kind; task = t } ∷ []) new
start_kind Activate time t start xs rounds reached new is long same written = absurd (both_ways _ refl start)
start_kind Finish time t start xs rounds reached new is long same written = absurd (both_ways _ refl start)
start_kind Start time t start xs rounds reached new is long same written =
    let lt : time < length reached = omega arith in
    record {
      many = (
          let more = round_count_more xs (record { time = time; kind = Start; task = t }) in
          let kept : length new ≡ length reached = ap (λ (z : List (List ℕ)). length z) written
          ∙ length-set reached time (get_or reached time [] ++ t ∷ []) in
          omega (arith, is.many, more, kept, long)
          );
      each = λ k. ap (λ (z : List (List ℕ)). get_or z k []) written ∙ elim (cases_eq time k) [
        | inl e ↦ (
            let at : get_or (set reached time (get_or reached time [] ++ t ∷ [])) time []
            ≡ started_at time (xs ++ record { time = time; kind = Start; task = t } ∷ []) =
            get_or-set_same reached time (get_or reached time [] ++ t ∷ []) [] lt
            ∙ ap (λ z. z ++ t ∷ []) (same time ∙ is.each time) ∙ sym (started_more time t xs) in
            subst (λ z. get_or (set reached time (get_or reached time [] ++ t ∷ [])) z []
            ≡ started_at z (xs ++ record { time = time; kind = Start; task = t } ∷ [])) e at
            )
        | inr ne ↦ get_or-set_other reached time k (get_or reached time [] ++ t ∷ []) [] (λ e. ne (sym e)) ∙ same k ∙ is.each k
            ∙ sym (started_same k time t xs ne)
      ];
    }

pub starts_other : (e : Event) → is_kind Start e.kind ≡ false → (xs : List Event) (rounds : List (List ℕ)) → AreStarts xs rounds
    → AreStarts (xs ++ e ∷ []) rounds
starts_other e other xs rounds is = other_kind e.kind e.time e.task other xs rounds is

pub starts_more : (e : Event) → is_kind Start e.kind ≡ true → (xs : List Event) (rounds reached new : List (List ℕ)) → AreStarts xs rounds
    → length reached ≡ max (length rounds) (e.time + 1) → ((k : ℕ) → get_or reached k [] ≡ get_or rounds k [])
    → new ≡ set reached e.time (get_or reached e.time [] ++ e.task ∷ []) → AreStarts (xs ++ e ∷ []) new
starts_more e start xs rounds reached new is long same written =
    start_kind e.kind e.time e.task start xs rounds reached new is long same written

-- no more tasks start at a moment than there are events
pub started_few : (k : ℕ) (xs : List Event) → length (started_at k xs) ≤ length xs
started_few k xs =
    omega (
      arith,
      length-map (filter (is_start_at k) xs) (λ (e : Event). e.task),
      length-filter (is_start_at k) xs,
      count_by-le-length (is_start_at k) xs,
    )
