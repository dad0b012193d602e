-- The rounds of a trace.
use Rattle.std.proofs.Common.{◌≡◌, ℕ, List, sym, ap, subst, ◌∙◌}
use Rattle.mp_system.specs.System.{TaskSystem}
use Rattle.mp_system.specs.Traversal.{IsTraversal}
use Rattle.shared_systems.specs.Shared.{SharedTaskSystem}
use Rattle.shared_systems.specs.OneReader.{shared_of}
use Rattle.activation.specs.declared.events.Event.{Event}
use Rattle.activation.specs.Machine.{Setting, start_state}
use Rattle.activation.specs.Runs.{AreLegal, StaysWithinBound}
use Rattle.activation.specs.Schedule.{HoldsEach, IsSchedule, first_moment, most_used}
use Rattle.rounds_run.specs.Rounds.{AreStarts, AreRounds}

pub holds_each : (system : SharedTaskSystem) (other : TaskSystem) (order same : List ℕ) → system ≡ shared_of other → order ≡ same
    → IsTraversal other same → HoldsEach system order
holds_each system other order same e f is =
    let here : IsTraversal other order = subst (IsTraversal other) (sym f) is in
    let holds : HoldsEach (shared_of other) order = record { once = here.once; within = here.tasks } in
    subst (λ s. HoldsEach s order) (sym e) holds

pub trace_rounds : (own c : Setting) (priority : List ℕ) (events told : List Event) (rounds : List (List ℕ)) (used : ℕ) → own ≡ c
    → priority ≡ c.order → told ≡ events → IsSchedule own priority (first_moment own) events
    → used ≡ most_used own (start_state own) events → AreLegal own (start_state own) events
    → StaysWithinBound own (start_state own) events → AreStarts told rounds → AreRounds c rounds used
trace_rounds own c priority events told rounds used same order heard schedule used_is legal stays starts = record {
  events = events;
  schedule = subst (λ p. IsSchedule c p (first_moment c) events) order
      (subst (λ z. IsSchedule z priority (first_moment z) events) same schedule);
  starts = subst (λ z. AreStarts z rounds) heard starts;
  used_is = used_is ∙ ap (λ z. most_used z (start_state z) events) same;
  legal = subst (λ z. AreLegal z (start_state z) events) same legal;
  stays_within = subst (λ z. StaysWithinBound z (start_state z) events) same stays;
}
