-- Rounds: tasks are activated while one may be; then, while one may start, the first of them in the order starts; then all that run finish,
-- in the order's places; and so on until every task is done. That is the schedule of the activation machine (crate `activation`,
-- `Schedule`) in which each task takes one unit of time and the priority is the order: a round is what starts at one moment.
use Rattle.std.specs.Prelude.{◌≡◌, ◌==◌, ℕ, ◌+◌, Bool, ◌&&◌, if◌then◌else◌, max, List, [], ◌∷◌, length, map, filter, slice_index_or}
use Rattle.activation.specs.declared.events.EventKind.TheVariants.{Start}
use Rattle.activation.specs.declared.events.Event.{Event}
use Rattle.activation.specs.Machine.{Setting, start_state}
use Rattle.activation.specs.Runs.{AreLegal, StaysWithinBound, is_kind}
use Rattle.activation.specs.Schedule.{IsSchedule, first_moment, most_used}

-- whether the event is a start at this moment
abbrev pub is_start_at : ℕ → Event → Bool
is_start_at k e = is_kind Start e.kind && (e.time == k)

-- the tasks that start at this moment, one after the other
abbrev pub started_at : ℕ → List Event → List ℕ
started_at k events = map (λ e. e.task) (filter (is_start_at k) events)

-- the moments up to the last start, from moment 0 on
abbrev pub moments_of : Event → ℕ
moments_of e = if is_kind Start e.kind then e.time + 1 else 0

abbrev pub round_count : List Event → ℕ
round_count [] = 0
round_count (e ∷ es) = max (moments_of e) (round_count es)

-- the lists of what starts at each moment
pub record AreStarts (events : List Event) (rounds : List (List ℕ)) : Type 0 where
  pub many : length rounds ≡ round_count events
  pub each : (k : ℕ) → slice_index_or rounds k [] ≡ started_at k events

-- the rounds of a setting, with the greatest used memory over all states, the first one included
pub record AreRounds (c : Setting) (rounds : List (List ℕ)) (used : ℕ) : Type 0 where
  pub events : List Event
  pub schedule : IsSchedule c c.order (first_moment c) events
  pub starts : AreStarts events rounds
  pub used_is : used ≡ most_used c (start_state c) events
  -- so they are events of the machine, and used memory is within the bound in each state along them
  pub legal : AreLegal c (start_state c) events
  pub stays_within : StaysWithinBound c (start_state c) events
