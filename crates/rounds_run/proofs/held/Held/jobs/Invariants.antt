use Rattle.std.proofs.Common.{◌≡◌, ℕ, ◌<◌, Bool, length, get_or, take}
use Rattle.rounds_run.specs.declared.front.Job.{Job}
use Rattle.rounds_run.specs.Holding.{Factor, IsFactor, IsHeld, IsJobOf, AreDue, or_in}
use Rattle.rounds_run.proofs.held.Held.jobs.Given as goal

abbrev pub invariant-loop-place : goal.invariant-loop-place
invariant-loop-place l = record {
  long : length l.self.inboxes.items ≡ length l.supers;
  count : length l.jobs.items ≡ l.place;
  held : (f : Factor) (ran : ℕ → Bool) → f.supers ≡ l.supers → IsHeld f ran ran l.fn.self
      → IsHeld f (or_in ran (take l.place l.round)) ran l.self;
  made : (f : Factor) (ran : ℕ → Bool) → IsFactor f → f.supers ≡ l.supers → AreDue f.supers ran l.round
      → IsHeld f ran ran l.fn.self → (i : ℕ) (d : Job) → i < l.place → IsJobOf f (get_or l.round i 0) (get_or l.jobs.items i d);
}
