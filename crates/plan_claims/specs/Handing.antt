-- No public clause names this.
-- The notes of the last position, and what is left when they are taken from the ends.
use Rattle.std.specs.Prelude.{◌≡◌, ℕ, ◌≤◌, List, ◌++◌, Option}
use Rattle.limits.specs.Limits.{most_total}
use Rattle.mp_system.specs.declared.system.Task.{Task}
use Rattle.side_laws.specs.Segments.{Segment}
use Rattle.sp_terms.specs.declared.position.Position.{Position}
use Rattle.sp_terms.specs.Places.{IsTermAt}
use Rattle.sp_terms.specs.Term.{Term, series, par, Parts, count, IsAllowed}
use Rattle.sp_cuts.specs.declared.notes.SeriesNote.{SeriesNote}
use Rattle.sp_cuts.specs.Notes.{Noted, both_noted, numbers_at, IsNote, IsSeriesNote}
use Rattle.sp_cuts.specs.Stacks.{total_of}
use Rattle.plan_claims.specs.declared.wanted.Wanted.{Wanted}
use Rattle.plan_claims.specs.Wants.{AreHanded}

-- the notes end with those of this term
pub record HasLastTerm (t : Term) (before notes : Noted) : Type 0 where
  pub own : Noted
  pub allowed : IsAllowed t
  pub within : total_of t ≤ most_total
  pub note : IsNote t own
  pub whole : notes ≡ both_noted before own

-- which stands at the position
abbrev pub HasLast : Position → Term → Noted → Noted → Type 0
HasLast position t before notes = IsTermAt position t × HasLastTerm t before notes

abbrev pub HasLastTask : Term → Task → Term → Noted → Noted → Type 0
HasLastTask a v b before notes = HasLastTerm (series a v b) before notes

abbrev pub HasLastPar : ℕ → Parts → Noted → Noted → Type 0
HasLastPar many ts before notes = (count ts ≡ many) × HasLastTerm (par ts) before notes

-- a series, its note, and the segments that were noted with it
pub record IsSeriesReady (a : Term) (v : Task) (b : Term) (n : SeriesNote) (gone : List Segment) : Type 0 where
  pub allowed : IsAllowed (series a v b)
  pub within : total_of (series a v b) ≤ most_total
  pub note : IsSeriesNote (numbers_at a) (numbers_at b) n gone

-- the notes before are left, and what is wanted of the parts stands behind the others
pub record IsHandedDown (t : Term) (before : Noted) (w : Option Wanted) (notes : Noted) (old new : List (Option Wanted)) : Type 0 where
  pub left : notes ≡ before
  pub parts : List (Option Wanted)
  pub behind : new ≡ old ++ parts
  pub handed : AreHanded t w parts
