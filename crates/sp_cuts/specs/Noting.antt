-- No public clause names this.
-- What is noted before the parts of a position's term are used up.
use Rattle.std.specs.Prelude.{◌≡◌, ℕ, ◌+◌, ◌≤◌, Bool, List, [], ◌∷◌, map, reverse, Some}
use Rattle.limits.specs.Limits.{most_total}
use Rattle.side_laws.specs.Segments.{Segment, net_sum}
use Rattle.hill_valley.specs.Side.{profile}
use Rattle.sp_terms.specs.declared.position.Position.{Position}
use Rattle.sp_terms.specs.Postfix.{push}
use Rattle.sp_terms.specs.Term.{Term}
use Rattle.sp_terms.specs.Values.{last_term}
use Rattle.sp_cuts.specs.declared.notes.PartNote.{PartNote}
use Rattle.sp_cuts.specs.declared.notes.SeriesNote.{SeriesNote}
use Rattle.sp_cuts.specs.declared.parts.Part.{Part}
use Rattle.sp_cuts.specs.Notes.{Noted, both_noted, numbers_of_part, IsSeriesNote, IsPartNote, ArePartNotes, segments_read}
use Rattle.sp_cuts.specs.Notes.{all_segments_read, unread, IsNote}
use Rattle.sp_cuts.specs.Stacks.{ArePiled}

-- both sides lead down to the least memory
pub record LeadsDown (p : Part) : Type 0 where
  pub front : net_sum (profile p.front) + p.least ≡ p.initial
  pub back : net_sum (profile p.back) + p.least ≡ p.fin
  pub within : p.initial ≤ most_total

-- ---- these stand behind what was noted before

abbrev pub NotesSeries : Part → Part → Noted → Noted → Type 0
NotesSeries a b old new = (n : SeriesNote) × (gone : List Segment) × IsSeriesNote (numbers_of_part a) (numbers_of_part b) n gone
    × (new ≡ both_noted old (record { series = n ∷ []; parts = []; gone = gone }))

abbrev pub NotesPart : Part → Bool → Noted → Noted → Type 0
NotesPart p read old new = (n : PartNote) × (n.read ≡ read) × IsPartNote (numbers_of_part p) n
    × (new ≡ both_noted old (record { series = []; parts = n ∷ []; gone = segments_read (numbers_of_part p) n }))

abbrev pub NotesParts : List Part → Noted → Noted → Type 0
NotesParts parts old new = (ns : List PartNote) × ArePartNotes (map numbers_of_part parts) ns × (unread ns ≤ 1)
    × (new ≡ both_noted old (record { series = []; parts = ns; gone = all_segments_read (map numbers_of_part parts) ns }))

-- those of the term that the position leaves on top of the stack
abbrev pub NotesPosition : List Part → Position → Noted → Noted → Type 0
NotesPosition parts position old new = (lists : List (List ℕ)) (st st' : List Term) → ArePiled lists st (reverse parts) →
    push position st ≡ Some st'
    → (own : Noted) × IsNote (last_term st') own × (new ≡ both_noted old own)
