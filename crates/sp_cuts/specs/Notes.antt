-- What is noted of the positions of a term, for claims on the terms that end at them: as much as those may ask for of what the planner uses
-- up while it makes the cuts.
-- Source: the exchange argument of J. W. H. Liu, An application of generalized tree pebbling to sparse matrix factorization, 1987.
use Rattle.std.specs.Prelude.{◌≡◌, ℕ, zero, suc, ◌+◌, ◌<◌, ◌≤◌, true, false, if◌then◌else◌, List, [], ◌∷◌, ◌++◌, length, map, ◌⊎◌}
use Rattle.std.specs.List.{AllZip}
use Rattle.side_laws.specs.Segments.{Segment, last_up}
use Rattle.hill_valley.specs.Numbers.{segments_listed, first_down_to}
use Rattle.hill_valley.specs.Side.{profile, run_profile}
use Rattle.sp_terms.specs.declared.position.Position.{Position}
use Rattle.sp_terms.specs.Places.{list_of_parts}
use Rattle.sp_terms.specs.Term.{Term, hold, series, par, Parts, no_parts, part}
use Rattle.sp_terms.specs.Values.{term_at}
use Rattle.cut_laws.specs.Cuts.{Cut}
use Rattle.cut_laws.specs.Names.{Names, NamesOfParts}
use Rattle.cut_laws.specs.TermCuts.{cut_of_term}
use Rattle.sp_cuts.specs.declared.notes.Notes.{Notes}
use Rattle.sp_cuts.specs.declared.notes.PartNote.{PartNote}
use Rattle.sp_cuts.specs.declared.notes.SeriesNote.{SeriesNote}
use Rattle.sp_cuts.specs.declared.parts.Part.{Part}

-- ---- the numbers of a cut: its sides without their tasks, and its memories

pub record CutNumbers : Type 0 where
  pub front : List Segment
  pub back : List Segment
  pub initial : ℕ
  pub fin : ℕ
  pub least : ℕ

abbrev pub cut_numbers : Cut → CutNumbers
cut_numbers c = record { front = run_profile c.front; back = run_profile c.back; initial = c.initial; fin = c.fin; least = c.least }

abbrev pub numbers_of_part : Part → CutNumbers
numbers_of_part p = record { front = profile p.front; back = profile p.back; initial = p.initial; fin = p.fin; least = p.least }

-- a term whose tasks have no names: they do not count here
abbrev mutual
  pub unnamed : (t : Term) → Names t
  unnamed (hold size) = tt
  unnamed (series a v b) = (unnamed a, 0, unnamed b)
  unnamed (par ts) = unnamed_parts ts

  pub unnamed_parts : (ts : Parts) → NamesOfParts ts
  unnamed_parts no_parts = tt
  unnamed_parts (part t ts) = (unnamed t, unnamed_parts ts)

abbrev pub cut_at : Term → Cut
cut_at t = cut_of_term t (unnamed t)

abbrev pub numbers_at : Term → CutNumbers
numbers_at t = cut_numbers (cut_at t)

-- ---- lists of notes

-- of series, of parts side by side, and the segments that are used up
pub record Noted : Type 0 where
  pub series : List SeriesNote
  pub parts : List PartNote
  pub gone : List Segment

abbrev pub noted_in : Notes → Noted
noted_in n = record { series = n.series.items; parts = n.parts.items; gone = segments_listed n.gone.items }

abbrev pub nothing_noted : Noted
nothing_noted = record { series = []; parts = []; gone = [] }

-- the second behind the first
abbrev pub both_noted : Noted → Noted → Noted
both_noted a b = record { series = a.series ++ b.series; parts = a.parts ++ b.parts; gone = a.gone ++ b.gone }

-- ---- a series

-- the cut lies in the first part: backwards, the way goes over the second part, whose front is between, and on along the first one's back
pub record IsCutInFirst (a b : CutNumbers) (n : SeriesNote) (between far : List Segment) : Type 0 where
  pub lower : a.least ≤ b.least
  pub in_first : n.in_first ≡ true
  pub near_up : n.near_up ≡ last_up b.back
  pub near_least : n.near_least ≡ b.least
  pub between_start : n.between_start ≡ b.initial
  pub between_is : between ≡ b.front
  pub far_start : n.far_start ≡ a.fin
  pub far_is : far ≡ first_down_to (b.least + 1) a.fin a.back

-- the cut lies in the second part: forwards, the way goes over the first part, whose back is between, and on along the second one's front
pub record IsCutInSecond (a b : CutNumbers) (n : SeriesNote) (between far : List Segment) : Type 0 where
  pub lower : b.least < a.least
  pub in_first : n.in_first ≡ false
  pub near_up : n.near_up ≡ last_up a.front
  pub near_least : n.near_least ≡ a.least
  pub between_start : n.between_start ≡ a.fin
  pub between_is : between ≡ a.back
  pub far_start : n.far_start ≡ b.initial
  pub far_is : far ≡ first_down_to (a.least + 1) b.initial b.front

-- the note of a series of parts with these numbers, and the segments that were noted with it
pub record IsSeriesNote (a b : CutNumbers) (n : SeriesNote) (gone : List Segment) : Type 0 where
  pub between : List Segment
  pub far : List Segment
  pub gone_is : gone ≡ between ++ far
  pub between_count : n.between ≡ length between
  pub far_count : n.far ≡ length far
  pub cut : IsCutInFirst a b n between far ⊎ IsCutInSecond a b n between far

-- ---- parts side by side

pub record IsPartNote (c : CutNumbers) (n : PartNote) : Type 0 where
  pub least : n.least ≡ c.least
  pub front_up : n.front_up ≡ last_up c.front
  pub back_up : n.back_up ≡ last_up c.back
  pub front_count : n.front ≡ (if n.read then length c.front else 0)
  pub back_count : n.back ≡ (if n.read then length c.back else 0)

abbrev pub ArePartNotes : List CutNumbers → List PartNote → Type 0
ArePartNotes cs ns = AllZip IsPartNote cs ns

-- the segments that are noted with one: of its front and then of its back, if it was read
abbrev pub segments_read : CutNumbers → PartNote → List Segment
segments_read c n = if n.read then c.front ++ c.back else []

abbrev pub all_segments_read : List CutNumbers → List PartNote → List Segment
all_segments_read [] ns = []
all_segments_read (c ∷ cs) [] = []
all_segments_read (c ∷ cs) (n ∷ ns) = segments_read c n ++ all_segments_read cs ns

-- how many parts were not read
abbrev pub unread : List PartNote → ℕ
unread [] = 0
unread (n ∷ ns) = (if n.read then 0 else 1) + unread ns

-- ---- positions

-- the notes of the position at which a term ends
abbrev pub IsNote : Term → Noted → Type 0
IsNote (hold size) own = own ≡ nothing_noted
IsNote (series a v b) own = (n : SeriesNote) × (own.series ≡ n ∷ []) ×
    (own.parts ≡ []) × IsSeriesNote (numbers_at a) (numbers_at b) n own.gone
IsNote (par ts) own =
    (own.series ≡ []) × ArePartNotes (map numbers_at (list_of_parts ts)) own.parts × (unread own.parts ≤ 1)
    × (own.gone ≡ all_segments_read (map numbers_at (list_of_parts ts)) own.parts)

-- the notes of the first k positions: those of a position stand behind those of the positions before it
abbrev pub AreNotesOf : List Position → ℕ → Noted → Type 0
AreNotesOf ps zero notes = notes ≡ nothing_noted
AreNotesOf ps (suc k) notes = (before : Noted) × (own : Noted) × AreNotesOf ps k before ×
    IsNote (term_at ps k) own × (notes ≡ both_noted before own)
