-- What is noted of the parts on top of the stack, and of all positions one after the other.
use Rattle.std.proofs.Common.{◌≡◌, ℕ, suc, ◌+◌, ◌-◌, ◌<◌, ◌≤◌, ◌⊎◌, inl, inr, Bool, true, false, not, nat_eq, refl}
use Rattle.std.proofs.Common.{ap, sym, subst, ◌∙◌, arith, List, [], ◌∷◌, ◌++◌, append_assoc, append-nil, length, length-drop}
use Rattle.std.proofs.Common.{take-append-drop, map, take, drop, get_or, reverse, Option, Some, None}
use Rattle.std.specs.Prelude.{if◌then◌else◌, option_and_then}
use Rattle.std.specs.List.{AllByRecursion}
use Rattle.std.proofs.lemmas.Bool.Decides.{nat_tests}
use Rattle.std.proofs.lemmas.List.{map-append, drop_more, take_more, take_all}
use Rattle.side_laws.specs.Segments.{Segment, last_up}
use Rattle.hill_valley.specs.declared.numbers.Numbers.{Numbers}
use Rattle.hill_valley.specs.Numbers.{segments_listed, first_down_to}
use Rattle.hill_valley.specs.Side.{profile, run_profile, runs_of}
use Rattle.segment_merge.specs.Laws.{SideLaws}
use Rattle.sp_terms.specs.declared.position.Position.{Position}
use Rattle.sp_terms.specs.declared.position.Position.TheVariants.{Hold, Par}
use Rattle.sp_terms.specs.declared.position.Position.TheVariants as at
use Rattle.sp_terms.specs.Places.{list_of_parts}
use Rattle.sp_terms.specs.Postfix.{gather, push, push_all}
use Rattle.sp_terms.specs.SystemOfTerm.{task_count}
use Rattle.sp_terms.specs.Term.{Term, hold, par, Parts, no_parts, part}
use Rattle.sp_terms.specs.Values.{IsTerms, term_at, last_term, stack_from}
use Rattle.cut_laws.specs.Names.{numbered}
use Rattle.sp_cuts.specs.declared.notes.PartNote.{PartNote}
use Rattle.sp_cuts.specs.declared.notes.SeriesNote.{SeriesNote}
use Rattle.sp_cuts.specs.declared.parts.Part.{Part}
use Rattle.sp_cuts.specs.Notes.{CutNumbers, cut_numbers, numbers_of_part, numbers_at, unnamed, Noted, nothing_noted, both_noted}
use Rattle.sp_cuts.specs.Notes.{IsSeriesNote, IsPartNote, ArePartNotes, segments_read, all_segments_read, unread, IsNote, AreNotesOf}
use Rattle.sp_cuts.specs.Noting.{LeadsDown, NotesSeries, NotesPart, NotesParts, NotesPosition}
use Rattle.sp_cuts.specs.Splits.{IsRough, AreRough}
use Rattle.sp_cuts.specs.Stacks.{IsPartOf, ArePiled, ArePartsOf, PositionReady, stack_tasks}
use Rattle.sp_cuts.proofs.Kept.{within}
use Rattle.sp_cuts.proofs.Pushed.{Standing, one_on}
use Rattle.sp_cuts.proofs.Stacked.{stack_length, many_fit, par_taken, two_tops, all_rough}
use Rattle.lists.proofs.Options.{some_same}
use Rattle.lists.proofs.Options.{none_some}
use Rattle.sp_cuts.proofs.Unnamed.{same_numbers}

-- ---- lists of notes

abbrev pub lists : List SeriesNote → List PartNote → List Segment → Noted
lists ss ps gone = record { series = ss; parts = ps; gone = gone }

pub same_lists : (s s' : List SeriesNote) (p p' : List PartNote) (g g' : List Segment)
    → s ≡ s' → p ≡ p' → g ≡ g' → lists s p g ≡ lists s' p' g'
same_lists s s' p p' g g' es ep eg = rw (es, ep, eg) refl

pub nothing_more : (n : Noted) → n ≡ both_noted n nothing_noted
nothing_more n = same_lists n.series (n.series ++ []) n.parts (n.parts ++ []) n.gone
    (n.gone ++ []) (sym (append-nil n.series)) (sym (append-nil n.parts)) (sym (append-nil n.gone))

more_twice : (a b c : Noted) → both_noted (both_noted a b) c ≡ both_noted a (both_noted b c)
more_twice a b c =
    same_lists ((a.series ++ b.series) ++ c.series) (a.series ++ (b.series ++ c.series)) ((a.parts ++ b.parts) ++ c.parts)
    (a.parts ++ (b.parts ++ c.parts)) ((a.gone ++ b.gone) ++ c.gone) (a.gone ++ (b.gone ++ c.gone))
    (append_assoc a.series b.series c.series) (append_assoc a.parts b.parts c.parts) (append_assoc a.gone b.gone c.gone)

-- ---- a side

all_step : (level : ℕ) (s : Segment) (ss : List Segment) → first_down_to 0 (level - s.net) ss ≡ ss → first_down_to 0 level (s ∷ ss) ≡ s ∷ ss
all_step level s ss h = grind (arith, nat_tests)

-- a side has no segment that starts below 0
pub all_of_side : (level : ℕ) (ss : List Segment) → first_down_to 0 level ss ≡ ss
all_of_side level [] = refl
all_of_side level (s ∷ ss) = all_step level s ss (all_of_side (level - s.net) ss)

pub leads_down : SideLaws → (ropes : List (List ℕ)) (p : Part) → IsRough ropes p → LeadsDown p
leads_down laws ropes p h =
    let w = within laws ropes p h.both in
    let s = w.start in
    let b = h.bound in
    let m = h.within in
    record { front = w.front_net; back = w.back_net; within = omega arith }

all_lead_down : SideLaws → (ropes : List (List ℕ)) (ps : List Part) → AreRough ropes ps → AllByRecursion LeadsDown ps
all_lead_down laws ropes [] h = tt
all_lead_down laws ropes (p ∷ ps) h = (leads_down laws ropes p h.0, all_lead_down laws ropes ps h.1)

-- ---- a series

module _ (a b : Part) (between far : ℕ) (ss ss' : List SeriesNote) (ps : List PartNote) (g0 g1 g2 : List Numbers) (up : ℕ) where
  pub noted_in_first : a.least ≤ b.least
      → between ≡ length (first_down_to 0 b.initial (profile b.front))
      → segments_listed g1 ≡ segments_listed g0 ++ first_down_to 0 b.initial (profile b.front)
      → far ≡ length (first_down_to (b.least + 1) a.fin (profile a.back))
      → segments_listed g2 ≡ segments_listed g1 ++ first_down_to (b.least + 1) a.fin (profile a.back)
      → up ≡ last_up (profile b.back)
      → ss' ≡ ss ++ record {
        in_first = true;
        near_up = up;
        near_least = b.least;
        between_start = b.initial;
        far_start = a.fin;
        between = between;
        far = far;
      } ∷ []
      → NotesSeries a b (lists ss ps (segments_listed g0)) (lists ss' ps (segments_listed g2))
  noted_in_first le n1 e1 n2 e2 u put =
      let first : List Segment = first_down_to 0 b.initial (profile b.front) in
      let second : List Segment = first_down_to (b.least + 1) a.fin (profile a.back) in (
        record {
          in_first = true;
          near_up = up;
          near_least = b.least;
          between_start = b.initial;
          far_start = a.fin;
          between = between;
          far = far;
        },
        first ++ second,
        record {
          between = first;
          far = second;
          gone_is = refl;
          between_count = n1;
          far_count = n2;
          cut = inl (record {
            lower = le;
            in_first = refl;
            near_up = u;
            near_least = refl;
            between_start = refl;
            between_is = all_of_side b.initial (profile b.front);
            far_start = refl;
            far_is = refl;
          });
        },
        same_lists _ _ _ _ _ _ put (sym (append-nil ps))
            (e2 ∙ ap (λ (l : List Segment). l ++ second) e1 ∙ append_assoc (segments_listed g0) first second),
      )

  pub noted_in_second : b.least < a.least
      → between ≡ length (first_down_to 0 a.fin (profile a.back))
      → segments_listed g1 ≡ segments_listed g0 ++ first_down_to 0 a.fin (profile a.back)
      → far ≡ length (first_down_to (a.least + 1) b.initial (profile b.front))
      → segments_listed g2 ≡ segments_listed g1 ++ first_down_to (a.least + 1) b.initial (profile b.front)
      → up ≡ last_up (profile a.front)
      → ss' ≡ ss ++ record {
        in_first = false;
        near_up = up;
        near_least = a.least;
        between_start = a.fin;
        far_start = b.initial;
        between = between;
        far = far;
      } ∷ []
      → NotesSeries a b (lists ss ps (segments_listed g0)) (lists ss' ps (segments_listed g2))
  noted_in_second lt n1 e1 n2 e2 u put =
      let first : List Segment = first_down_to 0 a.fin (profile a.back) in
      let second : List Segment = first_down_to (a.least + 1) b.initial (profile b.front) in (
        record {
          in_first = false;
          near_up = up;
          near_least = a.least;
          between_start = a.fin;
          far_start = b.initial;
          between = between;
          far = far;
        },
        first ++ second,
        record {
          between = first;
          far = second;
          gone_is = refl;
          between_count = n1;
          far_count = n2;
          cut = inr (record {
            lower = lt;
            in_first = refl;
            near_up = u;
            near_least = refl;
            between_start = refl;
            between_is = all_of_side a.fin (profile a.back);
            far_start = refl;
            far_is = refl;
          });
        },
        same_lists _ _ _ _ _ _ put (sym (append-nil ps))
            (e2 ∙ ap (λ (l : List Segment). l ++ second) e1 ∙ append_assoc (segments_listed g0) first second),
      )

-- ---- a part of parts side by side

if_read : {A : Type 0} (read : Bool) (x y z : A) → read ≡ true → z ≡ x → z ≡ (if read then x else y)
if_read read x y z is e = rw is e

pub all_counted : (read : Bool) (n level : ℕ) (side : List Segment) → read ≡ true
    → n ≡ length (first_down_to 0 level side) → n ≡ (if read then length side else 0)
all_counted read n level side is e = if_read read (length side) 0 n is (e ∙ ap length (all_of_side level side))

pub all_put : (read : Bool) (front back : ℕ) (first second : List Segment) (g0 g1 g2 : List Segment)
    → read ≡ true → g1 ≡ g0 ++ first_down_to 0 front first → g2 ≡ g1 ++ first_down_to 0 back second
    → g2 ≡ g0 ++ (if read then first ++ second else [])
all_put read front back first second g0 g1 g2 is e f =
    rw is
    (f ∙ ap (λ (l : List Segment). g1 ++ l) (all_of_side back second)
    ∙ ap (λ (l : List Segment). l ++ second) (e ∙ ap (λ (l : List Segment). g0 ++ l) (all_of_side front first))
    ∙ append_assoc g0 first second)

-- ---- all of them

notes_snoc : (cs : List CutNumbers) (c : CutNumbers) (ns : List PartNote) (n : PartNote)
    → ArePartNotes cs ns → IsPartNote c n → ArePartNotes (cs ++ c ∷ []) (ns ++ n ∷ [])
notes_snoc [] c [] n h one = (one, tt)
notes_snoc [] c (m ∷ ns) n h one = absurd h
notes_snoc (d ∷ cs) c [] n h one = absurd h
notes_snoc (d ∷ cs) c (m ∷ ns) n h one = (h.0, notes_snoc cs c ns n h.1 one)

segments_snoc : (cs : List CutNumbers) (c : CutNumbers) (ns : List PartNote) (n : PartNote) → ArePartNotes cs ns
    → all_segments_read (cs ++ c ∷ []) (ns ++ n ∷ []) ≡ all_segments_read cs ns ++ segments_read c n
segments_snoc [] c [] n h = append-nil (segments_read c n)
segments_snoc [] c (m ∷ ns) n h = absurd h
segments_snoc (d ∷ cs) c [] n h = absurd h
segments_snoc (d ∷ cs) c (m ∷ ns) n h =
    ap (λ (l : List Segment). segments_read d m ++ l) (segments_snoc cs c ns n h.1)
    ∙ sym (append_assoc (segments_read d m) (all_segments_read cs ns) (segments_read c n))

unread_snoc : (ns : List PartNote) (n : PartNote) → unread (ns ++ n ∷ []) ≡ unread ns + (if n.read then 0 else 1)
unread_snoc [] n = omega arith
unread_snoc (m ∷ ns) n = omega (arith, unread_snoc ns n)

abbrev parts_noted : List Part → List PartNote → Noted
parts_noted ps ns = lists [] ns (all_segments_read (map numbers_of_part ps) ns)

-- the first i parts are noted, all but that at `most`
pub record SoFar (ps : List Part) (most i : ℕ) (old now : Noted) : Type 0 where
  pub ns : List PartNote
  pub each : ArePartNotes (map numbers_of_part (take i ps)) ns
  pub none : i ≤ most → unread ns ≡ 0
  pub one : unread ns ≤ 1
  pub told : now ≡ both_noted old (parts_noted (take i ps) ns)

pub so_far_starts : (ps : List Part) (most : ℕ) (old : Noted) → SoFar ps most 0 old old
so_far_starts ps most old = record { ns = []; each = tt; none = λ le. refl; one = omega arith; told = nothing_more old }

-- whether one more was left unread
abbrev left_unread : Bool → ℕ
left_unread read = if read then 0 else 1

record LeftUnread (read : Bool) (i most : ℕ) : Type 0 where
  before : i < most → left_unread read ≡ 0
  behind : most < i → left_unread read ≡ 0
  one : left_unread read ≤ 1

left_unread_at : (x : Bool) (i most : ℕ) → nat_eq i most ≡ x → LeftUnread (not x) i most
left_unread_at true i most h = record { before = λ lt. absurd (less lt); behind = λ lt. absurd (more lt); one = omega arith }
  where
    less : i < most → ⊥
    less lt = grind (arith, nat_tests)

    more : most < i → ⊥
    more lt = grind (arith, nat_tests)
left_unread_at false i most h = record { before = λ lt. refl; behind = λ lt. refl; one = omega arith }

pub so_far_on : (ps : List Part) (most i : ℕ) (old now now' : Noted) (p : Part) → SoFar ps most i old now
    → i < length ps → p ≡ get_or ps i p → NotesPart p (not (nat_eq i most)) now now' → SoFar ps most (i + 1) old now'
so_far_on ps most i old now now' p s lt here (n, read, note, more) =
    let c : CutNumbers = numbers_of_part p in
    let cs : List CutNumbers = map numbers_of_part (take i ps) in
    let next : take (i + 1) ps ≡ take i ps ++ p ∷ [] = take_more ps i p lt ∙ ap (λ (x : Part). take i ps ++ x ∷ []) (sym here) in
    let cuts : map numbers_of_part (take (i + 1) ps) ≡ cs ++ c ∷ [] =
    ap (map numbers_of_part) next ∙ map-append numbers_of_part (take i ps) (p ∷ []) in
    let u = unread_snoc s.ns n in
    let r : LeftUnread n.read i most = subst (λ (x : Bool). LeftUnread x i most) (sym read) (left_unread_at (nat_eq i most) i most refl) in
    record {
      ns = s.ns ++ n ∷ [];
      each = subst (λ (l : List CutNumbers). ArePartNotes l (s.ns ++ n ∷ [])) (sym cuts) (notes_snoc cs c s.ns n s.each note);
      none = λ le. let z = s.none (omega arith) in let y = r.before (omega arith) in omega arith;
      one = some (lt_or_le most i) u r;
      told = more ∙ ap (λ (x : Noted). both_noted x (lists [] (n ∷ []) (segments_read c n))) s.told
          ∙ more_twice old (parts_noted (take i ps) s.ns) (lists [] (n ∷ []) (segments_read c n))
          ∙ ap (λ (l : List Segment). both_noted old (lists [] (s.ns ++ n ∷ []) l)) (sym (segments_snoc cs c s.ns n s.each))
          ∙ ap (λ (l : List CutNumbers). both_noted old (lists [] (s.ns ++ n ∷ []) (all_segments_read l (s.ns ++ n ∷ [])))) (sym cuts);
    }
  where
    lt_or_le : (m k : ℕ) → (m < k) ⊎ (k ≤ m)
    lt_or_le m k = grind arith

    some : (most < i) ⊎ (i ≤ most) → unread (s.ns ++ n ∷ []) ≡ unread s.ns + left_unread n.read
        → LeftUnread n.read i most → unread (s.ns ++ n ∷ []) ≤ 1
    some (inl less) u r = let z = r.behind less in let one = s.one in omega arith
    some (inr more) u r = let z = s.none more in let le = r.one in omega arith

pub so_far_ends : (ps : List Part) (most i : ℕ) (old now : Noted) → SoFar ps most i old now → length ps ≤ i → NotesParts ps old now
so_far_ends ps most i old now s le =
    let e = take_all i ps le in (
      s.ns,
      subst (λ (l : List Part). ArePartNotes (map numbers_of_part l) s.ns) e s.each,
      s.one,
      subst (λ (l : List Part). now ≡ both_noted old (parts_noted l s.ns)) e s.told,
    )

-- ---- the term of a position

module _ (laws : SideLaws) where
  same_five : (f f' b b' : List Segment) (i e l : ℕ) → f ≡ f' → b ≡ b'
      → ◌≡◌ {A = CutNumbers} (record { front = f; back = b; initial = i; fin = e; least = l })
      (record { front = f'; back = b'; initial = i; fin = e; least = l })
  same_five f f' b b' i e l p q = rw (p, q) refl

  pub part_numbers : (ropes : List (List ℕ)) (base : ℕ) (t : Term) (p : Part) → IsPartOf ropes base t p → numbers_of_part p ≡ numbers_at t
  part_numbers ropes base t p h =
      same_five (profile p.front) (run_profile (runs_of ropes p.front)) (profile p.back) (run_profile (runs_of ropes p.back))
      p.initial p.fin p.least (sym (laws.runs.profile ropes p.front)) (sym (laws.runs.profile ropes p.back))
      ∙ ap cut_numbers h.cut ∙ same_numbers laws t (numbered base t) (unnamed t)

  parts_numbers : (ropes : List (List ℕ)) (base : ℕ) (ts : Parts) (ps : List Part)
      → ArePartsOf ropes base ts ps → map numbers_of_part ps ≡ map numbers_at (list_of_parts ts)
  parts_numbers ropes base no_parts [] h = refl
  parts_numbers ropes base no_parts (p ∷ ps) h = absurd h
  parts_numbers ropes base (part t ts) [] h = absurd h
  parts_numbers ropes base (part t ts) (p ∷ ps) h =
      rw (part_numbers ropes base t p h.0, parts_numbers ropes (base + task_count t) ts ps h.1) refl

  -- ---- a data item

  hold_go : (items : List Part) (size : ℕ) (old : Noted) → NotesPosition items (Hold size) old old
  hold_go items size old ropes st st' piled pushed =
      let e : hold size ∷ st ≡ st' = some_same pushed in
      (nothing_noted, subst (λ (l : List Term). IsNote (last_term l) nothing_noted) e refl, nothing_more old)

  pub hold_noted : (items : List Part) (position : Position) (size : ℕ) (old : Noted)
      → position ≡ Hold size → NotesPosition items position old old
  hold_noted items position size old is = subst (λ (x : Position). NotesPosition items x old old) (sym is) (hold_go items size old)

  -- ---- a task

  two_last : (items : List Part) (pa pb : Part) → 2 ≤ length items
      → pa ≡ get_or items (length items - 1 - 1) pa → pb ≡ get_or items (length items - 1) pb
      → items ≡ (take (length items - 2) items ++ pa ∷ []) ++ pb ∷ []
  two_last items pa pb le ea eb =
      let k : ℕ = length items - 2 in
      let n1 : length items - 1 - 1 ≡ k = omega arith in
      let n2 : length items - 1 ≡ k + 1 = omega arith in
      let ha : pa ≡ get_or items k pa = ea ∙ ap (λ (m : ℕ). get_or items m pa) n1 in
      let hb : pb ≡ get_or items (k + 1) pb = eb ∙ ap (λ (m : ℕ). get_or items m pb) n2 in
      let d1 : drop k items ≡ pa ∷ drop (k + 1) items =
      drop_more items k pa (omega arith) ∙ ap (λ (x : Part). x ∷ drop (k + 1) items) (sym ha) in
      let d2 : drop (k + 1) items ≡ pb ∷ drop (k + 1 + 1) items =
      drop_more items (k + 1) pb (omega arith) ∙ ap (λ (x : Part). x ∷ drop (k + 1 + 1) items) (sym hb) in
      let d3 : drop (k + 1 + 1) items ≡ [] = none (drop (k + 1 + 1) items) (length-drop (k + 1 + 1) items ∙ omega arith) in
      sym (take-append-drop k items)
      ∙ ap (λ (l : List Part). take k items ++ l) (d1 ∙ ap (λ (l : List Part). pa ∷ l) (d2 ∙ ap (λ (l : List Part). pb ∷ l) d3))
      ∙ sym (append_assoc (take k items) (pa ∷ []) (pb ∷ []))
    where
      none : (l : List Part) → length l ≡ 0 → l ≡ []
      none [] e = refl
      none (x ∷ l) e = absurd (omega arith)

  module _ (items : List Part) (pa pb : Part) (le : 2 ≤ length items)
      (ea : pa ≡ get_or items (length items - 1 - 1) pa) (eb : pb ≡ get_or items (length items - 1) pb) where
    low : List Part
    low = take (length items - 2) items

    task_go : (extra share time : ℕ) (old new : Noted) → NotesSeries pa pb old new → NotesPosition items (at.Task extra share time) old new
    unfolding low
    task_go extra share time old new h ropes [] st' piled pushed = absurd (none_some pushed)
    task_go extra share time old new h ropes (b ∷ []) st' piled pushed = absurd (none_some pushed)
    task_go extra share time old new (n, gone, note, put) ropes (b ∷ a ∷ st) st' piled pushed =
        let t = two_tops ropes st a b items (take (length items - 2) items ++ pa ∷ [])
        (take (length items - 2) items) pa pb piled (two_last items pa pb le ea eb) refl in
        let na = part_numbers ropes (suc (stack_tasks st)) a pa t.first in
        let nb = part_numbers ropes (suc (stack_tasks st) + task_count a) b pb t.second in
        let one : IsSeriesNote (numbers_at a) (numbers_of_part pb) n gone =
        subst (λ (c : CutNumbers). IsSeriesNote c (numbers_of_part pb) n gone) na note in
        let two : IsSeriesNote (numbers_at a) (numbers_at b) n gone =
        subst (λ (c : CutNumbers). IsSeriesNote (numbers_at a) c n gone) nb one in (
          lists (n ∷ []) [] gone,
          subst (λ (l : List Term). IsNote (last_term l) (lists (n ∷ []) [] gone)) (some_same pushed) (n, refl, refl, two),
          put,
        )

    pub task_noted : (position : Position) (extra share time : ℕ) (old new : Noted)
        → position ≡ at.Task extra share time → NotesSeries pa pb old new → NotesPosition items position old new
    task_noted position extra share time old new is h =
        subst (λ (x : Position). NotesPosition items x old new) (sym is) (task_go extra share time old new h)

    two_rough_go : (extra share time next : ℕ) (ropes : List (List ℕ)) (st st' : List Term)
        → ArePiled ropes st (reverse items) → push (at.Task extra share time) st ≡ Some st' → LeadsDown pa × LeadsDown pb
    two_rough_go extra share time next ropes [] st' piled pushed = absurd (none_some pushed)
    two_rough_go extra share time next ropes (b ∷ []) st' piled pushed = absurd (none_some pushed)
    two_rough_go extra share time next ropes (b ∷ a ∷ st) st' piled pushed =
        let t = two_tops ropes st a b items (take (length items - 2) items ++ pa ∷ [])
        (take (length items - 2) items) pa pb piled (two_last items pa pb le ea eb) refl in
        (leads_down laws ropes pa t.first.rough, leads_down laws ropes pb t.second.rough)

    pub two_lead_down : (position : Position) (extra share time next : ℕ) (ropes : List (List ℕ))
        → position ≡ at.Task extra share time → PositionReady ropes items position next → LeadsDown pa × LeadsDown pb
    two_lead_down position extra share time next ropes is r =
        let s = subst (λ (x : Position). PositionReady ropes items x next) is r in
        two_rough_go extra share time next ropes s.st s.st' s.piled s.pushed

  two_go : (items : List Part) (extra share time : ℕ) (ropes : List (List ℕ)) (st st' : List Term)
      → ArePiled ropes st (reverse items) → push (at.Task extra share time) st ≡ Some st' → 2 ≤ length items
  two_go items extra share time ropes [] st' piled pushed = absurd (none_some pushed)
  two_go items extra share time ropes (b ∷ []) st' piled pushed = absurd (none_some pushed)
  two_go items extra share time ropes (b ∷ a ∷ st) st' piled pushed = omega (arith, stack_length ropes (b ∷ a ∷ st) items piled)

  pub two_there : (items : List Part) (position : Position) (extra share time next : ℕ) (ropes : List (List ℕ))
      → position ≡ at.Task extra share time → PositionReady ropes items position next → 2 ≤ length items
  two_there items position extra share time next ropes is r =
      let s = subst (λ (x : Position). PositionReady ropes items x next) is r in
      two_go items extra share time ropes s.st s.st' s.piled s.pushed

  -- ---- parts side by side

  record Gathered (o : Option (Parts × List Term)) (st' : List Term) : Type 0 where
    ts : Parts
    rest : List Term
    is : o ≡ Some (ts, rest)
    pushed : par ts ∷ rest ≡ st'

  gathered : (o : Option (Parts × List Term)) (st' : List Term)
      → option_and_then (λ (p : Parts × List Term). Some (par p.0 ∷ p.1)) o ≡ Some st' → Gathered o st'
  gathered None st' e = absurd (none_some e)
  gathered (Some p) st' e = record { ts = p.0; rest = p.1; is = refl; pushed = some_same e }

  pub many_there : (items : List Part) (position : Position) (many next : ℕ) (ropes : List (List ℕ))
      → position ≡ Par many → PositionReady ropes items position next → many ≤ length items
  many_there items position many next ropes is r =
      let s = subst (λ (x : Position). PositionReady ropes items x next) is r in
      let q = gathered (gather many s.st no_parts) s.st' s.pushed in
      many_fit ropes s.st q.ts q.rest items many q.is s.piled

  -- the slice from a place on
  from_place : (items : List Part) (k : ℕ) → take (length items - k) (drop k items) ≡ drop k items
  from_place items k = take_all (length items - k) (drop k items) (omega (arith, length-drop k items))

  module _ (items : List Part) (many : ℕ) (enough : many ≤ length items) where
    abbrev place : ℕ
    place = length items - many

    abbrev ps : List Part
    ps = take (length items - place) (drop place items)

    n : place + many ≡ length items
    n = omega arith

    d : ps ≡ drop place items
    d = from_place items place

    pub parts_lead_down : (position : Position) (next : ℕ) (ropes : List (List ℕ))
        → position ≡ Par many → PositionReady ropes items position next → AllByRecursion LeadsDown ps
    parts_lead_down position next ropes is r =
        let s = subst (λ (x : Position). PositionReady ropes items x next) is r in
        let q = gathered (gather many s.st no_parts) s.st' s.pushed in
        let t = par_taken ropes s.st q.ts q.rest items (take place items) ps place many q.is s.piled n refl d in
        all_lead_down laws ropes ps (all_rough ropes (suc (stack_tasks q.rest)) q.ts ps t.all)

    par_go : (old new : Noted) → NotesParts ps old new → NotesPosition items (Par many) old new
    par_go old new (ns, each, one, put) ropes st st' piled pushed =
        let q = gathered (gather many st no_parts) st' pushed in
        let t = par_taken ropes st q.ts q.rest items (take place items) ps place many q.is piled n refl d in
        let e = parts_numbers ropes (suc (stack_tasks q.rest)) q.ts ps t.all in
        let own : Noted = lists [] ns (all_segments_read (map numbers_at (list_of_parts q.ts)) ns) in (
          own,
          subst (λ (l : List Term). IsNote (last_term l) own) q.pushed
              (refl, subst (λ (cs : List CutNumbers). ArePartNotes cs ns) e each, one, refl),
          put ∙ ap (λ (cs : List CutNumbers). both_noted old (lists [] ns (all_segments_read cs ns))) e,
        )

    pub par_noted : (position : Position) (old new : Noted) → position ≡ Par many
        → NotesParts ps old new → NotesPosition items position old new
    par_noted position old new is h = subst (λ (x : Position). NotesPosition items x old new) (sym is) (par_go old new h)

-- ---- along the positions

pub noted_on : (ps : List Position) (i : ℕ) (p : Position) (ropes : List (List ℕ)) (items : List Part) (next : ℕ) (old new : Noted)
    → IsTerms ps → Standing ps i ropes items next → i < length ps → get_or ps i p ≡ p
    → AreNotesOf ps i old → NotesPosition items p old new → AreNotesOf ps (i + 1) new
noted_on ps i p ropes items next old new a s lt here notes more =
    let o = one_on ps i p s.st a lt here s.pushed in
    let (own, note, put) = more ropes s.st o.st' s.piled o.pushed in
    let n : i + 1 ≡ suc i = omega arith in
    let e : push_all (take (suc i) ps) [] ≡ Some o.st' = subst (λ (k : ℕ). push_all (take k ps) [] ≡ Some o.st') n o.pushed_all in
    let t : last_term o.st' ≡ term_at ps i = sym (ap (λ (x : Option (List Term)). last_term (stack_from x)) e) in
    subst (λ (k : ℕ). AreNotesOf ps k new) (sym n) (old, own, notes, subst (λ (x : Term). IsNote x own) t note, put)
