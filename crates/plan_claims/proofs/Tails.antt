-- The notes of the last position, taken from the ends of the lists.
use Rattle.std.proofs.Common.{◌≡◌, ℕ, ◌+◌, ◌-◌, ◌<◌, ◌≤◌, refl, sym, subst, ap, arith, ◌∙◌, List, [], ◌∷◌, ◌++◌}
use Rattle.std.proofs.Common.{append_assoc, append-nil, length, length-append, take, drop, Option, Some, None}
use Rattle.std.proofs.lemmas.List.{take_at, drop_at, take_all}
use Rattle.mp_system.specs.declared.system.Task.{Task}
use Rattle.side_laws.specs.Segments.{Segment}
use Rattle.hill_valley.specs.declared.numbers.Numbers.{Numbers}
use Rattle.hill_valley.specs.Numbers.{segments_listed}
use Rattle.sp_terms.specs.declared.position.Position.{Position}
use Rattle.sp_terms.specs.declared.position.Position.TheVariants.{Par}
use Rattle.sp_terms.specs.declared.position.Position.TheVariants as at
use Rattle.sp_terms.specs.Places.{IsTermAt}
use Rattle.sp_terms.specs.Term.{Term, series, par, Parts}
use Rattle.plans.specs.Plan.{direction_of}
use Rattle.sp_cuts.specs.declared.notes.PartNote.{PartNote}
use Rattle.sp_cuts.specs.declared.notes.SeriesNote.{SeriesNote}
use Rattle.sp_cuts.specs.Notes.{Noted, numbers_at, cut_at, unread, IsSeriesNote, ArePartNotes}
use Rattle.plan_claims.specs.declared.wanted.Wanted.{Wanted}
use Rattle.plan_claims.specs.Below.{LawsBelow}
use Rattle.plan_claims.specs.Handing.{HasLast, HasLastTerm, HasLastTask, HasLastPar, IsSeriesReady, IsHandedDown}
use Rattle.plan_claims.specs.Levels.{counted, HavePlaces, left_over, wanted_each}
use Rattle.plan_claims.specs.Wants.{ShowsIf, AreHanded, none_each}
use Rattle.plan_claims.proofs.Loops.{segments_from, segments_take, segments_length}
use Rattle.plan_claims.proofs.Parted.{numbers, gone_of, none_shown, places_there, counted_is, noted_count, par_handed}
use Rattle.sp_cuts.proofs.Noted.{same_lists, lists}

-- ---- a list taken apart at the length of its first part

module _ {X : Type 0} (xs first second : List X) (whole : xs ≡ first ++ second) (k : ℕ) (n : k ≡ length first) where
  firsts : take k xs ≡ first
  firsts = ap (take k) whole ∙ take_at first second k (sym n)

  seconds : drop k xs ≡ second
  seconds = ap (drop k) whole ∙ drop_at first second k (sym n)

  slice_is : take (length xs - k) (drop k xs) ≡ second
  slice_is = ap (take (length xs - k)) seconds
      ∙ take_all (length xs - k) second (omega (arith, ap (length {A = X}) whole, length-append first second))

-- the same where the second part's length is known
rest_length : {X : Type 0} (xs first second : List X) (n m : ℕ) → xs ≡ first ++ second
    → n ≡ length xs → m ≡ length second → (m ≤ n) × (n - m ≡ length first)
rest_length {X} xs first second n m whole e f =
    let l = ap (length {A = X}) whole ∙ length-append first second in
    (omega arith, omega arith)

-- the last one of a list
snoc_same : {X : Type 0} (xs ys : List X) (x y : X) → xs ++ x ∷ [] ≡ ys ++ y ∷ [] → (xs ≡ ys) × (x ≡ y)
snoc_same [] [] x y e = (refl, head_same e)
  where
    head_same : {X : Type 0} {x y : X} → ◌≡◌ {A = List X} (x ∷ []) (y ∷ []) → x ≡ y
    head_same e = cc
snoc_same {X} [] (z ∷ ys) x y e = let l = ap (length {A = X}) e in let m = length-append ys (y ∷ []) in absurd (omega arith)
snoc_same {X} (z ∷ xs) [] x y e = let l = ap (length {A = X}) e in let m = length-append xs (x ∷ []) in absurd (omega arith)
snoc_same (z ∷ xs) (w ∷ ys) x y e = let r = snoc_same xs ys x y (tail_same e) in (both (head_same e) r.0, r.1)
  where
    head_same : {X : Type 0} {x y : X} {xs ys : List X} → ◌≡◌ {A = List X} (x ∷ xs) (y ∷ ys) → x ≡ y
    head_same e = cc

    tail_same : {X : Type 0} {x y : X} {xs ys : List X} → ◌≡◌ {A = List X} (x ∷ xs) (y ∷ ys) → xs ≡ ys
    tail_same e = cc

    both : {X : Type 0} {x y : X} {xs ys : List X} → x ≡ y → xs ≡ ys → ◌≡◌ {A = List X} (x ∷ xs) (y ∷ ys)
    both p q = λ i. p i ∷ q i

-- ---- a series

module _ (a : Term) (v : Task) (b : Term) (before : Noted) (ss : List SeriesNote) (ps : List PartNote) (gs : List Numbers)
    (x : HasLastTask a v b before (lists ss ps (segments_listed gs))) where
  some_series : 0 < length ss
  some_series =
      let l = ap (λ (n : Noted). length n.series) x.whole in
      let m = ap (length {A = SeriesNote}) x.note.1 in
      omega (arith, length-append before.series x.own.series)

  pub no_series : length ss ≡ 0 → ⊥
  no_series e = let s = some_series in absurd (omega arith)

  module _ (ss' : List SeriesNote) (n : SeriesNote) (last : ss ≡ ss' ++ n ∷ []) where
    taken : (ss' ≡ before.series) × (n ≡ x.note.0)
    taken = snoc_same ss' before.series n x.note.0
        (sym last ∙ ap (λ (m : Noted). m.series) x.whole ∙ ap (λ (l : List SeriesNote). before.series ++ l) x.note.1)

    noted : IsSeriesNote (numbers_at a) (numbers_at b) n x.own.gone
    noted = subst (λ (m : SeriesNote). IsSeriesNote (numbers_at a) (numbers_at b) m x.own.gone) (sym taken.1) x.note.3

    own_count : n.between + n.far ≡ length x.own.gone
    own_count = let f = noted.between_count in
        let s = noted.far_count in
        omega (arith, ap (length {A = Segment}) noted.gone_is, length-append noted.between noted.far)

    gone_whole : segments_listed gs ≡ before.gone ++ x.own.gone
    gone_whole = ap (λ (m : Noted). m.gone) x.whole

    module _ (len : ℕ) (long : len ≡ length gs) where
      rest_count : (n.between + n.far ≤ len) × (len - (n.between + n.far) ≡ length before.gone)
      rest_count = rest_length (segments_listed gs) before.gone x.own.gone len
          (n.between + n.far) gone_whole (long ∙ sym (segments_length gs)) own_count

      pub own_there : n.between + n.far ≤ len
      own_there = rest_count.0

      pub series_here : (gs1 : List Numbers) → gs1 ≡ gs
          → IsSeriesReady a v b n (segments_listed (take (length gs1 - (len - (n.between + n.far))) (drop (len - (n.between + n.far)) gs1)))
      series_here gs1 same =
          let k : ℕ = len - (n.between + n.far) in
          let e : segments_listed (take (length gs1 - k) (drop k gs1)) ≡ x.own.gone =
          segments_from k gs1
          ∙ seconds (segments_listed gs1) before.gone x.own.gone (ap segments_listed same ∙ gone_whole) k rest_count.1 in
          subst (IsSeriesReady a v b n) (sym e) (record { allowed = x.allowed; within = x.within; note = noted })

      pub series_down : (o p q : Option Wanted) (old mid new : List (Option Wanted)) (gs' : List Numbers)
          → gs' ≡ take (len - (n.between + n.far)) gs → mid ≡ old ++ p ∷ [] → new ≡ mid ++ q ∷ []
          → AreHanded (series a v b) o (p ∷ q ∷ []) → IsHandedDown (series a v b) before o (lists ss' ps (segments_listed gs')) old new
      series_down o p q old mid new gs' cutg first second handed = record {
        left = same_lists ss' before.series ps before.parts (segments_listed gs') before.gone taken.0
            (ap (λ (m : Noted). m.parts) x.whole ∙ ap (λ (l : List PartNote). before.parts ++ l) x.note.2 ∙ append-nil before.parts)
            (ap segments_listed cutg ∙ segments_take (len - (n.between + n.far)) gs
            ∙ firsts (segments_listed gs) before.gone x.own.gone gone_whole (len - (n.between + n.far)) rest_count.1);
        parts = p ∷ q ∷ [];
        behind = second ∙ ap (λ (l : List (Option Wanted)). l ++ q ∷ []) first ∙ append_assoc old (p ∷ []) (q ∷ []);
        handed = handed;
      }

-- ---- parts side by side

module _ (laws : LawsBelow) (many : ℕ) (ts : Parts) (before : Noted) (ss : List SeriesNote) (ps : List PartNote) (gs : List Numbers)
    (x : HasLastPar many ts before (lists ss ps (segments_listed gs))) (len : ℕ) (long : len ≡ length ps) where
  own : List PartNote
  own = x.1.own.parts

  parts_are : ps ≡ before.parts ++ own
  unfolding own
  parts_are = ap (λ (n : Noted). n.parts) x.1.whole

  gone_are : segments_listed gs ≡ before.gone ++ gone_of ts own
  unfolding own
  gone_are = ap (λ (n : Noted). n.gone) x.1.whole ∙ ap (λ (l : List Segment). before.gone ++ l) x.1.note.3

  series_are : ss ≡ before.series
  series_are =
      ap (λ (n : Noted). n.series) x.1.whole ∙ ap (λ (l : List SeriesNote). before.series ++ l) x.1.note.0 ∙ append-nil before.series

  are_notes : ArePartNotes (numbers ts) own
  unfolding own
  are_notes = x.1.note.1

  one_unread : unread own ≤ 1
  unfolding own
  one_unread = x.1.note.2

  own_many : many ≡ length own
  own_many = sym x.0 ∙ sym (noted_count ts own are_notes)

  pub many_there : many ≤ len
  many_there = (rest_length ps before.parts own len many parts_are long own_many).0

  module _ (ps1 : List PartNote) (same : ps1 ≡ ps) where
    abbrev slice : List PartNote
    slice = take (length ps1 - (len - many)) (drop (len - many) ps1)

    slice_own : slice ≡ own
    slice_own =
        slice_is ps1 before.parts own (same ∙ parts_are) (len - many) (rest_length ps before.parts own len many parts_are long own_many).1

    slice_counted : counted slice ≡ length (gone_of ts own)
    slice_counted = ap counted slice_own ∙ counted_is ts own are_notes

    pub counted_fits : counted slice ≤ length gs
    counted_fits = let c = slice_counted in
        omega (arith, ap (length {A = Segment}) gone_are, length-append before.gone (gone_of ts own), segments_length gs)

    module _ (glen : ℕ) (glong : glen ≡ length gs) (n : ℕ) (number : n ≡ counted slice) where
      pub gone_there : n ≤ glen
      gone_there = let c = counted_fits in omega arith

      rest_gone : glen - n ≡ length before.gone
      rest_gone = (rest_length (segments_listed gs) before.gone (gone_of ts own) glen n gone_are
          (glong ∙ sym (segments_length gs)) (number ∙ slice_counted)).1

      module _ (gs1 : List Numbers) (gsame : gs1 ≡ gs) where
        abbrev gslice : List Segment
        gslice = segments_listed (take (length gs1 - (glen - n)) (drop (glen - n) gs1))

        gslice_own : gslice ≡ gone_of ts own
        gslice_own = segments_from (glen - n) gs1
            ∙ seconds (segments_listed gs1) before.gone (gone_of ts own) (ap segments_listed gsame ∙ gone_are) (glen - n) rest_gone

        pub places_here : (ps2 : List PartNote) → ps2 ≡ ps → HavePlaces (take (length ps2 - (len - many)) (drop (len - many) ps2)) gslice
        places_here ps2 same2 =
            let s : take (length ps2 - (len - many)) (drop (len - many) ps2) ≡ own = slice_is ps2 before.parts own
            (same2 ∙ parts_are) (len - many) (rest_length ps before.parts own len many parts_are long own_many).1 in
            subst (λ (g : List Segment). HavePlaces (take (length ps2 - (len - many)) (drop (len - many) ps2)) g) (sym gslice_own)
            (subst (λ (p : List PartNote). HavePlaces p (gone_of ts own)) (sym s)
            (places_there laws ts own x.1.allowed.1 x.1.within are_notes))

        abbrev OnNone : List PartNote → Option Wanted → List (Option Wanted) → List (Option Wanted) → Type 0
        OnNone p o old new = o ≡ None → new ≡ old ++ none_each p

        abbrev OnSome : List PartNote → List Segment → Option Wanted → List (Option Wanted) → List (Option Wanted) → Type 0
        OnSome p g o old new = (w : Wanted) → o ≡ Some w
            → new ≡ old ++ wanted_each w (w.limit - w.low) (left_over (direction_of w.dir) (w.limit - w.low) w.low p g) p g

        behind_go : (o : Option Wanted) (old new : List (Option Wanted))
            → ShowsIf (cut_at (par ts)) o → OnNone own o old new → OnSome own (gone_of ts own) o old new
            → (ws : List (Option Wanted)) × (new ≡ old ++ ws) × AreHanded (par ts) o ws
        behind_go None old new s none some = (none_each own, none refl, record { all = none_shown ts own are_notes; meets = tt })
        behind_go (Some w) old new s none some = (
          wanted_each w (w.limit - w.low)
              (left_over (direction_of w.dir) (w.limit - w.low) w.low own (gone_of ts own)) own (gone_of ts own),
          some w refl,
          par_handed laws w ts own x.1.allowed are_notes one_unread s,
        )

        pub par_down : (o : Option Wanted) (old new : List (Option Wanted)) (ps2 ps' : List PartNote) (gs' : List Numbers)
            → ps2 ≡ ps → ps' ≡ take (len - many) ps → gs' ≡ take (glen - n) gs → ShowsIf (cut_at (par ts)) o
            → OnNone (take (length ps2 - (len - many)) (drop (len - many) ps2)) o old new
            → OnSome (take (length ps2 - (len - many)) (drop (len - many) ps2)) gslice o old new
            → IsHandedDown (par ts) before o (lists ss ps' (segments_listed gs')) old new
        par_down o old new ps2 ps' gs' same2 cutp cutg s none some =
            let k : len - many ≡ length before.parts = (rest_length ps before.parts own len many parts_are long own_many).1 in
            let e : take (length ps2 - (len - many)) (drop (len - many) ps2) ≡ own =
            slice_is ps2 before.parts own (same2 ∙ parts_are) (len - many) k in
            let none1 : OnNone own o old new = subst (λ (p : List PartNote). OnNone p o old new) e none in
            let some1 : OnSome own gslice o old new = subst (λ (p : List PartNote). OnSome p gslice o old new) e some in
            let some2 : OnSome own (gone_of ts own) o old new = subst (λ (g : List Segment). OnSome own g o old new) gslice_own some1 in
            let (ws, put, handed) = behind_go o old new s none1 some2 in
            record {
              left = same_lists ss before.series ps' before.parts (segments_listed gs') before.gone
                  series_are
                  (cutp ∙ firsts ps before.parts own parts_are (len - many) k)
                  (ap segments_listed cutg ∙ segments_take (glen - n) gs
                  ∙ firsts (segments_listed gs) before.gone (gone_of ts own) gone_are (glen - n) rest_gone);
              parts = ws;
              behind = put;
              handed = handed;
            }

-- ---- any position

pub record TaskLast (extra share time : ℕ) (t : Term) (before notes : Noted) : Type 0 where
  pub a : Term
  pub b : Term
  pub is : t ≡ series a (record { extra = extra; share = share; time = time }) b
  pub last : HasLastTask a (record { extra = extra; share = share; time = time }) b before notes

pub task_last : (position : Position) (extra share time : ℕ) (t : Term) (before notes : Noted)
    → position ≡ at.Task extra share time → HasLast position t before notes → TaskLast extra share time t before notes
task_last position extra share time t before notes is (own, l) =
    let (a, b, e) = subst (λ (p : Position). IsTermAt p t) is own in
    record { a = a; b = b; is = e; last = subst (λ (u : Term). HasLastTerm u before notes) e l }

pub record PartsLast (many : ℕ) (t : Term) (before notes : Noted) : Type 0 where
  pub ts : Parts
  pub is : t ≡ par ts
  pub last : HasLastPar many ts before notes

pub parts_last : (position : Position) (many : ℕ) (t : Term) (before notes : Noted)
    → position ≡ Par many → HasLast position t before notes → PartsLast many t before notes
parts_last position many t before notes is (own, l) =
    let (ts, n, e) = subst (λ (p : Position). IsTermAt p t) is own in
    record { ts = ts; is = e; last = (n, subst (λ (u : Term). HasLastTerm u before notes) e l) }

-- what is handed down for the term that stands there
pub down_for : (t u : Term) (before notes : Noted) (o : Option Wanted) (old new : List (Option Wanted)) → t ≡ u
    → (ShowsIf (cut_at u) o → IsHandedDown u before o notes old new) → ShowsIf (cut_at t) o → IsHandedDown t before o notes old new
down_for t u before notes o old new e f s =
    subst (λ (x : Term). IsHandedDown x before o notes old new) (sym e) (f (subst (λ (x : Term). ShowsIf (cut_at x) o) e s))
