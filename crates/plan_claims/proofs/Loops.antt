-- Loops over segments and over parts, from what is left of them.
use Rattle.std.proofs.Common.{◌≡◌, ℕ, zero, suc, ◌+◌, ◌-◌, ◌<◌, ◌≤◌, leb, Bool, true, refl, sym, subst, ap, arith, ◌∙◌, List, []}
use Rattle.std.proofs.Common.{◌∷◌, ◌++◌, take, drop, length, length-drop, get_or, append_assoc, append-nil, Option, Some, None}
use Rattle.std.proofs.lemmas.Bool.Decides.{nat_tests}
use Rattle.std.proofs.lemmas.List.{at_drop_more, at_drop_all, drop_more, drop-drop, take_all}
use Rattle.std.specs.Prelude.{if◌then◌else◌}
use Rattle.std.specs.List.{slice_get}
use Rattle.limits.specs.Limits.{most_total}
use Rattle.side_laws.specs.Segments.{Segment, net_sum, lowest, last_up}
use Rattle.hill_valley.specs.declared.numbers.Numbers.{Numbers}
use Rattle.hill_valley.specs.Numbers.{segments_listed}
use Rattle.sp_terms.specs.Term.{Direction}
use Rattle.plans.specs.declared.claim.Direction.{Direction as PlanDirection}
use Rattle.plans.specs.Plan.{direction_of}
use Rattle.sp_cuts.specs.declared.notes.PartNote.{PartNote}
use Rattle.plan_claims.specs.declared.wanted.Wanted.{Wanted}
use Rattle.plan_claims.specs.Levels.{kept_level, noted_level, counted, HasPlace, HavePlaces, left_over, wanted_at, wanted_each}
use Rattle.plan_claims.specs.Wants.{none_each}

-- the last segment
pub last_is : (ns : List Numbers) (n : Numbers) → Some n ≡ slice_get ns (length ns - 1) → n.up ≡ last_up (segments_listed ns)
last_is [] n h = absurd (cc)
last_is (m ∷ []) n h = ap (λ (x : Numbers). x.up) (same (h ∙ ap (slice_get (m ∷ [])) (let z : length (m ∷ []) - 1 ≡ 0 = omega arith in z)))
  where
    same : {x y : Numbers} → Some x ≡ Some y → x ≡ y
    same e = cc
last_is (m ∷ k ∷ ns) n h =
    last_is (k ∷ ns) n (h ∙ ap (slice_get (m ∷ k ∷ ns)) (let z : length (m ∷ k ∷ ns) - 1 ≡ suc (length (k ∷ ns) - 1) = omega arith in z))

module _ (segs : List Numbers) (i : ℕ) (d : Numbers) where
  -- ---- the lowest level

  module _ (limit at start : ℕ) (told : lowest limit at (segments_listed (drop i segs)) ≡ lowest limit start (segments_listed segs)) where
    pub lowest_ends : length segs ≤ i → at ≡ lowest limit start (segments_listed segs)
    lowest_ends h = sym (at_drop_all (λ l. lowest limit at (segments_listed l)) segs i h) ∙ told

    lowest_here : i < length segs
        → lowest limit at (segments_listed (get_or segs i d ∷ drop (i + 1) segs)) ≡ lowest limit start (segments_listed segs)
    lowest_here h = sym (at_drop_more (λ l. lowest limit at (segments_listed l)) segs i d h) ∙ told

    pub lowest_stops : i < length segs → limit - at ≤ (get_or segs i d).up → at ≡ lowest limit start (segments_listed segs)
    lowest_stops h le = let e = lowest_here h in stops (get_or segs i d) e le
      where
        stops : (s : Numbers) → lowest limit at (segments_listed (s ∷ drop (i + 1) segs)) ≡ lowest limit start (segments_listed segs)
            → limit - at ≤ s.up → at ≡ lowest limit start (segments_listed segs)
        stops s e le = grind (arith, nat_tests)

    pub lowest_goes : (at' : ℕ) → i < length segs → (get_or segs i d).up < limit - at → at' ≡ at - (get_or segs i d).net
        → lowest limit at' (segments_listed (drop (i + 1) segs)) ≡ lowest limit start (segments_listed segs)
    lowest_goes at' h lt net = rw net (goes (get_or segs i d) (lowest_here h) lt)
      where
        goes : (s : Numbers) → lowest limit at (segments_listed (s ∷ drop (i + 1) segs)) ≡ lowest limit start (segments_listed segs)
            → s.up < limit - at → lowest limit (at - s.net) (segments_listed (drop (i + 1) segs))
            ≡ lowest limit start (segments_listed segs)
        goes s e lt = grind (arith, nat_tests)

  -- ---- the level above the least one

  pub record Keeping (over level whole : ℕ) : Type 0 where
    pub told : kept_level over level (segments_listed (drop i segs)) ≡ whole
    pub room : level + net_sum (segments_listed (drop i segs)) ≤ most_total

-- at the next one
module _ (segs : List Numbers) (i : ℕ) (d : Numbers) (over level whole : ℕ) (k : Keeping segs i d over level whole) where
  pub keeping_ends : length segs ≤ i → level ≡ whole
  keeping_ends h = sym (at_drop_all (λ l. kept_level over level (segments_listed l)) segs i h) ∙ k.told

  module _ (lt : i < length segs) where
    told_here : kept_level over level (segments_listed (get_or segs i d ∷ drop (i + 1) segs)) ≡ whole
    told_here = sym (at_drop_more (λ l. kept_level over level (segments_listed l)) segs i d lt) ∙ k.told

    room_here : level + net_sum (segments_listed (get_or segs i d ∷ drop (i + 1) segs)) ≤ most_total
    room_here = let e = at_drop_more (λ l. net_sum (segments_listed l)) segs i d lt in let r = k.room in omega arith

    pub keeping_fits : level + (get_or segs i d).net ≤ most_total
    keeping_fits = fits (get_or segs i d) room_here
      where
        fits : (s : Numbers) → level + net_sum (segments_listed (s ∷ drop (i + 1) segs)) ≤ most_total → level + s.net ≤ most_total
        fits s h = omega arith

    pub keeping_on : (level' : ℕ) → level' ≡ (if leb over (get_or segs i d).up then level + (get_or segs i d).net else level)
        → Keeping segs (i + 1) d over level' whole
    keeping_on level' is = rw is (goes (get_or segs i d) told_here room_here)
      where
        goes : (s : Numbers) → kept_level over level (segments_listed (s ∷ drop (i + 1) segs)) ≡ whole
            → level + net_sum (segments_listed (s ∷ drop (i + 1) segs)) ≤ most_total
            → Keeping segs (i + 1) d over (if leb over s.up then level + s.net else level) whole
        goes s e r = record { told = grind (arith, nat_tests); room = grind (arith, nat_tests) }

-- ---- segments that stand one after the other

pub segments_drop : (k : ℕ) (ns : List Numbers) → segments_listed (drop k ns) ≡ drop k (segments_listed ns)
segments_drop zero ns = refl
segments_drop (suc k) [] = refl
segments_drop (suc k) (n ∷ ns) = segments_drop k ns

pub segments_take : (k : ℕ) (ns : List Numbers) → segments_listed (take k ns) ≡ take k (segments_listed ns)
segments_take zero ns = refl
segments_take (suc k) [] = refl
segments_take (suc k) (n ∷ ns) = ap (λ (l : List Segment). record { up = n.up; net = n.net } ∷ l) (segments_take k ns)

pub segments_from : (k : ℕ) (ns : List Numbers) → segments_listed (take (length ns - k) (drop k ns)) ≡ drop k (segments_listed ns)
segments_from k ns = ap segments_listed (take_all (length ns - k) (drop k ns) (omega (arith, length-drop k ns))) ∙ segments_drop k ns

pub segments_length : (ns : List Numbers) → length (segments_listed ns) ≡ length ns
segments_length [] = refl
segments_length (n ∷ ns) = ap suc (segments_length ns)

drop_twice : (a b : ℕ) (ss : List Segment) → drop b (drop a ss) ≡ drop (a + b) ss
drop_twice a b ss = drop-drop b a ss

-- ---- one part

-- its sides, in the slices of its segments
pub back_side : (front back count : ℕ) (gone : List Numbers) → count ≡ front + back
    → segments_listed (take (count - front) (drop front gone)) ≡ take back (drop front (segments_listed gone))
back_side front back count gone e =
    let n : count - front ≡ back = omega arith in
    ap (λ (k : ℕ). segments_listed (take k (drop front gone))) n
    ∙ segments_take back (drop front gone) ∙ ap (take back) (segments_drop front gone)

pub level_read : (n : PartNote) (dir : PlanDirection) (d : Direction) (over rest level : ℕ) (gone : List Segment)
    → n.read ≡ true → direction_of dir ≡ d → level ≡ noted_level d over n gone
    → level ≡ (if n.read then noted_level (direction_of dir) over n gone else rest)
level_read n dir d over rest level gone is_read is e =
    e ∙ ap (λ (x : Direction). noted_level x over n gone) (sym is)
    ∙ sym (first n.read (noted_level (direction_of dir) over n gone) rest is_read)
  where
    first : (b : Bool) (x y : ℕ) → b ≡ true → (if b then x else y) ≡ x
    first b x y h = rw h refl

-- a note that is read from a list, whatever stands in for one that is not there
pub any_default : (parts : List PartNote) (i : ℕ) (d : PartNote) → i < length parts → get_or parts i d ≡ get_or parts i (get_or parts i d)
any_default parts i d h = same parts i d (get_or parts i d) h
  where
    same : (parts : List PartNote) (i : ℕ) (d e : PartNote) → i < length parts → get_or parts i d ≡ get_or parts i e
    same [] i d e h = absurd (omega arith)
    same (p ∷ parts) zero d e h = refl
    same (p ∷ parts) (suc i) d e h = same parts i d e (omega arith)

-- ---- parts

-- the first i parts have been passed, and the segments before `at`
pub record Places (parts : List PartNote) (i : ℕ) (gone : List Numbers) (at : ℕ) : Type 0 where
  pub fits : at ≤ length gone
  pub places : HavePlaces (drop i parts) (drop at (segments_listed gone))

pub places_start : (parts : List PartNote) (gone : List Numbers) → HavePlaces parts (segments_listed gone) → Places parts 0 gone 0
places_start parts gone h = record { fits = omega arith; places = h }

module _ (parts : List PartNote) (i : ℕ) where
  -- what is left of them begins with this one
  at_one : {Y : Type 0} (F : List PartNote → Y) (x : PartNote) → i < length parts
      → x ≡ get_or parts i x → F (x ∷ drop (i + 1) parts) ≡ F (drop i parts)
  at_one F x h here = ap (λ (y : PartNote). F (y ∷ drop (i + 1) parts)) here ∙ sym (at_drop_more F parts i x h)

  -- how many segments
  pub count_goes : (x : PartNote) (all all' whole : ℕ) → all + counted (drop i parts) ≡ whole → i < length parts
      → x ≡ get_or parts i x → all' ≡ all + (x.front + x.back) → all' + counted (drop (i + 1) parts) ≡ whole
  count_goes x all all' whole told h here is = let e = at_one counted x h here in omega arith

  pub count_fits : (x : PartNote) (all whole : ℕ) → all + counted (drop i parts) ≡ whole
      → i < length parts → x ≡ get_or parts i x → all + (x.front + x.back) ≤ whole
  count_fits x all whole told h here = let e = at_one counted x h here in omega arith

  pub count_ends : (all whole : ℕ) → all + counted (drop i parts) ≡ whole → length parts ≤ i → all ≡ whole
  count_ends all whole told h = let e = at_drop_all counted parts i h in omega arith

  -- where they stand
  module _ (gone : List Numbers) (at : ℕ) (p : Places parts i gone at)
      (x : PartNote) (h : i < length parts) (here : x ≡ get_or parts i x) where
    next_places : HavePlaces (x ∷ drop (i + 1) parts) (drop at (segments_listed gone))
    next_places = subst (λ (l : List PartNote). HavePlaces l (drop at (segments_listed gone)))
        (drop_more parts i x h ∙ ap (λ (y : PartNote). y ∷ drop (i + 1) parts) (sym here)) p.places

    pub place_here : HasPlace x (segments_listed (take (length gone - at) (drop at gone)))
    place_here = subst (HasPlace x) (sym (segments_from at gone)) next_places.0

    pub place_fits : at + (x.front + x.back) ≤ length gone
    place_fits = let t = next_places.0.there in let f = p.fits in omega (arith, length-drop at (segments_listed gone), segments_length gone)

    pub places_on : (at' : ℕ) → at' ≡ at + (x.front + x.back) → Places parts (i + 1) gone at'
    places_on at' is = record {
      fits = let f = place_fits in omega arith;
      places = subst (HavePlaces (drop (i + 1) parts))
          (drop_twice at (x.front + x.back) (segments_listed gone) ∙ ap (λ (k : ℕ). drop k (segments_listed gone)) (sym is)) next_places.1;
    }

    pub left_goes : (e : Direction) (over left left' level at' whole : ℕ)
        → left_over e over left (drop i parts) (drop at (segments_listed gone)) ≡ whole
        → level ≡ (if x.read then noted_level e over x (segments_listed (take (length gone - at) (drop at gone))) else 0)
        → left' ≡ left - level → at' ≡ at + (x.front + x.back)
        → left_over e over left' (drop (i + 1) parts) (drop at' (segments_listed gone)) ≡ whole
    left_goes e over left left' level at' whole told is is' on =
        let l : level ≡ (if x.read then noted_level e over x (drop at (segments_listed gone)) else 0) =
        is ∙ ap (λ (s : List Segment). if x.read then noted_level e over x s else 0) (segments_from at gone) in
        ap (λ (n : ℕ). left_over e over n (drop (i + 1) parts) (drop at' (segments_listed gone))) (is' ∙ ap (λ (n : ℕ). left - n) l)
        ∙ ap (λ (s : List Segment).
        left_over e over (left - (if x.read then noted_level e over x (drop at (segments_listed gone)) else 0)) (drop (i + 1) parts) s)
        (ap (λ (k : ℕ). drop k (segments_listed gone)) on ∙ sym (drop_twice at (x.front + x.back) (segments_listed gone)))
        ∙ at_one (λ l. left_over e over left l (drop at (segments_listed gone))) x h here ∙ told

    pub each_goes : (w : Wanted) (over rest : ℕ) (done done' whole : List (Option Wanted)) (level at' : ℕ) (v : Option Wanted)
        → done ++ wanted_each w over rest (drop i parts) (drop at (segments_listed gone)) ≡ whole
        → level
        ≡ (if x.read then noted_level (direction_of w.dir) over x (segments_listed (take (length gone - at) (drop at gone))) else rest)
        → v ≡ wanted_at w x level → done' ≡ done ++ v ∷ []
        → at' ≡ at + (x.front + x.back)
        → done' ++ wanted_each w over rest (drop (i + 1) parts) (drop at' (segments_listed gone)) ≡ whole
    each_goes w over rest done done' whole level at' v told is is' is'' on =
        let l : level ≡ (if x.read then noted_level (direction_of w.dir) over x (drop at (segments_listed gone)) else rest) =
        is ∙ ap (λ (s : List Segment). if x.read then noted_level (direction_of w.dir) over x s else rest) (segments_from at gone) in
        let own : Option Wanted =
        wanted_at w x (if x.read then noted_level (direction_of w.dir) over x (drop at (segments_listed gone)) else rest) in
        let later : List Segment = drop (x.front + x.back) (drop at (segments_listed gone)) in
        let put : done' ≡ done ++ own ∷ [] = is'' ∙ ap (λ (o : Option Wanted). done ++ o ∷ []) (is' ∙ ap (wanted_at w x) l) in
        ap (λ (s : List Segment). done' ++ wanted_each w over rest (drop (i + 1) parts) s)
        (ap (λ (k : ℕ). drop k (segments_listed gone)) on ∙ sym (drop_twice at (x.front + x.back) (segments_listed gone)))
        ∙ ap (λ (o : List (Option Wanted)). o ++ wanted_each w over rest (drop (i + 1) parts) later) put
        ∙ append_assoc done (own ∷ []) (wanted_each w over rest (drop (i + 1) parts) later)
        ∙ at_one (λ l. done ++ wanted_each w over rest l (drop at (segments_listed gone))) x h here ∙ told

  pub left_ends : (gone : List Segment) (e : Direction) (over left whole : ℕ)
      → left_over e over left (drop i parts) gone ≡ whole → length parts ≤ i → left ≡ whole
  left_ends gone e over left whole told h = sym (at_drop_all (λ l. left_over e over left l gone) parts i h) ∙ told

  pub each_ends : (gone : List Segment) (w : Wanted) (over rest : ℕ) (done whole : List (Option Wanted))
      → done ++ wanted_each w over rest (drop i parts) gone ≡ whole → length parts ≤ i → done ≡ whole
  each_ends gone w over rest done whole told h =
      sym (append-nil done) ∙ sym (at_drop_all (λ l. done ++ wanted_each w over rest l gone) parts i h) ∙ told

  -- nothing of each
  pub none_ends : (done old : List (Option Wanted)) → done ++ none_each (drop i parts) ≡ old ++ none_each parts
      → length parts ≤ i → done ≡ old ++ none_each parts
  none_ends done old told h = sym (append-nil done) ∙ sym (at_drop_all (λ l. done ++ none_each l) parts i h) ∙ told

  pub none_goes : (x : PartNote) (done old done' : List (Option Wanted))
      → done ++ none_each (drop i parts) ≡ old ++ none_each parts → i < length parts → x ≡ get_or parts i x → done' ≡ done ++ None ∷ []
      → done' ++ none_each (drop (i + 1) parts) ≡ old ++ none_each parts
  none_goes x done old done' told h here is =
      rw is (append_assoc done (None ∷ []) (none_each (drop (i + 1) parts)) ∙ at_one (λ l. done ++ none_each l) x h here ∙ told)
