-- What is wanted of parts side by side meets their rule.
use Rattle.std.proofs.Common.{◌≡◌, ℕ, suc, ◌+◌, ◌-◌, ◌<◌, ◌≤◌, inl, inr, Bool, true, false, refl, sym, subst, ap, arith, ◌∙◌}
use Rattle.std.proofs.Common.{List, [], ◌∷◌, ◌++◌, append_assoc, length, length-append, map, take, drop, Option, Some, None}
use Rattle.std.specs.Prelude.{pos, ◌-ℤ◌, ◌≤ℤ◌, if◌then◌else◌}
use Rattle.std.proofs.lemmas.Bool.Decides.{nat_tests}
use Rattle.std.proofs.lemmas.Int.{ints}
use Rattle.std.proofs.lemmas.List.{take_at, drop_at}
use Rattle.limits.specs.Limits.{most_total}
use Rattle.side_laws.specs.Segments.{Segment, net_sum, lowest, IsRising}
use Rattle.side_laws.specs.Merging.{merge_segments, AllRising}
use Rattle.side_laws.specs.Levels.{level_sum, AllStart, EachStuck, AreLevels}
use Rattle.hill_valley.specs.Side.{run_profile}
use Rattle.sp_terms.specs.Places.{list_of_parts}
use Rattle.sp_terms.specs.Term.{Term, par, Parts, no_parts, part, count, Direction, forward, backward, least_of, IsAllowed, AreAllowed}
use Rattle.claim_rules.specs.Claims.{Claim}
use Rattle.claim_rules.specs.Rules.{SomeClaim, HasRoom, HaveRoom, value_in, values_in}
use Rattle.plans.specs.Plan.{direction_of}
use Rattle.cut_laws.specs.Cuts.{Cut, par_cut, fronts, backs, side_of, start_of, top_of}
use Rattle.cut_laws.specs.TermCuts.{cuts_of_parts}
use Rattle.cut_laws.specs.Tops.{SomeReaches}
use Rattle.cut_laws.specs.Cuts.{starts, sides}
use Rattle.sp_cuts.specs.declared.notes.PartNote.{PartNote}
use Rattle.sp_cuts.specs.Notes.{CutNumbers, numbers_at, IsPartNote, ArePartNotes, segments_read}
use Rattle.sp_cuts.specs.Notes.{all_segments_read, unread, cut_at, unnamed, unnamed_parts}
use Rattle.sp_cuts.specs.Stacks.{total_of, total_of_parts}
use Rattle.plan_claims.specs.declared.wanted.Wanted.{Wanted}
use Rattle.plan_claims.specs.Below.{LawsBelow}
use Rattle.plan_claims.specs.Crossings.{up_of}
use Rattle.plan_claims.specs.Levels.{kept_level, noted_side, noted_up, noted_level, counted, HasPlace}
use Rattle.plan_claims.specs.Levels.{HavePlaces, left_over, wanted_at, wanted_each}
use Rattle.plan_claims.specs.Wants.{Shows, ShowsIf, AllShow, AreHanded, claim_if, none_each}
use Rattle.plan_claims.proofs.Handed.{first_within}
use Rattle.plan_claims.proofs.Sides.{lowest_end, kept_above}
use Rattle.lists.proofs.Orders.{lt_or_le}
use Rattle.lists.proofs.Bools.{true_or_false}
use Rattle.cut_laws.proofs.ParChoice.{sides_backward, sides_forward, start_par, value_same}

abbrev cuts : Parts → List Cut
cuts ts = map cut_at (list_of_parts ts)

abbrev pub numbers : Parts → List CutNumbers
numbers ts = map numbers_at (list_of_parts ts)

-- all segments that were noted with these
abbrev pub gone_of : Parts → List PartNote → List Segment
gone_of ts ns = all_segments_read (numbers ts) ns

pub cuts_same : (ts : Parts) → cuts_of_parts ts (unnamed_parts ts) ≡ map cut_at (list_of_parts ts)
cuts_same no_parts = refl
cuts_same (part t ts) = ap (λ (cs : List Cut). cut_at t ∷ cs) (cuts_same ts)

-- ---- nothing wanted

pub none_shown : (ts : Parts) (ns : List PartNote) → ArePartNotes (numbers ts) ns → AllShow (cuts ts) (none_each ns)
none_shown no_parts [] h = tt
none_shown no_parts (n ∷ ns) h = absurd h
none_shown (part t ts) [] h = absurd h
none_shown (part t ts) (n ∷ ns) h = (tt, none_shown ts ns h.1)

-- ---- the merged side

side_par : LawsBelow → (d : Direction) (cs : List Cut) → run_profile (side_of d (par_cut cs)) ≡ merge_segments (sides d cs)
side_par laws forward cs = laws.sides.profile_merge (fronts cs) ∙ ap merge_segments (sides_forward cs)
side_par laws backward cs = laws.sides.profile_merge (backs cs) ∙ ap merge_segments (sides_backward cs)

-- ---- each part

module _ (laws : LawsBelow) where
  fit : (d : Direction) (t : Term) → IsAllowed t → net_sum (run_profile (side_of d (cut_at t))) + least_of t ≡ start_of d (cut_at t)
  fit forward t h = let s = laws.stands t (unnamed t) h in let f = s.front_net in let l = s.low in omega arith
  fit backward t h = let s = laws.stands t (unnamed t) h in let f = s.back_net in let l = s.low in omega arith

  rises : (d : Direction) (t : Term) → IsAllowed t → IsRising (run_profile (side_of d (cut_at t)))
  rises forward t h = (laws.stands t (unnamed t) h).front_rises
  rises backward t h = (laws.stands t (unnamed t) h).back_rises

  pub all_rise : (d : Direction) (ts : Parts) → AreAllowed ts → AllRising (sides d (cuts ts))
  all_rise d no_parts h = tt
  all_rise d (part t ts) h = (rises d t h.0, all_rise d ts h.1)

  pub all_start : (d : Direction) (ts : Parts) → AreAllowed ts → AllStart (starts d (cuts ts)) (sides d (cuts ts))
  all_start d no_parts h = tt
  all_start d (part t ts) h = (let f = fit d t h.0 in omega arith, all_start d ts h.1)

-- ---- what was noted of one part

if_true : (b : Bool) (x y : ℕ) → b ≡ true → (if b then x else y) ≡ x
if_true b x y e = rw e refl

if_false : (b : Bool) (x y : ℕ) → b ≡ false → (if b then x else y) ≡ y
if_false b x y e = rw e refl

segments_if : (b : Bool) (xs : List Segment) → b ≡ true → (if b then xs else []) ≡ xs
segments_if b xs e = rw e refl

no_segments : (b : Bool) (xs : List Segment) → b ≡ false → (if b then xs else []) ≡ []
no_segments b xs e = rw e refl

noted_up_is : (d : Direction) (t : Term) (n : PartNote) → IsPartNote (numbers_at t) n → noted_up d n ≡ up_of d (cut_at t)
noted_up_is forward t n h = h.front_up
noted_up_is backward t n h = h.back_up

module _ (c : CutNumbers) (n : PartNote) (h : IsPartNote c n) (later : List Segment) where
  own_length : length (segments_read c n) ≡ n.front + n.back
  own_length = elim (true_or_false n.read) [
    | inl is_read ↦
        ap (length {A = Segment}) (segments_if n.read (c.front ++ c.back) is_read) ∙ length-append c.front c.back
        ∙ (let f = h.front_count ∙ if_true n.read (length c.front) 0 is_read in
        let b = h.back_count ∙ if_true n.read (length c.back) 0 is_read in omega arith)
    | inr is_not ↦
        ap (length {A = Segment}) (no_segments n.read (c.front ++ c.back) is_not)
        ∙ (let f = h.front_count ∙ if_false n.read (length c.front) 0 is_not in
        let b = h.back_count ∙ if_false n.read (length c.back) 0 is_not in omega arith)
  ]

  -- behind them stand those of the later parts
  later_is : drop (n.front + n.back) (segments_read c n ++ later) ≡ later
  later_is = drop_at (segments_read c n) later (n.front + n.back) own_length

  module _ (is_read : n.read ≡ true) where
    own_is : segments_read c n ++ later ≡ c.front ++ (c.back ++ later)
    own_is = ap (λ (l : List Segment). l ++ later) (segments_if n.read (c.front ++ c.back) is_read) ∙ append_assoc c.front c.back later

    front_here : take n.front (segments_read c n ++ later) ≡ c.front
    front_here = ap (take n.front) own_is
        ∙ take_at c.front (c.back ++ later) n.front (sym (h.front_count ∙ if_true n.read (length c.front) 0 is_read))

    back_here : take n.back (drop n.front (segments_read c n ++ later)) ≡ c.back
    back_here =
        ap (λ (l : List Segment). take n.back (drop n.front l)) own_is
        ∙ ap (take n.back) (drop_at c.front (c.back ++ later) n.front (sym (h.front_count ∙ if_true n.read (length c.front) 0 is_read)))
        ∙ take_at c.back later n.back (sym (h.back_count ∙ if_true n.read (length c.back) 0 is_read))

  none_front : n.read ≡ false → take n.front (segments_read c n ++ later) ≡ []
  none_front is_not = ap (λ (k : ℕ). take k (segments_read c n ++ later)) (h.front_count ∙ if_false n.read (length c.front) 0 is_not)

  none_back : n.read ≡ false → take n.back (drop n.front (segments_read c n ++ later)) ≡ []
  none_back is_not =
      ap (λ (k : ℕ). take k (drop n.front (segments_read c n ++ later))) (h.back_count ∙ if_false n.read (length c.back) 0 is_not)

noted_side_is : (d : Direction) (t : Term) (n : PartNote) (later : List Segment) → IsPartNote (numbers_at t) n
    → n.read ≡ true → noted_side d n (segments_read (numbers_at t) n ++ later) ≡ run_profile (side_of d (cut_at t))
noted_side_is forward t n later h r = front_here (numbers_at t) n h later r
noted_side_is backward t n later h r = back_here (numbers_at t) n h later r

noted_level_is : (d : Direction) (over : ℕ) (t : Term) (n : PartNote) (later : List Segment) → IsPartNote (numbers_at t) n → n.read ≡ true
    → noted_level d over n (segments_read (numbers_at t) n ++ later) ≡ kept_level over (cut_at t).least (run_profile (side_of d (cut_at t)))
noted_level_is d over t n later h r =
    ap (kept_level over n.least) (noted_side_is d t n later h r)
    ∙ ap (λ (l : ℕ). kept_level over l (run_profile (side_of d (cut_at t)))) h.least

-- ---- their places

module _ (laws : LawsBelow) where
  place_there : (t : Term) (n : PartNote) (later : List Segment) → IsAllowed t → total_of t ≤ most_total
      → IsPartNote (numbers_at t) n → HasPlace n (segments_read (numbers_at t) n ++ later)
  place_there t n later allowed within h =
      let c : CutNumbers = numbers_at t in
      let s = laws.stands t (unnamed t) allowed in
      let start = s.initial in let end = s.final in let low = s.low in let front = s.front_net in let back = s.back_net in
      let le = first_within forward t in let ge = first_within backward t in
      let own = h.least in
      elim (true_or_false n.read) [
        | inl is_read ↦ record {
          there = omega (arith, length-append (segments_read c n) later, own_length c n h later);
          front = omega (arith, ap net_sum (front_here c n h later is_read));
          back = omega (arith, ap net_sum (back_here c n h later is_read));
        }
        | inr is_not ↦ record {
          there = omega (arith, length-append (segments_read c n) later, own_length c n h later);
          front = omega (arith, ap net_sum (none_front c n h later is_not));
          back = omega (arith, ap net_sum (none_back c n h later is_not));
        }
      ]

  pub places_there : (ts : Parts) (ns : List PartNote) → AreAllowed ts
      → total_of_parts ts ≤ most_total → ArePartNotes (numbers ts) ns → HavePlaces ns (gone_of ts ns)
  places_there no_parts [] a w h = tt
  places_there no_parts (n ∷ ns) a w h = absurd h
  places_there (part t ts) [] a w h = absurd h
  places_there (part t ts) (n ∷ ns) a w h = (
    place_there t n (gone_of ts ns) a.0 (omega arith) h.0,
    subst (HavePlaces ns) (sym (later_is (numbers_at t) n h.0 (gone_of ts ns))) (places_there ts ns a.1 (omega arith) h.1),
  )

-- as many as were noted
pub counted_is : (ts : Parts) (ns : List PartNote) → ArePartNotes (numbers ts) ns → counted ns ≡ length (gone_of ts ns)
counted_is no_parts [] h = refl
counted_is no_parts (n ∷ ns) h = absurd h
counted_is (part t ts) [] h = absurd h
counted_is (part t ts) (n ∷ ns) h =
    omega (arith, counted_is ts ns h.1, own_length (numbers_at t) n h.0 [], length-append (segments_read (numbers_at t) n) (gone_of ts ns))

pub noted_count : (ts : Parts) (ns : List PartNote) → ArePartNotes (numbers ts) ns → length ns ≡ count ts
noted_count no_parts [] h = refl
noted_count no_parts (n ∷ ns) h = absurd h
noted_count (part t ts) [] h = absurd h
noted_count (part t ts) (n ∷ ns) h = ap suc (noted_count ts ns h.1)

-- ---- the levels that the notes give

-- each part that was read has its level
AreRead : Direction → ℕ → List PartNote → List Segment → List ℕ → Type 0
AreRead d over [] gone [] = Unit {0}
AreRead d over [] gone (l ∷ ls) = ⊥
AreRead d over (n ∷ ns) gone [] = ⊥
AreRead d over (n ∷ ns) gone (l ∷ ls) =
    (n.read ≡ true → noted_level d over n gone ≡ l) × AreRead d over ns (drop (n.front + n.back) gone) ls

abbrev level_or : Direction → ℕ → ℕ → PartNote → List Segment → ℕ
level_or d over rest n gone = if n.read then noted_level d over n gone else rest

-- with this level for a part that was not read, all have theirs
AreFilled : Direction → ℕ → ℕ → List PartNote → List Segment → List ℕ → Type 0
AreFilled d over rest [] gone [] = Unit {0}
AreFilled d over rest [] gone (l ∷ ls) = ⊥
AreFilled d over rest (n ∷ ns) gone [] = ⊥
AreFilled d over rest (n ∷ ns) gone (l ∷ ls) =
    (level_or d over rest n gone ≡ l) × AreFilled d over rest ns (drop (n.front + n.back) gone) ls

unread_sum : List PartNote → List ℕ → ℕ
unread_sum [] ls = 0
unread_sum (n ∷ ns) [] = 0
unread_sum (n ∷ ns) (l ∷ ls) = (if n.read then 0 else l) + unread_sum ns ls

module _ (d : Direction) (over : ℕ) where
  left_is : (m : ℕ) (ns : List PartNote) (gone : List Segment) (ls : List ℕ)
      → AreRead d over ns gone ls → left_over d over (m + level_sum ls) ns gone ≡ m + unread_sum ns ls
  unfolding unread_sum AreRead
  left_is m [] gone [] h = omega arith
  left_is m [] gone (l ∷ ls) h = absurd h
  left_is m (n ∷ ns) gone [] h = absurd h
  left_is m (n ∷ ns) gone (l ∷ ls) h = elim (true_or_false n.read) [
    | inl is_read ↦
        let e : (m + (l + level_sum ls)) - (if n.read then noted_level d over n gone else 0) ≡ m + level_sum ls =
        omega (arith, if_true n.read (noted_level d over n gone) 0 is_read, h.0 is_read) in
        ap (λ (k : ℕ). left_over d over k ns (drop (n.front + n.back) gone)) e
        ∙ left_is m ns (drop (n.front + n.back) gone) ls h.1 ∙ omega (arith, if_true n.read 0 l is_read)
    | inr is_not ↦
        let e : (m + (l + level_sum ls)) - (if n.read then noted_level d over n gone else 0) ≡ (m + l) + level_sum ls =
        omega (arith, if_false n.read (noted_level d over n gone) 0 is_not) in
        ap (λ (k : ℕ). left_over d over k ns (drop (n.front + n.back) gone)) e
        ∙ left_is (m + l) ns (drop (n.front + n.back) gone) ls h.1 ∙ omega (arith, if_false n.read 0 l is_not)
  ]

  none_unread : (rest : ℕ) (ns : List PartNote) (gone : List Segment) (ls : List ℕ)
      → AreRead d over ns gone ls → unread ns ≤ 0 → (unread_sum ns ls ≡ 0) × AreFilled d over rest ns gone ls
  unfolding unread_sum AreRead AreFilled
  none_unread rest [] gone [] h u = (refl, tt)
  none_unread rest [] gone (l ∷ ls) h u = absurd h
  none_unread rest (n ∷ ns) gone [] h u = absurd h
  none_unread rest (n ∷ ns) gone (l ∷ ls) h u = elim (true_or_false n.read) [
    | inl is_read ↦
        let r = none_unread rest ns (drop (n.front + n.back) gone) ls h.1 (omega (arith, if_true n.read 0 1 is_read)) in
        (omega (arith, if_true n.read 0 l is_read, r.0), (if_true n.read (noted_level d over n gone) rest is_read ∙ h.0 is_read, r.1))
    | inr is_not ↦ absurd (omega (arith, if_false n.read 0 1 is_not))
  ]

  one_unread : (rest : ℕ) (ns : List PartNote) (gone : List Segment) (ls : List ℕ)
      → AreRead d over ns gone ls → unread ns ≤ 1 → rest ≡ unread_sum ns ls → AreFilled d over rest ns gone ls
  unfolding unread_sum AreRead AreFilled
  one_unread rest [] gone [] h u e = tt
  one_unread rest [] gone (l ∷ ls) h u e = absurd h
  one_unread rest (n ∷ ns) gone [] h u e = absurd h
  one_unread rest (n ∷ ns) gone (l ∷ ls) h u e = elim (true_or_false n.read) [
    | inl is_read ↦ (
      if_true n.read (noted_level d over n gone) rest is_read ∙ h.0 is_read,
      one_unread rest ns (drop (n.front + n.back) gone) ls h.1
          (omega (arith, if_true n.read 0 1 is_read)) (omega (arith, e, if_true n.read 0 l is_read)),
    )
    | inr is_not ↦
        let r = none_unread rest ns (drop (n.front + n.back) gone) ls h.1 (omega (arith, if_false n.read 0 1 is_not)) in
        (if_false n.read (noted_level d over n gone) rest is_not ∙ omega (arith, e, r.0, if_false n.read 0 l is_not), r.1)
  ]

-- ---- one part at its level

want_yes : (w : Wanted) (n : PartNote) (l : ℕ) → w.limit - w.low ≤ noted_up (direction_of w.dir) n
    → wanted_at w n l ≡ Some (record { dir = w.dir; limit = w.limit - (w.low - l); low = l })
want_yes w n l h = grind (arith, nat_tests)

want_none : (w : Wanted) (n : PartNote) (l : ℕ) → noted_up (direction_of w.dir) n < w.limit - w.low → wanted_at w n l ≡ None
want_none w n l h = grind (arith, nat_tests)

pub record PartHanded (w : Wanted) (t : Term) (l : ℕ) (v : Option Wanted) : Type 0 where
  pub shows : ShowsIf (cut_at t) v
  pub value_is : value_in (direction_of w.dir) t (claim_if v) ≡ l
  pub room : HasRoom (pos w.limit -ℤ pos 1) (w.low - l) (claim_if v)
  pub claimed : w.limit - (w.low - l) ≤ top_of (direction_of w.dir) (cut_at t) → (ks : List (Option Claim)) → SomeClaim (claim_if v ∷ ks)

less_room : (limit n : ℕ) → ((pos limit -ℤ pos 1) -ℤ pos n) ≤ℤ (pos (limit - n) -ℤ pos 1)
less_room limit n = elim (lt_or_le n limit) [
  | inl lt ↦ omega (arith, ints)
  | inr le ↦ omega (arith, ints)
]

module _ (laws : LawsBelow) (w : Wanted) (t : Term) (allowed : IsAllowed t)
    (n : PartNote) (noted : IsPartNote (numbers_at t) n) (l : ℕ) (lower : l ≤ w.low)
    (stuck :
    lowest (w.limit - (w.low - l)) (start_of (direction_of w.dir) (cut_at t)) (run_profile (side_of (direction_of w.dir) (cut_at t)))
    ≡ l) where
  pub part_handed : PartHanded w t l (wanted_at w n l)
  part_handed =
      let d : Direction = direction_of w.dir in
      let m : ℕ = w.limit - (w.low - l) in
      let same = noted_up_is d t n noted in
      let fits = fit laws d t allowed in
      let side : List Segment = run_profile (side_of d (cut_at t)) in
      let law = laws.sides.by_last m (start_of d (cut_at t)) side (rises laws d t allowed) (omega arith) in
      let up : m - l ≡ w.limit - w.low = omega arith in
      elim (lt_or_le (top_of d (cut_at t)) m) [
        | inl past ↦ subst (PartHanded w t l) (sym (want_none w n l (elim (lt_or_le (noted_up d n) (w.limit - w.low)) [
          | inl less ↦ less
          | inr as_high ↦ absurd (let b = law.1 (omega (arith, stuck)) in omega arith)
        ])))
            (record {
              shows = tt;
              value_is = let f = fit laws d t allowed in
                  omega (arith, lowest_end laws m (start_of d (cut_at t)) (run_profile (side_of d (cut_at t))) past, stuck);
              room = tt;
              claimed = λ h ks. absurd (omega arith);
            })
        | inr stops ↦ subst (PartHanded w t l) (sym (want_yes w n l (let b = law.0 stops in omega (arith, stuck))))
            (record {
              shows = record { below = stops; lowest = sym stuck };
              value_is = value_same d t (pos m -ℤ pos 1) l;
              room = less_room w.limit (w.low - l);
              claimed = λ h ks. tt;
            })
      ]

-- ---- all parts

some_later : (c : Option Claim) (cs : List (Option Claim)) → SomeClaim cs → SomeClaim (c ∷ cs)
some_later None cs h = h
some_later (Some c) cs h = tt

pub record PartsHanded (w : Wanted) (ts : Parts) (ls : List ℕ) (vs : List (Option Wanted)) : Type 0 where
  pub all : AllShow (cuts ts) vs
  pub values_are : values_in (direction_of w.dir) (list_of_parts ts) (map claim_if vs) ≡ level_sum ls
  pub room : HaveRoom (direction_of w.dir) (pos w.limit -ℤ pos 1) w.low (list_of_parts ts) (map claim_if vs)
  pub claimed : SomeReaches (direction_of w.dir) w.limit w.low (cuts ts) ls → SomeClaim (map claim_if vs)

module _ (laws : LawsBelow) (w : Wanted) where
  abbrev dw : Direction
  dw = direction_of w.dir

  -- each alone is stuck at its level, under the limit less the levels of the others
  AreStuck : Parts → List ℕ → Type 0
  AreStuck no_parts [] = Unit {0}
  AreStuck no_parts (l ∷ ls) = ⊥
  AreStuck (part t ts) [] = ⊥
  AreStuck (part t ts) (l ∷ ls) =
      (lowest (w.limit - (w.low - l)) (start_of dw (cut_at t)) (run_profile (side_of dw (cut_at t))) ≡ l) × AreStuck ts ls

  each_stuck : (others : ℕ) (ts : Parts) (ls : List ℕ)
      → EachStuck w.limit others (starts dw (cuts ts)) (sides dw (cuts ts)) ls → w.low ≡ others + level_sum ls → AreStuck ts ls
  unfolding AreStuck
  each_stuck others no_parts [] h e = tt
  each_stuck others no_parts (l ∷ ls) h e = absurd h
  each_stuck others (part t ts) [] h e = absurd h
  each_stuck others (part t ts) (l ∷ ls) h e =
      let m : w.limit - (others + level_sum ls) ≡ w.limit - (w.low - l) = omega arith in (
        subst (λ (k : ℕ). lowest k (start_of dw (cut_at t)) (run_profile (side_of dw (cut_at t))) ≡ l) m h.0,
        each_stuck (others + l) ts ls h.2 (omega arith),
      )

  are_read : (ts : Parts) (ns : List PartNote) (ls : List ℕ) → AreAllowed ts → ArePartNotes (numbers ts) ns
      → AreStuck ts ls → level_sum ls ≤ w.low → AreRead dw (w.limit - w.low) ns (gone_of ts ns) ls
  unfolding AreRead AreStuck
  are_read no_parts [] [] a h s le = tt
  are_read no_parts [] (l ∷ ls) a h s le = absurd s
  are_read no_parts (n ∷ ns) ls a h s le = absurd h
  are_read (part t ts) [] ls a h s le = absurd h
  are_read (part t ts) (n ∷ ns) [] a h s le = absurd s
  are_read (part t ts) (n ∷ ns) (l ∷ ls) a h s le =
      let c : Cut = cut_at t in
      let m : ℕ = w.limit - (w.low - l) in
      let side : List Segment = run_profile (side_of dw c) in
      let over : m - l ≡ w.limit - w.low = omega arith in
      let low : c.least ≡ least_of t = (laws.stands t (unnamed t) a.0).low in
      let falls : net_sum side + c.least ≡ start_of dw c = (let f = fit laws dw t a.0 in omega arith) in
      let e : l ≡ kept_level (w.limit - w.low) c.least side =
      sym s.0 ∙ kept_above laws m (start_of dw c) c.least side (rises laws dw t a.0) falls
      ∙ ap (λ (k : ℕ). kept_level (m - k) c.least side) s.0
      ∙ ap (λ (k : ℕ). kept_level k c.least side) over in (
        λ is_read. noted_level_is dw (w.limit - w.low) t n (gone_of ts ns) h.0 is_read ∙ sym e,
        subst (λ (g : List Segment). AreRead dw (w.limit - w.low) ns g ls)
            (sym (later_is (numbers_at t) n h.0 (gone_of ts ns))) (are_read ts ns ls a.1 h.1 s.1 (omega arith)),
      )

  each_handed : (rest : ℕ) (ts : Parts) (ns : List PartNote) (ls : List ℕ) → AreAllowed ts → ArePartNotes (numbers ts) ns
      → AreStuck ts ls → AreFilled dw (w.limit - w.low) rest ns (gone_of ts ns) ls → level_sum ls ≤ w.low
      → PartsHanded w ts ls (wanted_each w (w.limit - w.low) rest ns (gone_of ts ns))
  unfolding AreFilled AreStuck
  each_handed rest no_parts [] [] a h s f le = record { all = tt; values_are = refl; room = tt; claimed = λ r. absurd r }
  each_handed rest no_parts [] (l ∷ ls) a h s f le = absurd s
  each_handed rest no_parts (n ∷ ns) ls a h s f le = absurd h
  each_handed rest (part t ts) [] ls a h s f le = absurd h
  each_handed rest (part t ts) (n ∷ ns) [] a h s f le = absurd s
  each_handed rest (part t ts) (n ∷ ns) (l ∷ ls) a h s f le =
      let gone : List Segment = gone_of (part t ts) (n ∷ ns) in
      let later : List Segment = drop (n.front + n.back) gone in
      let same : later ≡ gone_of ts ns = later_is (numbers_at t) n h.0 (gone_of ts ns) in
      let v : Option Wanted = wanted_at w n (level_or dw (w.limit - w.low) rest n gone) in
      let vs : List (Option Wanted) = wanted_each w (w.limit - w.low) rest ns later in
      let one : PartHanded w t l v =
      subst (λ (k : ℕ). PartHanded w t l (wanted_at w n k)) (sym f.0) (part_handed laws w t a.0 n h.0 l (omega arith) s.0) in
      let r : PartsHanded w ts ls vs =
      subst (λ (g : List Segment). PartsHanded w ts ls (wanted_each w (w.limit - w.low) rest ns g)) (sym same)
      (each_handed rest ts ns ls a.1 h.1 s.1
      (subst (λ (g : List Segment). AreFilled dw (w.limit - w.low) rest ns g ls) same f.1) (omega arith)) in
      record {
        all = (one.shows, r.all);
        values_are = omega (arith, one.value_is, r.values_are);
        room = (subst (λ (k : ℕ). HasRoom (pos w.limit -ℤ pos 1) (w.low - k) (claim_if v)) (sym one.value_is) one.room, r.room);
        claimed = λ x. elim x [
          | inl here ↦ one.claimed here (map claim_if vs)
          | inr later ↦ some_later (claim_if v) (map claim_if vs) (r.claimed later)
        ];
      }

  -- where the starts reach the limit, the first part does so
  first_reaches : (ts : Parts) (ls : List ℕ) → 1 ≤ count ts → AreStuck ts ls
      → level_sum ls ≡ w.low → w.limit ≤ w.low → SomeReaches dw w.limit w.low (cuts ts) ls
  unfolding AreStuck
  first_reaches no_parts ls c s e le = absurd (omega arith)
  first_reaches (part t ts) [] c s e le = absurd s
  first_reaches (part t ts) (l ∷ ls) c s e le =
      inl (omega (
        arith,
        s.0,
        (laws.sides.between (w.limit - (w.low - l)) (start_of dw (cut_at t)) (run_profile (side_of dw (cut_at t)))).1,
        laws.sides.above (start_of dw (cut_at t)) (run_profile (side_of dw (cut_at t))),
      ))

  lowest_start : (limit level : ℕ) (ss : List Segment) → limit ≤ level → lowest limit level ss ≡ level
  lowest_start limit level [] h = refl
  lowest_start limit level (s ∷ ss) h = grind (arith, nat_tests)

  pub par_handed : (ts : Parts) (ns : List PartNote) → IsAllowed (par ts)
      → ArePartNotes (numbers ts) ns → unread ns ≤ 1 → Shows (cut_at (par ts)) w
      → AreHanded (par ts) (Some w)
      (wanted_each w (w.limit - w.low) (left_over dw (w.limit - w.low) w.low ns (gone_of ts ns)) ns (gone_of ts ns))
  par_handed ts ns allowed noted one s =
      let cs : List Cut = cuts ts in
      let start : ℕ = level_sum (starts dw cs) in
      let all : List Segment = merge_segments (sides dw cs) in
      let x : (ls : List ℕ) × AreLevels w.limit 0 (starts dw cs) (sides dw cs) ls =
      laws.sides.levels w.limit 0 (starts dw cs) (sides dw cs) (all_rise laws dw ts allowed.1) (all_start laws dw ts allowed.1) in
      let ls : List ℕ = x.0 in
      let whole : Shows (par_cut cs) w = subst (λ (l : List Cut). Shows (par_cut l) w) (cuts_same ts) s in
      let zero_less : w.limit - 0 ≡ w.limit = omega arith in
      let together : lowest w.limit start all ≡ level_sum ls =
      subst (λ (n : ℕ). lowest n start all ≡ level_sum ls) zero_less x.1.together in
      let low : w.low ≡ lowest w.limit start all =
      whole.lowest ∙ ap (λ (n : ℕ). lowest w.limit n (run_profile (side_of dw (par_cut cs)))) (start_par dw cs)
      ∙ ap (lowest w.limit start) (side_par laws dw cs) in
      let total : w.low ≡ level_sum ls = low ∙ together in
      let stuck : AreStuck ts ls = each_stuck 0 ts ls x.1.each (omega arith) in
      let over : ℕ = w.limit - w.low in
      let gone : List Segment = gone_of ts ns in
      let read : AreRead dw over ns gone ls = are_read ts ns ls allowed.1 noted stuck (omega arith) in
      let rest : ℕ = left_over dw over w.low ns gone in
      let rest_is : rest ≡ unread_sum ns ls =
      ap (λ (k : ℕ). left_over dw over k ns gone) (let e : w.low ≡ 0 + level_sum ls = omega arith in e)
      ∙ left_is dw over 0 ns gone ls read ∙ omega arith in
      let h : PartsHanded w ts ls (wanted_each w over rest ns gone) =
      each_handed rest ts ns ls allowed.1 noted stuck (one_unread dw over rest ns gone ls read one rest_is) (omega arith) in
      let reach : SomeReaches dw w.limit w.low cs ls = elim (lt_or_le start w.limit) [
        | inl lt ↦ subst (λ (n : ℕ). SomeReaches dw w.limit n cs ls) (sym total) (laws.some dw w.limit cs ls x.1 whole.below lt)
        | inr le ↦ first_reaches ts ls (omega (arith, allowed.0)) stuck (sym total) (omega (arith, low, lowest_start w.limit start all le))
      ] in
      record {
        all = h.all;
        meets = record {
          some = h.claimed reach;
          room =
              subst (λ (n : ℕ). HaveRoom dw (pos w.limit -ℤ pos 1) n (list_of_parts ts) (map claim_if (wanted_each w over rest ns gone)))
              (total ∙ sym h.values_are) h.room;
          rest = omega (arith, total, h.values_are);
        };
      }
