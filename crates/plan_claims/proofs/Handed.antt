-- What is wanted of the two parts of a series meets the rules of a series.
use Rattle.std.proofs.Common.{◌≡◌, ℕ, ◌+◌, ◌-◌, ◌≤◌, ◌⊎◌, inl, inr, Bool, true, false, refl, sym, subst, ap, arith, ◌∙◌}
use Rattle.std.proofs.Common.{List, [], ◌∷◌, ◌++◌, append-nil, take, drop, length, length-append, Option, Some, None}
use Rattle.std.specs.Prelude.{pos, ◌-ℤ◌, if◌then◌else◌}
use Rattle.std.proofs.lemmas.Int.{ints}
use Rattle.std.proofs.lemmas.List.{take_at, drop_at}
use Rattle.limits.specs.Limits.{most_total}
use Rattle.mp_system.specs.declared.system.Task.{Task}
use Rattle.side_laws.specs.Segments.{Segment}
use Rattle.sp_terms.specs.declared.position.Position.{Position}
use Rattle.sp_terms.specs.declared.position.Position.TheVariants.{Hold}
use Rattle.sp_terms.specs.Places.{IsTermAt}
use Rattle.sp_terms.specs.Term.{Term, hold, series, par, Parts, no_parts, part, Direction, forward, backward, first_memory}
use Rattle.sp_terms.specs.Term.{first_memory_of_parts, initial_of, final_of, least_of, hill_of, IsAllowed}
use Rattle.sp_term_laws.specs.Moves.{other}
use Rattle.claim_rules.specs.Claims.{Claim}
use Rattle.claim_rules.specs.Rules.{MeetsData, MeetsSeries, first_is_stuck, first_is_closed}
use Rattle.claim_rules.specs.Rules.{hill_is_above, last_is_stuck, passed_first, passed_last}
use Rattle.plans.specs.declared.claim.Direction.{Direction as PlanDirection}
use Rattle.plans.specs.declared.claim.Direction.TheVariants.{Forward, Backward}
use Rattle.plans.specs.Plan.{direction_of}
use Rattle.cut_laws.specs.Cuts.{Cut, hold_cut, cut_first, cut_second, top_of, lowest_of}
use Rattle.sp_cuts.specs.declared.notes.PartNote.{PartNote}
use Rattle.sp_cuts.specs.declared.notes.SeriesNote.{SeriesNote}
use Rattle.sp_cuts.specs.Notes.{Noted, nothing_noted, both_noted, IsCutInFirst, IsCutInSecond, cut_at, numbers_at, unnamed}
use Rattle.sp_cuts.specs.Stacks.{total_of, total_of_parts}
use Rattle.plan_claims.specs.declared.wanted.Wanted.{Wanted}
use Rattle.plan_claims.specs.Below.{LawsBelow}
use Rattle.plan_claims.specs.Crossings.{LeadsOver, IsCrossing, note_direction, IsObstacle, far_stuck, near_stuck}
use Rattle.plan_claims.specs.Crossings.{near_closed, hill_above, last_stuck, AreHandedOver}
use Rattle.plan_claims.specs.Handing.{HasLast, HasLastTerm, IsSeriesReady, IsHandedDown}
use Rattle.plan_claims.specs.Wants.{Shows, ShowsIf, AreHanded, claim_if, claim_of_wanted}
use Rattle.cut_laws.specs.Tops.{MeetsAtLeast, BothRise}
use Rattle.plan_claims.proofs.Crossed.{first_over, second_over}
use Rattle.cut_laws.proofs.Composed.{is_second}
use Rattle.cut_laws.proofs.Composed.{is_first}

module _ (a : Term) (v : Task) (b : Term) (d : Direction) (near : Cut) (w : Wanted) (p q : Option Wanted) (cp cq : Option Claim)
    (first : passed_first d cp cq ≡ claim_if p) (last : passed_last d cp cq ≡ claim_if q)
    (turned : passed_first (other d) cp cq ≡ claim_if q) (low : least_of (passed_first d a b) ≡ near.least) where
  is_low : direction_of w.dir ≡ d → w.low ≤ near.least → w.low ≤ least_of (passed_first (direction_of w.dir) a b)
  is_low e h = subst (λ (c : Direction). w.low ≤ least_of (passed_first c a b)) (sym e) (omega arith)

  met : IsObstacle d near (hill_of a v b) w p q → MeetsSeries a v b cp cq (claim_of_wanted w)
  met (far_stuck e ep eq) =
      first_is_stuck (claim_of_wanted w, ap (λ (c : Direction). passed_first c cp cq) e ∙ turned ∙ ap claim_if eq, refl, refl, omega arith)
  met (near_stuck e ep eq) =
      first_is_stuck (claim_of_wanted w, ap (λ (c : Direction). passed_first c cp cq) e ∙ first ∙ ap claim_if ep, refl, refl, omega arith)
  met (near_closed e h u ep eq t s) =
      first_is_closed (
        claim_of_wanted u,
        ap (λ (c : Direction). passed_first c cp cq) e ∙ first ∙ ap claim_if ep,
        t ∙ ap other (sym e),
        ap (λ (n : ℕ). pos n -ℤ pos 1) s,
        omega arith,
      ) (is_low e h)
  met (hill_above e h ep eq le) = hill_is_above (omega (arith, ints)) (is_low e h)
  met (last_stuck e h u ep eq t s le) =
      last_is_stuck (
        claim_of_wanted u,
        ap (λ (c : Direction). passed_last c cp cq) e ∙ last ∙ ap claim_if eq,
        t ∙ sym e,
        ap (λ (n : ℕ). pos n -ℤ pos 1) s,
        le,
      ) (is_low e h)

-- the same for what may not be wanted
pub lifted : (t : Term) (o : Option Wanted) (w : Wanted) (ws : List (Option Wanted)) → o ≡ Some w
    → (Shows (cut_at t) w → AreHanded t (Some w) ws) → ShowsIf (cut_at t) o → AreHanded t o ws
lifted t o w ws e f s = subst (λ (x : Option Wanted). AreHanded t x ws) (sym e) (f (subst (ShowsIf (cut_at t)) e s))

-- ---- the first and the last memory are within the sum of all sizes

mutual
  pub first_within : (d : Direction) (t : Term) → first_memory d t ≤ total_of t
  first_within forward (hold size) = omega arith
  first_within backward (hold size) = omega arith
  first_within forward (series a v b) = let h = first_within forward a in omega arith
  first_within backward (series a v b) = let h = first_within backward b in omega arith
  first_within forward (par ts) = all_within forward ts
  first_within backward (par ts) = all_within backward ts

  all_within : (d : Direction) (ts : Parts) → first_memory_of_parts d ts ≤ total_of_parts ts
  all_within d no_parts = omega arith
  all_within d (part t ts) = let h = first_within d t in let k = all_within d ts in omega arith

-- ---- a series

-- what was noted, as segments between and beyond
both_lists : (xs ys : List Segment) (n : ℕ) → n ≡ length xs → (take n (xs ++ ys) ≡ xs) × (drop n (xs ++ ys) ≡ ys)
both_lists xs ys n e = (take_at xs ys n (sym e), drop_at xs ys n (sym e))

module _ (a : Term) (v : Task) (b : Term) (n : SeriesNote) (gone : List Segment) (s : IsSeriesReady a v b n gone) where
  -- the note is in the segments
  pub between_there : n.between ≤ length gone
  between_there = let t = s.note.between_count in
      omega (arith, ap (length {A = Segment}) s.note.gone_is, length-append s.note.between s.note.far)

module _ (laws : LawsBelow) where
  pub meets : (t : Term) → IsAllowed t → MeetsAtLeast (cut_at t)
  meets t h = let s = laws.stands t (unnamed t) h in record { front = s.front_net; back = s.back_net }

  pub rises : (t : Term) → IsAllowed t → BothRise (cut_at t)
  rises t h = let s = laws.stands t (unnamed t) h in record { front = s.front_rises; back = s.back_rises }

  module _ (a : Term) (v : Task) (b : Term) (n : SeriesNote) (gone : List Segment) (s : IsSeriesReady a v b n gone) where
    starts_there : n.between_start + n.far_start ≡ final_of a + initial_of b
    starts_there = go s.note.cut
      where
        go : IsCutInFirst (numbers_at a) (numbers_at b) n s.note.between s.note.far
            ⊎ IsCutInSecond (numbers_at a) (numbers_at b) n s.note.between s.note.far
            → n.between_start + n.far_start ≡ final_of a + initial_of b
        go (inl x) =
            let i = x.between_start in let f = x.far_start in
            omega (arith, (laws.stands a (unnamed a) s.allowed.2).final, (laws.stands b (unnamed b) s.allowed.3).initial)
        go (inr x) =
            let i = x.between_start in let f = x.far_start in
            omega (arith, (laws.stands a (unnamed a) s.allowed.2).final, (laws.stands b (unnamed b) s.allowed.3).initial)

    -- the sum of what is there beside the task fits
    pub starts_fit : n.between_start + n.far_start + v.extra ≤ most_total
    starts_fit = let t = starts_there in
        let h = s.within in
        let i = first_within backward a in
        let o = first_within forward b in
        omega arith

    pub share_fits : v.share ≤ n.between_start + n.far_start + v.extra
    share_fits = let t = starts_there in let h = s.allowed.1 in omega arith

    pub hill_is : (n.between_start + n.far_start + v.extra) - v.share ≡ hill_of a v b
    hill_is = let t = starts_there in let h = s.allowed.1 in omega arith

    ends_before : (cut_at a).fin ≤ hill_of a v b
    ends_before = let t = laws.stands a (unnamed a) s.allowed.2 in let e = t.final in omega arith

    starts_before : (cut_at b).initial ≤ hill_of a v b
    starts_before = let t = laws.stands b (unnamed b) s.allowed.3 in let e = t.initial in let h = s.allowed.0 in omega arith

    module _ (w : Wanted) (hill : ℕ) (hill_same : hill ≡ hill_of a v b) (between beyond : List Segment)
        (first : between ≡ take n.between gone) (second : beyond ≡ drop n.between gone) where
      between_is : between ≡ s.note.between
      between_is = first ∙ ap (take n.between) s.note.gone_is ∙ (both_lists s.note.between s.note.far n.between s.note.between_count).0

      beyond_is : beyond ≡ s.note.far
      beyond_is = second ∙ ap (drop n.between) s.note.gone_is ∙ (both_lists s.note.between s.note.far n.between s.note.between_count).1

      abbrev Told : Option Wanted → Option Wanted → Type 0
      Told p q = (d : Direction) (near far whole : Cut) → IsCrossing d near far n between beyond
          → note_direction n ≡ d → LeadsOver d near far whole hill → Shows whole w → AreHandedOver d near far hill w p q

      pub handed_forward : (p q : Option Wanted) → n.in_first ≡ false → Told p q
          → Shows (cut_at (series a v b)) w → AreHanded (series a v b) (Some w) (p ∷ q ∷ [])
      handed_forward p q is told shows = go s.note.cut
        where
          go : IsCutInFirst (numbers_at a) (numbers_at b) n s.note.between s.note.far
              ⊎ IsCutInSecond (numbers_at a) (numbers_at b) n s.note.between s.note.far
              → AreHanded (series a v b) (Some w) (p ∷ q ∷ [])
          go (inl x) = absurd (apart (sym x.in_first ∙ is))
            where
              apart : true ≡ false → ⊥
              apart e = cc
          go (inr x) =
              let crossing : IsCrossing forward (cut_at a) (cut_at b) n between beyond = record {
                near_up = x.near_up;
                least_is = x.near_least;
                between_start = x.between_start;
                between_is = between_is ∙ x.between_is;
                far_start = x.far_start;
                beyond_is = beyond_is ∙ x.far_is;
              } in
              let way : note_direction n ≡ forward = ap (λ (i : Bool). if i then backward else forward) is in
              let over : LeadsOver forward (cut_at a) (cut_at b) (cut_second (cut_at a) 0 (hill_of a v b) (cut_at b)) hill =
              subst (LeadsOver forward (cut_at a) (cut_at b) (cut_second (cut_at a) 0 (hill_of a v b) (cut_at b))) (sym hill_same)
              (second_over laws (cut_at a) (cut_at b) 0 (hill_of a v b) (meets a s.allowed.2)
              (meets b s.allowed.3) ends_before starts_before (rises a s.allowed.2) x.lower) in
              let h = told forward (cut_at a) (cut_at b) (cut_second (cut_at a) 0 (hill_of a v b) (cut_at b)) crossing way over
              (subst (λ (c : Cut). Shows c w) (is_second (cut_at a) 0 (hill_of a v b) (cut_at b) x.lower) shows) in
              record {
                all = (h.near_shows, (h.far_shows, tt));
                meets = met a v b forward (cut_at a) w p q (claim_if p)
                    (claim_if q) refl refl refl (sym (laws.stands a (unnamed a) s.allowed.2).low)
                    (subst (λ (m : ℕ). IsObstacle forward (cut_at a) m w p q) hill_same h.obstacle);
              }

      pub handed_backward : (p q : Option Wanted) → n.in_first ≡ true → Told p q
          → Shows (cut_at (series a v b)) w → AreHanded (series a v b) (Some w) (q ∷ p ∷ [])
      handed_backward p q is told shows = go s.note.cut
        where
          go : IsCutInFirst (numbers_at a) (numbers_at b) n s.note.between s.note.far
              ⊎ IsCutInSecond (numbers_at a) (numbers_at b) n s.note.between s.note.far
              → AreHanded (series a v b) (Some w) (q ∷ p ∷ [])
          go (inr x) = absurd (apart (sym x.in_first ∙ is))
            where
              apart : false ≡ true → ⊥
              apart e = cc
          go (inl x) =
              let crossing : IsCrossing backward (cut_at b) (cut_at a) n between beyond = record {
                near_up = x.near_up;
                least_is = x.near_least;
                between_start = x.between_start;
                between_is = between_is ∙ x.between_is;
                far_start = x.far_start;
                beyond_is = beyond_is ∙ x.far_is;
              } in
              let way : note_direction n ≡ backward = ap (λ (i : Bool). if i then backward else forward) is in
              let over : LeadsOver backward (cut_at b) (cut_at a) (cut_first (cut_at a) 0 (hill_of a v b) (cut_at b)) hill =
              subst (LeadsOver backward (cut_at b) (cut_at a) (cut_first (cut_at a) 0 (hill_of a v b) (cut_at b))) (sym hill_same)
              (first_over laws (cut_at a) (cut_at b) 0 (hill_of a v b) (meets a s.allowed.2)
              (meets b s.allowed.3) ends_before starts_before (rises b s.allowed.3) x.lower) in
              let h = told backward (cut_at b) (cut_at a) (cut_first (cut_at a) 0 (hill_of a v b) (cut_at b)) crossing way over
              (subst (λ (c : Cut). Shows c w) (is_first (cut_at a) 0 (hill_of a v b) (cut_at b) x.lower) shows) in
              record {
                all = (h.far_shows, (h.near_shows, tt));
                meets = met a v b backward (cut_at b) w p q (claim_if q)
                    (claim_if p) refl refl refl (sym (laws.stands b (unnamed b) s.allowed.3).low)
                    (subst (λ (m : ℕ). IsObstacle backward (cut_at b) m w p q) hill_same h.obstacle);
              }

-- ---- a data item

data_shown : (size : ℕ) (w : Wanted) (dir : PlanDirection) → w.dir ≡ dir → Shows (hold_cut size) w → MeetsData size (claim_of_wanted w)
data_shown size w Forward e s =
    let below : w.limit ≤ size = subst (λ (d : PlanDirection). w.limit ≤ top_of (direction_of d) (hold_cut size)) e s.below in
    let low : w.low ≡ size = subst (λ (d : PlanDirection). w.low ≡ lowest_of (direction_of d) w.limit (hold_cut size)) e s.lowest in
    (omega (arith, ints), omega arith)
data_shown size w Backward e s =
    let below : w.limit ≤ size = subst (λ (d : PlanDirection). w.limit ≤ top_of (direction_of d) (hold_cut size)) e s.below in
    let low : w.low ≡ size = subst (λ (d : PlanDirection). w.low ≡ lowest_of (direction_of d) w.limit (hold_cut size)) e s.lowest in
    (omega (arith, ints), omega arith)

data_handed : (size : ℕ) (o : Option Wanted) → ShowsIf (cut_at (hold size)) o → AreHanded (hold size) o []
data_handed size None s = record { all = tt; meets = tt }
data_handed size (Some w) s = record { all = tt; meets = data_shown size w w.dir refl s }

no_more : (n : Noted) → both_noted n nothing_noted ≡ n
no_more n = same n.series (n.series ++ []) n.parts (n.parts ++ []) n.gone
    (n.gone ++ []) (append-nil n.series) (append-nil n.parts) (append-nil n.gone)
  where
    same : (s s' : List SeriesNote) (p p' : List PartNote) (g g' : List Segment) → s' ≡ s → p' ≡ p → g' ≡ g
        → ◌≡◌ {A = Noted} (record { series = s'; parts = p'; gone = g' }) (record { series = s; parts = p; gone = g })
    same s s' p p' g g' es ep eg = rw (es, ep, eg) refl

hold_go : (size : ℕ) (before notes : Noted) (o : Option Wanted) (todo : List (Option Wanted))
    → HasLastTerm (hold size) before notes → ShowsIf (cut_at (hold size)) o → IsHandedDown (hold size) before o notes todo todo
hold_go size before notes o todo l s = record {
  left = l.whole ∙ ap (both_noted before) l.note ∙ no_more before;
  parts = [];
  behind = sym (append-nil todo);
  handed = data_handed size o s;
}

pub hold_handed : (position : Position) (size : ℕ) (t : Term) (before notes : Noted) (o : Option Wanted) (todo : List (Option Wanted))
    → position ≡ Hold size → HasLast position t before notes → ShowsIf (cut_at t) o
    → IsHandedDown t before o notes todo todo
hold_handed position size t before notes o todo is (own, l) s =
    let e : t ≡ hold size = subst (λ (p : Position). IsTermAt p t) is own in
    subst (λ (u : Term). IsHandedDown u before o notes todo todo) (sym e)
    (hold_go size before notes o todo (subst (λ (u : Term). HasLastTerm u before notes) e l)
    (subst (λ (u : Term). ShowsIf (cut_at u) o) e s))
