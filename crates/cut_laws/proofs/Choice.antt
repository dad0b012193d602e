-- Which claims on the parts of a series a claim on the whole needs.
use Rattle.std.proofs.Common.{◌≡◌, ℕ, ◌+◌, ◌-◌, ◌<◌, ◌≤◌, inl, inr, max, min, refl, subst, arith, List, Option, Some, None}
use Rattle.std.specs.Prelude.{ℤ, if◌then◌else◌, nat_lt}
use Rattle.std.proofs.lemmas.Bool.Decides.{nat_tests}
use Rattle.mp_system.specs.declared.system.Task.{Task}
use Rattle.side_laws.specs.Appending.{cross_hill}
use Rattle.side_laws.specs.Segments.{Segment, net_sum, lowest, top}
use Rattle.hill_valley.specs.Side.{limit_from, run_profile}
use Rattle.sp_terms.specs.Term.{Term, Direction, forward, backward, hill_of, first_memory}
use Rattle.sp_term_laws.specs.Moves.{other}
use Rattle.claim_rules.specs.Claims.{Claim}
use Rattle.claim_rules.specs.Rules.{MeetsSeries, first_is_stuck, first_is_closed, hill_is_above, last_is_stuck}
use Rattle.segment_merge.specs.Laws.{SideLaws}
use Rattle.cut_laws.specs.Cuts.{Cut, cut_first, cut_second, over_task, front_peak, back_peak}
use Rattle.cut_laws.proofs.Wanted.{Wants, WantsIf, near_claim, far_claim, Fits, first_claim, second_claim}
use Rattle.cut_laws.proofs.Levels.{lowest_end}
use Rattle.lists.proofs.Orders.{lt_or_le}
use Rattle.cut_laws.proofs.Limits.{above-beyond}

-- the parts show what is asked of them, and the rule of a series is met
pub record SeriesChoice (a : Term) (v : Task) (b : Term) (ca cb : Cut) (k : Claim) (p q : Option Claim) : Type 0 where
  pub first : WantsIf ca p
  pub second : WantsIf cb q
  pub meets : MeetsSeries a v b p q k

-- the first thing that does not pass on the way down a side that crosses another part
pub data Obstacle (limit rest start mid hill next low : ℕ) (near between far : List Segment) : Type 0 where
  near_stops : limit ≤ top start near → rest ≤ lowest limit start near → Obstacle limit rest start mid hill next low near between far
  between_stops : top start near < limit → limit ≤ top mid between
      → rest ≤ low → Obstacle limit rest start mid hill next low near between far
  hill_stops : top start near < limit → top mid between < limit → limit ≤ hill
      → rest ≤ low → Obstacle limit rest start mid hill next low near between far
  far_stops : top start near < limit → top mid between < limit → hill < limit → limit ≤ top next far
      → rest ≤ lowest limit next far → rest ≤ low → Obstacle limit rest start mid hill next low near between far

stops : (limit t p m z y : ℕ) → z ≡ (if nat_lt (max t p) limit then m else y) → limit ≤ t → z ≡ y
stops limit t p m z y h le = grind (arith, nat_tests)

stops_peak : (limit t p m z y : ℕ) → z ≡ (if nat_lt (max t p) limit then m else y) → limit ≤ p → z ≡ y
stops_peak limit t p m z y h le = grind (arith, nat_tests)

goes : (limit t p m z y : ℕ) → z ≡ (if nat_lt (max t p) limit then m else y) → t < limit → p < limit → z ≡ m
goes limit t p m z y h lt lt' = grind (arith, nat_tests)

module _ (laws : SideLaws) (limit start mid hill next low : ℕ) (near between far : List Segment)
    (room : net_sum near + low ≡ start) (wide : low ≤ mid) (enough : next ≤ hill)
    (falls : next ≤ low + net_sum far) (room' : net_sum far ≤ next) where
  pub obstacle : limit ≤ top start (cross_hill low (max (top mid between) hill) next far near)
      → Obstacle limit
      (lowest limit start (cross_hill low (max (top mid between) hill) next far near)) start mid hill next low near between far
  obstacle h =
      let peak : ℕ = max (top mid between) hill in
      let whole : List Segment = cross_hill low peak next far near in
      let at : start - net_sum near ≡ low = omega arith in
      let high : low ≤ peak = omega (arith, laws.above mid between) in
      let lw : lowest limit start whole
      ≡ (if nat_lt (max (top start near) peak) limit then min low (lowest limit next far) else lowest limit start near) =
      subst (λ (n : ℕ). lowest limit start (cross_hill n peak next far near)
      ≡ (if nat_lt (max (top start near) peak) limit then min n (lowest limit next far) else lowest limit start near)) at
      (laws.crossing_lowest limit start peak next far near (omega arith) (omega arith) (omega arith) room') in
      let tp : top start whole ≡ max (top start near) (max peak (top next far)) =
      subst (λ (n : ℕ). top start (cross_hill n peak next far near) ≡ max (top start near) (max peak (top next far))) at
      (laws.crossing_top start peak next far near (omega arith) (omega arith) (omega arith) (omega arith) room') in
      let y : ℕ = lowest limit start near in
      let m : ℕ = min low (lowest limit next far) in
      let z : ℕ = lowest limit start whole in
      let e : top start near < limit → y ≡ low = λ lt. let x = lowest_end laws limit start near lt in omega arith in
      elim (lt_or_le (top start near) limit) [
        | inr stop ↦ near_stops stop (let q = stops limit (top start near) peak m z y lw stop in omega arith)
        | inl go ↦ elim (lt_or_le (top mid between) limit) [
          | inr stop ↦
              between_stops go stop (let q = stops_peak limit (top start near) peak m z y lw (omega arith) in let k = e go in omega arith)
          | inl go2 ↦ elim (lt_or_le hill limit) [
            | inr stop ↦ hill_stops go go2 stop
                (let q = stops_peak limit (top start near) peak m z y lw (omega arith) in let k = e go in omega arith)
            | inl go3 ↦ let q = goes limit (top start near) peak m z y lw go (omega arith) in
                far_stops go go2 go3 (omega arith) (omega arith) (omega arith)
          ]
        ]
      ]

-- the choice, and what it needs in each case

near_yes : (k : Claim) (near between : ℕ) → limit_from k.bound ≤ near → near_claim k near between ≡ Some k
near_yes k near between h = grind (arith, nat_tests)

near_other : (k : Claim) (near between : ℕ) → near < limit_from k.bound → limit_from k.bound ≤ between
    → near_claim k near between ≡ Some (record { direction = other k.direction; bound = k.bound; rest = 0 })
near_other k near between h h' = grind (arith, nat_tests)

near_none : (k : Claim) (near between : ℕ) → near < limit_from k.bound → between < limit_from k.bound → near_claim k near between ≡ None
near_none k near between h h' = grind (arith, nat_tests)

far_none : (k : Claim) (near between hill : ℕ) → limit_from k.bound ≤ max near (max between hill) → far_claim k near between hill ≡ None
far_none k near between hill h = grind (arith, nat_tests)

far_yes : (k : Claim) (near between hill : ℕ) → max near (max between hill) < limit_from k.bound → far_claim k near between hill ≡ Some k
far_yes k near between hill h = grind (arith, nat_tests)

module _ (k : Claim) (start mid hill next low : ℕ) (near between far : List Segment) (P : Option Claim → Option Claim → Type 0)
    (p1 : limit_from k.bound ≤ top start near → k.rest ≤ lowest (limit_from k.bound) start near → P (Some k) None)
    (p2 : limit_from k.bound ≤ top mid between → k.rest ≤ low
    → P (Some (record { direction = other k.direction; bound = k.bound; rest = 0 })) None)
    (p3 : limit_from k.bound ≤ hill → k.rest ≤ low → P None None)
    (p4 : limit_from k.bound ≤ top next far → k.rest ≤ lowest (limit_from k.bound) next far → k.rest ≤ low → P None (Some k)) where
  chosen : (z : ℕ) → Obstacle (limit_from k.bound) z start mid hill next low near between far → k.rest ≤ z
      → P (near_claim k (top start near) (top mid between)) (far_claim k (top start near) (top mid between) hill)
  chosen z (near_stops h r) le = rw (
    near_yes k (top start near) (top mid between) h,
    far_none k (top start near) (top mid between) hill (omega arith),
  ) (p1 h (omega arith))
  chosen z (between_stops g h r) le = rw (
    near_other k (top start near) (top mid between) g h,
    far_none k (top start near) (top mid between) hill (omega arith),
  ) (p2 h (omega arith))
  chosen z (hill_stops g g2 h r) le = rw (
    near_none k (top start near) (top mid between) g g2,
    far_none k (top start near) (top mid between) hill (omega arith),
  ) (p3 h (omega arith))
  chosen z (far_stops g g2 g3 h r s) le = rw (
    near_none k (top start near) (top mid between) g g2,
    far_yes k (top start near) (top mid between) hill (omega arith),
  ) (p4 h (omega arith) (omega arith))

module _ (laws : SideLaws) (a : Term) (v : Task) (b : Term) (ca cb : Cut)
    (share : v.share ≤ first_memory backward a) (fa : Fits a ca) (fb : Fits b cb) where
  forwards : (bound : ℤ) (rest z : ℕ)
      → Obstacle (limit_from bound) z ca.initial ca.fin (hill_of a v b) cb.initial ca.least
      (run_profile ca.front) (run_profile ca.back) (run_profile cb.front)
      → rest ≤ z
      → let k : Claim = record { direction = forward; bound = bound; rest = rest } in
      SeriesChoice a v b ca cb k (first_claim k ca cb (hill_of a v b)) (second_claim k ca cb (hill_of a v b))
  forwards bound rest z o le =
      let k : Claim = record { direction = forward; bound = bound; rest = rest } in
      chosen k ca.initial ca.fin (hill_of a v b) cb.initial ca.least (run_profile ca.front)
      (run_profile ca.back) (run_profile cb.front) (λ p q. SeriesChoice a v b ca cb k p q)
      (λ h r. record { first = record { below = h; low = r }; second = tt; meets = first_is_stuck (k, refl, refl, refl, omega arith) })
      (λ h r. record {
        first = record { below = h; low = omega arith };
        second = tt;
        meets = first_is_closed (record { direction = backward; bound = bound; rest = 0 }, refl, refl, refl, omega arith)
            (omega (arith, fa.low));
      })
      (λ h r. record { first = tt; second = tt; meets = hill_is_above (above-beyond (hill_of a v b) bound h) (omega (arith, fa.low)) })
      (λ h r s. record {
        first = tt;
        second = record { below = h; low = r };
        meets = last_is_stuck (k, refl, refl, refl, omega arith) (omega (arith, fa.low));
      })
      z o le

  backwards : (bound : ℤ) (rest z : ℕ)
      → Obstacle (limit_from bound) z cb.fin cb.initial (hill_of a v b) ca.fin cb.least
      (run_profile cb.back) (run_profile cb.front) (run_profile ca.back)
      → rest ≤ z
      → let k : Claim = record { direction = backward; bound = bound; rest = rest } in
      SeriesChoice a v b ca cb k (first_claim k ca cb (hill_of a v b)) (second_claim k ca cb (hill_of a v b))
  backwards bound rest z o le =
      let k : Claim = record { direction = backward; bound = bound; rest = rest } in
      chosen k cb.fin cb.initial (hill_of a v b) ca.fin cb.least (run_profile cb.back)
      (run_profile cb.front) (run_profile ca.back) (λ p q. SeriesChoice a v b ca cb k q p)
      (λ h r. record { first = tt; second = record { below = h; low = r }; meets = first_is_stuck (k, refl, refl, refl, omega arith) })
      (λ h r. record {
        first = tt;
        second = record { below = h; low = omega arith };
        meets = first_is_closed (record { direction = forward; bound = bound; rest = 0 }, refl, refl, refl, omega arith)
            (omega (arith, fb.low));
      })
      (λ h r. record { first = tt; second = tt; meets = hill_is_above (above-beyond (hill_of a v b) bound h) (omega (arith, fb.low)) })
      (λ h r s. record {
        first = record { below = h; low = r };
        second = tt;
        meets = last_is_stuck (k, refl, refl, refl, omega arith) (omega (arith, fb.low));
      })
      z o le

  -- the cut lies in the first part
  pub choice_first : (task : ℕ) (k : Claim) → ca.least ≤ cb.least → Wants (cut_first ca task (hill_of a v b) cb) k
      → SeriesChoice a v b ca cb k (first_claim k ca cb (hill_of a v b)) (second_claim k ca cb (hill_of a v b))
  choice_first task k le w = by_direction k.direction k.bound k.rest w
    where
      by_direction : (d : Direction) (bound : ℤ) (rest : ℕ) → let k : Claim = record { direction = d; bound = bound; rest = rest } in
          Wants (cut_first ca task (hill_of a v b) cb) k
          → SeriesChoice a v b ca cb k (first_claim k ca cb (hill_of a v b)) (second_claim k ca cb (hill_of a v b))
      by_direction forward bound rest w =
          forwards bound rest (lowest (limit_from bound) ca.initial (run_profile ca.front)) (near_stops w.below (omega arith)) w.low
      by_direction backward bound rest w =
          let limit : ℕ = limit_from bound in
          let whole : List Segment = cross_hill cb.least (max (top cb.initial (run_profile cb.front)) (hill_of a v b)) ca.fin
          (run_profile ca.back) (run_profile cb.back) in
          let e = laws.profile_crossing cb.least (max (front_peak cb) (hill_of a v b)) ca.fin (over_task cb.front task) ca.back cb.back in
          let below : limit ≤ top cb.fin whole = subst (λ (l : List Segment). limit ≤ top cb.fin l) e w.below in
          let low : rest ≤ lowest limit cb.fin whole = subst (λ (l : List Segment). rest ≤ lowest limit cb.fin l) e w.low in
          backwards bound rest (lowest limit cb.fin whole)
          (obstacle laws limit cb.fin cb.initial (hill_of a v b) ca.fin cb.least (run_profile cb.back)
          (run_profile cb.front) (run_profile ca.back) fb.back (let q = fb.front in omega arith)
          (omega (arith, fa.final)) (let q = fa.back in omega arith) (let q = fa.back in omega arith) below) low

  -- the cut lies in the second part
  pub choice_second : (task : ℕ) (k : Claim) → cb.least ≤ ca.least → Wants (cut_second ca task (hill_of a v b) cb) k
      → SeriesChoice a v b ca cb k (first_claim k ca cb (hill_of a v b)) (second_claim k ca cb (hill_of a v b))
  choice_second task k le w = by_direction k.direction k.bound k.rest w
    where
      by_direction : (d : Direction) (bound : ℤ) (rest : ℕ) → let k : Claim = record { direction = d; bound = bound; rest = rest } in
          Wants (cut_second ca task (hill_of a v b) cb) k
          → SeriesChoice a v b ca cb k (first_claim k ca cb (hill_of a v b)) (second_claim k ca cb (hill_of a v b))
      by_direction backward bound rest w =
          backwards bound rest (lowest (limit_from bound) cb.fin (run_profile cb.back)) (near_stops w.below (omega arith)) w.low
      by_direction forward bound rest w =
          let limit : ℕ = limit_from bound in
          let whole : List Segment = cross_hill ca.least (max (top ca.fin (run_profile ca.back)) (hill_of a v b)) cb.initial
          (run_profile cb.front) (run_profile ca.front) in
          let e =
          laws.profile_crossing ca.least (max (back_peak ca) (hill_of a v b)) cb.initial (over_task ca.back task) cb.front ca.front in
          let below : limit ≤ top ca.initial whole = subst (λ (l : List Segment). limit ≤ top ca.initial l) e w.below in
          let low : rest ≤ lowest limit ca.initial whole = subst (λ (l : List Segment). rest ≤ lowest limit ca.initial l) e w.low in
          forwards bound rest (lowest limit ca.initial whole)
          (obstacle laws limit ca.initial ca.fin (hill_of a v b) cb.initial ca.least (run_profile ca.front)
          (run_profile ca.back) (run_profile cb.front) fa.front (let q = fa.back in omega arith)
          (omega (arith, fb.initial)) (let q = fb.front in omega arith) (let q = fb.front in omega arith) below) low
