-- What is wanted of the near part of a series and of the far one.
use Rattle.std.proofs.Common.{◌≡◌, ℕ, ◌+◌, ◌-◌, ◌<◌, ◌≤◌, inl, inr, max, min, refl, sym, subst, ap, arith, ◌∙◌, List, Some, None}
use Rattle.std.specs.Prelude.{if◌then◌else◌, nat_lt}
use Rattle.std.proofs.lemmas.Bool.Decides.{nat_tests}
use Rattle.side_laws.specs.Segments.{Segment, lowest, last_up}
use Rattle.hill_valley.specs.Side.{run_profile}
use Rattle.sp_terms.specs.Term.{Direction}
use Rattle.sp_term_laws.specs.Moves.{other}
use Rattle.plans.specs.Plan.{direction_of}
use Rattle.cut_laws.specs.Cuts.{Cut, top_of, lowest_of, side_of, start_of}
use Rattle.sp_cuts.specs.declared.notes.SeriesNote.{SeriesNote}
use Rattle.plan_claims.specs.declared.wanted.Wanted.{Wanted}
use Rattle.plan_claims.specs.Below.{LawsBelow}
use Rattle.plan_claims.specs.Crossings.{up_of, LeadsOver, IsCrossing, far_stuck, near_stuck, near_closed}
use Rattle.plan_claims.specs.Crossings.{hill_above, last_stuck, turned_low, IsTurned, AreHandedOver}
use Rattle.plan_claims.specs.Wants.{Shows}
use Rattle.plan_claims.proofs.Sides.{lowest_of_first}
use Rattle.lists.proofs.Orders.{lt_or_le}

stuck : (limit m l a b z : ℕ) → z ≡ (if nat_lt (max m l) limit then a else b) → limit ≤ max m l → z ≡ b
stuck limit m l a b z e h = grind (arith, nat_tests)

over : (limit m l a b z : ℕ) → z ≡ (if nat_lt (max m l) limit then a else b) → max m l < limit → z ≡ a
over limit m l a b z e h = grind (arith, nat_tests)

first_if : (m n a b : ℕ) → m < n → (if nat_lt m n then a else b) ≡ a
first_if m n a b h = grind (arith, nat_tests)

second_if : (m n a b : ℕ) → n ≤ m → (if nat_lt m n then a else b) ≡ b
second_if m n a b h = grind (arith, nat_tests)

module _ (laws : LawsBelow) (d : Direction) (near far whole : Cut) (hill : ℕ) (n : SeriesNote) (between beyond : List Segment) (w : Wanted)
    (x : IsCrossing d near far n between beyond) (o : LeadsOver d near far whole hill) (s : Shows whole w) where
  -- in the other direction the far part is passed first
  pub handed_other : direction_of w.dir ≡ other d → AreHandedOver d near far hill w None (Some w)
  handed_other e =
      let below = subst (λ (c : Direction). w.limit ≤ top_of c whole) e s.below in
      let low = subst (λ (c : Direction). w.low ≡ lowest_of c w.limit whole) e s.lowest in
      record {
        near_shows = tt;
        far_shows = record {
          below = subst (λ (c : Direction). w.limit ≤ top_of c far) (sym e) (let t = o.far_top in omega arith);
          lowest = subst (λ (c : Direction). w.low ≡ lowest_of c w.limit far) (sym e) (low ∙ o.far_low w.limit);
        };
        obstacle = far_stuck e refl refl;
      }

  module _ (e : direction_of w.dir ≡ d) where
    below : w.limit ≤ top_of d whole
    below = subst (λ (c : Direction). w.limit ≤ top_of c whole) e s.below

    low : w.low ≡ (if nat_lt (max (top_of d near) (max (top_of (other d) near) hill)) w.limit
        then min near.least (lowest_of d w.limit far) else lowest_of d w.limit near)
    low = subst (λ (c : Direction). w.low ≡ lowest_of c w.limit whole) e s.lowest ∙ o.low_is w.limit

    -- the near part's side does not pass exactly where it goes up last by as much as the limit is above where the whole is stuck: the
    -- whole is stuck there with it, or is past it and lower
    low_near : w.low ≤ lowest_of d w.limit near
    low_near = elim (lt_or_le (max (top_of d near) (max (top_of (other d) near) hill)) w.limit) [
      | inl lt ↦
          let y = over w.limit (top_of d near) (max (top_of (other d) near) hill)
          (min near.least (lowest_of d w.limit far)) (lowest_of d w.limit near) w.low low lt in
          omega (arith, o.near_low w.limit (omega arith))
      | inr le ↦ omega (
        arith,
        stuck w.limit (top_of d near) (max (top_of (other d) near) hill)
            (min near.least (lowest_of d w.limit far)) (lowest_of d w.limit near) w.low low le,
      )
    ]

    near_stops : w.limit - w.low ≤ n.near_up → w.limit ≤ top_of d near
    near_stops h = let u = x.near_up in let l = low_near in (o.near_stuck w.limit).1 (omega arith)

    near_passes : n.near_up < w.limit - w.low → top_of d near < w.limit
    near_passes h = elim (lt_or_le (top_of d near) w.limit) [
      | inl lt ↦ lt
      | inr le ↦
          let u = x.near_up in
          let y = stuck w.limit (top_of d near) (max (top_of (other d) near) hill)
          (min near.least (lowest_of d w.limit far)) (lowest_of d w.limit near) w.low low (omega arith) in
          absurd (omega (arith, (o.near_stuck w.limit).0 le))
    ]

    pub handed_near : w.limit - w.low ≤ n.near_up → AreHandedOver d near far hill w (Some w) None
    handed_near h =
        let t = near_stops h in
        record {
          near_shows = record {
            below = subst (λ (c : Direction). w.limit ≤ top_of c near) (sym e) t;
            lowest = subst (λ (c : Direction). w.low ≡ lowest_of c w.limit near) (sym e)
                (stuck w.limit (top_of d near) (max (top_of (other d) near) hill)
                (min near.least (lowest_of d w.limit far)) (lowest_of d w.limit near) w.low low (omega arith));
          };
          far_shows = tt;
          obstacle = near_stuck e refl refl;
        }

    module _ (past : n.near_up < w.limit - w.low) where
      past_near : top_of d near < w.limit
      past_near = near_passes past

      -- what stops the way behind the near part's side
      low_least : w.limit ≤ max (top_of (other d) near) hill → w.low ≤ near.least
      low_least h =
          let y = stuck w.limit (top_of d near) (max (top_of (other d) near) hill)
          (min near.least (lowest_of d w.limit far)) (lowest_of d w.limit near) w.low low (omega arith) in
          omega (arith, y, o.near_low w.limit past_near)

      -- the near part's other side, which was read to its end
      turned_is : turned_low n.between_start between w ≡ lowest_of (other d) w.limit near
      turned_is = ap (lowest w.limit n.between_start) x.between_is
          ∙ ap (λ (m : ℕ). lowest w.limit m (run_profile (side_of (other d) near))) x.between_start

      turned_up : last_up between ≡ up_of (other d) near
      turned_up = ap last_up x.between_is

      turned_stops : w.limit - turned_low n.between_start between w ≤ last_up between → w.limit ≤ top_of (other d) near
      turned_stops h = let l = turned_is in let u = turned_up in (o.turned_stuck w.limit).1 (omega arith)

      turned_passes : last_up between < w.limit - turned_low n.between_start between w → top_of (other d) near < w.limit
      turned_passes h = elim (lt_or_le (top_of (other d) near) w.limit) [
        | inl lt ↦ lt
        | inr le ↦ let l = turned_is in let u = turned_up in absurd (omega (arith, (o.turned_stuck w.limit).0 le))
      ]

      pub handed_closed : (v : Wanted) → IsTurned n.between_start between w (Some v) → AreHandedOver d near far hill w (Some v) None
      handed_closed v t =
          let turned : direction_of v.dir ≡ other d = t.1 ∙ ap other e in
          let stops = turned_stops t.0 in
          record {
            near_shows = record {
              below = subst (λ (c : Direction). v.limit ≤ top_of c near) (sym turned) (omega (arith, t.2));
              lowest = subst (λ (c : Direction). v.low ≡ lowest_of c v.limit near) (sym turned)
                  (t.3 ∙ turned_is ∙ ap (λ (m : ℕ). lowest_of (other d) m near) (sym t.2));
            };
            far_shows = tt;
            obstacle = near_closed e (low_least (omega arith)) v refl refl turned t.2;
          }

      pub handed_hill : w.limit ≤ hill → AreHandedOver d near far hill w None None
      handed_hill h =
          record { near_shows = tt; far_shows = tt; obstacle = hill_above e (low_least (omega arith)) refl refl (omega arith) }

      pub handed_last : IsTurned n.between_start between w None → hill < w.limit → (l : ℕ)
          → l ≡ (if nat_lt w.low n.near_least then w.low else lowest w.limit n.far_start beyond)
          → AreHandedOver d near far hill w None (Some (record { dir = w.dir; limit = w.limit; low = l }))
      handed_last h h' l is =
          let t = turned_passes h in
          let top = o.top_is in
          let pn = past_near in
          let z : w.low ≡ min near.least (lowest_of d w.limit far) =
          over w.limit (top_of d near) (max (top_of (other d) near) hill)
          (min near.least (lowest_of d w.limit far)) (lowest_of d w.limit near) w.low low (omega arith) in
          let le = x.least_is in
          let same : l ≡ lowest_of d w.limit far = elim (lt_or_le w.low n.near_least) [
            | inl lt ↦ is ∙ first_if w.low n.near_least w.low (lowest w.limit n.far_start beyond) lt ∙ omega arith
            | inr ge ↦
                is ∙ second_if w.low n.near_least w.low (lowest w.limit n.far_start beyond) ge
                ∙ ap (λ (m : ℕ). lowest w.limit m beyond) x.far_start ∙ ap (lowest w.limit (start_of d far)) x.beyond_is
                ∙ lowest_of_first laws w.limit (near.least + 1) (start_of d far) (run_profile (side_of d far)) (omega arith)
          ] in
          record {
            near_shows = tt;
            far_shows = record {
              below = subst (λ (c : Direction). w.limit ≤ top_of c far) (sym e) (let b = below in omega arith);
              lowest = subst (λ (c : Direction). l ≡ lowest_of c w.limit far) (sym e) same;
            };
            obstacle = last_stuck e (omega arith) (record { dir = w.dir; limit = w.limit; low = l }) refl refl e refl (omega arith);
          }
