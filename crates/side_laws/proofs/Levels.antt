use Rattle.std.proofs.Common.{◌≡◌, ℕ, zero, suc, ◌+◌, ◌-◌, ◌<◌, ◌≤◌, List, [], ◌∷◌, refl, ap, sym, ◌∙◌, arith, subst, inl, inr, length}
use Rattle.std.proofs.lemmas.Bool.Decides.{nat_tests}
use Rattle.side_laws.specs.Segments.{Segment, net_sum, lowest, Passes, StartsAbove, IsRising, IsStuck}
use Rattle.side_laws.specs.Merging.{insert_segment, insert_segments, merge_segments, AllRising}
use Rattle.side_laws.specs.Levels.{level_sum, AllStart, AreLevels}
use Rattle.side_laws.proofs.Merge.{total_inserted, inserted_all_comm, lowest_stuck, stuck_all}
use Rattle.side_laws.proofs.Insert.{lowest_inserted}
use Rattle.side_laws.proofs.Passing.{inserted_passes}
use Rattle.lists.proofs.Orders.{lt_or_le}

-- where two sides that go down together are stuck: each alone is stuck there, below the limit less the other's level
pub record TwoStuck (limit start_a start_b : ℕ) (a b : List Segment) : Type 0 where
  pub x : ℕ
  pub y : ℕ
  pub low_a : x ≤ start_a
  pub low_b : y ≤ start_b
  pub both : lowest limit (start_a + start_b) (insert_segments a b) ≡ x + y
  pub alone_a : lowest (limit - y) start_a a ≡ x
  pub alone_b : lowest (limit - x) start_b b ≡ y
  pub pass : Passes (limit - y) start_a a → Passes (limit - x) start_b b → Passes limit (start_a + start_b) (insert_segments a b)

front_inserted_step : (t : Segment) (e : Segment) (es : List Segment) → t.up < e.up → insert_segment t (e ∷ es) ≡ t ∷ e ∷ es
front_inserted_step t e es h = grind (arith, nat_tests)

front_inserted : (t : Segment) (es : List Segment) → IsRising (t ∷ es) → insert_segment t es ≡ t ∷ es
front_inserted t [] r = refl
front_inserted t (e ∷ es) r = front_inserted_step t e es r.0

lowest_go : (limit level : ℕ) (s : Segment) (ss : List Segment)
    → level + s.up < limit → lowest limit level (s ∷ ss) ≡ lowest limit (level - s.net) ss
lowest_go limit level s ss h = grind (arith, nat_tests)

lowest_stay : (limit level : ℕ) (s : Segment) (ss : List Segment) → limit ≤ level + s.up → lowest limit level (s ∷ ss) ≡ level
lowest_stay limit level s ss h = grind (arith, nat_tests)

pub total_all : (a b : List Segment) → net_sum (insert_segments a b) ≡ net_sum a + net_sum b
total_all [] b = omega arith
total_all (s ∷ a) b = omega (arith, total_inserted s (insert_segments a b), total_all a b)

-- the first side goes on
go_a : (limit start_a start_b : ℕ) (s : Segment) (a b : List Segment)
    → start_a + start_b + s.up < limit → net_sum (s ∷ a) ≤ start_a → net_sum b ≤ start_b
    → TwoStuck limit (start_a - s.net) start_b a b → TwoStuck limit start_a start_b (s ∷ a) b
go_a limit start_a start_b s a b go room_a room_b r =
    let t = total_all a b in
    let e : start_a + start_b - s.net ≡ start_a - s.net + start_b = omega arith in
    let room : s.net + net_sum (insert_segments a b) ≤ start_a + start_b = omega arith in
    let first : start_a + s.up < limit - r.y = let h = r.low_b in omega arith in
    record {
      x = r.x;
      y = r.y;
      low_a = let h = r.low_a in omega arith;
      low_b = r.low_b;
      both = lowest_inserted limit (start_a + start_b) s (insert_segments a b) go room
          ∙ ap (λ n. lowest limit n (insert_segments a b)) e ∙ r.both;
      alone_a = lowest_go (limit - r.y) start_a s a first ∙ r.alone_a;
      alone_b = r.alone_b;
      pass = λ pa pb. inserted_passes limit (start_a + start_b) s (insert_segments a b) go room
          (subst (λ (n : ℕ). Passes limit n (insert_segments a b)) (sym e) (r.pass pa.1 pb));
    }

-- the second side goes on
go_b : (limit start_a start_b : ℕ) (t : Segment) (a b : List Segment)
    → start_a + start_b + t.up < limit → net_sum a ≤ start_a → net_sum (t ∷ b) ≤ start_b → IsRising (t ∷ b)
    → TwoStuck limit start_a (start_b - t.net) a b → TwoStuck limit start_a start_b a (t ∷ b)
go_b limit start_a start_b t a b go room_a room_b rising r =
    let tot = total_all a b in
    let e : start_a + start_b - t.net ≡ start_a + (start_b - t.net) = omega arith in
    let room : t.net + net_sum (insert_segments a b) ≤ start_a + start_b = omega arith in
    let first : start_b + t.up < limit - r.x = let h = r.low_a in omega arith in
    let front : insert_segments a (t ∷ b) ≡ insert_segment t (insert_segments a b) =
    ap (insert_segments a) (sym (front_inserted t b rising)) ∙ inserted_all_comm a t b in
    record {
      x = r.x;
      y = r.y;
      low_a = r.low_a;
      low_b = let h = r.low_b in omega arith;
      both = ap (lowest limit (start_a + start_b)) front ∙ lowest_inserted limit (start_a + start_b) t (insert_segments a b) go room
          ∙ ap (λ n. lowest limit n (insert_segments a b)) e ∙ r.both;
      alone_a = r.alone_a;
      alone_b = lowest_go (limit - r.x) start_b t b first ∙ r.alone_b;
      pass = λ pa pb. subst (λ (l : List Segment). Passes limit (start_a + start_b) l) (sym front)
          (inserted_passes limit (start_a + start_b) t (insert_segments a b) go room
          (subst (λ (n : ℕ). Passes limit n (insert_segments a b)) (sym e) (r.pass pa pb.1)));
    }

stay_a : (limit start_a start_b : ℕ) (a : List Segment) → IsStuck limit (start_a + start_b) a → lowest (limit - start_b) start_a a ≡ start_a
stay_a limit start_a start_b [] h = refl
stay_a limit start_a start_b (s ∷ a) h = lowest_stay (limit - start_b) start_a s a (omega arith)

stay_b : (limit start_a start_b : ℕ) (b : List Segment) → IsStuck limit (start_a + start_b) b → lowest (limit - start_a) start_b b ≡ start_b
stay_b limit start_a start_b [] h = refl
stay_b limit start_a start_b (s ∷ b) h = lowest_stay (limit - start_a) start_b s b (omega arith)

stay_pass : (limit start_a start_b : ℕ) (a b : List Segment) → IsStuck limit (start_a + start_b) a → IsStuck limit (start_a + start_b) b
    → Passes (limit - start_b) start_a a → Passes (limit - start_a) start_b b → Passes limit (start_a + start_b) (insert_segments a b)
stay_pass limit start_a start_b [] [] ha hb pa pb = tt
stay_pass limit start_a start_b [] (t ∷ b) ha hb pa pb = absurd (omega arith)
stay_pass limit start_a start_b (s ∷ a) b ha hb pa pb = absurd (omega arith)

-- neither goes on
stay : (limit start_a start_b : ℕ) (a b : List Segment) → IsRising a → IsStuck limit (start_a + start_b) a
    → IsStuck limit (start_a + start_b) b → TwoStuck limit start_a start_b a b
stay limit start_a start_b a b rising ha hb = record {
  x = start_a;
  y = start_b;
  low_a = omega arith;
  low_b = omega arith;
  both = lowest_stuck limit (start_a + start_b) (insert_segments a b) (stuck_all limit (start_a + start_b) a b rising ha hb);
  alone_a = stay_a limit start_a start_b a ha;
  alone_b = stay_b limit start_a start_b b hb;
  pass = stay_pass limit start_a start_b a b ha hb;
}

two_stuck_in : (n limit start_a start_b : ℕ) (a b : List Segment) → length a + length b ≤ n → IsRising a
    → IsRising b → net_sum a ≤ start_a → net_sum b ≤ start_b → TwoStuck limit start_a start_b a b
two_stuck_in n limit start_a start_b [] [] size ra rb room_a room_b = stay limit start_a start_b [] [] tt tt tt
two_stuck_in zero limit start_a start_b (s ∷ a) b size ra rb room_a room_b = absurd (omega arith)
two_stuck_in zero limit start_a start_b [] (t ∷ b) size ra rb room_a room_b = absurd (omega arith)
two_stuck_in (suc n) limit start_a start_b [] (t ∷ b) size ra rb room_a room_b =
    elim (lt_or_le (start_a + start_b + t.up) limit) [
      | inl go ↦ go_b limit start_a start_b t [] b go room_a room_b rb
          (two_stuck_in n limit start_a (start_b - t.net) [] b (omega arith) tt rb.1 room_a (omega arith))
      | inr halt ↦ stay limit start_a start_b [] (t ∷ b) tt tt halt
    ]
two_stuck_in (suc n) limit start_a start_b (s ∷ a) [] size ra rb room_a room_b =
    elim (lt_or_le (start_a + start_b + s.up) limit) [
      | inl go ↦ go_a limit start_a start_b s a [] go room_a room_b
          (two_stuck_in n limit (start_a - s.net) start_b a [] (omega arith) ra.1 rb (omega arith) room_b)
      | inr halt ↦ stay limit start_a start_b (s ∷ a) [] ra halt tt
    ]
two_stuck_in (suc n) limit start_a start_b (s ∷ a) (t ∷ b) size ra rb room_a room_b =
    elim (lt_or_le (start_a + start_b + s.up) limit) [
      | inl go ↦ go_a limit start_a start_b s a (t ∷ b) go room_a room_b
          (two_stuck_in n limit (start_a - s.net) start_b a (t ∷ b) (omega arith) ra.1 rb (omega arith) room_b)
      | inr halt ↦ elim (lt_or_le (start_a + start_b + t.up) limit) [
        | inl go ↦ go_b limit start_a start_b t (s ∷ a) b go room_a room_b rb
            (two_stuck_in n limit start_a (start_b - t.net) (s ∷ a) b (omega arith) ra rb.1 room_a (omega arith))
        | inr halt2 ↦ stay limit start_a start_b (s ∷ a) (t ∷ b) ra halt halt2
      ]
    ]

pub two_stuck : (limit start_a start_b : ℕ) (a b : List Segment) → IsRising a → IsRising b
    → net_sum a ≤ start_a → net_sum b ≤ start_b → TwoStuck limit start_a start_b a b
two_stuck limit start_a start_b a b = two_stuck_in (length a + length b) limit start_a start_b a b (omega arith)

total_merged : (starts : List ℕ) (sides : List (List Segment)) → AllStart starts sides → net_sum (merge_segments sides) ≤ level_sum starts
total_merged [] [] h = omega arith
total_merged [] (side ∷ sides) h = absurd h
total_merged (start ∷ starts) [] h = absurd h
total_merged (start ∷ starts) (side ∷ sides) h = let t = total_all side (merge_segments sides) in
    let ih = total_merged starts sides h.1 in
    omega (arith, t, ih, h.0)

after_inserted_step : (u : ℕ) (s e : Segment) (es : List Segment) → u < s.up → u < e.up → StartsAbove u (insert_segment s (e ∷ es))
after_inserted_step u s e es hs he = grind (arith, nat_tests)

after_inserted : (u : ℕ) (s : Segment) (es : List Segment) → u < s.up → StartsAbove u es → StartsAbove u (insert_segment s es)
after_inserted u s [] hs he = hs
after_inserted u s (e ∷ es) hs he = after_inserted_step u s e es hs he

rising_step : (s e : Segment) (es : List Segment) → StartsAbove e.up es → IsRising es
    → (e.up < s.up → StartsAbove e.up (insert_segment s es)) → IsRising (insert_segment s es) → IsRising (insert_segment s (e ∷ es))
rising_step s e es after rising after' rising' = grind (arith, nat_tests)

pub rising_inserted : (s : Segment) (es : List Segment) → IsRising es → IsRising (insert_segment s es)
rising_inserted s [] r = (tt, tt)
rising_inserted s (e ∷ es) r = rising_step s e es r.0 r.1 (λ lt. after_inserted e.up s es lt r.0) (rising_inserted s es r.1)

pub rising_all : (ss es : List Segment) → IsRising es → IsRising (insert_segments ss es)
rising_all [] es r = r
rising_all (s ∷ ss) es r = rising_inserted s (insert_segments ss es) (rising_all ss es r)

pub rising_merged : (sides : List (List Segment)) → IsRising (merge_segments sides)
rising_merged [] = tt
rising_merged (side ∷ sides) = rising_all side (merge_segments sides) (rising_merged sides)

pub merged_one : (ss : List Segment) → IsRising ss → merge_segments (ss ∷ []) ≡ ss
merged_one [] r = refl
merged_one (s ∷ ss) r = ap (insert_segment s) (merged_one ss r.1) ∙ front_inserted s ss r

lowest_at : (m n start : ℕ) (ss : List Segment) → m ≡ n → lowest m start ss ≡ lowest n start ss
lowest_at m n start ss h = ap (λ k. lowest k start ss) h

-- the levels at which all sides together are stuck: each is stuck there alone, below the limit less the levels of all others
pub all_levels : (limit others : ℕ) (starts : List ℕ) (sides : List (List Segment)) → AllRising sides
    → AllStart starts sides → (levels : List ℕ) × AreLevels limit others starts sides levels
all_levels limit others [] [] r room = ([], record { together = refl; each = tt; pass = λ _. tt })
all_levels limit others [] (side ∷ sides) r room = absurd room
all_levels limit others (start ∷ starts) [] r room = absurd room
all_levels limit others (start ∷ starts) (side ∷ sides) r room =
    let two = two_stuck (limit - others) start (level_sum starts) side
    (merge_segments sides) r.0 (rising_merged sides) room.0 (total_merged starts sides room.1) in
    let tail = all_levels limit (others + two.x) starts sides r.1 room.1 in
    let levels = tail.0 in
    let rest = tail.1 in
    let m : limit - others - two.x ≡ limit - (others + two.x) = omega arith in
    let y_is : two.y ≡ level_sum levels = sym two.alone_b
    ∙ lowest_at (limit - others - two.x) (limit - (others + two.x)) (level_sum starts) (merge_segments sides) m ∙ rest.together in
    let k : limit - others - two.y ≡ limit - (others + level_sum levels) = omega arith in (
      two.x ∷ levels,
      record {
        together = two.both ∙ ap (λ n. two.x + n) y_is;
        each = (
          sym (lowest_at (limit - others - two.y) (limit - (others + level_sum levels)) start side k) ∙ two.alone_a,
          two.low_a,
          rest.each,
        );
        pass = λ p. two.pass
            (subst (λ (n : ℕ). Passes n start side) (sym k) p.0)
            (subst (λ (n : ℕ). Passes n (level_sum starts) (merge_segments sides)) (sym m) (rest.pass p.1));
      },
    )
