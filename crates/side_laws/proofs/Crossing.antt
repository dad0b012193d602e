use Rattle.std.proofs.Common.{◌≡◌, ℕ, ◌+◌, ◌-◌, ◌<◌, ◌≤◌, max, min, Bool, true, false}
use Rattle.std.proofs.Common.{cond, ltb, leb, List, [], ◌∷◌, ap, ◌∙◌, arith, inl, inr}
use Rattle.std.proofs.lemmas.Bool.Decides.{nat_tests}
use Rattle.side_laws.specs.Segments.{Segment, net_sum, lowest, top, StartsAbove, IsRising}
use Rattle.side_laws.specs.Appending.{append_segment, append_segments, cross_hill}
use Rattle.side_laws.proofs.Append.{total_appended, lowest_appended, top_appended}
use Rattle.side_laws.proofs.Lowest.{lowest_end, lowest_le}
use Rattle.side_laws.proofs.Passing.{level_le_top}
use Rattle.lists.proofs.Orders.{lt_or_le}

all_step : (limit t x e y : ℕ) (s : Segment) (ss : List Segment) (t' y' z : ℕ)
    → (t < limit → y ≡ e) → t' ≡ max t (e + s.up) → y' ≡ cond (ltb t limit) (cond (ltb (y + s.up) limit) (y - s.net) y) y
    → z ≡ cond (ltb t' limit) (lowest limit (e - s.net) ss) y'
    → z ≡ cond (ltb t limit) (lowest limit e (s ∷ ss)) y
all_step limit t x e y s ss t' y' z ends ht hy hz = grind (arith, nat_tests)

all_nil : (limit level : ℕ) (near : List Segment) → (top level near < limit → lowest limit level near ≡ level - net_sum near)
    → lowest limit level near ≡ cond (ltb (top level near) limit) (level - net_sum near) (lowest limit level near)
all_nil limit level near h = grind (arith, nat_tests)

pub lowest_all : (limit level : ℕ) (ss near : List Segment) → net_sum near + net_sum ss ≤ level
    → lowest limit level (append_segments ss near)
    ≡ cond (ltb (top level near) limit) (lowest limit (level - net_sum near) ss) (lowest limit level near)
lowest_all limit level [] near room = all_nil limit level near (λ h. lowest_end limit level near h (omega arith))
lowest_all limit level (s ∷ ss) near room =
    let near' = append_segment s.up s.net near in
    let tot = total_appended s.up s.net near in
    let ih = lowest_all limit level ss near' (omega arith) in
    let at : level - net_sum near' ≡ level - net_sum near - s.net = omega arith in
    all_step limit (top level near) 0 (level - net_sum near) (lowest limit level near) s ss
    (top level near') (lowest limit level near') (lowest limit level (append_segments ss near'))
    (λ h. lowest_end limit level near h (omega arith))
    (top_appended level s.up s.net near (omega arith))
    (lowest_appended limit level s.up s.net near (omega arith))
    (ih ∙ ap (λ n. cond (ltb (top level near') limit) (lowest limit n ss) (lowest limit level near')) at)

pub end_le_top : (level : ℕ) (ss : List Segment) → level - net_sum ss ≤ top level ss
end_le_top level ss = omega (arith, level_le_top level ss)

pub top_all : (level : ℕ) (ss near : List Segment) → net_sum near + net_sum ss ≤ level
    → top level (append_segments ss near) ≡ max (top level near) (top (level - net_sum near) ss)
top_all level [] near room = omega (arith, end_le_top level near)
top_all level (s ∷ ss) near room =
    let near' = append_segment s.up s.net near in
    let tot = total_appended s.up s.net near in
    let ih = top_all level ss near' (omega arith) in
    let at : level - net_sum near' ≡ level - net_sum near - s.net = omega arith in
    let t = top_appended level s.up s.net near (omega arith) in
    let r = ap (λ n. top n ss) at in
    omega (arith, ih, t, r)

-- the levels and peaks of a part that is gone cross_hill
through_stop : (limit t end peak level y t1 y1 z : ℕ) (s : Segment) (ss : List Segment) → end ≤ peak → level ≤ end → (t < limit → y ≡ end)
    → t1 ≡ max t (end + (peak - end)) → y1 ≡ cond (ltb t limit) (cond (ltb (y + (peak - end)) limit) (y - (end - level)) y) y
    → lowest limit level (s ∷ ss) ≤ level
    → z ≡ cond (ltb t1 limit) (lowest limit level (s ∷ ss)) y1
    → z ≡ cond (ltb (max t peak) limit) (min end (lowest limit level (s ∷ ss))) y
through_stop limit t end peak level y t1 y1 z s ss rises falls ends ht hy hl hz = grind (arith, nat_tests)

through_end : (limit t end peak level y z : ℕ) → end ≤ peak → level ≤ end → (t < limit → y ≡ end)
    → z ≡ cond (ltb t limit) (cond (ltb (y + (peak - end)) limit) (y - (end - level)) y) y
    → z ≡ cond (ltb (max t peak) limit) (min end level) y
through_end limit t end peak level y z rises falls ends hz = grind (arith, nat_tests)

through_on : (limit t end peak level y z : ℕ) (s : Segment) (ss : List Segment) → end < level → (t < limit → y ≡ end)
    → z ≡ cond (ltb (max t (max peak (level + s.up))) limit) (min end (lowest limit (level - s.net) ss)) y
    → z ≡ cond (ltb (max t peak) limit) (min end (lowest limit level (s ∷ ss))) y
through_on limit t end peak level y z s ss above ends hz = grind (arith, nat_tests)

stop_is : (end peak level : ℕ) (s : Segment) (ss near : List Segment) → level ≤ end
    → cross_hill end peak level (s ∷ ss) near ≡ append_segments (s ∷ ss) (append_segment (peak - end) (end - level) near)
stop_is end peak level s ss near h = grind (arith, nat_tests)

on_is : (end peak level : ℕ) (s : Segment) (ss near : List Segment) → end < level
    → cross_hill end peak level (s ∷ ss) near ≡ cross_hill end (max peak (level + s.up)) (level - s.net) ss near
on_is end peak level s ss near h = grind (arith, nat_tests)

pub lowest_through : (limit start peak level : ℕ) (far near : List Segment) → net_sum near ≤ start
    → start - net_sum near ≤ peak → level ≤ start - net_sum near + net_sum far → net_sum far ≤ level
    → lowest limit start (cross_hill (start - net_sum near) peak level far near)
    ≡ cond (ltb (max (top start near) peak) limit) (min (start - net_sum near) (lowest limit level far)) (lowest limit start near)
lowest_through limit start peak level [] near room rises falls room' =
    let end = start - net_sum near in
    through_end limit (top start near) end peak level (lowest limit start near)
    (lowest limit start (cross_hill end peak level [] near)) rises (omega arith)
    (λ h. lowest_end limit start near h room)
    (lowest_appended limit start (peak - end) (end - level) near (omega arith))
lowest_through limit start peak level (s ∷ ss) near room rises falls room' =
    let end = start - net_sum near in
    elim (lt_or_le end level) [
      | inl above ↦ through_on limit (top start near) end peak level (lowest limit start near)
          (lowest limit start (cross_hill end peak level (s ∷ ss) near)) s ss above
          (λ h. lowest_end limit start near h room)
          (ap (lowest limit start) (on_is end peak level s ss near above)
          ∙ lowest_through limit start (max peak (level + s.up))
          (level - s.net) ss near room (omega arith) (omega arith) (omega arith))
      | inr below ↦
          let near1 = append_segment (peak - end) (end - level) near in
          let tot = total_appended (peak - end) (end - level) near in
          let at : start - net_sum near1 ≡ level = omega arith in
          through_stop limit (top start near) end peak level (lowest limit start near) (top start near1)
          (lowest limit start near1) (lowest limit start (cross_hill end peak level (s ∷ ss) near)) s ss rises below
          (λ h. lowest_end limit start near h room)
          (top_appended start (peak - end) (end - level) near (omega arith))
          (lowest_appended limit start (peak - end) (end - level) near (omega arith))
          (lowest_le limit level (s ∷ ss))
          (ap (lowest limit start) (stop_is end peak level s ss near below) ∙ lowest_all limit start (s ∷ ss) near1 (omega arith)
          ∙ ap (λ n. cond (ltb (top start near1) limit) (lowest limit n (s ∷ ss)) (lowest limit start near1)) at)
    ]

pub top_through : (start peak level : ℕ) (far near : List Segment) → net_sum near ≤ start
    → start - net_sum near ≤ peak → level ≤ peak → level ≤ start - net_sum near + net_sum far → net_sum far ≤ level
    → top start (cross_hill (start - net_sum near) peak level far near) ≡ max (top start near) (max peak (top level far))
top_through start peak level [] near room rises low falls room' =
    let end = start - net_sum near in
    let t = top_appended start (peak - end) (end - level) near (omega arith) in
    omega (arith, t)
top_through start peak level (s ∷ ss) near room rises low falls room' =
    let end = start - net_sum near in
    elim (lt_or_le end level) [
      | inl above ↦
          let ih = top_through start (max peak (level + s.up)) (level - s.net) ss near room
          (omega arith) (omega arith) (omega arith) (omega arith) in
          let e = ap (top start) (on_is end peak level s ss near above) in
          omega (arith, ih, e)
      | inr below ↦
          let near1 = append_segment (peak - end) (end - level) near in
          let tot = total_appended (peak - end) (end - level) near in
          let at : start - net_sum near1 ≡ level = omega arith in
          let t = top_appended start (peak - end) (end - level) near (omega arith) in
          let all = top_all start (s ∷ ss) near1 (omega arith) in
          let e = ap (top start) (stop_is end peak level s ss near below) in
          let r = ap (λ n. top n (s ∷ ss)) at in
          omega (arith, t, all, e, r)
    ]

-- ---- the sums and the order

rising_last : (u d : ℕ) (s : Segment) → IsRising (append_segment u d (s ∷ []))
rising_last u d s = grind (arith, nat_tests)

after_last : (v u d : ℕ) (s : Segment) → v < s.up → StartsAbove v (append_segment u d (s ∷ []))
after_last v u d s h = grind (arith, nat_tests)

after_appended : (v u d : ℕ) (s : Segment) (ss : List Segment) → v < s.up → StartsAbove v (append_segment u d (s ∷ ss))
after_appended v u d s [] h = after_last v u d s h
after_appended v u d s (e ∷ ss) h = h

pub rising_appended : (u d : ℕ) (ss : List Segment) → IsRising ss → IsRising (append_segment u d ss)
rising_appended u d [] r = (tt, tt)
rising_appended u d (s ∷ []) r = rising_last u d s
rising_appended u d (s ∷ e ∷ ss) r = (after_appended s.up u d e ss r.0, rising_appended u d (e ∷ ss) r.1)

rising_all : (far near : List Segment) → IsRising near → IsRising (append_segments far near)
rising_all [] near r = r
rising_all (s ∷ far) near r = rising_all far (append_segment s.up s.net near) (rising_appended s.up s.net near r)

pick : (b : Bool) (x y : List Segment) → IsRising x → IsRising y → IsRising (cond b x y)
pick true x y p q = p
pick false x y p q = q

pub rising_crossing : (end hill level : ℕ) (far near : List Segment) → IsRising near → IsRising (cross_hill end hill level far near)
rising_crossing end hill level [] near r = rising_appended (hill - end) (end - level) near r
rising_crossing end hill level (s ∷ far) near r =
    pick (leb level end) (append_segments (s ∷ far) (append_segment (hill - end) (end - level) near))
    (cross_hill end (max hill (level + s.up)) (level - s.net) far near)
    (rising_all (s ∷ far) (append_segment (hill - end) (end - level) near) (rising_appended (hill - end) (end - level) near r))
    (rising_crossing end (max hill (level + s.up)) (level - s.net) far near r)

net_all : (far near : List Segment) → net_sum (append_segments far near) ≡ net_sum near + net_sum far
net_all [] near = omega arith
net_all (s ∷ far) near = omega (arith, net_all far (append_segment s.up s.net near), total_appended s.up s.net near)

pub net_crossing : (end hill level : ℕ) (far near : List Segment) → level ≤ end + net_sum far
    → net_sum far ≤ level → net_sum (cross_hill end hill level far near) + level ≡ net_sum near + (end + net_sum far)
net_crossing end hill level [] near h k = omega (arith, total_appended (hill - end) (end - level) near)
net_crossing end hill level (s ∷ far) near h k = elim (lt_or_le end level) [
  | inl m ↦ omega (
    arith,
    ap net_sum (on_is end hill level s far near m),
    net_crossing end (max hill (level + s.up)) (level - s.net) far near (omega arith) (omega arith),
  )
  | inr m ↦ omega (
    arith,
    ap net_sum (stop_is end hill level s far near m),
    net_all (s ∷ far) (append_segment (hill - end) (end - level) near),
    total_appended (hill - end) (end - level) near,
  )
]
