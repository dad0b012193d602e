-- No public clause names this.
-- One example for each definition, computed.
use Rattle.std.specs.Prelude.{◌≡◌, ℕ, List, [], ◌∷◌, refl}
use Rattle.side_laws.specs.Segments.{Segment, net_sum, lowest, top}
use Rattle.side_laws.specs.Appending.{append_segment, cross_hill}
use Rattle.side_laws.specs.Merging.{insert_segment, merge_segments}

abbrev seg : ℕ → ℕ → Segment
seg up net = record { up = up; net = net }

-- from level 10 over 15 down to 7, and over 16 down to 3
abbrev side : List Segment
side = seg 5 3 ∷ seg 9 4 ∷ []

falls_by_seven : net_sum side ≡ 7
falls_by_seven = refl

-- within 14, below 15, it does not start
stays_below_15 : lowest 15 10 side ≡ 10
stays_below_15 = refl

one_segment_below_16 : lowest 16 10 side ≡ 7
one_segment_below_16 = refl

all_below_17 : lowest 17 10 side ≡ 3
all_below_17 = refl

reaches_16 : top 10 side ≡ 16
reaches_16 = refl

joined_at_the_end : append_segment 9 1 side ≡ seg 5 3 ∷ seg 9 5 ∷ []
joined_at_the_end = refl

new_at_the_end : append_segment 11 1 side ≡ seg 5 3 ∷ seg 9 4 ∷ seg 11 1 ∷ []
new_at_the_end = refl

at_its_place : insert_segment (seg 7 1) side ≡ seg 5 3 ∷ seg 7 1 ∷ seg 9 4 ∷ []
at_its_place = refl

both_sides : merge_segments (side ∷ (seg 1 0 ∷ seg 5 2 ∷ []) ∷ []) ≡ seg 1 0 ∷ seg 5 5 ∷ seg 9 4 ∷ []
both_sides = refl

-- from 7 up to 12 and down to 9: the far side leads on over 10 and 12 down to 3, so all of it belongs to the hill
over_a_hill : cross_hill 7 12 9 (seg 1 1 ∷ seg 4 5 ∷ []) (seg 2 3 ∷ []) ≡ seg 2 3 ∷ seg 5 4 ∷ []
over_a_hill = refl
