-- The first segments of a side are a side too.
use Rattle.std.proofs.Common.{◌≡◌, ◌+◌, List, [], ◌∷◌, ◌++◌, refl, ap, sym, ◌∙◌, arith, append_assoc}
use Rattle.side_laws.specs.Segments.{Segment, net_sum, IsRising}
use Rattle.hill_valley.specs.declared.side.Seg.{Seg}
use Rattle.hill_valley.specs.Side.{numbers, profile, AllUpsWithin, IsSide}

net_append : (a b : List Segment) → net_sum (a ++ b) ≡ net_sum a + net_sum b
net_append [] b = omega arith
net_append (s ∷ a) b = omega (arith, net_append a b)

rising_front : (a b : List Segment) → IsRising (a ++ b) → IsRising a
rising_front [] b h = tt
rising_front (s ∷ []) b h = (tt, tt)
rising_front (s ∷ t ∷ a) b h = (h.0, rising_front (t ∷ a) b h.1)

ups_front : (a b : List Segment) → AllUpsWithin (a ++ b) → AllUpsWithin a
ups_front [] b h = tt
ups_front (s ∷ a) b h = (h.0, ups_front a b h.1)

pub side_front : (a b : List Segment) → IsSide (a ++ b) → IsSide a
side_front a b h = (let n = h.0 in omega (arith, net_append a b), ups_front a b h.1, rising_front a b h.2)

pub profile_behind : (a b : List Seg) → profile (a ++ b) ≡ profile a ++ profile b
profile_behind [] b = refl
profile_behind (s ∷ a) b = ap (λ (l : List Segment). numbers s ∷ l) (profile_behind a b)

front_side : (side a b : List Seg) → a ++ b ≡ side → IsSide (profile side) → IsSide (profile a)
front_side side a b e h = side_front (profile a) (profile b) (rw (← profile_behind a b, e) h)

-- `rest` is left of a side, and s is the first of them
pub next_front : (side done rest rest' : List Seg) (s : Seg) → done ++ rest ≡ side
    → rest ≡ s ∷ rest' → IsSide (profile side) → IsSide (profile (done ++ s ∷ []))
next_front side done rest rest' s told next h =
    front_side side (done ++ s ∷ []) rest' (append_assoc done (s ∷ []) rest' ∙ ap (λ (l : List Seg). done ++ l) (sym next) ∙ told) h
