-- Lists of sides: older ropes, and sums.
use Rattle.std.proofs.Common.{◌≡◌, ℕ, ◌+◌, List, [], ◌∷◌, ◌++◌, refl, length}
use Rattle.std.proofs.lemmas.List.Sums.{sum_by-append, sum_by-cons}
use Rattle.side_laws.specs.Segments.{net_sum}
use Rattle.hill_valley.specs.declared.side.Seg.{Seg}
use Rattle.hill_valley.specs.Ropes.{Extends}
use Rattle.hill_valley.specs.Side.{profile}
use Rattle.segment_merge.specs.Merging.{all_runs_of, AllHaveRopes, net_sum_all, segment_count}
use Rattle.hill_valley.specs.Laws.{RunLaws}

module _ (laws : RunLaws) where
  pub each_kept : (old new : List (List ℕ)) (sides : List (List Seg))
      → AllHaveRopes old sides → Extends old new → all_runs_of new sides ≡ all_runs_of old sides
  each_kept old new [] h k = refl
  each_kept old new (side ∷ sides) h k = rw ((laws.stay old new side h.0 k).1, each_kept old new sides h.1 k) refl

  pub all_kept : (old new : List (List ℕ)) (sides : List (List Seg)) → AllHaveRopes old sides → Extends old new → AllHaveRopes new sides
  all_kept old new [] h k = tt
  all_kept old new (side ∷ sides) h k = ((laws.stay old new side h.0 k).0, all_kept old new sides h.1 k)

pub each_append : (lists : List (List ℕ)) (a b : List (List Seg)) → all_runs_of lists (a ++ b) ≡ all_runs_of lists a ++ all_runs_of lists b
each_append lists [] b = refl
each_append lists (side ∷ a) b = rw (each_append lists a b) refl

pub ropes_front : (lists : List (List ℕ)) (a b : List (List Seg)) → AllHaveRopes lists (a ++ b) → AllHaveRopes lists a
ropes_front lists [] b h = tt
ropes_front lists (side ∷ a) b h = (h.0, ropes_front lists a b h.1)

pub ropes_last : (lists : List (List ℕ)) (a b : List (List Seg)) → AllHaveRopes lists (a ++ b) → AllHaveRopes lists b
ropes_last lists [] b h = h
ropes_last lists (side ∷ a) b h = ropes_last lists a b h.1

pub ropes_append : (lists : List (List ℕ)) (a b : List (List Seg))
    → AllHaveRopes lists a → AllHaveRopes lists b → AllHaveRopes lists (a ++ b)
ropes_append lists [] b ha hb = hb
ropes_append lists (side ∷ a) b ha hb = (ha.0, ropes_append lists a b ha.1 hb)

pub net_append : (a b : List (List Seg)) → net_sum_all (a ++ b) ≡ net_sum_all a + net_sum_all b
net_append a b = sum_by-append (λ (side : List Seg). net_sum (profile side)) a b

pub count_append : (a b : List (List Seg)) → segment_count (a ++ b) ≡ segment_count a + segment_count b
count_append a b = sum_by-append (length {A = Seg}) a b

pub net_cons : (side : List Seg) (sides : List (List Seg)) → net_sum_all (side ∷ sides) ≡ net_sum (profile side) + net_sum_all sides
net_cons side sides = sum_by-cons (λ (s : List Seg). net_sum (profile s)) side sides

pub count_cons : (side : List Seg) (sides : List (List Seg)) → segment_count (side ∷ sides) ≡ length side + segment_count sides
count_cons side sides = sum_by-cons (length {A = Seg}) side sides
