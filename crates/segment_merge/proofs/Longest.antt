-- The longest of several sides.
use Rattle.std.proofs.Common.{◌≡◌, ℕ, zero, suc, ◌+◌, ◌-◌, ◌<◌, ◌≤◌, max, List, [], ◌∷◌, ◌++◌, ap, ◌∙◌, arith, length, get_or, take}
use Rattle.std.proofs.lemmas.Grind.{common_steps}
use Rattle.hill_valley.specs.declared.side.Seg.{Seg}
use Rattle.hill_valley.specs.Side.{profile, IsSide}
use Rattle.segment_merge.specs.Merging.{AllSides, longest}

longest_append : (a b : List (List Seg)) → longest (a ++ b) ≡ max (longest a) (longest b)
longest_append [] b = omega arith
longest_append (side ∷ a) b = omega (arith, longest_append a b)

sides_append : (a b : List (List Seg)) → AllSides a → AllSides b → AllSides (a ++ b)
sides_append [] b ha hb = hb
sides_append (side ∷ a) b ha hb = (ha.0, sides_append a b ha.1 hb)

all_of_them : (sides : List (List Seg)) → take (length sides) sides ≡ sides
all_of_them sides = grind (arith, common_steps)

at_most_longest : (sides : List (List Seg)) (i : ℕ) → length (get_or sides i []) ≤ longest sides
at_most_longest [] i = omega arith
at_most_longest (side ∷ sides) zero = omega arith
at_most_longest (side ∷ sides) (suc i) = omega (arith, at_most_longest sides i)

-- of the first i sides, `most` is the length of the longest, which stands at `place`
pub record Seeking (sides : List (List Seg)) (i place most : ℕ) : Type 0 where
  pub so_far : longest (take i sides) ≤ most
  pub there : most ≤ length (get_or sides place [])
  pub within : place ≤ length sides - 1
  pub seen : AllSides (take i sides)

module _ (sides : List (List Seg)) (i place most : ℕ) (side : List Seg) (s : Seeking sides i place most)
    (lt : i < length sides) (here : side ≡ get_or sides i []) (good : IsSide (profile side)) where
  more : take (i + 1) sides ≡ take i sides ++ get_or sides i [] ∷ []
  more = grind (arith, common_steps)

  more_longest : longest (take (i + 1) sides) ≡ max (longest (take i sides)) (length side)
  more_longest = ap longest more ∙ longest_append (take i sides) (get_or sides i [] ∷ []) ∙ omega (arith, ap (length {A = Seg}) here)

  more_seen : AllSides (take (i + 1) sides)
  more_seen = rw more (sides_append (take i sides) (get_or sides i [] ∷ []) s.seen (rw here at good, tt))

  pub seeking_longer : most < length side → Seeking sides (i + 1) i (length side)
  seeking_longer h =
      let a = s.so_far in
      record {
        so_far = omega (arith, more_longest);
        there = omega (arith, ap (length {A = Seg}) here);
        within = omega arith;
        seen = more_seen;
      }

  pub seeking_on : length side ≤ most → Seeking sides (i + 1) place most
  seeking_on h = let a = s.so_far in record { so_far = omega (arith, more_longest); there = s.there; within = s.within; seen = more_seen }

pub record Found (sides : List (List Seg)) (place : ℕ) : Type 0 where
  pub within : place ≤ length sides - 1
  pub longest_is : longest sides ≡ length (get_or sides place [])
  pub all : AllSides sides

pub seeking_ends : (sides : List (List Seg)) (i place most : ℕ) → Seeking sides i place most → i ≡ length sides → Found sides place
seeking_ends sides i place most s e =
    let t : take i sides ≡ sides = ap (λ (k : ℕ). take k sides) e ∙ all_of_them sides in
    record {
      within = s.within;
      longest_is = let a = s.so_far in let b = s.there in omega (arith, ap longest t, at_most_longest sides place, a, b);
      all = rw (← t) s.seen;
    }

pub same_there : (sides : List (List Seg)) (i : ℕ) (x : List Seg) → i < length sides → x ≡ get_or sides i x → x ≡ get_or sides i []
same_there [] i x lt e = absurd (omega arith)
same_there (y ∷ sides) zero x lt e = e
same_there (y ∷ sides) (suc i) x lt e = same_there sides i x (omega arith) e
