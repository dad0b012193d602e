-- Sizes summed by a number that each item has: its producer, the task that alone reads it, the place after which it is freed.
use Rattle.std.proofs.Common.{◌≡◌, ℕ, ◌+◌, ◌<◌, ◌≤◌, Bool, true, false, cond, List, length, take, get_or, Option, ap, ◌∙◌, arith}
use Rattle.std.specs.Prelude.{None, [], ◌∷◌, Some}
use Rattle.std.specs.List.{All, sum_by}
use Rattle.std.proofs.lemmas.List.Sums.{sum_by_more, sum_by_more_le_part, sum_by-le-sum_by}
use Rattle.std.proofs.lemmas.List.Elements.{All-head}
use Rattle.std.proofs.lemmas.Option.{same_Some}
use Rattle.mp_system.specs.System.{is_named}
use Rattle.graphs.specs.Graph.{IsAmong}
use Rattle.shared_systems.specs.Shared.{SharedItem, shared_item_at, only, shared_size_if, shared_size_where}
use Rattle.shared_systems.specs.Bounds.{shared_size}
use Rattle.shared_systems.specs.Places.{last_place, last_if_any}

abbrev pub no_item : SharedItem
no_item = record { size = 0; from = None; readers = [] }

pub part-le : (test : SharedItem → Bool) (x : SharedItem) → shared_size_if test x ≤ shared_size x
part-le test x = elim (test x) as (λ b. cond b x.size 0 ≤ x.size) [ true ↦ omega arith | false ↦ omega arith ]

pub where-le : (test : SharedItem → Bool) (xs : List SharedItem) → shared_size_where test xs ≤ sum_by shared_size xs
where-le test xs = sum_by-le-sum_by (shared_size_if test) shared_size xs (part-le test)

pub part-fits : (test : SharedItem → Bool) (xs : List SharedItem) (i memory size : ℕ)
    → i < length xs → memory ≡ shared_size_where test (take i xs)
    → size ≡ (shared_item_at xs i).size → memory + size ≤ sum_by shared_size xs
part-fits test xs i memory size lt is size_is =
    omega (arith, is, size_is, sum_by_more_le_part (shared_size_if test) shared_size xs i no_item lt (part-le test))

module _ (key : SharedItem → Option ℕ) (xs : List SharedItem) where
  -- the sums of the first items
  abbrev pub AreSums : List ℕ → ℕ → Type 0
  AreSums sums i = (v : ℕ) → get_or sums v 0 ≡ shared_size_where (λ x. is_named (key x) v) (take i xs)

  pub sums-next : (old new : List ℕ) (i size : ℕ) (named : Option ℕ) → i < length xs
      → AreSums old i → named ≡ key (shared_item_at xs i) → size ≡ (shared_item_at xs i).size
      → ((v : ℕ) → get_or new v 0 ≡ get_or old v 0 + cond (is_named named v) size 0) → AreSums new (i + 1)
  sums-next old new i size named lt are named_is size_is added v =
      let here : cond (is_named named v) size 0 ≡ shared_size_if (λ x. is_named (key x) v) (shared_item_at xs i) =
      ap (λ (o : Option ℕ). cond (is_named o v) size 0) named_is
      ∙ ap (λ (k : ℕ). cond (is_named (key (shared_item_at xs i)) v) k 0) size_is in
      omega (arith, added v, are v, here, sum_by_more (shared_size_if (λ x. is_named (key x) v)) xs i no_item lt)

  pub sums-fit : (sums : List ℕ) (i size : ℕ) → i < length xs → AreSums sums i → size ≡ (shared_item_at xs i).size → (v : ℕ)
      → get_or sums v 0 + size ≤ sum_by shared_size xs
  sums-fit sums i size lt are size_is v =
      omega (
        arith,
        are v,
        size_is,
        sum_by_more_le_part (shared_size_if (λ x. is_named (key x) v)) shared_size xs i no_item lt
            (part-le (λ x. is_named (key x) v)),
      )

-- ---- the numbers are small

pub only_small : (n : ℕ) (readers : List ℕ) → All (IsAmong n) readers → (x : ℕ) → only readers ≡ Some x → x ≤ n
only_small n [] within x is = absurd cc
only_small n (c ∷ []) within x is = let here = All-head (IsAmong n) c [] within in omega (arith, same_Some c x is, here.1)
only_small n (c ∷ d ∷ cs) within x is = absurd cc

pub last_small : (place : ℕ → ℕ) (m : ℕ) → ((v : ℕ) → place v ≤ m) → (readers : List ℕ) → last_place place readers ≤ m
last_small place m small [] = omega arith
last_small place m small (c ∷ cs) = omega (arith, small c, last_small place m small cs)

pub last_any_small : (place : ℕ → ℕ) (m : ℕ) → ((v : ℕ) → place v ≤ m)
    → (readers : List ℕ) (x : ℕ) → last_if_any place readers ≡ Some x → x ≤ m
last_any_small place m small [] x is = absurd cc
last_any_small place m small (c ∷ cs) x is = omega (arith, same_Some (last_place place (c ∷ cs)) x is, last_small place m small (c ∷ cs))
