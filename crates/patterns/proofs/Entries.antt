-- The entries of one column more.
use Rattle.std.proofs.Common.{◌≡◌, ◌∙◌, ℕ, ◌+◌, ◌-◌, ◌≤◌, All, List, [], ◌∷◌, ◌++◌, map, sym, ap, arith}
use Rattle.std.specs.List.{flat_map, range_with_len}
use Rattle.std.proofs.lemmas.List.{append-nil}
use Rattle.std.proofs.lemmas.List.Concat.{flat_map-cons}
use Rattle.std.proofs.lemmas.List.Elements.{All-append, All-map, All-from_get_or, All-get_or}
use Rattle.std.proofs.lemmas.List.Folds.{flat_map-map}
use Rattle.std.proofs.lemmas.List.FromFn.{map-range_with_len_more}
use Rattle.std.proofs.lemmas.Grind.{flat_map-append}
use Rattle.patterns.specs.Pattern.{IsPairWithin}
use Rattle.lists.specs.Numbers.{IsNumberFrom, from_one}

same : {X : Type 0} (f : ℕ → List X) (xs : List ℕ) → flat_map f (map (λ x. x) xs) ≡ flat_map f xs
same f xs = flat_map-map f (λ x. x) xs

-- what a list of numbers from 1 on brings, and one number more
pub one_more : {X : Type 0} (f : ℕ → List X) (k : ℕ) → 1 ≤ k
    → flat_map f (range_with_len 1 (k + 1 - 1)) ≡ flat_map f (range_with_len 1 (k - 1)) ++ f k
one_more f k some =
    let at : k + 1 - 1 ≡ k - 1 + 1 = omega arith in
    ap (λ (n : ℕ). flat_map f (range_with_len 1 n)) at
    ∙ sym (same f (range_with_len 1 (k - 1 + 1)))
    ∙ ap (flat_map f) (map-range_with_len_more (λ x. x) 1 (k - 1) k (omega arith))
    ∙ flat_map-append f (map (λ x. x) (range_with_len 1 (k - 1))) (k ∷ [])
    ∙ ap (λ front. front ++ flat_map f (k ∷ [])) (same f (range_with_len 1 (k - 1)))
    ∙ ap (λ end. flat_map f (range_with_len 1 (k - 1)) ++ end) (flat_map-cons f k [] ∙ append-nil (f k))

-- rows of a column, as pairs
abbrev pub paired : ℕ → ℕ → ℕ → ℕ × ℕ
paired base j row = (from_one base row, j)

pub pairs_within : (base count j : ℕ) (rows : List ℕ) → 1 ≤ j → j ≤ count → All (IsNumberFrom base count) rows
    → All (IsPairWithin count) (map (paired base j) rows)
pairs_within base count j rows some inside are =
    All-map (IsPairWithin count) (paired base j) rows
    (All-from_get_or (λ (row : ℕ). IsPairWithin count (paired base j row)) rows 0 (λ i there.
    let is = All-get_or (IsNumberFrom base count) rows i 0 there are in
    ((omega (arith, is.0), omega (arith, is.0, is.1)), (some, inside))))

-- the pairs of one column more are those of columns that are there too
pub one_column_more : (base count j : ℕ) (pairs : List (ℕ × ℕ)) (rows : List ℕ) → 1 ≤ j → j ≤ count → All (IsPairWithin count) pairs
    → All (IsNumberFrom base count) rows → All (IsPairWithin count) (pairs ++ map (paired base j) rows)
one_column_more base count j pairs rows some inside before are =
    All-append (IsPairWithin count) pairs (map (paired base j) rows) before (pairs_within base count j rows some inside are)
