-- Lines that are printed of values, one line for each, and their rows.
use Rattle.std.proofs.Common.{◌≡◌, ℕ, zero, suc, ◌+◌, List, [], ◌∷◌, ◌++◌, ◌⊎◌, inl, inr, map, refl, sym, ap, arith}
use Rattle.std.specs.List.{All}
use Rattle.std.proofs.lemmas.List.Elements.{All-head, All-tail}
use Rattle.mp_text.specs.Text.{Row}
use Rattle.mp_text.specs.Report.{numbered_from}

pub cons_same : {X : Type 0} (x y : X) (xs ys : List X) → x ≡ y → xs ≡ ys → x ∷ xs ≡ y ∷ ys
cons_same x y xs ys e f = cc

-- a split of two lists at an element is a split of the first, or of the second
pub split_of : {X : Type 0} (xs ys before : List X) (y : X) (after : List X) → xs ++ ys ≡ before ++ y ∷ after
    → ((rest : List X) × (xs ≡ before ++ y ∷ rest)) ⊎ ((more : List X) × (before ≡ xs ++ more) × (ys ≡ more ++ y ∷ after))
split_of [] ys before y after e = inr (before, refl, e)
split_of (x ∷ xs) ys [] y after e = let head : x ≡ y = cc in inl (xs, ap (λ z. z ∷ xs) head)
split_of (x ∷ xs) ys (b ∷ before) y after e =
    let head : x ≡ b = cc in
    let tail : xs ++ ys ≡ before ++ y ∷ after = cc in
    elim (split_of xs ys before y after tail) [
      | inl here ↦ inl (here.0, cons_same x b xs (before ++ y ∷ here.0) head here.1)
      | inr there ↦ inr (there.0, cons_same b x before (xs ++ there.0) (sym head) there.1, there.2)
    ]

module _ {X : Type 0} (line : X → List (List ℕ)) where
  abbrev pub rows_of : ℕ → List X → List Row
  rows_of n xs = numbered_from n (map line xs)

  -- a split of the rows at one of them is a split of the values
  pub record IsSplit (n : ℕ) (xs : List X) (before : List Row) (row : Row) : Type 0 where
    pub first : List X
    pub value : X
    pub rest : List X
    pub number : ℕ
    pub xs_are : xs ≡ first ++ value ∷ rest
    pub row_is : row ≡ record { number = number; tokens = line value }
    pub before_is : before ≡ rows_of n first

  pub split_at : (n : ℕ) (xs : List X) (before : List Row) (row : Row) (after : List Row) → rows_of n xs ≡ before ++ row ∷ after
      → IsSplit n xs before row
  split_at n [] [] row after e = absurd cc
  split_at n [] (b ∷ before) row after e = absurd cc
  split_at n (x ∷ xs) [] row after e =
      let first : record { number = n; tokens = line x } ≡ row = cc in
      record { first = []; value = x; rest = xs; number = n; xs_are = refl; row_is = sym first; before_is = refl }
  split_at n (x ∷ xs) (b ∷ before) row after e =
      let head : record { number = n; tokens = line x } ≡ b = cc in
      let tail : rows_of (n + 1) xs ≡ before ++ row ∷ after = cc in
      let more = split_at (n + 1) xs before row after tail in
      let here : Row = record { number = n; tokens = line x } in
      record {
        first = x ∷ more.first;
        value = more.value;
        rest = more.rest;
        number = more.number;
        xs_are = cons_same x x xs (more.first ++ more.value ∷ more.rest) refl more.xs_are;
        row_is = more.row_is;
        before_is = cons_same b here before (rows_of (n + 1) more.first) (sym head) more.before_is;
      }

  -- what is read of a line is the value, whatever its number
  abbrev pub IsReadBack : (Row → X) → X → Type 0
  IsReadBack read x = (number : ℕ) → read (record { number = number; tokens = line x }) ≡ x

  pub read_back : (read : Row → X) (n : ℕ) (xs : List X) → All (IsReadBack read) xs → map read (rows_of n xs) ≡ xs
  read_back read n [] all = refl
  read_back read n (x ∷ xs) all =
      cons_same (read (record { number = n; tokens = line x })) x (map read (rows_of (n + 1) xs)) xs
      (All-head (IsReadBack read) x xs all n) (read_back read (n + 1) xs (All-tail (IsReadBack read) x xs all))

-- ---- a list whose elements all have a fact

pub All-first : {X : Type 0} (P : X → Type 0) (xs ys : List X) → All P (xs ++ ys) → All P xs
All-first P [] ys all i d lt = absurd (omega arith)
All-first P (x ∷ xs) ys all zero d lt = all zero d (omega arith)
All-first P (x ∷ xs) ys all (suc i) d lt = All-first P xs ys (All-tail P x (xs ++ ys) all) i d (omega arith)

pub All-at : {X : Type 0} (P : X → Type 0) (xs : List X) (y : X) (ys : List X) → All P (xs ++ y ∷ ys) → P y
All-at P [] y ys all = all zero y (omega arith)
All-at P (x ∷ xs) y ys all = All-at P xs y ys (All-tail P x (xs ++ y ∷ ys) all)
