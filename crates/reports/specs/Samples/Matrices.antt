-- No public clause names this.
-- The arrow, whose vertex 1 is joined to 2, 3 and 4: its pattern, and a tree of parents.
use Rattle.std.specs.Prelude.{◌≡◌, ◌==◌, ℕ, Bool, T, List, [], ◌∷◌, map, refl}
use Rattle.std.specs.List.{range_with_len}
use Rattle.std.proofs.Common.{lit<, subst, inl, inr}
use Rattle.patterns.specs.Pattern.{is_joined, are_named, neighbours_of}
use Rattle.elim_tree.specs.Trees.{parent_at, IsAbove, self, step}
use Rattle.elim_tree.specs.Postorders.{Precedes, below, beside}
use Rattle.permutations.specs.Perm.{place_of}
use Rattle.postorder_best.specs.Postorder.{Member}

-- ---- patterns

abbrev pub arrow_rows : List (List ℕ)
arrow_rows = (2 ∷ 3 ∷ 4 ∷ []) ∷ (1 ∷ []) ∷ (1 ∷ []) ∷ (1 ∷ []) ∷ []

pub arrow_neighbours : map (neighbours_of arrow_rows) (0 ∷ 1 ∷ 4 ∷ 5 ∷ []) ≡ [] ∷ (2 ∷ 3 ∷ 4 ∷ []) ∷ (1 ∷ []) ∷ [] ∷ []
arrow_neighbours = refl

-- which of 0 to 5 are joined, to each of them
abbrev pub table : (ℕ → ℕ → Bool) → List (List Bool)
table joined = map (λ a. map (joined a) (range_with_len 0 6)) (range_with_len 0 6)

-- the rows join what these pairs name: in either order, one of them twice, and one of a vertex with itself
pub arrow_joins : table (is_joined arrow_rows) ≡ table (are_named ((2, 1) ∷ (3, 1) ∷ (1, 4) ∷ (1, 2) ∷ (3, 3) ∷ []))
arrow_joins = refl

-- ---- trees of columns

-- two roots, 3 and 4, with a child each
abbrev pub parents : List ℕ
parents = 3 ∷ 4 ∷ 0 ∷ 0 ∷ []

pub parents_of_columns : map (parent_at parents) (range_with_len 0 6) ≡ 0 ∷ 3 ∷ 4 ∷ 0 ∷ 0 ∷ 0 ∷ []
parents_of_columns = refl

pub three_is_above_one : IsAbove parents 1 3
three_is_above_one = step (lit< tt) self

-- 1 is below 3; and 3 comes before 2, since the way up from 2 comes to the root 4
pub one_before_three : Precedes parents 1 3
one_before_three = below three_is_above_one (λ same. subst (λ n. T (n == 1)) same tt)

pub three_before_two : Precedes parents 3 2
three_before_two = beside self (step (lit< tt) self) (lit< tt) refl

-- so the postorder is 1 3 2 4, and these are the places of 1, 3, 2 and 4
pub places_in_postorder : map (place_of (1 ∷ 3 ∷ 2 ∷ 4 ∷ [])) (1 ∷ 3 ∷ 2 ∷ 4 ∷ []) ≡ 1 ∷ 2 ∷ 3 ∷ 4 ∷ []
places_in_postorder = refl

-- ---- lists

pub three_is_a_member : Member 3 (1 ∷ 3 ∷ [])
three_is_a_member = inr (inl refl)
