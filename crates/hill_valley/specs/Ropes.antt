-- Ropes: lists of tasks that are joined and reversed without copying. Each rope is a list without a join, or a join of one store, and
-- stands for one list for good.
-- Source: H. Boehm, R. Atkinson and M. Plass, Ropes: an alternative to strings, 1995.
use Rattle.std.specs.Prelude.{◌≡◌, ℕ, ◌+◌, ◌<◌, List, [], ◌∷◌, ◌++◌, reverse, get_or, length, ⊤}
use Rattle.hill_valley.specs.declared.ropes.Piece.{Piece}
use Rattle.hill_valley.specs.declared.ropes.Piece.TheVariants.{Empty, Task, Joined, Turned}
use Rattle.hill_valley.specs.declared.ropes.Join.{Join}
use Rattle.hill_valley.specs.declared.ropes.Rope.{Rope}

-- ---- the store

-- the list that a piece stands for, where `at` has those of the joins
abbrev pub list_of_piece : (ℕ → List ℕ) → Piece → List ℕ
list_of_piece at Empty = []
list_of_piece at (Task task) = task ∷ []
list_of_piece at (Joined i) = at i
list_of_piece at (Turned i) = reverse (at i)

abbrev pub list_of_join : (ℕ → List ℕ) → Join → List ℕ
list_of_join at j = list_of_piece at j.first ++ list_of_piece at j.second

-- a value for each join, made of the values of the joins in its parts. `done` are the values of the joins before, and a join that is none
-- of them has the value d
abbrev pub values_from : {A : Type 0} → A → ((ℕ → A) → Join → A) → List A → List Join → List A
values_from d make done [] = done
values_from d make done (j ∷ js) = values_from d make (done ++ make (λ i. get_or done i d) j ∷ []) js

-- the lists that the joins stand for
abbrev pub lists_of : List Join → List (List ℕ)
lists_of js = values_from [] list_of_join [] js

-- what is joined in the piece is among the first n joins
abbrev pub IsPiece : ℕ → Piece → Type 0
IsPiece n Empty = ⊤
IsPiece n (Task task) = ⊤
IsPiece n (Joined i) = i < n
IsPiece n (Turned i) = i < n

abbrev pub HasPartsBelow : ℕ → Join → Type 0
HasPartsBelow n j = IsPiece n j.first × IsPiece n j.second

-- each join stands after those in its parts. The first of them stands at n
abbrev pub AllHavePartsBelow : ℕ → List Join → Type 0
AllHavePartsBelow n [] = ⊤
AllHavePartsBelow n (j ∷ js) = HasPartsBelow n j × AllHavePartsBelow (n + 1) js

-- ---- what callers see: the lists of all joins that were made, in the order in which they were made

-- the list that the rope stands for
abbrev pub list_of : List (List ℕ) → Rope → List ℕ
list_of lists rope = list_of_piece (λ i. get_or lists i []) rope.piece

-- the rope is one of these
abbrev pub IsRope : List (List ℕ) → Rope → Type 0
IsRope lists rope = IsPiece (length lists) rope.piece

-- every rope that was made before stands for the same list as before
abbrev pub Extends : List (List ℕ) → List (List ℕ) → Type 0
Extends old new = (more : List (List ℕ)) × (new ≡ old ++ more)
