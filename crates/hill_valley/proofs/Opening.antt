-- What opening the top of the stack leaves to be listed.
use Rattle.std.proofs.Common.{◌≡◌, ℕ, ◌+◌, ◌<◌, ◌≤◌, List, [], ◌∷◌, ◌++◌, reverse, get_or, length, refl, ap, sym, ◌∙◌, arith, append_assoc}
use Rattle.std.proofs.lemmas.Grind.{common_steps}
use Rattle.hill_valley.specs.Ropes.{list_of_piece, lists_of, IsPiece, AllHavePartsBelow}
use Rattle.hill_valley.specs.Listing.{turned, join_at, tasks_opened, parts_opened}
use Rattle.hill_valley.proofs.Joins.{weight_of_piece, weights_of, list_at, weight_at, parts_at}
use Rattle.hill_valley.specs.declared.ropes.Piece.{Piece}
use Rattle.hill_valley.specs.declared.ropes.Piece.TheVariants.{Empty, Task, Joined, Turned}
use Rattle.hill_valley.specs.declared.ropes.Join.{Join}

-- what is still to be listed. The top of the stack stands last
abbrev pub pending : (ℕ → List ℕ) → List Piece → List ℕ
pending at [] = []
pending at (p ∷ ps) = pending at ps ++ list_of_piece at p

abbrev pub pending_weight : (ℕ → ℕ) → List Piece → ℕ
pending_weight at [] = 0
pending_weight at (p ∷ ps) = pending_weight at ps + weight_of_piece at p

abbrev pub AllBelow : ℕ → List Piece → Type 0
AllBelow n [] = Unit {0}
AllBelow n (p ∷ ps) = IsPiece n p × AllBelow n ps

pub pending_append : (at : ℕ → List ℕ) (ps qs : List Piece) → pending at (ps ++ qs) ≡ pending at qs ++ pending at ps
pending_append at [] qs = grind (arith, common_steps)
pending_append at (p ∷ ps) qs = rw (pending_append at ps qs) (append_assoc (pending at qs) (pending at ps) (list_of_piece at p))

pub weight_append : (at : ℕ → ℕ) (ps qs : List Piece) → pending_weight at (ps ++ qs) ≡ pending_weight at qs + pending_weight at ps
weight_append at [] qs = omega arith
weight_append at (p ∷ ps) qs = omega (arith, weight_append at ps qs)

pub below_append : (n : ℕ) (ps qs : List Piece) → AllBelow n ps → AllBelow n qs → AllBelow n (ps ++ qs)
below_append n [] qs hp hq = hq
below_append n (p ∷ ps) qs hp hq = (hp.0, below_append n ps qs hp.1 hq)

pub below_front : (n : ℕ) (ps qs : List Piece) → AllBelow n (ps ++ qs) → AllBelow n ps
below_front n [] qs h = tt
below_front n (p ∷ ps) qs h = (h.0, below_front n ps qs h.1)

pub below_last : (n : ℕ) (ps qs : List Piece) → AllBelow n (ps ++ qs) → AllBelow n qs
below_last n [] qs h = h
below_last n (p ∷ ps) qs h = below_last n ps qs h.1

-- ---- a piece turned

reverse_append : (a b : List ℕ) → reverse (a ++ b) ≡ reverse b ++ reverse a
reverse_append a b = grind (arith, common_steps)

pub turned_told : (at : ℕ → List ℕ) (p : Piece) → list_of_piece at (turned p) ≡ reverse (list_of_piece at p)
turned_told at Empty = refl
turned_told at (Task task) = refl
turned_told at (Joined i) = refl
turned_told at (Turned i) = grind (arith, common_steps)

turned_weight : (at : ℕ → ℕ) (p : Piece) → weight_of_piece at (turned p) ≡ weight_of_piece at p
turned_weight at Empty = refl
turned_weight at (Task task) = refl
turned_weight at (Joined i) = refl
turned_weight at (Turned i) = refl

pub turned_below : (n : ℕ) (p : Piece) → IsPiece n p → IsPiece n (turned p)
turned_below n Empty h = tt
turned_below n (Task task) h = tt
turned_below n (Joined i) h = h
turned_below n (Turned i) h = h

piece_below : (n m : ℕ) (p : Piece) → n ≤ m → IsPiece n p → IsPiece m p
piece_below n m Empty le h = tt
piece_below n m (Task task) le h = tt
piece_below n m (Joined i) le h = omega arith
piece_below n m (Turned i) le h = omega arith

-- ---- a piece opened, among the joins js

module _ (js : List Join) (parts : AllHavePartsBelow 0 js) where
  -- the piece's own task and its two lists, in order, are its list
  opened_told : (p : Piece) → IsPiece (length js) p
      → tasks_opened p ++ pending (λ i. get_or (lists_of js) i []) (parts_opened (join_at js) p)
      ≡ list_of_piece (λ i. get_or (lists_of js) i []) p
  opened_told Empty lt = refl
  opened_told (Task task) lt = refl
  opened_told (Joined i) lt = sym (list_at js i (record { first = Empty; second = Empty }) parts lt)
  opened_told (Turned i) lt =
      let at = λ (i : ℕ). get_or (lists_of js) i [] in
      let j = join_at js i in
      rw (turned_told at j.first, turned_told at j.second)
      (sym (reverse_append (list_of_piece at j.first) (list_of_piece at j.second))
      ∙ ap reverse (sym (list_at js i (record { first = Empty; second = Empty }) parts lt)))

  opened_weight : (p : Piece) → IsPiece (length js) p
      → pending_weight (λ i. get_or (weights_of js) i 0) (parts_opened (join_at js) p) < weight_of_piece (λ i. get_or (weights_of js) i 0) p
  opened_weight Empty lt = omega arith
  opened_weight (Task task) lt = omega arith
  opened_weight (Joined i) lt = omega (arith, weight_at js i (record { first = Empty; second = Empty }) parts lt)
  opened_weight (Turned i) lt =
      let at = λ (i : ℕ). get_or (weights_of js) i 0 in
      let j = join_at js i in
      omega (arith, weight_at js i (record { first = Empty; second = Empty }) parts lt, turned_weight at j.first, turned_weight at j.second)

  opened_below : (p : Piece) → IsPiece (length js) p → AllBelow (length js) (parts_opened (join_at js) p)
  opened_below Empty lt = tt
  opened_below (Task task) lt = tt
  opened_below (Joined i) lt =
      let h = parts_at 0 js i (record { first = Empty; second = Empty }) parts lt in
      (piece_below (0 + i) (length js) _ (omega arith) h.1, (piece_below (0 + i) (length js) _ (omega arith) h.0, tt))
  opened_below (Turned i) lt =
      let h = parts_at 0 js i (record { first = Empty; second = Empty }) parts lt in (
        turned_below (length js) _ (piece_below (0 + i) (length js) _ (omega arith) h.0),
        (turned_below (length js) _ (piece_below (0 + i) (length js) _ (omega arith) h.1), tt),
      )

  -- one turn of the loop, where the stack is `rest` below the piece that was taken off
  module _ (rest : List Piece) (top : Piece) (lt : IsPiece (length js) top) where
    told_step : (list : List ℕ)
        → (list ++ tasks_opened top) ++ pending (λ i. get_or (lists_of js) i []) (rest ++ parts_opened (join_at js) top)
        ≡ list ++ pending (λ i. get_or (lists_of js) i []) (rest ++ top ∷ [])
    told_step list =
        let at = λ (i : ℕ). get_or (lists_of js) i [] in
        rw (pending_append at rest (parts_opened (join_at js) top), pending_append at rest (top ∷ []))
        (append_assoc list (tasks_opened top) (pending at (parts_opened (join_at js) top) ++ pending at rest)
        ∙ ap (λ (l : List ℕ). list ++ l)
        (sym (append_assoc (tasks_opened top) (pending at (parts_opened (join_at js) top)) (pending at rest))
        ∙ ap (λ (l : List ℕ). l ++ pending at rest) (opened_told top lt)))

    weight_step : pending_weight (λ i. get_or (weights_of js) i 0) (rest ++ parts_opened (join_at js) top)
        < pending_weight (λ i. get_or (weights_of js) i 0) (rest ++ top ∷ [])
    weight_step =
        let at = λ (i : ℕ). get_or (weights_of js) i 0 in
        omega (arith, weight_append at rest (parts_opened (join_at js) top), weight_append at rest (top ∷ []), opened_weight top lt)

    below_step : AllBelow (length js) (rest ++ top ∷ []) → AllBelow (length js) (rest ++ parts_opened (join_at js) top)
    below_step h =
        below_append (length js) rest (parts_opened (join_at js) top) (below_front (length js) rest (top ∷ []) h) (opened_below top lt)

-- the same, as the calls of one turn give it
pub record Turn (js : List Join) (todo todo' : List Piece) (list list' : List ℕ) : Type 0 where
  pub told : list' ++ pending (λ i. get_or (lists_of js) i []) todo' ≡ list ++ pending (λ i. get_or (lists_of js) i []) todo
  pub lighter : pending_weight (λ i. get_or (weights_of js) i 0) todo' < pending_weight (λ i. get_or (weights_of js) i 0) todo
  pub below : AllBelow (length js) todo'

pub top_below : (n : ℕ) (todo rest : List Piece) (top : Piece) → AllBelow n todo → todo ≡ rest ++ top ∷ [] → IsPiece n top
top_below n todo rest top h e = (below_last n rest (top ∷ []) (rw e at h)).0

pub turn : (js : List Join) (todo rest todo' : List Piece) (list list' : List ℕ) (top : Piece)
    → AllHavePartsBelow 0 js → AllBelow (length js) todo
    → todo ≡ rest ++ top ∷ [] → list' ≡ list ++ tasks_opened top
    → todo' ≡ rest ++ parts_opened (join_at js) top → Turn js todo todo' list list'
turn js todo rest todo' list list' top parts below e f g =
    let lt = top_below (length js) todo rest top below e in
    record {
      told = rw (e, f, g) (told_step js parts rest top lt list);
      lighter = rw (e, g) (weight_step js parts rest top lt);
      below = rw g (below_step js parts rest top lt (rw e at below));
    }
