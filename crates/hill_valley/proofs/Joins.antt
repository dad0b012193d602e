-- The values of joins: what one more join adds, and what stands at a place.
use Rattle.std.proofs.Common.{◌≡◌, ℕ, zero, suc, ◌+◌, ◌<◌, List, [], ◌∷◌, ◌++◌, reverse, get_or}
use Rattle.std.proofs.Common.{length, refl, ap, sym, ◌∙◌, arith, subst, length-append}
use Rattle.std.proofs.lemmas.Grind.{common_steps}
use Rattle.hill_valley.specs.Ropes.{values_from, list_of_piece, list_of_join, lists_of, IsPiece, HasPartsBelow, AllHavePartsBelow, Extends}
use Rattle.hill_valley.specs.declared.ropes.Piece.{Piece}
use Rattle.hill_valley.specs.declared.ropes.Piece.TheVariants.{Empty, Task, Joined, Turned}
use Rattle.hill_valley.specs.declared.ropes.Join.{Join}

-- how many pieces are read to list a piece
abbrev pub weight_of_piece : (ℕ → ℕ) → Piece → ℕ
weight_of_piece at Empty = 1
weight_of_piece at (Task task) = 1
weight_of_piece at (Joined i) = at i + 1
weight_of_piece at (Turned i) = at i + 1

abbrev pub weight_of_join : (ℕ → ℕ) → Join → ℕ
weight_of_join at j = weight_of_piece at j.first + weight_of_piece at j.second

abbrev pub weights_of : List Join → List ℕ
weights_of js = values_from 0 weight_of_join [] js

module _ {A : Type 0} (d : A) (make : (ℕ → A) → Join → A) where
  -- the values of the joins js, after those of done
  pub values_push : (done : List A) (js : List Join) (n : Join)
      → values_from d make done (js ++ n ∷ []) ≡ values_from d make done js ++ make (λ i. get_or (values_from d make done js) i d) n ∷ []
  values_push done [] n = refl
  values_push done (m ∷ js) n = values_push (done ++ make (λ i. get_or done i d) m ∷ []) js n

  pub length_values : (done : List A) (js : List Join) → length (values_from d make done js) ≡ length done + length js
  length_values done [] = omega arith
  length_values done (m ∷ js) =
      let next = done ++ make (λ i. get_or done i d) m ∷ [] in
      omega (arith, length_values next js, length-append done (make (λ i. get_or done i d) m ∷ []))

  -- the values of done stay
  pub values_keep : (done : List A) (js : List Join) (i : ℕ) → i < length done → get_or (values_from d make done js) i d ≡ get_or done i d
  values_keep done [] i h = refl
  values_keep done (m ∷ js) i h =
      let x = make (λ i. get_or done i d) m in
      let longer : i < length (done ++ x ∷ []) = omega (arith, length-append done (x ∷ [])) in
      let there : get_or (done ++ x ∷ []) i d ≡ get_or done i d = grind (arith, common_steps) in
      values_keep (done ++ x ∷ []) js i longer ∙ there

  module _ (local : (n : ℕ) (x : Join) (f g : ℕ → A) → HasPartsBelow n x → ((i : ℕ) → i < n → f i ≡ g i) → make f x ≡ make g x) where
    -- the value at a place is made of the values of its parts
    pub value_at : (done : List A) (js : List Join) (i : ℕ) (x : Join) → AllHavePartsBelow (length done) js → i < length js
        → get_or (values_from d make done js) (length done + i) d ≡ make (λ j. get_or (values_from d make done js) j d) (get_or js i x)
    value_at done [] i x h lt = absurd (omega arith)
    value_at done (m ∷ js) zero x h lt =
        let y = make (λ i. get_or done i d) m in
        let longer : length done < length (done ++ y ∷ []) = omega (arith, length-append done (y ∷ [])) in
        let here : get_or (done ++ y ∷ []) (length done) d ≡ y = grind (arith, common_steps) in
        let at : length done + 0 ≡ length done = omega arith in
        ap (λ k. get_or (values_from d make (done ++ y ∷ []) js) k d) at
        ∙ values_keep (done ++ y ∷ []) js (length done) longer ∙ here
        ∙ local (length done) m (λ i. get_or done i d) (λ j. get_or (values_from d make (done ++ y ∷ []) js) j d) h.0
        (λ i lt'. sym (values_keep done (m ∷ js) i lt'))
    value_at done (m ∷ js) (suc i) x h lt =
        let y = make (λ i. get_or done i d) m in
        let longer : length (done ++ y ∷ []) ≡ length done + 1 = length-append done (y ∷ []) in
        let at : length done + suc i ≡ length (done ++ y ∷ []) + i = omega arith in
        ap (λ k. get_or (values_from d make (done ++ y ∷ []) js) k d) at
        ∙ value_at (done ++ y ∷ []) js i x (subst (λ (k : ℕ). AllHavePartsBelow k js) (sym longer) h.1) (omega arith)

pub piece_local : (n : ℕ) (p : Piece) (f g : ℕ → List ℕ) → IsPiece n p
    → ((i : ℕ) → i < n → f i ≡ g i) → list_of_piece f p ≡ list_of_piece g p
piece_local n Empty f g h e = refl
piece_local n (Task task) f g h e = refl
piece_local n (Joined i) f g h e = e i h
piece_local n (Turned i) f g h e = ap reverse (e i h)

list_local : (n : ℕ) (x : Join) (f g : ℕ → List ℕ) → HasPartsBelow n x → ((i : ℕ) → i < n → f i ≡ g i) → list_of_join f x ≡ list_of_join g x
list_local n x f g h e = rw (piece_local n x.first f g h.0 e, piece_local n x.second f g h.1 e) refl

weight_local_piece : (n : ℕ) (p : Piece) (f g : ℕ → ℕ) → IsPiece n p
    → ((i : ℕ) → i < n → f i ≡ g i) → weight_of_piece f p ≡ weight_of_piece g p
weight_local_piece n Empty f g h e = refl
weight_local_piece n (Task task) f g h e = refl
weight_local_piece n (Joined i) f g h e = let p = e i h in omega arith
weight_local_piece n (Turned i) f g h e = let p = e i h in omega arith

weight_local : (n : ℕ) (x : Join) (f g : ℕ → ℕ) → HasPartsBelow n x
    → ((i : ℕ) → i < n → f i ≡ g i) → weight_of_join f x ≡ weight_of_join g x
weight_local n x f g h e = let p = weight_local_piece n x.first f g h.0 e in let q = weight_local_piece n x.second f g h.1 e in omega arith

pub parts_push : (n : ℕ) (js : List Join) (x : Join) → AllHavePartsBelow n js
    → HasPartsBelow (n + length js) x → AllHavePartsBelow n (js ++ x ∷ [])
parts_push n [] x h p = (let e : n + 0 ≡ n = omega arith in subst (λ (k : ℕ). HasPartsBelow k x) e p, tt)
parts_push n (m ∷ js) x h p = (
  h.0,
  parts_push (n + 1) js x h.1
      (let e : n + (length js + 1) ≡ n + 1 + length js = omega arith in
      subst (λ (k : ℕ). HasPartsBelow k x) (let f : n + length (m ∷ js) ≡ n + 1 + length js = omega arith in f) p),
)

pub parts_at : (n : ℕ) (js : List Join) (i : ℕ) (x : Join) → AllHavePartsBelow n js → i < length js → HasPartsBelow (n + i) (get_or js i x)
parts_at n [] i x h lt = absurd (omega arith)
parts_at n (m ∷ js) zero x h lt = let e : n ≡ n + 0 = omega arith in subst (λ (k : ℕ). HasPartsBelow k m) e h.0
parts_at n (m ∷ js) (suc i) x h lt = let e : n + 1 + i ≡ n + suc i = omega arith in
    subst (λ (k : ℕ). HasPartsBelow k (get_or js i x)) e (parts_at (n + 1) js i x h.1 (omega arith))

-- in the words of the contracts
pub lists_push : (js : List Join) (n : Join) → lists_of (js ++ n ∷ []) ≡ lists_of js ++ list_of_join (λ i. get_or (lists_of js) i []) n ∷ []
lists_push js n = values_push [] list_of_join [] js n

pub length_lists : (js : List Join) → length (lists_of js) ≡ length js
length_lists js = omega (arith, length_values [] list_of_join [] js)

pub list_at : (js : List Join) (i : ℕ) (x : Join) → AllHavePartsBelow 0 js → i < length js
    → get_or (lists_of js) i [] ≡ list_of_join (λ j. get_or (lists_of js) j []) (get_or js i x)
list_at js i x h lt = let e : i ≡ 0 + i = omega arith in
    ap (λ k. get_or (lists_of js) k []) e ∙ value_at [] list_of_join list_local [] js i x h lt

pub weight_at : (js : List Join) (i : ℕ) (x : Join) → AllHavePartsBelow 0 js → i < length js
    → get_or (weights_of js) i 0 ≡ weight_of_join (λ j. get_or (weights_of js) j 0) (get_or js i x)
weight_at js i x h lt = let e : i ≡ 0 + i = omega arith in
    ap (λ k. get_or (weights_of js) k 0) e ∙ value_at 0 weight_of_join weight_local [] js i x h lt

-- after one more join x, where `lists` are the lists so far
module _ (js : List Join) (lists : List (List ℕ)) (x : Join) (is : lists_of js ≡ lists) where
  added : lists_of (js ++ x ∷ []) ≡ lists ++ list_of_join (λ i. get_or lists i []) x ∷ []
  added = lists_push js x ∙ ap (λ (l : List (List ℕ)). l ++ list_of_join (λ i. get_or l i []) x ∷ []) is

  same_length : length js ≡ length lists
  same_length = sym (length_lists js) ∙ ap (length {A = List ℕ}) is

  pub parts_added : AllHavePartsBelow 0 js → HasPartsBelow (length lists) x → AllHavePartsBelow 0 (js ++ x ∷ [])
  parts_added h p =
      parts_push 0 js x h (let e : length lists ≡ 0 + length js = omega (arith, same_length) in subst (λ (k : ℕ). HasPartsBelow k x) e p)

  pub get_added : (at : ℕ) → at ≡ length js → get_or (lists_of (js ++ x ∷ [])) at [] ≡ list_of_join (λ i. get_or lists i []) x
  get_added at h =
      let e : at ≡ length lists = h ∙ same_length in
      let y = list_of_join (λ i. get_or lists i []) x in
      let here : get_or (lists ++ y ∷ []) (length lists) [] ≡ y = grind (arith, common_steps) in
      ap (λ (l : List (List ℕ)). get_or l at []) added ∙ ap (λ k. get_or (lists ++ y ∷ []) k []) e ∙ here

  pub room_added : (at : ℕ) → at ≡ length js → at < length (lists_of (js ++ x ∷ []))
  room_added at h = omega (arith, length_lists (js ++ x ∷ []), length-append js (x ∷ []))

  pub count_added : length (lists_of (js ++ x ∷ [])) ≡ length lists + 1
  count_added = omega (arith, length_lists (js ++ x ∷ []), length-append js (x ∷ []), same_length)

  pub kept_added : Extends lists (lists_of (js ++ x ∷ []))
  kept_added = (list_of_join (λ i. get_or lists i []) x ∷ [], added)
