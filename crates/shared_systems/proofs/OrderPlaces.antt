-- Places of tasks in an order, and the collectors that are due after each, as rows by the place of the last reader.
use Rattle.std.proofs.Common.{◌≡◌, ℕ, zero, suc, ◌+◌, ◌<◌, ◌≤◌, max, Bool, true, false, cond, not, ◌&&◌, eqb, eq-eqb, ltb, List, []}
use Rattle.std.proofs.Common.{◌∷◌, ◌++◌, map, length, get_or, take, drop, set, append_assoc, refl, sym, ap, ◌∙◌, arith, inl, inr}
use Rattle.std.specs.Prelude.{All, count_by}
use Rattle.std.specs.List.{filter, list_all}
use Rattle.std.proofs.lemmas.List.{append-nil, length-map, map-append, take_more, drop_more, get_or-set_same, get_or-set_other}
use Rattle.std.proofs.lemmas.List.Sums.{prefix_len-le-length, length-filter}
use Rattle.std.proofs.lemmas.List.Elements.{All-head, All-tail, All-nil, All-cons, filter_more}
use Rattle.std.proofs.lemmas.Bool.{cases_Bool, cases_eq, cases_lt, ne_eqb, lt-ltb, le-ltb}
use Rattle.row_table.specs.Rows.{numbers_with}
use Rattle.mp_system.specs.Memory.{stands_in}
use Rattle.shared_systems.specs.Shared.{SharedTaskSystem, SharedItem, shared_item_at}
use Rattle.shared_systems.specs.SharedMemory.{are_done}
use Rattle.shared_systems.specs.Collected.{are_several, is_shared}
use Rattle.shared_systems.specs.Woven.{due_from, due_after, woven_from, woven}
use Rattle.shared_systems.specs.Places.{place_in, last_place, last_places}
use Rattle.shared_systems.proofs.ItemParts.{and_true}
use Rattle.shared_systems.proofs.KeySums.{no_item}

-- ---- the places, from the last one back

-- the places in what is left of the order from i on
abbrev pub ArePlaces : List ℕ → List ℕ → ℕ → ℕ → Type 0
ArePlaces places order last i = (v : ℕ) → v ≤ last → get_or places v 0 ≡ i + place_in (drop i order) v

pub place_here : (x v : ℕ) (rest : List ℕ) → x ≡ v → place_in (x ∷ rest) v ≡ 0
place_here x v rest e = rw (eq-eqb x v e) refl

pub place_later : (x v : ℕ) (rest : List ℕ) → (x ≡ v → ⊥) → place_in (x ∷ rest) v ≡ 1 + place_in rest v
place_later x v rest e = rw (ne_eqb x v e) refl

module _ (places order : List ℕ) (last i x : ℕ) (are : ArePlaces places order last (i + 1))
    (lt : i < length order) (x_is : x ≡ get_or order i 0) where
  rest_is : drop i order ≡ x ∷ drop (i + 1) order
  rest_is = drop_more order i 0 lt ∙ ap (λ (w : ℕ). w ∷ drop (i + 1) order) (sym x_is)

  pub places_set : last < length places → x ≤ last → ArePlaces (set places x i) order last i
  places_set long low v le =
      let place = ap (λ (l : List ℕ). place_in l v) rest_is in
      elim (cases_eq x v) [
        | inl same ↦ (
            let here = place_here x v (drop (i + 1) order) same in
            let read = ap (λ (w : ℕ). get_or (set places x i) w 0) (sym same) in
            let written = get_or-set_same places x i 0 (omega arith) in
            omega (arith, place, here, read, written)
            )
        | inr other ↦ (
            let later = place_later x v (drop (i + 1) order) other in
            let kept = get_or-set_other places x v i 0 (λ e. other (sym e)) in
            omega (arith, place, later, kept, are v le)
            )
      ]

  pub places_skip : last < x → ArePlaces places order last i
  places_skip high v le =
      let place = ap (λ (l : List ℕ). place_in l v) rest_is in
      let later = place_later x v (drop (i + 1) order) (λ e. omega arith) in
      omega (arith, place, later, are v le)

pub place-le : (order : List ℕ) (v : ℕ) → place_in order v ≤ length order
place-le order v = prefix_len-le-length (λ u. not (eqb u v)) order

-- ---- the last of some readers

pub last_place-push : (place : ℕ → ℕ) (to : List ℕ) (c : ℕ) → last_place place (to ++ c ∷ []) ≡ max (last_place place to) (place c)
last_place-push place [] c = omega arith
last_place-push place (d ∷ to) c = omega (arith, last_place-push place to c)

pub last_place_more : (place : ℕ → ℕ) (to : List ℕ) (i : ℕ) → i < length to
    → last_place place (take (i + 1) to) ≡ max (last_place place (take i to)) (place (get_or to i 0))
last_place_more place to i lt = ap (last_place place) (take_more to i 0 lt) ∙ last_place-push place (take i to) (get_or to i 0)

pub last_place-le : (order to : List ℕ) → last_place (place_in order) to ≤ length order
last_place-le order [] = omega arith
last_place-le order (c ∷ to) = omega (arith, place-le order c, last_place-le order to)

pub last_place_same : (place other : ℕ → ℕ) (P : ℕ → Type 0) → ((c : ℕ) → P c → place c ≡ other c)
    → (to : List ℕ) → All P to → last_place place to ≡ last_place other to
last_place_same place other P same [] within = refl
last_place_same place other P same (c ∷ to) within =
    omega (arith, same c (All-head P c to within), last_place_same place other P same to (All-tail P c to within))

pub last_places_more : (place : ℕ → ℕ) (xs : List SharedItem) (i : ℕ) (b : Bool) → i < length xs → b ≡ is_shared (shared_item_at xs i)
    → last_places place (take (i + 1) xs) ≡ last_places place (take i xs) ++ cond b (last_place place (shared_item_at xs i).readers ∷ []) []
last_places_more place xs i b lt b_is =
    let f = λ (y : SharedItem). last_place place y.readers in
    let x = shared_item_at xs i in
    ap (map f) (filter_more is_shared xs i no_item lt)
    ∙ map-append f (filter is_shared (take i xs)) (cond (is_shared x) (x ∷ []) [])
    ∙ ap (λ (e : Bool). last_places place (take i xs) ++ map f (cond e (x ∷ []) [])) (sym b_is)
    ∙ ap (λ (l : List ℕ). last_places place (take i xs) ++ l)
    (elim b as (λ e. map f (cond e (x ∷ []) []) ≡ cond e (last_place place x.readers ∷ []) []) [ true ↦ refl | false ↦ refl ])

pub last_places_all : (P : ℕ → Type 0) (place : ℕ → ℕ) → ((to : List ℕ) → P (last_place place to))
    → (xs : List SharedItem) → All P (last_places place xs)
last_places_all P place each [] = All-nil P
last_places_all P place each (x ∷ xs) = elim (cases_Bool (is_shared x)) [
  | inl shared ↦
      rw shared (All-cons P (last_place place x.readers) (last_places place xs) (each x.readers) (last_places_all P place each xs))
  | inr sole ↦ rw sole (last_places_all P place each xs)
]

pub last_places_same : (place other : ℕ → ℕ) (P : ℕ → Type 0)
    → ((c : ℕ) → P c → place c ≡ other c) → (xs : List SharedItem) → All (λ x. All P x.readers) xs
    → last_places place xs ≡ last_places other xs
last_places_same place other P same [] within = refl
last_places_same place other P same (x ∷ xs) within =
    let here = last_place_same place other P same x.readers (All-head (λ y. All P y.readers) x xs within) in
    let later = last_places_same place other P same xs (All-tail (λ y. All P y.readers) x xs within) in
    elim (cases_Bool (is_shared x)) [
      | inl shared ↦ rw (shared, here, later) refl
      | inr sole ↦ rw sole later
    ]

pub length-last_places : (place : ℕ → ℕ) (xs : List SharedItem) → length (last_places place xs) ≡ count_by is_shared xs
length-last_places place xs = length-map (filter is_shared xs) (λ x. last_place place x.readers) ∙ length-filter is_shared xs

-- ---- states along the order, by places

ltb_suc : (a b : ℕ) → ltb a b ≡ ltb (1 + a) (suc b)
ltb_suc a b = elim (cases_lt a b) [
  | inl lt ↦ lt-ltb a b lt ∙ sym (lt-ltb (1 + a) (suc b) (omega arith))
  | inr le ↦ le-ltb a b le ∙ sym (le-ltb (1 + a) (suc b) (omega arith))
]

pub stands_take : (order : List ℕ) (i v : ℕ) → i ≤ length order → stands_in (take i order) v ≡ ltb (place_in order v) i
stands_take order zero v le = sym (le-ltb (place_in order v) 0 (omega arith))
stands_take [] (suc i) v le = absurd (omega arith)
stands_take (x ∷ order) (suc i) v le = elim (cases_eq x v) [
  | inl same ↦ rw (eq-eqb x v same) (sym (lt-ltb 0 (suc i) (omega arith)))
  | inr other ↦ rw (ne_eqb x v other) (stands_take order i v (omega arith) ∙ ltb_suc (place_in order v) i)
]

ltb_max : (a b i : ℕ) → (ltb a i && ltb b i) ≡ ltb (max a b) i
ltb_max a b i = elim (cases_lt a i) [
  | inl one ↦ elim (cases_lt b i) [
    | inl two ↦ rw (lt-ltb a i one, lt-ltb b i two) (sym (lt-ltb (max a b) i (omega arith)))
    | inr two ↦ rw (lt-ltb a i one, le-ltb b i two) (sym (le-ltb (max a b) i (omega arith)))
  ]
  | inr one ↦ rw (le-ltb a i one) (sym (le-ltb (max a b) i (omega arith)))
]

module _ (order : List ℕ) (i : ℕ) (le : i ≤ length order) where
  pub all_take : (c : ℕ) (cs : List ℕ) → list_all (stands_in (take i order)) (c ∷ cs) ≡ ltb (last_place (place_in order) (c ∷ cs)) i
  all_take c [] =
      let same : place_in order c ≡ max (place_in order c) 0 = omega arith in
      and_true (stands_in (take i order) c) ∙ stands_take order i c le ∙ ap (λ (n : ℕ). ltb n i) same
  all_take c (d ∷ cs) =
      ap (λ (b : Bool). b && list_all (stands_in (take i order)) (d ∷ cs)) (stands_take order i c le)
      ∙ ap (λ (b : Bool). ltb (place_in order c) i && b) (all_take d cs)
      ∙ ltb_max (place_in order c) (last_place (place_in order) (d ∷ cs)) i

  done_take : (to : List ℕ) → are_several to ≡ true → are_done (stands_in (take i order)) to ≡ ltb (last_place (place_in order) to) i
  done_take [] e = absurd cc
  done_take (c ∷ cs) e = all_take c cs

between : (l i : ℕ) → (ltb l (i + 1) && not (ltb l i)) ≡ eqb l i
between l i = elim (cases_lt l i) [
  | inl lt ↦ rw (lt-ltb l i lt, lt-ltb l (i + 1) (omega arith)) (sym (ne_eqb l i (λ e. omega arith)))
  | inr le ↦ elim (cases_eq l i) [
    | inl same ↦ rw (le-ltb l i le, lt-ltb l (i + 1) (omega arith)) (sym (eq-eqb l i same))
    | inr other ↦ rw (le-ltb l (i + 1) (omega arith)) (sym (ne_eqb l i other))
  ]
]

numbers_cons : (l : ℕ) (keys : List ℕ) (k i : ℕ) → numbers_with (l ∷ keys) k i ≡ cond (eqb l i) (k ∷ []) [] ++ numbers_with keys (k + 1) i
numbers_cons l keys k i = elim (cases_Bool (eqb l i)) [
  | inl here ↦ rw here refl
  | inr other ↦ rw other refl
]

-- what is due after the task at place i is the row of that place
due_numbers : (order : List ℕ) (i k : ℕ) (xs : List SharedItem) → i < length order
    → due_from (stands_in (take i order)) (stands_in (take (i + 1) order)) k xs ≡ numbers_with (last_places (place_in order) xs) k i
due_numbers order i k [] lt = refl
due_numbers order i k (x ∷ xs) lt = elim (cases_Bool (is_shared x)) [
  | inl shared ↦ (
      let l = last_place (place_in order) x.readers in
      let due : (are_done (stands_in (take (i + 1) order)) x.readers && not (are_done (stands_in (take i order)) x.readers)) ≡ eqb l i =
      ap (λ (b : Bool). b && not (are_done (stands_in (take i order)) x.readers)) (done_take order (i + 1) (omega arith) x.readers shared)
      ∙ ap (λ (b : Bool). ltb l (i + 1) && not b) (done_take order i (omega arith) x.readers shared)
      ∙ between l i in
      rw (shared, due)
      (ap (λ (ys : List ℕ). cond (eqb l i) (k ∷ []) [] ++ ys) (due_numbers order i (k + 1) xs lt)
      ∙ sym (numbers_cons l (last_places (place_in order) xs) k i))
      )
  | inr sole ↦ rw sole (due_numbers order i k xs lt)
]

pub due_row : (system : SharedTaskSystem) (order : List ℕ) (i : ℕ) → i < length order
    → due_after system (take i order) (get_or order i 0)
    ≡ numbers_with (last_places (place_in order) system.items) (length system.tasks + 1) i
due_row system order i lt =
    ap (λ (l : List ℕ). due_from (stands_in (take i order)) (stands_in l) (length system.tasks + 1) system.items)
    (sym (take_more order i 0 lt))
    ∙ due_numbers order i (length system.tasks + 1) system.items lt

-- ---- the woven order, one task more

woven_from-append : (system : SharedTaskSystem) (before xs ys : List ℕ)
    → woven_from system before (xs ++ ys) ≡ woven_from system before xs ++ woven_from system (before ++ xs) ys
woven_from-append system before [] ys = ap (λ (l : List ℕ). woven_from system l ys) (sym (append-nil before))
woven_from-append system before (v ∷ xs) ys =
    let own = v ∷ due_after system before v in
    ap (λ (l : List ℕ). own ++ l)
    (woven_from-append system (before ++ v ∷ []) xs ys
    ∙ ap (λ (l : List ℕ). woven_from system (before ++ v ∷ []) xs ++ woven_from system l ys) (append_assoc before (v ∷ []) xs))
    ∙ sym (append_assoc own (woven_from system (before ++ v ∷ []) xs) (woven_from system (before ++ v ∷ xs) ys))

pub woven_more : (system : SharedTaskSystem) (order : List ℕ) (i : ℕ) → i < length order
    → woven system (take (i + 1) order)
    ≡ woven system (take i order) ++ (get_or order i 0 ∷ due_after system (take i order) (get_or order i 0))
woven_more system order i lt =
    let v = get_or order i 0 in
    ap (woven system) (take_more order i 0 lt)
    ∙ woven_from-append system [] (take i order) (v ∷ [])
    ∙ ap (λ (l : List ℕ). woven system (take i order) ++ l) (append-nil (v ∷ due_after system (take i order) v))
