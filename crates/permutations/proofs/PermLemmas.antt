-- What makes a list a permutation: n vertices of n, none twice.
use Rattle.std.proofs.Common.{◌≡◌, ℕ, zero, suc, ◌+◌, ◌<◌, ◌≤◌, Bool, cond, eqb, List, [], ◌∷◌, ◌++◌}
use Rattle.std.proofs.Common.{length, take, drop, get_or, inl, inr, refl, ap, subst, ◌∙◌, arith}
use Rattle.std.specs.List.{All}
use Rattle.std.proofs.lemmas.Bool.{cases_eq, eq-eqb, ne_eqb}
use Rattle.std.proofs.lemmas.List.Elements.{All-nil, All-head, All-tail, All-push}
use Rattle.std.proofs.lemmas.List.{get_or-drop, length-drop, length_push}
use Rattle.std.proofs.lemmas.List.Sums.{sum_by_push, sum_by-take-drop}
use Rattle.permutations.specs.Perm.{IsVertex, IsPart, IsPerm, vertex_at, place_of, times}
use Rattle.permutations.proofs.PlaceLemmas.{times-here, times-beyond, place-vertex, place-at, place-none, times-none, times-at}

-- one, where a test holds
abbrev pub bit : Bool → ℕ
bit b = cond b 1 0

-- ---- some of the vertices, none twice

pub part-none : (n : ℕ) → IsPart n []
part-none n = record { vertices = All-nil (IsVertex n); once = λ v. omega arith }

pub part-push : (n : ℕ) (numbers : List ℕ) (v : ℕ) → IsPart n numbers → IsVertex n v → times numbers v ≡ 0 → IsPart n (numbers ++ v ∷ [])
part-push n numbers v part vertex fresh = record {
  vertices = All-push (IsVertex n) numbers v part.vertices vertex;
  once = λ w.
      let more = sum_by_push (λ x. bit (eqb x w)) numbers v in
      let most = part.once w in
      elim (cases_eq v w) [
        | inl same ↦
            (let one : bit (eqb v w) ≡ 1 = ap bit (eq-eqb v w same) in
            let none : times numbers w ≡ 0 = subst (λ x. times numbers x ≡ 0) same fresh in omega (arith, more, one, none))
        | inr other ↦ (let none : bit (eqb v w) ≡ 0 = ap bit (ne_eqb v w other) in omega (arith, more, none, most))
      ];
}

-- ---- n of them are all of them: counted by vertices and by places, they are as many

-- how many elements are one of the vertices up to n
total : ℕ → List ℕ → ℕ
total zero numbers = 0
total (suc n) numbers = total n numbers + times numbers (suc n)

total-none : (n : ℕ) → total n [] ≡ 0
unfolding total
total-none zero = refl
total-none (suc n) = omega (arith, total-none n)

total-beyond : (n x : ℕ) (xs : List ℕ) → n < x → total n (x ∷ xs) ≡ total n xs
unfolding total
total-beyond zero x xs lt = refl
total-beyond (suc n) x xs lt = omega (arith, total-beyond n x xs (omega arith), times-beyond x (suc n) xs (λ e. absurd (omega arith)))

total-within : (n x : ℕ) (xs : List ℕ) → IsVertex n x → total n (x ∷ xs) ≡ 1 + total n xs
unfolding total
total-within zero x xs vertex = absurd (let some = vertex.0 in let small = vertex.1 in omega arith)
total-within (suc n) x xs vertex =
    let some = vertex.0 in
    let small = vertex.1 in
    elim (cases_eq x (suc n)) [
      | inl e ↦ omega (arith, total-beyond n x xs (omega arith), times-here x (suc n) xs e)
      | inr e ↦ omega (arith, total-within n x xs (some, omega arith), times-beyond x (suc n) xs e)
    ]

total-length : (n : ℕ) (xs : List ℕ) → All (IsVertex n) xs → total n xs ≡ length xs
total-length n [] vertices = total-none n
total-length n (x ∷ xs) vertices =
    omega (arith, total-within n x xs (All-head (IsVertex n) x xs vertices), total-length n xs (All-tail (IsVertex n) x xs vertices))

total-le : (n : ℕ) (xs : List ℕ) → ((v : ℕ) → times xs v ≤ 1) → total n xs ≤ n
unfolding total
total-le zero xs once = omega arith
total-le (suc n) xs once = omega (arith, total-le n xs once, once (suc n))

total-full : (n : ℕ) (xs : List ℕ) → ((v : ℕ) → times xs v ≤ 1) → total n xs ≡ n → (v : ℕ) → IsVertex n v → times xs v ≡ 1
unfolding total
total-full zero xs once full v vertex = absurd (let some = vertex.0 in let small = vertex.1 in omega arith)
total-full (suc n) xs once full v vertex =
    let some = vertex.0 in
    let small = vertex.1 in
    let most = total-le n xs once in
    let last = once (suc n) in
    elim (cases_eq v (suc n)) [
      | inl e ↦ rw e (omega arith)
      | inr e ↦ total-full n xs once (omega arith) v (some, omega arith)
    ]

pub perm_from_part : (n : ℕ) (numbers : List ℕ) → IsPart n numbers → length numbers ≡ n → IsPerm n numbers
perm_from_part n numbers part len = record {
  len = len;
  vertices = part.vertices;
  once = total-full n numbers part.once (total-length n numbers part.vertices ∙ len);
}

pub length-part : (n : ℕ) (numbers : List ℕ) → IsPart n numbers → length numbers ≤ n
length-part n numbers part = omega (arith, total-length n numbers part.vertices, total-le n numbers part.once)

-- where a vertex stands at no place, there is a place for it
pub room_in_part : (n : ℕ) (numbers : List ℕ) (v : ℕ) → IsPart n numbers → IsVertex n v → times numbers v ≡ 0 → length numbers < n
room_in_part n numbers v part vertex fresh =
    omega (arith, length_push numbers v, length-part n (numbers ++ v ∷ []) (part-push n numbers v part vertex fresh))

-- ---- places and vertices undo each other

nowhere : (n : ℕ) (order : List ℕ) → All (IsVertex n) order → times order 0 ≡ 0
nowhere n [] vertices = refl
nowhere n (x ∷ xs) vertices =
    let some = (All-head (IsVertex n) x xs vertices).0 in
    times-beyond x 0 xs (λ e. absurd (omega arith)) ∙ nowhere n xs (All-tail (IsVertex n) x xs vertices)

pub vertex_of_place : (n : ℕ) (order : List ℕ) → IsPerm n order → (v : ℕ) → v ≤ n → vertex_at order (place_of order v) ≡ v
vertex_of_place n order perm zero le = rw (place-none order 0 (nowhere n order perm.vertices)) refl
vertex_of_place n order perm (suc v) le =
    place-vertex order (suc v) (λ none. absurd (omega (arith, times-none order (suc v) none, perm.once (suc v) (omega arith, le))))

pub place_of_vertex : (n : ℕ) (order : List ℕ) → IsPerm n order → (k : ℕ) → k ≤ n → place_of order (vertex_at order k) ≡ k
place_of_vertex n order perm zero le = place-none order 0 (nowhere n order perm.vertices)
place_of_vertex n order perm (suc i) le =
    let lt : i < length order = omega (arith, perm.len) in
    place-at order i lt (perm.once (get_or order i 0) (perm.vertices i 0 lt))

-- fewer than n of them leave some vertex out
some_out : (n : ℕ) (xs : List ℕ) → total n xs < n → (w : ℕ) × IsVertex n w × (times xs w ≡ 0)
unfolding total
some_out zero xs few = absurd (omega arith)
some_out (suc n) xs few = elim (cases_eq (times xs (suc n)) 0) [
  | inl none ↦ (suc n, (omega arith, omega arith), none)
  | inr some ↦ (let out = some_out n xs (omega arith) in let le = out.1.1 in (out.0, (out.1.0, omega arith), out.2))
]

pub some_left : (n : ℕ) (numbers : List ℕ) → IsPart n numbers → length numbers < n → (w : ℕ) × IsVertex n w × (times numbers w ≡ 0)
some_left n numbers part few = some_out n numbers (omega (arith, total-length n numbers part.vertices))

-- a vertex of a permutation is not among those before it
pub fresh_at : (n : ℕ) (order : List ℕ) → IsPerm n order → (k : ℕ) → k < n → times (take k order) (get_or order k 0) ≡ 0
fresh_at n order perm k lt =
    let len = perm.len in
    let v = get_or order k 0 in
    let once = perm.once v (perm.vertices k 0 (omega arith)) in
    let parts = sum_by-take-drop (λ x. bit (eqb x v)) order k in
    let at : get_or (drop k order) 0 0 ≡ v = get_or-drop k order 0 0 ∙ ap (λ i. get_or order i 0) plus_zero in
    let here : 0 < times (drop k order) v =
    subst (λ x. 0 < times (drop k order) x) at (times-at (drop k order) 0 (omega (arith, length-drop k order))) in
    omega (arith, once, parts, here)
  where
    plus_zero : k + 0 ≡ k
    plus_zero = omega arith
