-- The order 1, 2, .., n: it is a permutation, and each vertex stands at its own place.
use Rattle.std.proofs.Common.{◌≡◌, ℕ, zero, suc, ◌+◌, ◌<◌, ◌≤◌, ◌^◌, eqb, leb, List, [], ◌∷◌}
use Rattle.std.proofs.Common.{◌++◌, length, get_or, inl, inr, refl, sym, ap, ◌∙◌, arith}
use Rattle.std.specs.List.{range_with_len}
use Rattle.std.proofs.lemmas.Bool.{cases_Bool, leb-true, leb-false, ne_eqb}
use Rattle.std.proofs.lemmas.List.Sums.{sum_by_push}
use Rattle.std.proofs.lemmas.List.FromFn.{length-range_with_len, get_or-range_with_len}
use Rattle.std.proofs.Math.ListN.{get_or-eq_default}
use Rattle.permutations.specs.Perm.{IsPart, IsPerm, vertex_at, place_of, times}
use Rattle.permutations.specs.PermTables.{ArePermTables}
use Rattle.permutations.proofs.PlaceLemmas.{place-none}
use Rattle.permutations.proofs.PermLemmas.{bit, part-none, part-push, perm_from_part, place_of_vertex}

range_push : (a k : ℕ) → range_with_len a (suc k) ≡ range_with_len a k ++ (a + k) ∷ []
range_push a zero = ap (λ (x : ℕ). x ∷ []) (omega arith)
range_push a (suc k) =
    ap (λ (xs : List ℕ). a ∷ xs) (range_push (a + 1) k ∙ ap (λ (x : ℕ). range_with_len (a + 1) k ++ x ∷ []) (omega arith))

pub range_count : (k : ℕ) → range_with_len 0 k ++ k ∷ [] ≡ range_with_len 0 (suc k)
range_count k = ap (λ (x : ℕ). range_with_len 0 k ++ x ∷ []) (omega arith) ∙ sym (range_push 0 k)

range_more : (k : ℕ) → range_with_len 1 (suc k) ≡ range_with_len 1 k ++ suc k ∷ []
range_more k = range_push 1 k ∙ ap (λ (x : ℕ). range_with_len 1 k ++ x ∷ []) (omega arith)

none_at : (k v : ℕ) → suc k < v → bit (eqb (suc k) v) ≡ 0
none_at k v lt = ap bit (ne_eqb (suc k) v (λ e. absurd (omega arith)))

part-range : (n k : ℕ) → k ≤ n → IsPart n (range_with_len 1 k) × ((v : ℕ) → k < v → times (range_with_len 1 k) v ≡ 0)
part-range n zero le = (part-none n, λ v lt. refl)
part-range n (suc k) le =
    let before = part-range n k (omega arith) in
    rw (range_more k) (
      part-push n (range_with_len 1 k) (suc k) before.0 (omega arith, le) (before.1 (suc k) (omega arith)),
      λ v lt. sum_by_push (λ x. bit (eqb x v)) (range_with_len 1 k) (suc k) ∙ omega (arith, before.1 v (omega arith), none_at k v lt),
    )

pub perm_identity : (n : ℕ) → IsPerm n (range_with_len 1 n)
perm_identity n = perm_from_part n (range_with_len 1 n) (part-range n n (omega arith)).0 (length-range_with_len 1 n)

pub vertex_identity : (n k : ℕ) → k ≤ n → vertex_at (range_with_len 1 n) k ≡ k
vertex_identity n zero le = refl
vertex_identity n (suc i) le = get_or-range_with_len 1 n i 0 (omega arith) ∙ omega arith

place_identity : (n v : ℕ) → v ≤ n → place_of (range_with_len 1 n) v ≡ v
place_identity n v le =
    ap (place_of (range_with_len 1 n)) (sym (vertex_identity n v le)) ∙ place_of_vertex n (range_with_len 1 n) (perm_identity n) v le

inverse_identity : (n v : ℕ) → get_or (range_with_len 0 (suc n)) v 0 ≡ place_of (range_with_len 1 n) v
inverse_identity n v =
    elim (cases_Bool (leb v n)) [
      | inl e ↦ (let le = leb-true v n e in get_or-range_with_len 0 (suc n) v 0 (omega arith) ∙ omega (arith, place_identity n v le))
      | inr e ↦ (
          let lt = leb-false v n e in
          get_or-eq_default (range_with_len 0 (suc n)) 0 (omega (arith, length-range_with_len 0 (suc n)))
          ∙ sym (place-none (range_with_len 1 n) v ((part-range n n (omega arith)).1 v lt))
          )
    ]

pub tables_identity : (n : ℕ) (vertices places : List ℕ) → n < 2 ^ 32
    → vertices ≡ range_with_len 0 (suc n) → places ≡ range_with_len 0 (suc n) → ArePermTables vertices places
tables_identity n vertices places small e f =
    let len = length-range_with_len 1 n in
    let long = length-range_with_len 0 (suc n) in
    let perm : IsPerm (length (range_with_len 1 n)) (range_with_len 1 n) = rw len (perm_identity n) in
    let less : length (range_with_len 1 n) < length (range_with_len 0 (suc n)) = omega arith in
    let few : length (range_with_len 1 n) < 2 ^ 32 = omega arith in
    rw (e, f) (record { tables = record { unused = refl; few = less; inverse = inverse_identity n }; perm = perm; small = few })
