-- An order whose vertices get other numbers.
use Rattle.std.proofs.Common.{sym, ◌∙◌, ap, ◌≡◌, inl, inr, ℕ, zero, suc, ◌+◌, ◌-◌, ◌≤◌}
use Rattle.std.proofs.Common.{List, [], ◌∷◌, length, get_or, map, arith, refl}
use Rattle.std.specs.List.{All}
use Rattle.std.proofs.lemmas.Bool.{cases_eq}
use Rattle.std.proofs.lemmas.List.{get_or-map, length-map}
use Rattle.std.proofs.lemmas.List.Elements.{All-head, All-tail, All-map}
use Rattle.permutations.specs.Perm.{IsVertex, IsPerm, times, vertex_at, place_of}
use Rattle.permutations.proofs.PlaceLemmas.{times-here, times-beyond}
use Rattle.permutations.proofs.PermLemmas.{vertex_of_place, place_of_vertex}
use Rattle.elim_tree.proofs.OnePostorder.{place_within}

pub at_place : (xs : List ℕ) (f : ℕ → ℕ) (k n : ℕ) → length xs ≡ n → IsVertex n k → vertex_at (map f xs) k ≡ f (vertex_at xs k)
at_place xs f zero n len vk = absurd (let some = vk.0 in omega arith)
at_place xs f (suc i) n len vk = let le = vk.1 in get_or-map f xs i 0 0 (omega arith)

-- the vertex at a place, by its position from 0
pub at_place_before : (xs : List ℕ) (k : ℕ) → 1 ≤ k → get_or xs (k - 1) 0 ≡ vertex_at xs k
at_place_before xs zero some = absurd (omega arith)
at_place_before xs (suc i) some = let e : suc i - 1 ≡ i = omega arith in ap (λ (k : ℕ). get_or xs k 0) e

-- the new number of a vertex, and the old one
module _ (n : ℕ) (new old : ℕ → ℕ) (is_new : (v : ℕ) → IsVertex n v → IsVertex n (new v))
    (is_old : (v : ℕ) → IsVertex n v → IsVertex n (old v))
    (old_of_new : (v : ℕ) → IsVertex n v → old (new v) ≡ v) (new_of_old : (v : ℕ) → IsVertex n v → new (old v) ≡ v) where
  times_mapped : (xs : List ℕ) → All (IsVertex n) xs → (v : ℕ) → IsVertex n v → times (map new xs) v ≡ times xs (old v)
  times_mapped [] vertices v vertex = refl
  times_mapped (x ∷ xs) vertices v vertex =
      let rest = times_mapped xs (All-tail (IsVertex n) x xs vertices) v vertex in
      let vx = All-head (IsVertex n) x xs vertices in
      elim (cases_eq x (old v)) [
        | inl e ↦ times-here (new x) v (map new xs) (ap new e ∙ new_of_old v vertex)
            ∙ ap (λ (m : ℕ). 1 + m) rest ∙ sym (times-here x (old v) xs e)
        | inr ne ↦ times-beyond (new x) v (map new xs) (λ e. ne (sym (old_of_new x vx) ∙ ap old e))
            ∙ rest ∙ sym (times-beyond x (old v) xs ne)
      ]

  module _ (xs : List ℕ) (is : IsPerm n xs) where
    pub perm_mapped : IsPerm n (map new xs)
    perm_mapped = record {
      len = length-map xs new ∙ is.len;
      vertices = All-map (IsVertex n) new xs (λ i d lt. is_new _ (is.vertices i d lt));
      once = λ v vertex. times_mapped xs is.vertices v vertex ∙ is.once (old v) (is_old v vertex);
    }

    -- a vertex keeps its place
    pub place_mapped : (v : ℕ) → IsVertex n v → place_of (map new xs) (new v) ≡ place_of xs v
    place_mapped v vertex =
        let place = place_within vertex_of_place place_of_vertex n xs is v vertex in
        ap (place_of (map new xs)) (sym (at_place xs new (place_of xs v) n is.len place ∙ ap new (vertex_of_place n xs is v vertex.1)))
        ∙ place_of_vertex n (map new xs) perm_mapped (place_of xs v) place.1
