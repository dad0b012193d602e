-- Two postorders of a forest are one list.
use Rattle.std.proofs.Common.{sym, ◌∙◌, subst, ap, ◌≡◌, inl, inr, ℕ, zero, suc, ◌<◌, ◌≤◌, List, length, get_or, arith, refl}
use Rattle.std.proofs.lemmas.Bool.{cases_eq}
use Rattle.std.proofs.lemmas.List.FromFn.{fill_by_all}
use Rattle.permutations.specs.Perm.{IsVertex, IsPerm, vertex_at, place_of}
use Rattle.elim_tree.specs.Trees.{IsForest}
use Rattle.elim_tree.specs.Postorders.{IsPostorder}
use Rattle.elim_tree.proofs.Growth.{vertex_within}
use Rattle.elim_tree.proofs.Postorderings.{total}

-- what `ordering` says of vertices and places
abbrev pub VerticesAreInverse : Type 0
VerticesAreInverse = (n : ℕ) (order : List ℕ) → IsPerm n order → (v : ℕ) → v ≤ n → vertex_at order (place_of order v) ≡ v

abbrev pub PlacesAreInverse : Type 0
PlacesAreInverse = (n : ℕ) (order : List ℕ) → IsPerm n order → (k : ℕ) → k ≤ n → place_of order (vertex_at order k) ≡ k

-- the vertex at a place is one
pub vertex_of : (n : ℕ) (order : List ℕ) → IsPerm n order → (k : ℕ) → IsVertex n k → IsVertex n (vertex_at order k)
vertex_of n order perm zero v = absurd (let some = v.0 in omega arith)
vertex_of n order perm (suc i) v = let len = perm.len in let le = v.1 in perm.vertices i 0 (omega arith)

-- two lists with the same at each place are one
pub same_list : (xs ys : List ℕ) (n : ℕ) → length xs ≡ n → length ys ≡ n
    → ((k : ℕ) → IsVertex n k → vertex_at xs k ≡ vertex_at ys k) → xs ≡ ys
same_list xs ys n lx ly same =
    fill_by_all (λ k. get_or xs k 0) xs n 0 lx (λ k lt. refl)
    ∙ sym (fill_by_all (λ k. get_or xs k 0) ys n 0 ly (λ k lt. sym (same (suc k) (omega arith, omega arith))))

module _ (vertices_back : VerticesAreInverse) (places_back : PlacesAreInverse) where
  -- the place of a vertex is one of n
  pub place_within : (n : ℕ) (order : List ℕ) → IsPerm n order → (v : ℕ) → IsVertex n v → IsVertex n (place_of order v)
  place_within n order perm v vertex =
      let back = vertices_back n order perm v vertex.1 in
      let some = vertex.0 in
      subst (λ m. IsVertex m (place_of order v)) perm.len (vertex_within order (place_of order v) (omega arith))

  module _ (parents : List ℕ) (forest : IsForest parents) where
    -- whoever comes later in one comes later in the other
    rises : (one two : List ℕ) → IsPostorder parents one → IsPostorder parents two → (k : ℕ) → 0 < k → suc k ≤ length parents
        → place_of two (vertex_at one k) < place_of two (vertex_at one (suc k))
    rises one two po pt k pos le =
        let here = places_back (length parents) one po.perm k (omega arith) in
        let next = places_back (length parents) one po.perm (suc k) le in
        let a = vertex_of (length parents) one po.perm k (omega arith, omega arith) in
        let b = vertex_of (length parents) one po.perm (suc k) (omega arith, le) in
        elim (total parents forest (vertex_at one k) (vertex_at one (suc k)) a b
        (λ e. let same = ap (place_of one) e in absurd (omega arith))) [
          | inl x ↦ pt.before (vertex_at one k) (vertex_at one (suc k)) a b x
          | inr x ↦ let less = po.before (vertex_at one (suc k)) (vertex_at one k) b a x in absurd (omega arith)
        ]

    not_before : (one two : List ℕ) → IsPostorder parents one → IsPostorder parents two
        → (k : ℕ) → k ≤ length parents → k ≤ place_of two (vertex_at one k)
    not_before one two po pt zero le = omega arith
    not_before one two po pt (suc k) le =
        elim (cases_eq k 0) [
          | inl e ↦ let some =
              (place_within (length parents) two pt.perm (vertex_at one (suc k))
              (vertex_of (length parents) one po.perm (suc k) (omega arith, le))).0 in
              omega arith
          | inr ne ↦ let before = not_before one two po pt k (omega arith) in
              let more = rises one two po pt k (omega arith) le in
              omega arith
        ]

    same_at : (one two : List ℕ) → IsPostorder parents one → IsPostorder parents two
        → (k : ℕ) → IsVertex (length parents) k → vertex_at one k ≡ vertex_at two k
    same_at one two po pt k v =
        let a = vertex_of (length parents) one po.perm k v in
        let back = vertices_back (length parents) two pt.perm (vertex_at one k) a.1 in
        let high = not_before one two po pt k v.1 in
        let m = place_of two (vertex_at one k) in
        elim (cases_eq (place_of two (vertex_at one k)) k) [
          | inl e ↦ sym back ∙ ap (vertex_at two) e
          | inr ne ↦
              let low = not_before two one pt po m (place_within (length parents) two pt.perm (vertex_at one k) a).1 in
              let again : place_of one (vertex_at two m) ≡ k = ap (place_of one) back ∙ places_back (length parents) one po.perm k v.1 in
              absurd (omega arith)
        ]

    pub postorders_same : (one two : List ℕ) → IsPostorder parents one → IsPostorder parents two → one ≡ two
    postorders_same one two po pt = same_list one two (length parents) po.perm.len pt.perm.len (same_at one two po pt)
