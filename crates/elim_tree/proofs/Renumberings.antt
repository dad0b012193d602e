-- What stands in tables along a new order, and that parents carried over are numbered in postorder.
use Rattle.std.proofs.Common.{sym, ◌∙◌, subst, ap, ◌+◌, ◌≡◌, inl, inr, ℕ, zero, suc, ◌<◌, ◌≤◌, Bool}
use Rattle.std.proofs.Common.{List, [], ◌∷◌, ◌++◌, length, get_or, map, drop, add-one, arith, refl}
use Rattle.std.specs.List.{range_with_len}
use Rattle.std.proofs.lemmas.Bool.{cases_eq, cases_lt}
use Rattle.std.proofs.lemmas.List.{get_or-map, get_or_past, length-map}
use Rattle.std.proofs.lemmas.List.FromFn.{map-range_with_len_more, get_or-map-range_with_len, length-map-range_with_len}
use Rattle.permutations.specs.Perm.{AreInverse, IsVertex, IsPerm, vertex_at, place_of}
use Rattle.ordering.specs.Fill.{renumbered}
use Rattle.elim_tree.specs.ParentTables.{parents_in, IsParentTable}
use Rattle.elim_tree.specs.Postorders.{below, IsPostorder, IsNumberedInPostorder}
use Rattle.elim_tree.specs.Trees.{parent_at, IsForest, IsAbove, self, step}
use Rattle.elim_tree.proofs.Columns.{vertex_with_parent, parent_within}
use Rattle.elim_tree.proofs.Postorderings.{above_within, between}
use Rattle.elim_tree.proofs.OnePostorder.{VerticesAreInverse, PlacesAreInverse, vertex_of, place_within, same_list}

-- one element more of a table
pub pushed : (f : ℕ → ℕ) (table more : List ℕ) (k x : ℕ) → more ≡ table ++ x ∷ []
    → x ≡ f k → table ≡ map f (range_with_len 0 k) → more ≡ map f (range_with_len 0 (k + 1))
pushed f table more k x e value before =
    e ∙ ap (λ (y : ℕ). table ++ y ∷ []) value ∙ ap (λ (xs : List ℕ). xs ++ f k ∷ []) before
    ∙ sym (map-range_with_len_more f 0 k k (omega arith))

-- what a table has at a column
pub table_at : (f : ℕ → ℕ) (table : List ℕ) (n k : ℕ) → table ≡ map f (range_with_len 0 (n + 1)) → k ≤ n → get_or table k 0 ≡ f k
table_at f table n k e le = ap (λ (xs : List ℕ). get_or xs k 0) e ∙ get_or-map-range_with_len f 0 (n + 1) k k 0 (omega arith) (omega arith)

pub table_long : (f : ℕ → ℕ) (table : List ℕ) (n : ℕ) → table ≡ map f (range_with_len 0 (n + 1)) → length table ≡ n + 1
table_long f table n e = ap length e ∙ length-map-range_with_len f 0 (n + 1)

-- without its place 0 it is a map along the order
pub table_along : (h : ℕ → ℕ) (order table : List ℕ) (n : ℕ) → length order ≡ n
    → table ≡ map (λ k. h (vertex_at order k)) (range_with_len 0 (n + 1)) → drop 1 table ≡ map h order
table_along h order table n len e =
    ap (drop 1) (e ∙ ap (λ m. map (λ k. h (vertex_at order k)) (range_with_len 0 m)) (add-one n))
    ∙ same_list (map (λ k. h (vertex_at order k)) (range_with_len 1 n)) (map h order) n
    (length-map-range_with_len (λ k. h (vertex_at order k)) 1 n) (length-map order h ∙ len) at_each
  where
    at_each : (k : ℕ) → IsVertex n k → vertex_at (map (λ k. h (vertex_at order k)) (range_with_len 1 n)) k ≡ vertex_at (map h order) k
    at_each zero vk = absurd (let some = vk.0 in omega arith)
    at_each (suc i) vk =
        let le = vk.1 in
        get_or-map-range_with_len (λ k. h (vertex_at order k)) 1 n i (suc i) 0 (omega arith) (omega arith)
        ∙ sym (get_or-map h order i 0 0 (omega arith))

-- no vertex stands beyond the last place
pub none_beyond : (order : List ℕ) (k : ℕ) → length order < k → vertex_at order k ≡ 0
none_beyond order zero lt = refl
none_beyond order (suc i) lt = get_or_past order i 0 (omega arith)

-- the vertex at a place along another order
pub vertex_along : (perm post : List ℕ) (k : ℕ) → vertex_at (map (vertex_at perm) post) k ≡ vertex_at perm (vertex_at post k)
vertex_along perm post zero = refl
vertex_along perm post (suc i) =
    elim (cases_lt i (length post)) [
      | inl lt ↦ get_or-map (vertex_at perm) post i 0 0 lt
      | inr le ↦
          get_or_past (map (vertex_at perm) post) i 0 (let len = length-map post (vertex_at perm) in omega arith)
          ∙ sym (ap (vertex_at perm) (get_or_past post i 0 le))
    ]

-- so a pattern along it is the pattern that was renumbered, renumbered again
pub renumbered_along : (joined : ℕ → ℕ → Bool) (perm post : List ℕ)
    → renumbered joined (map (vertex_at perm) post) ≡ renumbered (renumbered joined perm) post
renumbered_along joined perm post = λ i. λ a b. joined (vertex_along perm post a i) (vertex_along perm post b i)

module _ (vertices_back : VerticesAreInverse) (places_back : PlacesAreInverse) where
  -- ---- orders

  pub tables_along : (n : ℕ) (perm post vertices places : List ℕ) → IsPerm n perm → IsPerm n post
      → vertices ≡ map (λ k. vertex_at perm (vertex_at post k)) (range_with_len 0 (n + 1))
      → places ≡ map (λ v. place_of post (place_of perm v)) (range_with_len 0 (n + 1)) → AreInverse vertices places
  tables_along n perm post vertices places is_perm is_post e f =
      let long = table_long (λ k. vertex_at perm (vertex_at post k)) vertices n e in
      let long' = table_long (λ v. place_of post (place_of perm v)) places n f in
      record {
        some = omega arith;
        same_length = long' ∙ sym long;
        unused = table_at (λ k. vertex_at perm (vertex_at post k)) vertices n 0 e (omega arith);
        vertex = λ k lt.
            let le : k ≤ n = omega arith in
            let mid = vertex_le post is_post k le in
            let high = vertex_le perm is_perm (vertex_at post k) mid in
            let here = table_at (λ k. vertex_at perm (vertex_at post k)) vertices n k e le in (
              omega arith,
              ap (λ v. get_or places v 0) here
                  ∙ table_at (λ v. place_of post (place_of perm v)) places n (vertex_at perm (vertex_at post k)) f high
                  ∙ ap (place_of post) (places_back n perm is_perm (vertex_at post k) mid) ∙ places_back n post is_post k le,
            );
        place = λ v lt.
            let le : v ≤ n = omega arith in
            let mid = place_le perm is_perm v le in
            let high = place_le post is_post (place_of perm v) mid in
            let here = table_at (λ v. place_of post (place_of perm v)) places n v f le in (
              omega arith,
              ap (λ k. get_or vertices k 0) here
                  ∙ table_at (λ k. vertex_at perm (vertex_at post k)) vertices n (place_of post (place_of perm v)) e high
                  ∙ ap (vertex_at perm) (vertices_back n post is_post (place_of perm v) mid) ∙ vertices_back n perm is_perm v le,
            );
      }
    where
      vertex_le : (order : List ℕ) → IsPerm n order → (k : ℕ) → k ≤ n → vertex_at order k ≤ n
      vertex_le order is k le = elim (cases_eq k 0) [
        | inl e ↦ let z = ap (vertex_at order) e in omega arith
        | inr ne ↦ (vertex_of n order is k (omega arith, le)).1
      ]

      place_le : (order : List ℕ) → IsPerm n order → (v : ℕ) → v ≤ n → place_of order v ≤ n
      place_le order is v le =
          elim (cases_eq v 0) [
            | inl e ↦ let z = ap (place_of order) e ∙ places_back n order is 0 (omega arith) in omega arith
            | inr ne ↦ (place_within vertices_back places_back n order is v (omega arith, le)).1
          ]

  -- ---- parents

  module _ (parents post : List ℕ) (forest : IsForest parents) (order : IsPostorder parents post) where
    old_of : (v : ℕ) → v ≤ length parents → vertex_at post (place_of post v) ≡ v
    old_of v le = vertices_back (length parents) post order.perm v le

    new_of : (k : ℕ) → k ≤ length parents → place_of post (vertex_at post k) ≡ k
    new_of k le = places_back (length parents) post order.perm k le

    none : place_of post 0 ≡ 0
    none = new_of 0 (omega arith)

    -- a list of the parents by the new numbers is a forest, numbered in postorder
    module _ (tree : List ℕ) (long : length tree ≡ length parents)
        (at_each : (k : ℕ) → k ≤ length parents → parent_at tree k ≡ place_of post (parent_at parents (vertex_at post k))) where
      column : (k : ℕ) → 0 < parent_at tree k → IsVertex (length parents) k
      column k some = subst (λ n. IsVertex n k) long (vertex_with_parent tree k some)

      old_parent : (k : ℕ) → 0 < parent_at tree k → 0 < parent_at parents (vertex_at post k)
      old_parent k some =
          elim (cases_eq (parent_at parents (vertex_at post k)) 0) [
            | inl e ↦ let z = at_each k (column k some).1 ∙ ap (place_of post) e ∙ none in absurd (omega arith)
            | inr ne ↦ omega arith
          ]

      pub tree_rises : (k : ℕ) → 0 < parent_at tree k → (k < parent_at tree k) × (parent_at tree k ≤ length tree)
      tree_rises k some =
          let vk = column k some in
          let v = vertex_of (length parents) post order.perm k vk in
          let up = forest.rising (vertex_at post k) (old_parent k some) in
          let vp : IsVertex (length parents) (parent_at parents (vertex_at post k)) = (let pos = old_parent k some in omega arith, up.1) in
          let less = order.before (vertex_at post k) (parent_at parents (vertex_at post k)) v vp
          (below (step (old_parent k some) self) (λ e. absurd (let rise = up.0 in omega arith))) in
          let here = at_each k vk.1 in
          let back = new_of k vk.1 in
          let within =
          (place_within vertices_back places_back (length parents) post order.perm (parent_at parents (vertex_at post k)) vp).1 in
          (omega arith, omega arith)

      pub tree_forest : IsForest tree
      tree_forest = record {
        some = let some = forest.some in omega arith;
        few = let few = forest.few in omega arith;
        rising = tree_rises;
      }

      -- by the old numbers, whoever is above is above
      above_old : {a x : ℕ} → IsAbove tree a x → IsAbove parents (vertex_at post a) (vertex_at post x)
      above_old self = self
      above_old {a} {x} (step some q) =
          let vk = column a some in
          let within = parent_within parents forest (vertex_at post a) in
          let e : vertex_at post (parent_at tree a) ≡ parent_at parents (vertex_at post a) =
          ap (vertex_at post) (at_each a vk.1) ∙ old_of (parent_at parents (vertex_at post a)) within in
          step (old_parent a some) (subst (λ v. IsAbove parents v (vertex_at post x)) e (above_old q))

      -- and back
      above_new : {c y : ℕ} → IsAbove parents c y → c ≤ length parents → IsAbove tree (place_of post c) (place_of post y)
      above_new self le = self
      above_new {c} {y} (step some q) le =
          let within = parent_within parents forest c in
          let vc : IsVertex (length parents) c = vertex_with_parent parents c some in
          let place = (place_within vertices_back places_back (length parents) post order.perm c vc).1 in
          let e : parent_at tree (place_of post c) ≡ place_of post (parent_at parents c) =
          at_each (place_of post c) place ∙ ap (λ v. place_of post (parent_at parents v)) (old_of c le) in
          let vp : IsVertex (length parents) (parent_at parents c) = (omega arith, within) in
          let pos = (place_within vertices_back places_back (length parents) post order.perm (parent_at parents c) vp).0 in
          step (omega arith) (subst (λ v. IsAbove tree v (place_of post y)) (sym e) (above_new q within))

      pub tree_in_postorder : IsNumberedInPostorder tree
      tree_in_postorder a b x self ab bx = subst (λ v. IsAbove tree b v) (let e : b ≡ a = omega arith in e) self
      tree_in_postorder a b x (step some q) ab bx =
          let va = column a some in
          let up = above_old (step some q) in
          let x_within = (above_within tree tree_forest (step some q) (subst (λ n. a ≤ n) (sym long) va.1)).1 in
          let low = va.0 in
          let vb : IsVertex (length parents) b = (omega arith, omega arith) in
          let na = new_of a va.1 in
          let nb = new_of b vb.1 in
          let nx = new_of x (omega arith) in
          let there = between parents forest (place_of post) order.before (vertex_at post a) (vertex_at post b) (vertex_at post x)
          (vertex_of (length parents) post order.perm a va)
          (vertex_of (length parents) post order.perm b vb) up (omega arith) (omega arith) in
          let new = above_new there (vertex_of (length parents) post order.perm b vb).1 in
          subst (λ v. IsAbove tree v x) nb (subst (λ v. IsAbove tree (place_of post (vertex_at post b)) v) nx new)

    -- the table of the carried parents
    module _ (table : List ℕ)
        (e : table ≡ map (λ k. place_of post (parent_at parents (vertex_at post k))) (range_with_len 0 (length post + 1))) where
      pub list_is : parents_in table ≡ map (λ j. place_of post (parent_at parents j)) post
      list_is = table_along (λ j. place_of post (parent_at parents j)) post table (length post) refl e

      long_list : length (parents_in table) ≡ length parents
      long_list = ap length list_is ∙ length-map post (λ j. place_of post (parent_at parents j)) ∙ order.perm.len

      list_at : (k : ℕ) → k ≤ length parents → parent_at (parents_in table) k ≡ place_of post (parent_at parents (vertex_at post k))
      list_at zero le = sym none
      list_at (suc i) le =
          let len = order.perm.len in
          ap (λ (xs : List ℕ). get_or xs i 0) list_is ∙ get_or-map (λ j. place_of post (parent_at parents j)) post i 0 0 (omega arith)

      pub is_parent_table : IsParentTable table
      is_parent_table = record {
        some = let long = table_long (λ k. place_of post (parent_at parents (vertex_at post k))) table (length post) e in omega arith;
        unused = table_at (λ k. place_of post (parent_at parents (vertex_at post k))) table (length post) 0 e (omega arith) ∙ none;
        forest = tree_forest (parents_in table) long_list list_at;
      }

      pub table_in_postorder : IsNumberedInPostorder (parents_in table)
      table_in_postorder = tree_in_postorder (parents_in table) long_list list_at
