-- A new order of the columns in which each comes before its parent: structures and parents are carried over.
use Rattle.std.proofs.Common.{sym, ◌∙◌, subst, ap, ◌+◌, ◌≡◌, ◌≢◌, inl, inr, ℕ, zero, suc, ◌<◌}
use Rattle.std.proofs.Common.{◌≤◌, Bool, false, IsTrue, List, length, map, arith, refl}
use Rattle.std.proofs.lemmas.Bool.{cases_eq, cases_order, cases_Bool}
use Rattle.std.specs.List.{fold, range_with_len}
use Rattle.std.proofs.lemmas.List.{get_or-map, length-map, ext_get_or}
use Rattle.std.proofs.lemmas.List.Folds.{fold-map}
use Rattle.std.proofs.lemmas.List.FromFn.{get_or-map-range_with_len, length-map-range_with_len}
use Rattle.permutations.specs.Perm.{IsVertex, IsPerm, vertex_at, place_of}
use Rattle.ordering.specs.Fill.{structure_of, parent_of, count_of, parents_of, counts_of, renumbered, IsAdjacency}
use Rattle.elim_tree.specs.Paths.{Path, edge, via, IsWithin}
use Rattle.elim_tree.specs.Postorders.{below, IsPostorder}
use Rattle.elim_tree.specs.Reaches.{Reaches, IsFirstReached}
use Rattle.elim_tree.specs.Trees.{parent_at, IsAbove, self, step}
use Rattle.elim_tree.proofs.Fills.{from_pattern}
use Rattle.elim_tree.proofs.Paths.{reaches_by_path}
use Rattle.elim_tree.proofs.Children.{reaches_later, first_reaches}
use Rattle.elim_tree.proofs.Columns.{in_structure, own_row, reached_or_own, column_within, row_within, parent_in_list, vertex_with_parent}
use Rattle.elim_tree.proofs.RowSubtrees.{ParentsAreFirst, above_le, first_in_list, parent_is_first, parents_rise}
use Rattle.elim_tree.proofs.Growth.{pattern_renumbered, within_renumbered}
use Rattle.elim_tree.proofs.Postorderings.{above_trans}
use Rattle.elim_tree.proofs.PermCounts.{bit, count_along}
use Rattle.elim_tree.proofs.OnePostorder.{VerticesAreInverse, PlacesAreInverse, vertex_of, place_within, same_list}

module _ (parents_are_first : ParentsAreFirst) (joined : ℕ → ℕ → Bool)
    (pattern : IsAdjacency joined) (n : ℕ) (inside : IsWithin n joined) where
  rises : (x : ℕ) → 0 < parent_at (parents_of joined n) x → x < parent_at (parents_of joined n) x
  rises = parents_rise parents_are_first joined pattern n inside

  -- what a column reaches stands above it in the tree
  reaches_in : (m j i : ℕ) → i < j + m → Reaches joined j i → IsAbove (parents_of joined n) j i
  reaches_in zero j i lt h = let x = reaches_later joined pattern j i h in absurd (omega arith)
  reaches_in (suc m) j i lt h =
      let first = first_in_list parents_are_first joined pattern n inside j (column_within joined pattern n inside j i h) in
      let some = (first.least i h).0 in
      let up = rises j some in
      elim (cases_eq i (parent_at (parents_of joined n) j)) [
        | inl e ↦ step some (subst (λ v. IsAbove (parents_of joined n) (parent_at (parents_of joined n) j) v) (sym e) self)
        | inr ne ↦ step some
            (reaches_in m (parent_at (parents_of joined n) j) i (omega arith)
            (first_reaches joined pattern j (parent_at (parents_of joined n) j) i first h ne))
      ]

  reaches_above : (j i : ℕ) → Reaches joined j i → IsAbove (parents_of joined n) j i
  reaches_above j i h = reaches_in (suc i) j i (omega arith) h

  -- the columns above one column stand above each other
  above_between : {c a j : ℕ} → IsAbove (parents_of joined n) c a
      → IsAbove (parents_of joined n) c j → a ≤ j → IsAbove (parents_of joined n) a j
  above_between self q le = q
  above_between {c} {a} (step some r) self le =
      let up = rises c some in
      let rest = above_le rises r in
      absurd (omega arith)
  above_between (step some r) (step some' q) le = above_between r q le

  -- a neighbour of something below j, itself less than j, is below j
  neighbour_below : (a c j : ℕ) → IsTrue (joined a c) → IsAbove (parents_of joined n) c j → a < j → IsAbove (parents_of joined n) a j
  neighbour_below a c j h q lt =
      elim (cases_order a c) [
        | inl e ↦ absurd (pattern.irreflexive a (subst (λ v. IsTrue (joined a v)) (sym e) h))
        | inr o ↦ elim o [
          | inl l ↦ above_trans (reaches_above a c (from_pattern joined pattern a c h l)) q
          | inr l ↦ above_between (reaches_above c a (from_pattern joined pattern c a (pattern.symmetric a c h) l)) q (omega arith)
        ]
      ]

  module _ (vertices_back : VerticesAreInverse) (places_back : PlacesAreInverse) (post : List ℕ) (perm : IsPerm n post)
      (keeps : (j : ℕ) → 0 < parent_at (parents_of joined n) j → place_of post j < place_of post (parent_at (parents_of joined n) j)) where
    -- going up the tree, new numbers rise
    rises_up : {a b : ℕ} → IsAbove (parents_of joined n) a b → a ≢ b → place_of post a < place_of post b
    rises_up self ne = absurd (ne refl)
    rises_up {a} {b} (step some q) ne =
        let x = keeps a some in
        elim (cases_eq (parent_at (parents_of joined n) a) b) [
          | inl e ↦ subst (λ v. place_of post a < place_of post v) e x
          | inr np ↦ let y = rises_up q np in omega arith
        ]

    reaches_rises : (j i : ℕ) → Reaches joined j i → place_of post j < place_of post i
    reaches_rises j i h = let lt = reaches_later joined pattern j i h in rises_up (reaches_above j i h) (omega arith)

    renumbered_pattern : IsAdjacency (renumbered joined post)
    renumbered_pattern = pattern_renumbered joined post pattern

    renumbered_within : IsWithin n (renumbered joined post)
    renumbered_within = within_renumbered n n joined post inside perm.len

    back_to : (v : ℕ) → IsVertex n v → vertex_at post (place_of post v) ≡ v
    back_to v vertex = vertices_back n post perm v vertex.1

    there : (a b : ℕ) → IsTrue (joined a b) → IsTrue (renumbered joined post (place_of post a) (place_of post b))
    there a b h =
        subst (λ x. IsTrue (joined x (vertex_at post (place_of post b)))) (sym (back_to a (inside a b h)))
        (subst (λ x. IsTrue (joined a x)) (sym (back_to b (inside b a (pattern.symmetric a b h)))) h)

    -- a path to j through columns less than it, by the new numbers; where it starts before j, it starts below j in the tree
    forth : (j : ℕ) → {a b : ℕ} → Path joined j a b → b ≡ j
        → Path (renumbered joined post) (place_of post j) (place_of post a) (place_of post j) × (a < j → IsAbove (parents_of joined n) a j)
    forth j {a} {b} (edge h) e =
        let h' : IsTrue (joined a j) = subst (λ v. IsTrue (joined a v)) e h in
        (edge (there a j h'), λ lt. reaches_above a j (from_pattern joined pattern a j h' lt))
    forth j {a} {b} (via {c = c} h lt p) e =
        let r = forth j p e in
        let up = r.1 lt in
        (via (there a c h) (rises_up up (omega arith)) r.0, λ la. neighbour_below a c j h up la)

    -- the way back
    back : (j : ℕ) → IsVertex n j → {a b : ℕ} → Path (renumbered joined post) (place_of post j) a b → b ≡ place_of post j
        → Path joined j (vertex_at post a) j
        × (a < place_of post j → IsAbove (parents_of joined n) (vertex_at post a) j × (vertex_at post a < j))
    back j vj {a} {b} (edge h) e =
        let old = vertex_at post a in
        let h' : IsTrue (joined old j) = subst (λ v. IsTrue (joined old v)) (ap (vertex_at post) e ∙ back_to j vj) h in
        let na = places_back n post perm a (renumbered_within a b h).1 in (
          edge h',
          λ lt. elim (cases_order (vertex_at post a) j) [
            | inl q ↦ absurd (pattern.irreflexive j (subst (λ v. IsTrue (joined v j)) q h'))
            | inr o ↦ elim o [
              | inl l ↦ (reaches_above old j (from_pattern joined pattern old j h' l), l)
              | inr l ↦ let r = reaches_rises j old (from_pattern joined pattern j old (pattern.symmetric old j h') l) in
                  absurd (omega arith)
            ]
          ],
        )
    back j vj {a} {b} (via {c = c} h lc p) e =
        let old = vertex_at post a in
        let mid = vertex_at post c in
        let r = back j vj p e in
        let f = r.1 lc in
        let na = places_back n post perm a (renumbered_within a c h).1 in (
          via h f.1 r.0,
          λ lt.
              let small : vertex_at post a < j = elim (cases_order (vertex_at post a) j) [
                | inl q ↦ let z = sym na ∙ ap (place_of post) q in absurd (omega arith)
                | inr o ↦ elim o [
                  | inl l ↦ l
                  | inr l ↦
                      let less = f.1 in
                      let x = from_pattern joined pattern mid old (pattern.symmetric old mid h) (omega arith) in
                      let y = rises_up (above_between f.0 (reaches_above mid old x) (omega arith)) (omega arith) in
                      absurd (omega arith)
                ]
              ] in
              (neighbour_below old mid j h f.0 small, small),
        )

    reaches_forth : (j i : ℕ) → Reaches joined j i → Reaches (renumbered joined post) (place_of post j) (place_of post i)
    reaches_forth j i h =
        let lt = reaches_later joined pattern j i h in
        let p = (reaches_by_path joined pattern j i lt).0 h in
        (reaches_by_path (renumbered joined post) renumbered_pattern (place_of post j) (place_of post i) (reaches_rises j i h)).1
        (forth j p refl).0

    reaches_back : (j i : ℕ) → IsVertex n j → IsVertex n i
        → Reaches (renumbered joined post) (place_of post j) (place_of post i) → Reaches joined j i
    reaches_back j i vj vi h =
        let lt = reaches_later (renumbered joined post) renumbered_pattern (place_of post j) (place_of post i) h in
        let p = (reaches_by_path (renumbered joined post) renumbered_pattern (place_of post j) (place_of post i) lt).0 h in
        let q' : Path joined j i j = subst (λ v. Path joined j v j) (back_to i vi) (back j vj p refl).0 in
        elim (cases_order i j) [
          | inl e ↦ let z = ap (place_of post) e in absurd (omega arith)
          | inr o ↦ elim o [
            | inl l ↦ let z = rises_up ((forth j q' refl).1 l) (omega arith) in absurd (omega arith)
            | inr l ↦ (reaches_by_path joined pattern j i l).1 q'
          ]
        ]

    -- ---- structures

    structure_forth : (j i : ℕ) → IsTrue (structure_of joined j i)
        → IsTrue (structure_of (renumbered joined post) (place_of post j) (place_of post i))
    structure_forth j i h =
        elim (cases_eq i j) [
          | inl e ↦ own_row (renumbered joined post) (place_of post j) (place_of post i) (ap (place_of post) e)
          | inr ne ↦ in_structure (renumbered joined post) (place_of post j)
              (place_of post i) (reaches_forth j i (reached_or_own joined j i h ne))
        ]

    structure_back : (j i : ℕ) → IsVertex n j → IsVertex n i
        → IsTrue (structure_of (renumbered joined post) (place_of post j) (place_of post i)) → IsTrue (structure_of joined j i)
    structure_back j i vj vi h =
        elim (cases_eq i j) [
          | inl e ↦ own_row joined j i e
          | inr ne ↦ in_structure joined j i (reaches_back j i vj vi
              (reached_or_own (renumbered joined post) (place_of post j) (place_of post i) h
              (λ e. ne (sym (back_to i vi) ∙ ap (vertex_at post) e ∙ back_to j vj))))
        ]

    pub structures_same : (j i : ℕ) → IsVertex n j → IsVertex n i
        → structure_of joined j i ≡ structure_of (renumbered joined post) (place_of post j) (place_of post i)
    structures_same j i vj vi = same_tests _ _ (structure_forth j i) (structure_back j i vj vi)
      where
        same_tests : (s t : Bool) → (IsTrue s → IsTrue t) → (IsTrue t → IsTrue s) → s ≡ t
        same_tests s t to from =
            elim (cases_Bool s) [
              | inl e ↦ e ∙ sym (to e)
              | inr e ↦ elim (cases_Bool t) [ inl f ↦ from f ∙ sym f | inr f ↦ e ∙ sym f ]
            ]

    -- ---- parents

    first_carried : (j p : ℕ) → IsVertex n j → IsFirstReached joined j p
        → IsFirstReached (renumbered joined post) (place_of post j) (place_of post p)
    first_carried j p vj first = record {
      reached = λ some. reaches_forth j p (first.reached (elim (cases_eq p 0) [
        | inl e ↦ let z = ap (place_of post) e ∙ places_back n post perm 0 (omega arith) in absurd (omega arith)
        | inr ne ↦ omega arith
      ]));
      least = λ m h.
          let le = row_within (renumbered joined post) renumbered_pattern n renumbered_within (place_of post j) m h in
          let later = reaches_later (renumbered joined post) renumbered_pattern (place_of post j) m h in
          let vm : IsVertex n m = (omega arith, le) in
          let again = places_back n post perm m le in
          let h' = reaches_back j (vertex_at post m) vj (vertex_of n post perm m vm)
          (subst (λ v. Reaches (renumbered joined post) (place_of post j) v) (sym again) h) in
          let f = first.least (vertex_at post m) h' in
          let vp : IsVertex n p = (let some = f.0 in omega arith, row_within joined pattern n inside j p (first.reached f.0)) in
          let place = place_within vertices_back places_back n post perm p vp in (
            let some = place.0 in omega arith,
            elim (cases_eq (vertex_at post m) p) [
              | inl e ↦ let z = sym again ∙ ap (place_of post) e in omega arith
              | inr ne ↦ let z = reaches_rises p (vertex_at post m) (first_reaches joined pattern j p (vertex_at post m) first h' ne) in
                  omega arith
            ],
          );
    }

    parent_carried : (j : ℕ) → IsVertex n j
        → parent_of (renumbered joined post) n (place_of post j) ≡ place_of post (parent_at (parents_of joined n) j)
    parent_carried j vj =
        parent_is_first parents_are_first (renumbered joined post) renumbered_pattern n renumbered_within
        (place_of post j) (place_of post (parent_at (parents_of joined n) j))
        (first_carried j (parent_at (parents_of joined n) j) vj (first_in_list parents_are_first joined pattern n inside j vj))

    -- ---- counts

    count_carried : (k : ℕ) → IsVertex n k → count_of (renumbered joined post) n k ≡ count_of joined n (vertex_at post k)
    count_carried k vk =
        sym (fold-map (λ a b. a + bit b) (structure_of (renumbered joined post) k) 0 (range_with_len 1 n))
        ∙ ap (fold (λ a b. a + bit b) 0) same
        ∙ fold-map (λ a b. a + bit b) (structure_of joined (vertex_at post k)) 0 post
        ∙ count_along (structure_of joined (vertex_at post k)) n post perm
      where
        long : length (map (structure_of (renumbered joined post) k) (range_with_len 1 n)) ≡ n
        long = length-map-range_with_len (structure_of (renumbered joined post) k) 1 n

        same : map (structure_of (renumbered joined post) k) (range_with_len 1 n) ≡ map (structure_of joined (vertex_at post k)) post
        same = ext_get_or false (map (structure_of (renumbered joined post) k) (range_with_len 1 n))
            (map (structure_of joined (vertex_at post k)) post)
            (long ∙ sym (length-map post (structure_of joined (vertex_at post k)) ∙ perm.len))
            (λ i lt.
            let len = perm.len in
            let vi : IsVertex n (suc i) = (omega arith, omega (arith, long)) in
            get_or-map-range_with_len (structure_of (renumbered joined post) k) 1 n i (suc i) false (omega (arith, long)) (omega arith)
            ∙ sym (structures_same (vertex_at post k) (vertex_at post (suc i))
            (vertex_of n post perm k vk) (vertex_of n post perm (suc i) vi)
            ∙ ap (λ v. structure_of (renumbered joined post) v (place_of post (vertex_at post (suc i)))) (places_back n post perm k vk.1)
            ∙ ap (structure_of (renumbered joined post) k) (places_back n post perm (suc i) vi.1))
            ∙ sym (get_or-map (structure_of joined (vertex_at post k)) post i 0 false (omega (arith, long))))

    pub counts_carried : counts_of (renumbered joined post) n ≡ map (count_of joined n) post
    counts_carried =
        same_list (counts_of (renumbered joined post) n) (map (count_of joined n) post) n
        (length-map-range_with_len (count_of (renumbered joined post) n) 1 n) (length-map post (count_of joined n) ∙ perm.len) at_each
      where
        at_each : (k : ℕ) → IsVertex n k → vertex_at (counts_of (renumbered joined post) n) k ≡ vertex_at (map (count_of joined n) post) k
        at_each zero vk = absurd (let some = vk.0 in omega arith)
        at_each (suc i) vk =
            let le = vk.1 in
            let len = perm.len in
            get_or-map-range_with_len (count_of (renumbered joined post) n) 1 n i (suc i) 0 (omega arith) (omega arith)
            ∙ count_carried (suc i) vk
            ∙ sym (get_or-map (count_of joined n) post i 0 0 (omega arith))

    pub parents_carried : parents_of (renumbered joined post) n ≡ map (λ j. place_of post (parent_at (parents_of joined n) j)) post
    parents_carried =
        same_list (parents_of (renumbered joined post) n) (map (λ j. place_of post (parent_at (parents_of joined n) j)) post) n
        (length-map-range_with_len (parent_of (renumbered joined post) n) 1 n)
        (length-map post (λ j. place_of post (parent_at (parents_of joined n) j)) ∙ perm.len) at_each
      where
        at_each : (k : ℕ) → IsVertex n k
            → vertex_at (parents_of (renumbered joined post) n) k
            ≡ vertex_at (map (λ j. place_of post (parent_at (parents_of joined n) j)) post) k
        at_each zero vk = absurd (let some = vk.0 in omega arith)
        at_each (suc i) vk =
            let le = vk.1 in
            let len = perm.len in
            let carried = parent_carried (vertex_at post (suc i)) (vertex_of n post perm (suc i) vk) in
            parent_in_list (renumbered joined post) n (suc i) vk
            ∙ ap (parent_of (renumbered joined post) n) (sym (places_back n post perm (suc i) vk.1)) ∙ carried
            ∙ sym (get_or-map (λ j. place_of post (parent_at (parents_of joined n) j)) post i 0 0 (omega arith))

module _ (parents_are_first : ParentsAreFirst) (vertices_back : VerticesAreInverse) (places_back : PlacesAreInverse)
    (joined : ℕ → ℕ → Bool) (n : ℕ) (post : List ℕ) (pattern : IsAdjacency joined)
    (inside : IsWithin n joined) (order : IsPostorder (parents_of joined n) post) where
  all_parents : length (parents_of joined n) ≡ n
  all_parents = length-map-range_with_len (parent_of joined n) 1 n

  perm_of_all : IsPerm n post
  perm_of_all = subst (λ m. IsPerm m post) all_parents order.perm

  -- in postorder each column comes before its parent
  keeps_order : (j : ℕ) → 0 < parent_at (parents_of joined n) j → place_of post j < place_of post (parent_at (parents_of joined n) j)
  keeps_order j some =
      let up = parents_rise parents_are_first joined pattern n inside j some in
      let vj = vertex_with_parent (parents_of joined n) j some in
      let first = first_in_list parents_are_first joined pattern n inside j (subst (λ m. IsVertex m j) all_parents vj) in
      let reached = first.reached some in
      let vp : IsVertex n (parent_at (parents_of joined n) j) =
      (omega arith, row_within joined pattern n inside j (parent_at (parents_of joined n) j) reached) in
      order.before j (parent_at (parents_of joined n) j) vj
      (subst (λ m. IsVertex m (parent_at (parents_of joined n) j)) (sym all_parents) vp)
      (below (step some self) (λ e. absurd (omega arith)))

  pub structure_by_postorder : (j i : ℕ) → IsVertex n j → IsVertex n i
      → structure_of joined j i ≡ structure_of (renumbered joined post) (place_of post j) (place_of post i)
  structure_by_postorder = structures_same parents_are_first joined pattern n inside vertices_back places_back post perm_of_all keeps_order

  pub parents_by_postorder : parents_of (renumbered joined post) n ≡ map (λ j. place_of post (parent_at (parents_of joined n) j)) post
  parents_by_postorder = parents_carried parents_are_first joined pattern n inside vertices_back places_back post perm_of_all keeps_order

  pub counts_by_postorder : counts_of (renumbered joined post) n ≡ map (count_of joined n) post
  counts_by_postorder = counts_carried parents_are_first joined pattern n inside vertices_back places_back post perm_of_all keeps_order
