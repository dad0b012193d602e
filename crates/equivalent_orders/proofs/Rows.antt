-- Rows of the vertices of fronts, one column more at a time.
use Rattle.std.proofs.Common.{sym, ◌∙◌, ap, ◌≡◌, ◌≢◌, inl, inr, ℕ, zero, suc, ◌+◌, ◌-◌, ◌<◌, ◌≤◌, ◌==◌, true, false, cond}
use Rattle.std.proofs.Common.{List, [], ◌∷◌, ◌++◌, length, get_or, map, filter, eq-eqb, arith, refl}
use Rattle.std.specs.List.{range_with_len, count_by}
use Rattle.std.proofs.lemmas.Bool.{cases_eq, ne_eqb}
use Rattle.std.proofs.lemmas.List.{append-nil, get_or-map, get_or_default, length-map, map-append, same_lists}
use Rattle.std.proofs.lemmas.List.Elements.{filter-append}
use Rattle.std.proofs.lemmas.List.FromFn.{length-map-range_with_len, get_or-map-range_with_len}
use Rattle.std.proofs.lemmas.List.Sums.{length-filter}
use Rattle.lists.proofs.Lists.{sum_by-map}
use Rattle.row_table.specs.Rows.{row_at}
use Rattle.permutations.specs.Perm.{IsVertex, vertex_at}
use Rattle.assembly_tree.specs.Assembly.{AssemblyTree, IsAssembly, no_super, super_at, super_of, columns_in}
use Rattle.assembly_tree.proofs.ListLemmas.{range_more, count_next}
use Rattle.equivalent_orders.proofs.Followed.{picked}

-- the vertices that a front has among the first n columns
abbrev pub vertices_among : List ℕ → List ℕ → ℕ → ℕ → List ℕ
vertices_among perm nodes n s = map (vertex_at perm) (filter (λ j. super_of nodes j == s) (range_with_len 1 n))

module _ (perm nodes : List ℕ) where
  among_more : (n s : ℕ) → vertices_among perm nodes (n + 1) s
      ≡ vertices_among perm nodes n s ++ map (vertex_at perm) (cond (super_of nodes (n + 1) == s) ((n + 1) ∷ []) [])
  among_more n s =
      ap (λ (xs : List ℕ). map (vertex_at perm) (filter (λ j. super_of nodes j == s) xs)) (range_more n)
      ∙ ap (map (vertex_at perm)) (filter-append (λ j. super_of nodes j == s) (range_with_len 1 n) ((n + 1) ∷ []))
      ∙ map-append (vertex_at perm) (filter (λ j. super_of nodes j == s) (range_with_len 1 n))
      (cond (super_of nodes (n + 1) == s) ((n + 1) ∷ []) [])

  -- the next column goes to the row of its front
  pub next_rows : (column : ℕ) → 1 ≤ column → (old new : List (List ℕ))
      → ((s : ℕ) → row_at old s ≡ vertices_among perm nodes (column - 1) s)
      → (row vertex : ℕ) → row ≡ super_of nodes column → vertex ≡ vertex_at perm column
      → row_at new row ≡ row_at old row ++ vertex ∷ [] → ((k : ℕ) → k ≢ row → row_at new k ≡ row_at old k)
      → (s : ℕ) → row_at new s ≡ vertices_among perm nodes (column + 1 - 1) s
  next_rows column some old new before row vertex row_is vertex_is pushed others s =
      let last : column - 1 + 1 ≡ column = omega arith in
      let next : column - 1 + 1 ≡ column + 1 - 1 = omega arith in
      elim (cases_eq s row) [
        | inl e ↦ (
            let here : (super_of nodes (column - 1 + 1) == s) ≡ true =
            eq-eqb (super_of nodes (column - 1 + 1)) s (ap (super_of nodes) last ∙ sym row_is ∙ sym e) in
            ap (row_at new) e ∙ pushed
            ∙ ap (λ (xs : List ℕ). xs ++ vertex ∷ []) (ap (row_at old) (sym e) ∙ before s)
            ∙ ap (λ (v : ℕ). vertices_among perm nodes (column - 1) s ++ v ∷ []) (vertex_is ∙ ap (vertex_at perm) (sym last))
            ∙ ap (λ b. vertices_among perm nodes (column - 1) s ++ map (vertex_at perm) (cond b ((column - 1 + 1) ∷ []) [])) (sym here)
            )
        | inr ne ↦ (
            let other : (super_of nodes (column - 1 + 1) == s) ≡ false =
            ne_eqb (super_of nodes (column - 1 + 1)) s (λ e. ne (sym e ∙ ap (super_of nodes) last ∙ sym row_is)) in
            others s ne ∙ before s ∙ sym (append-nil (vertices_among perm nodes (column - 1) s))
            ∙ ap (λ b. vertices_among perm nodes (column - 1) s ++ map (vertex_at perm) (cond b ((column - 1 + 1) ∷ []) [])) (sym other)
            )
      ]
      ∙ sym (among_more (column - 1) s) ∙ ap (λ (n : ℕ). vertices_among perm nodes n s) next

-- ---- rooms

-- the fronts of the columns, by column
nodes_listed : (nodes : List ℕ) → nodes ≡ map (super_of nodes) (range_with_len 1 (length nodes))
nodes_listed nodes =
    same_lists nodes (map (super_of nodes) (range_with_len 1 (length nodes)))
    (sym (length-map-range_with_len (super_of nodes) 1 (length nodes))) (λ k d lt.
    get_or_default nodes k d 0 lt
    ∙ sym (get_or-map-range_with_len (super_of nodes) 1 (length nodes) k (suc k) d lt (omega arith)))

room_at : (a : AssemblyTree) (s : ℕ) → 1 ≤ s → s ≤ length a.supers
    → get_or (0 ∷ map columns_in a.supers) s 0 ≡ (super_at a.supers s).columns
room_at a zero low high = absurd (omega arith)
room_at a (suc i) low high =
    let back : i ≡ suc i - 1 = omega arith in
    get_or-map columns_in a.supers i no_super 0 (omega arith) ∙ ap (λ (k : ℕ). (get_or a.supers k no_super).columns) back

-- a column that is still to come finds room in the row of its front
pub room_left : (perm : List ℕ) (a : AssemblyTree) → IsAssembly a → (column : ℕ) → IsVertex (length a.nodes) column
    → length (vertices_among perm a.nodes (column - 1) (super_of a.nodes column))
    < get_or (0 ∷ map columns_in a.supers) (super_of a.nodes column) 0
room_left perm a is column vertex =
    let n = length a.nodes in
    let low = vertex.0 in
    let s = super_of a.nodes column in
    let is_super = is.nodes column vertex in
    let p = λ (j : ℕ). super_of a.nodes j == s in
    let passes : p column ≡ true = eq-eqb s s refl in
    let last : column - 1 + 1 ≡ column = omega arith in
    let among = picked p n column vertex.0 vertex.1 passes in
    let one : ◌≡◌ {A = ℕ} (cond (p (column - 1 + 1)) 1 0) 1 = ap (λ b. cond b 1 0) (ap p last ∙ passes) in
    let before = count_next p (column - 1) in
    let up_to = ap (λ (m : ℕ). count_by p (range_with_len 1 m)) last in
    let long = length-map (filter p (range_with_len 1 (column - 1))) (vertex_at perm) ∙ length-filter p (range_with_len 1 (column - 1)) in
    let whole = length-filter p (range_with_len 1 n) in
    let held : count_by p (range_with_len 1 n) ≡ (super_at a.supers s).columns =
    sym (ap (count_by (λ (t : ℕ). t == s)) (nodes_listed a.nodes)
    ∙ sum_by-map (λ (t : ℕ). cond (t == s) 1 0) (super_of a.nodes) (range_with_len 1 n))
    ∙ is.held s is_super in
    let room = room_at a s is_super.0 is_super.1 in
    omega (arith, among.1)
