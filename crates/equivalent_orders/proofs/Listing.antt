-- The columns of fronts, one front after another: each vertex once. And lists that are written one after another.
use Rattle.std.proofs.Common.{sym, ◌∙◌, subst, ap, ◌≡◌, inl, inr, ℕ, suc, ◌+◌, ◌<◌, ◌≤◌, ◌==◌, Bool, cond, List, filter}
use Rattle.std.proofs.Common.{[], ◌∷◌, ◌++◌, length, get_or, map, drop, arith, refl}
use Rattle.std.specs.List.{range_with_len}
use Rattle.std.proofs.Math.Seq.{get_or-append_seam, drop-cons}
use Rattle.std.proofs.lemmas.Bool.{cases_eq}
use Rattle.std.proofs.lemmas.List.{map-append, append_assoc, length-append, get_or_append_left}
use Rattle.std.proofs.lemmas.List.FromFn.{get_or-map-range_with_len, length-map-range_with_len}
use Rattle.std.proofs.lemmas.List.Sums.{sum_by-append}
use Rattle.row_table.specs.Rows.{numbers_with}
use Rattle.permutations.specs.Perm.{IsVertex, IsPart, IsPerm, times, vertex_at, place_of}
use Rattle.permutations.proofs.PlaceLemmas.{times-here, times-none, place-vertex, place-le}
use Rattle.permutations.proofs.PermLemmas.{vertex_of_place, place_of_vertex}
use Rattle.elim_tree.proofs.OnePostorder.{vertex_of, place_within}
use Rattle.assembly_tree.specs.Assembly.{AssemblyTree, IsAssembly, super_of}
use Rattle.equivalent_orders.specs.Fronts.{columns_in_front, vertices_in_front, vertices_along}
use Rattle.equivalent_orders.proofs.Blocks.{members, blocks, blocks_perm}
use Rattle.equivalent_orders.proofs.Mapped.{perm_mapped}

pub by_columns : (perm : List ℕ) (assembly : AssemblyTree) (fronts : List ℕ)
    → vertices_along perm assembly fronts ≡ map (vertex_at perm) (blocks (length assembly.nodes) (λ j. super_of assembly.nodes j) fronts)
by_columns perm assembly [] = refl
by_columns perm assembly (s ∷ fronts) =
    ap (λ (xs : List ℕ). vertices_in_front perm assembly s ++ xs) (by_columns perm assembly fronts)
    ∙ sym (map-append (vertex_at perm) (members (length assembly.nodes) (λ j. super_of assembly.nodes j) s)
    (blocks (length assembly.nodes) (λ j. super_of assembly.nodes j) fronts))

pub vertices_perm : (perm : List ℕ) (assembly : AssemblyTree) (fronts : List ℕ) → IsPerm (length perm) perm → IsAssembly assembly
    → length perm ≡ length assembly.nodes → IsPerm (length assembly.supers) fronts
    → IsPerm (length perm) (vertices_along perm assembly fronts)
vertices_perm perm assembly fronts is is_assembly len is_fronts =
    let columns = subst (λ n. IsPerm n (blocks (length assembly.nodes) (λ j. super_of assembly.nodes j) fronts)) (sym len)
    (blocks_perm (length assembly.nodes) (λ j. super_of assembly.nodes j) (length assembly.supers) fronts is_fronts is_assembly.nodes) in
    subst (IsPerm (length perm)) (sym (by_columns perm assembly fronts))
    (perm_mapped (length perm) (vertex_at perm) (place_of perm) (vertex_of (length perm) perm is)
    (place_within vertex_of_place place_of_vertex (length perm) perm is) (λ k vk. place_of_vertex (length perm) perm is k vk.1)
    (λ v vertex. vertex_of_place (length perm) perm is v vertex.1)
    (blocks (length assembly.nodes) (λ j. super_of assembly.nodes j) fronts) columns)

-- ---- parts of an order

pub part_prefix : (n : ℕ) (xs ys : List ℕ) → IsPart n (xs ++ ys) → IsPart n xs
part_prefix n xs ys part = record {
  vertices = λ i d lt.
      let all = length-append xs ys in
      subst (IsVertex n) (get_or_append_left xs ys d i lt) (part.vertices i d (omega arith));
  once = λ v. let whole = part.once v in let sum = sum_by-append (λ x. cond (x == v) 1 0) xs ys in omega arith;
}

pub part_next : (n : ℕ) (xs : List ℕ) (y : ℕ) (ys : List ℕ) → IsPart n (xs ++ y ∷ ys) → IsVertex n y × (times xs y ≡ 0)
part_next n xs y ys part = (
  (let all = length-append xs (y ∷ ys) in subst (IsVertex n) (get_or-append_seam xs y ys 0) (part.vertices (length xs) 0 (omega arith))),
  let whole = part.once y in
      let sum = sum_by-append (λ x. cond (x == y) 1 0) xs (y ∷ ys) in
      let here = times-here y y ys refl in
      omega arith,
)

-- ---- an order that is written element by element, and list by list

pub next_vertex : (n : ℕ) (numbers xs whole : List ℕ) (i : ℕ) → i < length xs → numbers ++ drop i xs ≡ whole
    → IsPart n whole → IsVertex n (get_or xs i 0) × (times numbers (get_or xs i 0) ≡ 0)
next_vertex n numbers xs whole i lt is part =
    part_next n numbers (get_or xs i 0) (drop (suc i) xs)
    (subst (IsPart n) (sym is ∙ ap (λ (ys : List ℕ). numbers ++ ys) (drop-cons xs i 0 lt)) part)

module _ (perm : List ℕ) (assembly : AssemblyTree) (numbers fronts whole : List ℕ) (i : ℕ) (lt : i < length fronts)
    (is : numbers ++ vertices_along perm assembly (drop i fronts) ≡ whole) where
  apart : whole ≡ (numbers ++ vertices_in_front perm assembly (get_or fronts i 0)) ++ vertices_along perm assembly (drop (suc i) fronts)
  apart =
      sym is ∙ ap (λ (ys : List ℕ). numbers ++ vertices_along perm assembly ys) (drop-cons fronts i 0 lt)
      ∙ sym (append_assoc numbers (vertices_in_front perm assembly (get_or fronts i 0)) (vertices_along perm assembly (drop (suc i) fronts)))

  pub next_front : (n : ℕ) → IsPart n whole → IsPart n (numbers ++ vertices_in_front perm assembly (get_or fronts i 0))
  next_front n part =
      part_prefix n (numbers ++ vertices_in_front perm assembly (get_or fronts i 0)) (vertices_along perm assembly (drop (suc i) fronts))
      (subst (IsPart n) apart part)

  pub more_fronts : (more : List ℕ) → more ≡ numbers ++ vertices_in_front perm assembly (get_or fronts i 0)
      → more ++ vertices_along perm assembly (drop (i + 1) fronts) ≡ whole
  more_fronts more added =
      let next : i + 1 ≡ suc i = omega arith in
      ap (λ (ys : List ℕ). ys ++ vertices_along perm assembly (drop (i + 1) fronts)) added
      ∙ ap (λ (k : ℕ). (numbers ++ vertices_in_front perm assembly (get_or fronts i 0)) ++ vertices_along perm assembly (drop k fronts)) next
      ∙ sym apart

pub part_of_perm : (n : ℕ) (xs : List ℕ) → IsPerm n xs → IsPart n xs
part_of_perm n xs is = record { vertices = is.vertices; once = at_most }
  where
    at_most : (v : ℕ) → times xs v ≤ 1
    at_most v =
        elim (cases_eq (place_of xs v) 0) [
          | inl e ↦ let none = times-none xs v e in omega arith
          | inr ne ↦
              let le = place-le xs v in
              let len = is.len in
              let one = is.once v (subst (IsVertex n) (place-vertex xs v ne) (vertex_of n xs is (place_of xs v) (omega arith, omega arith))) in
              omega arith
        ]

-- ---- columns by their fronts

-- the front of each column, as it is written down
pub listed : (assembly : AssemblyTree) (fronts : List ℕ)
    → fronts ≡ map (super_of assembly.nodes) (range_with_len 1 (length assembly.nodes))
    → (length fronts ≡ length assembly.nodes) × ((i : ℕ) → i < length fronts → super_of assembly.nodes (1 + i) ≡ get_or fronts i 0)
listed assembly fronts is =
    let len : length fronts ≡ length assembly.nodes =
    ap length is ∙ length-map-range_with_len (super_of assembly.nodes) 1 (length assembly.nodes) in (
      len,
      λ i lt. sym (ap (λ (xs : List ℕ). get_or xs i 0) is
          ∙ get_or-map-range_with_len (super_of assembly.nodes) 1 (length assembly.nodes) i (1 + i) 0 (omega arith) (omega arith)),
    )

pub row_is : ((keys : List ℕ) (first k : ℕ) (test : ℕ → Bool) → ((i : ℕ) → i < length keys → test (first + i) ≡ (get_or keys i 0 == k))
    → filter test (range_with_len first (length keys)) ≡ numbers_with keys first k)
    → (assembly : AssemblyTree) (fronts : List ℕ) → fronts ≡ map (super_of assembly.nodes) (range_with_len 1 (length assembly.nodes))
    → (s : ℕ) → numbers_with fronts 1 s ≡ columns_in_front assembly s
row_is filtered assembly fronts is s =
    let known = listed assembly fronts is in
    sym (filtered fronts 1 s (λ j. super_of assembly.nodes j == s) (λ i lt. ap (λ (t : ℕ). t == s) (known.1 i lt)))
    ∙ ap (λ (n : ℕ). filter (λ j. super_of assembly.nodes j == s) (range_with_len 1 n)) known.0
