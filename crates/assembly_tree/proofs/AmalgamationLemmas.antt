-- An amalgamated assembly tree is one, and what the code makes.
use mathlib.Core.Path.{fun_ext}
use Rattle.std.proofs.Common.{◌≡◌, ℕ, zero, suc, ◌+◌, ◌-◌, ◌<◌, ◌≤◌, Bool, cond, eqb, List, length, get_or}
use Rattle.std.proofs.Common.{map, filter, sym, ap, ◌∙◌, subst, inl, inr, arith, All, slice_index}
use Rattle.std.specs.List.{sum_by, count_by}
use Rattle.std.proofs.lemmas.List.{length-map, get_or-map, get_or_default}
use Rattle.std.proofs.lemmas.List.Elements.{All-filter}
use Rattle.std.proofs.lemmas.Simd.{map-map}
use Rattle.std.proofs.lemmas.Bool.{cases_eq, cases_order, eq-eqb, ne_eqb}
use Rattle.limits.specs.Limits.{most_order}
use Rattle.permutations.specs.Perm.{IsVertex}
use Rattle.assembly_tree.specs.declared.assembly.Super.{Super}
use Rattle.assembly_tree.specs.Assembly.{AssemblyTree, IsSuper, IsSuperWithin, IsAssembly, no_super}
use Rattle.assembly_tree.specs.Assembly.{super_at, super_of, columns_in, front_of, reparented}
use Rattle.assembly_tree.specs.Amalgamation.{is_left, new_number, numbered, amalgamated}
use Rattle.assembly_tree.specs.MergeTables.{AreNames, IsMerging, AreStanding, named, left_of, gathered}
use Rattle.assembly_tree.proofs.ListLemmas.{filter-map, map_agree, sum_by_agree}
use Rattle.lists.proofs.Lists.{sum_by-map}
use Rattle.assembly_tree.proofs.AssemblyLemmas.{front_fits}
use Rattle.assembly_tree.proofs.JoinLemmas.{stands_in}
use Rattle.assembly_tree.proofs.LeftLemmas.{left-at, left-pick, number-left, number-le, number-within, number-reparented, sum-left}
use Rattle.assembly_tree.proofs.MergeLemmas.{merging}
use Rattle.assembly_tree.proofs.RunLemmas.{supers-le, last-all}

super_of-map : (f : ℕ → ℕ) (nodes : List ℕ) (j : ℕ) → IsVertex (length nodes) j → super_of (map f nodes) j ≡ f (super_of nodes j)
super_of-map f nodes zero is = absurd (omega (arith, is.0))
super_of-map f nodes (suc i) is = get_or-map f nodes i 0 0 (omega (arith, is.1))

-- those that are left of the supernodes that the code's stand for
left_is : (name : ℕ → ℕ) (supers : List Super) (nodes : List ℕ) → numbered (named name supers nodes) ≡ left_of name supers nodes
left_is name supers nodes =
    let by = new_number supers in
    let with : (ℕ → ℕ) → AssemblyTree =
    λ f. record { supers = map (reparented f) (filter is_left (map (reparented name) supers)); nodes = map f (map name nodes) } in
    ap with (fun_ext (number-reparented name supers))
    ∙ ap (λ (ys : List Super). record { supers = ys; nodes = map by (map name nodes) })
    (ap (map (reparented by)) (filter-map is_left (reparented name) supers)
    ∙ map-map (reparented by) (reparented name) (filter is_left supers))
    ∙ ap (λ (ns : List ℕ). record { supers = map (reparented (λ s. by (name s))) (filter is_left supers); nodes = ns })
    (map-map by name nodes)

module _ (zeros : ℕ) (a : AssemblyTree) (is : IsAssembly a) (new : List Super) (m : IsMerging zeros a.supers new (length a.supers)) where
  pub standing : AreStanding zeros a.supers new (length a.supers)
  standing = subst (λ (xs : List Super). AreStanding zeros a.supers xs (length a.supers))
      (sym m.is) (merging zeros a.supers is.each (length a.supers) (omega arith)).1

  pub amalgamated_is : amalgamated zeros a ≡ left_of standing.name new a.nodes
  amalgamated_is = ap numbered (standing.stands a.nodes) ∙ left_is standing.name new a.nodes

  abbrev number : ℕ → ℕ
  number s = new_number new (standing.name s)

  abbrev ys : List Super
  ys = map (reparented number) (filter is_left new)

  len : length ys ≡ length (filter is_left new)
  len = length-map (filter is_left new) (reparented number)

  at : (s : ℕ) → IsSuper new s → 1 ≤ (super_at new s).columns → super_at ys (new_number new s) ≡ reparented number (super_at new s)
  at s is_s left =
      get_or-map (reparented number) (filter is_left new) (new_number new s - 1) no_super no_super
      (omega (arith, number-left new s is_s left, number-within new s is_s.1))
      ∙ ap (reparented number) (left-at new s is_s left)

  rises : (s p : ℕ) → s < p → IsSuper new p → 1 ≤ (super_at new p).columns → new_number new s < new_number new p
  rises s p lt is_p left = omega (arith, number-left new p is_p left, number-le new s (p - 1) (omega (arith, lt)))

  -- where a supernode stands
  stand : (s : ℕ) → IsSuper a.supers s
      → IsSuper new (standing.name s) × (s ≤ standing.name s) × (1 ≤ (super_at new (standing.name s)).columns)
  stand s is_s = stands_in new standing.name standing.names s (is_s.0, omega (arith, is_s.1, m.len))

  inside : (s : ℕ) → IsSuper a.supers s → IsSuper ys (number s)
  inside s is_s = (let there = stand s is_s in (
    omega (arith, number-left new (standing.name s) there.0 there.2),
    omega (arith, number-within new (standing.name s) there.0.1, len),
  ))

  each_left : (s : ℕ) → IsSuper new s → 1 ≤ (super_at new s).columns → IsSuperWithin ys (new_number new s)
  each_left s is_s left =
      let old : IsSuper a.supers s = (is_s.0, omega (arith, is_s.1, m.len)) in
      let own = is.each s old in
      let p = (super_at a.supers s).parent in
      let here = at s is_s left in
      let up : (super_at ys (new_number new s)).parent ≡ number p = ap (λ (x : Super). x.parent) here ∙ ap number (m.parent s is_s.0) in
      let rest : (super_at ys (new_number new s)).rest ≡ (super_at a.supers s).rest = ap (λ (x : Super). x.rest) here ∙ m.rest s is_s.0 in
      let some : 1 ≤ (super_at ys (new_number new s)).columns = omega (arith, ap columns_in here, left) in
      elim (cases_eq p 0) [
        | inl root ↦ (
            let nil : (super_at ys (new_number new s)).parent ≡ 0 = up ∙ ap number root ∙ ap (new_number new) standing.names.none in
            record {
              some = some;
              parent = λ pos. absurd (omega (arith, pos, nil));
              rest = λ pos. absurd (omega (arith, pos, nil));
              root = λ _. rest ∙ own.root root;
            }
            )
        | inr child ↦ (
            let above = own.parent (omega (arith, child)) in
            let is_p : IsSuper a.supers p = (omega (arith, child), above.1) in
            let there = stand p is_p in
            let later = rises s (standing.name p) (omega (arith, above.0, there.1)) there.0 there.2 in
            let front : front_of (super_at ys ((super_at ys (new_number new s)).parent)) ≡ front_of (super_at new (standing.name p)) =
            ap (λ (k : ℕ). front_of (super_at ys k)) up ∙ ap front_of (at (standing.name p) there.0 there.2) in
            record {
              some = some;
              parent = λ _. (omega (arith, up, later), omega (arith, up, (inside p is_p).1));
              rest = λ _. omega (arith, front, rest, standing.fits s old (omega (arith, child)));
              root = λ nil. absurd (omega (arith, nil, up, (inside p is_p).0));
            }
            )
      ]

  -- numbers tell apart those that are left
  same_test : (s x : ℕ) → IsSuper new s → 1 ≤ (super_at new s).columns
      → IsSuper a.supers x → eqb (number x) (new_number new s) ≡ eqb (standing.name x) s
  same_test s x is_s left is_x =
      let there = stand x is_x in
      elim (cases_order (standing.name x) s) [
        | inl e ↦ eq-eqb (number x) (new_number new s) (ap (new_number new) e) ∙ sym (eq-eqb (standing.name x) s e)
        | inr apart ↦ elim apart [
          | inl lt ↦ ne_eqb (number x) (new_number new s) (omega (arith, rises (standing.name x) s lt is_s left))
              ∙ sym (ne_eqb (standing.name x) s (omega (arith, lt)))
          | inr gt ↦ ne_eqb (number x) (new_number new s) (omega (arith, rises s (standing.name x) gt there.0 there.2))
              ∙ sym (ne_eqb (standing.name x) s (omega (arith, gt)))
        ]
      ]

  pub is_node : (i : ℕ) → i < length a.nodes → IsSuper a.supers (get_or a.nodes i 0)
  is_node i lt = is.nodes (suc i) (omega arith, omega (arith, lt))

  held_left : (s : ℕ) → IsSuper new s → 1 ≤ (super_at new s).columns
      → count_by (λ k. eqb k (new_number new s)) (map number a.nodes) ≡ (super_at new s).columns
  held_left s is_s left =
      sum_by-map (λ k. cond (eqb k (new_number new s)) 1 0) number a.nodes
      ∙ sum_by_agree (λ x. cond (eqb (number x) (new_number new s)) 1 0) (λ x. cond (eqb (standing.name x) s) 1 0) 0 a.nodes
      (λ i lt. ap (λ (b : Bool). cond b 1 0) (same_test s (get_or a.nodes i 0) is_s left (is_node i lt)))
      ∙ sym (sum_by-map (λ k. cond (eqb k s) 1 0) standing.name a.nodes) ∙ standing.held a.nodes is.held s is_s

  pub left_assembly : IsAssembly (left_of standing.name new a.nodes)
  left_assembly =
      let pick = λ (t : ℕ) (is_t : IsSuper ys t). left-pick new t is_t.0 (omega (arith, is_t.1, len)) in
      let each : (t : ℕ) → IsSuper ys t → IsSuperWithin ys t =
      λ t is_t. (let there = pick t is_t in subst (IsSuperWithin ys) there.3 (each_left there.0 there.1 there.2)) in
      let len_n = length-map a.nodes number in
      let total : sum_by columns_in ys ≡ length (map number a.nodes) =
      omega (arith, sum_by-map columns_in (reparented number) (filter is_left new), sum-left new, m.total, is.total, len_n) in
      record {
        some = omega (arith, len_n, is.some);
        few = omega (arith, len_n, is.few);
        each = each;
        total = total;
        held = λ t is_t. (
            let there = pick t is_t in
            let P = λ (k : ℕ). count_by (λ x. eqb x k) (map number a.nodes) ≡ (super_at ys k).columns in
            subst P there.3 (held_left there.0 there.1 there.2 ∙ sym (ap columns_in (at there.0 there.1 there.2)))
            );
        fits = λ s is_s. omega (arith, front_fits ys each s is_s, total);
        nodes = λ j is_j. (
            let vertex : IsVertex (length a.nodes) j = (is_j.0, omega (arith, is_j.1, len_n)) in
            subst (IsSuper ys) (sym (super_of-map number a.nodes j vertex)) (inside (super_of a.nodes j) (is.nodes j vertex))
            );
      }

  -- ---- what the code asks of its tables

  pub merged_few : length new ≤ most_order
  merged_few = omega
      (arith, supers-le a.supers (length a.supers) (λ k h. (is.each k h).some) (omega arith), last-all a.supers, is.total, is.few, m.len)

  pub merged_parents : All (λ (x : Super). x.parent ≤ length new) new
  merged_parents k d lt =
      let s = k + 1 in
      let back : k + 1 - 1 ≡ k = omega arith in
      let here : (get_or new k d).parent ≡ (super_at a.supers s).parent = ap (λ (x : Super). x.parent) (get_or_default new k d no_super lt)
      ∙ ap (λ (i : ℕ). (get_or new i no_super).parent) (sym back) ∙ m.parent s (omega arith) in
      elim (cases_eq (super_at a.supers s).parent 0) [
        | inl root ↦ omega (arith, here, root)
        | inr child ↦ omega (arith, here, ((is.each s (omega arith, omega (arith, lt, m.len))).parent (omega (arith, child))).1, m.len)
      ]

  pub merged_nodes : All (λ (s : ℕ). s ≤ length new) a.nodes
  merged_nodes k d lt = omega (arith, get_or_default a.nodes k d 0 lt, (is_node k lt).1, m.len)

  pub merged_assembly : (name : ℕ → ℕ) × AreNames new name × IsAssembly (left_of name new a.nodes)
  merged_assembly = (standing.name, standing.names, left_assembly)

pub amalgamated_assembly : (zeros : ℕ) (a : AssemblyTree) → IsAssembly a → IsAssembly (amalgamated zeros a)
amalgamated_assembly zeros a is =
    let m = (merging zeros a.supers is.each (length a.supers) (omega arith)).0 in
    subst IsAssembly (sym (amalgamated_is zeros a is (gathered zeros a.supers (length a.supers)) m))
    (left_assembly zeros a is (gathered zeros a.supers (length a.supers)) m)

-- the tables of the code make those that are left
pub left_by : (supers : List Super) (nodes numbers : List ℕ) (name : ℕ → ℕ)
    → ((s : ℕ) → s ≤ length supers → slice_index numbers s ≡ new_number supers (name s))
    → All (λ (x : Super). x.parent ≤ length supers) supers → All (λ (s : ℕ). s ≤ length supers) nodes
    → (map (reparented (slice_index numbers)) (filter is_left supers) ≡ (left_of name supers nodes).supers)
    × (map (slice_index numbers) nodes ≡ (left_of name supers nodes).nodes)
left_by supers nodes numbers name are parents inside =
    let left = filter is_left supers in
    let f : ℕ → ℕ = λ s. new_number supers (name s) in
    let fits = All-filter is_left (λ (x : Super). x.parent ≤ length supers) supers parents in (
      map_agree (reparented (slice_index numbers)) (reparented f) no_super left
          (λ i lt.
          ap (λ (up : ℕ). record (get_or left i no_super) { parent = up }) (are (get_or left i no_super).parent (fits i no_super lt))),
      map_agree (slice_index numbers) f 0 nodes (λ i lt. are (get_or nodes i 0) (inside i 0 lt)),
    )
