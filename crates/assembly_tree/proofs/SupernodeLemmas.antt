-- The runs that were cut are the fundamental supernodes, and an assembly tree.
use Rattle.std.proofs.Common.{◌≡◌, ℕ, zero, suc, ◌+◌, ◌-◌, ◌<◌, ◌≤◌, List, length, get_or, map}
use Rattle.std.proofs.Common.{take, cond, eqb, refl, sym, ap, ◌∙◌, subst, inl, inr, arith, All}
use Rattle.std.specs.List.{sum_by, count_by, range_with_len}
use Rattle.std.proofs.lemmas.List.{length-map, get_or-map, get_or_default, same_lists, take_all}
use Rattle.std.proofs.lemmas.List.FromFn.{length-map-range_with_len, get_or-map-range_with_len}
use Rattle.std.proofs.lemmas.List.Sums.{sum_by_more}
use Rattle.std.proofs.lemmas.Bool.{cases_eq, cases_lt, eq-eqb, ne_eqb}
use Rattle.permutations.specs.Perm.{IsVertex}
use Rattle.elim_tree.specs.Trees.{parent_at, IsForest}
use Rattle.assembly_tree.specs.declared.assembly.Super.{Super}
use Rattle.assembly_tree.specs.Assembly.{AssemblyTree, IsSuper, IsSuperWithin, IsAssembly, no_super}
use Rattle.assembly_tree.specs.Assembly.{super_at, super_of, columns_in, front_of, reparented}
use Rattle.assembly_tree.specs.Supernodes.{count_at, AreColumnCounts, AreSupernodes, Continues, first_of, last_of}
use Rattle.assembly_tree.specs.RunTables.{AreRuns}
use Rattle.assembly_tree.proofs.ListLemmas.{sum_by-take-map}
use Rattle.assembly_tree.proofs.AssemblyLemmas.{front_fits}
use Rattle.assembly_tree.proofs.RunLemmas.{last-more, last-le, last-within, last-all}

-- ---- supernodes by their fields, and by number

pub same_super : (x y : Super) → x.columns ≡ y.columns → x.rest ≡ y.rest → x.parent ≡ y.parent → x ≡ y
same_super x y columns rest parent =
    let by_columns : ℕ → Super = λ k. record { columns = k; rest = x.rest; parent = x.parent } in
    let by_rest : ℕ → Super = λ k. record { columns = y.columns; rest = k; parent = x.parent } in
    let by_parent : ℕ → Super = λ k. record { columns = y.columns; rest = y.rest; parent = k } in
    ap by_columns columns ∙ ap by_rest rest ∙ ap by_parent parent

pub supers-range : (supers : List Super) → map (super_at supers) (range_with_len 1 (length supers)) ≡ supers
supers-range supers =
    let len = length-map-range_with_len (super_at supers) 1 (length supers) in
    same_lists (map (super_at supers) (range_with_len 1 (length supers))) supers len (λ k d lt.
    let in_range : k < length supers = omega (arith, lt, len) in
    get_or-map-range_with_len (super_at supers) 1 (length supers) k (1 + k) d in_range refl
    ∙ (let back : 1 + k - 1 ≡ k = omega arith in ap (λ (i : ℕ). get_or supers i no_super) back)
    ∙ get_or_default supers k no_super d in_range)

-- ---- supernodes with other parents

pub at-reparented : (name : ℕ → ℕ) (supers : List Super) (s : ℕ) → IsSuper supers s
    → super_at (map (reparented name) supers) s ≡ reparented name (super_at supers s)
at-reparented name supers s is = get_or-map (reparented name) supers (s - 1) no_super no_super (omega (arith, is.0, is.1))

pub last-reparented : (name : ℕ → ℕ) (supers : List Super) (s : ℕ) → last_of (map (reparented name) supers) s ≡ last_of supers s
last-reparented name supers s = sum_by-take-map columns_in (reparented name) s supers

-- ---- each column is in one run

pub covered : (supers : List Super) (s j : ℕ) → 1 ≤ j → j ≤ last_of supers s
    → (t : ℕ) × (1 ≤ t) × (t ≤ s) × (first_of supers t ≤ j) × (j ≤ last_of supers t)
covered supers zero j low high = absurd (omega (arith, low, high))
covered supers (suc s) j low high =
    elim (cases_lt (last_of supers s) j) [
      | inl above ↦ (
          let back : suc s - 1 ≡ s = omega arith in
          (suc s, omega arith, omega arith, omega (arith, ap (last_of supers) back), high)
          )
      | inr within ↦ (let before = covered supers s j low within in (before.0, before.1, omega (arith, before.2), before.3, before.4))
    ]

-- ---- the runs that were cut, once their parents are named

module _ (parents counts : List ℕ) (supers : List Super) (nodes : List ℕ)
    (forest : IsForest parents) (r : AreRuns parents counts supers nodes 0 (length parents)) where
  -- a parent is a column, or 0
  inside : (j : ℕ) → parent_at parents j ≤ length parents
  inside j =
      elim (cases_eq (parent_at parents j) 0) [ inl root ↦ omega (arith, root) | inr child ↦ (forest.rising j (omega (arith, child))).1 ]

  -- the parents, by columns, are within the matrix
  pub parents_within : All (λ (x : Super). x.parent ≤ length nodes) supers
  parents_within i d lt =
      let back : i + 1 - 1 ≡ i = omega arith in
      let is : IsSuper supers (i + 1) = (omega arith, omega (arith, lt)) in
      let here : (get_or supers i d).parent ≡ (super_at supers (i + 1)).parent =
      ap (λ (x : Super). x.parent) (get_or_default supers i d no_super lt)
      ∙ ap (λ (k : ℕ). (get_or supers k no_super).parent) (sym back) in
      let up = r.parent (i + 1) is in
      omega (arith, here, up, inside (last_of supers (i + 1)), r.len)

  pub are_supernodes : AreSupernodes parents counts (record { supers = map (reparented (super_of nodes)) supers; nodes = nodes })
  are_supernodes =
      let len = length-map supers (reparented (super_of nodes)) in
      let last = last-reparented (super_of nodes) supers in
      let back = λ (s : ℕ) (is : IsSuper (map (reparented (super_of nodes)) supers) s).
      (let out : IsSuper supers s = (is.0, omega (arith, is.1, len)) in out) in
      record {
        total = omega (arith, last (length supers), ap (λ (k : ℕ). last_of (map (reparented (super_of nodes)) supers) k) len, r.total);
        some = λ s is. omega (arith, last s, last (s - 1), last-more supers s is.0 (back s is).1, r.some s (back s is));
        len = r.len;
        nodes = λ s j is low high. r.nodes_closed s j (back s is) (omega (arith, low, last (s - 1))) (omega (arith, high, last s));
        runs = λ s j is low high. r.runs_closed s j (back s is) (omega (arith, low, last (s - 1))) (omega (arith, high, last s));
        longest = λ s is goes. r.longest s (back s is) (subst (Continues parents counts) (last s) goes);
        front = λ s is. ap front_of (at-reparented (super_of nodes) supers s (back s is))
            ∙ r.front s (back s is) ∙ ap (λ (k : ℕ). count_at counts (k + 1)) (sym (last (s - 1)));
        parent = λ s is. ap (λ (x : Super). x.parent) (at-reparented (super_of nodes) supers s (back s is))
            ∙ ap (super_of nodes) (r.parent s (back s is) ∙ ap (parent_at parents) (sym (last s)));
      }

-- ---- fundamental supernodes are an assembly tree

module _ (parents counts : List ℕ) (a : AssemblyTree) (forest : IsForest parents)
    (are : AreColumnCounts parents counts) (r : AreSupernodes parents counts a) where
  -- along a run counts fall by one
  fall : (s d : ℕ) → IsSuper a.supers s → first_of a.supers s + d ≤ last_of a.supers s
      → count_at counts (first_of a.supers s + d) + d ≡ count_at counts (first_of a.supers s)
  fall s zero is high =
      (let same : first_of a.supers s + 0 ≡ first_of a.supers s = omega arith in omega (arith, ap (λ (k : ℕ). count_at counts k) same))
  fall s (suc d) is high =
      let before = fall s d is (omega (arith, high)) in
      let goes = r.runs s (first_of a.supers s + d) is (omega arith) (omega (arith, high)) in
      let next : first_of a.supers s + d + 1 ≡ first_of a.supers s + suc d = omega arith in
      omega (arith, before, goes.count, ap (λ (k : ℕ). count_at counts k) next)

  falls : (s j : ℕ) → IsSuper a.supers s → first_of a.supers s ≤ j → j ≤ last_of a.supers s
      → count_at counts j + (j - first_of a.supers s) ≡ count_at counts (first_of a.supers s)
  falls s j is low high =
      let there : first_of a.supers s + (j - first_of a.supers s) ≡ j = omega (arith, low) in
      omega (arith, fall s (j - first_of a.supers s) is (omega (arith, there, high)), ap (λ (k : ℕ). count_at counts k) there)

  -- where a column stands
  found : (j : ℕ) → IsVertex (length parents) j
      → IsSuper a.supers (super_of a.nodes j) × (first_of a.supers (super_of a.nodes j) ≤ j) × (j ≤ last_of a.supers (super_of a.nodes j))
  found j is =
      let there = covered a.supers (length a.supers) j is.0 (omega (arith, is.1, r.total)) in
      let t = there.0 in
      subst (λ (k : ℕ). IsSuper a.supers k × (first_of a.supers k ≤ j) × (j ≤ last_of a.supers k))
      (sym (r.nodes t j (there.1, there.2) there.3 there.4)) ((there.1, there.2), there.3, there.4)

  module _ (s : ℕ) (is : IsSuper a.supers s) where
    more : last_of a.supers s ≡ last_of a.supers (s - 1) + (super_at a.supers s).columns
    more = last-more a.supers s is.0 is.1

    last_vertex : IsVertex (length parents) (last_of a.supers s)
    last_vertex = (omega (arith, r.some s is), omega (arith, last-within a.supers s, r.total))

    rest_is : (super_at a.supers s).rest + 1 ≡ count_at counts (last_of a.supers s)
    rest_is = omega (
      arith,
      falls s (last_of a.supers s) is (r.some s is) (omega arith),
      r.front s is,
      more,
      r.some s is,
      (are.each (last_of a.supers s) last_vertex).some,
    )

    abbrev above : ℕ
    above = parent_at parents (last_of a.supers s)

    -- the supernode of the parent of its last column
    parent_within : 0 < super_of a.nodes above
        → (s < super_of a.nodes above) × IsSuper a.supers (super_of a.nodes above)
        × ((super_at a.supers s).rest ≤ front_of (super_at a.supers (super_of a.nodes above)))
    parent_within some =
        elim (cases_eq above 0) [
          | inl root ↦ absurd (omega (arith, some, ap (super_of a.nodes) root))
          | inr child ↦ (
              let rising = forest.rising (last_of a.supers s) (omega (arith, child)) in
              let t = super_of a.nodes above in
              let there = found above (omega (arith, child), rising.1) in
              let later : s < t =
              elim (cases_lt s t) [ inl lt ↦ lt | inr le ↦ absurd (omega (arith, last-le a.supers t s le, rising.0, there.2)) ] in
              let grows = (are.each (last_of a.supers s) last_vertex).child (omega (arith, child)) in
              (later, there.0, omega (arith, rest_is, grows, falls t above there.0 there.1 there.2, r.front t there.0))
              )
        ]

    root_within : super_of a.nodes above ≡ 0 → (super_at a.supers s).rest ≡ 0
    root_within nil =
        elim (cases_eq above 0) [
          | inl root ↦ omega (arith, rest_is, (are.each (last_of a.supers s) last_vertex).root root)
          | inr child ↦ (let there = found above (
            omega (arith, child),
            (forest.rising (last_of a.supers s) (omega (arith, child))).1,
          ) in absurd (omega (arith, nil, there.0.0)))
        ]

    within : IsSuperWithin a.supers s
    within =
        let up = r.parent s is in
        record {
          some = omega (arith, r.some s is, more);
          parent = λ some. (let w = parent_within (omega (arith, up, some)) in (omega (arith, up, w.0), omega (arith, up, w.1.1)));
          rest = λ some.
              (let w = parent_within (omega (arith, up, some)) in omega (arith, w.2, ap (λ (k : ℕ). front_of (super_at a.supers k)) up));
          root = λ nil. root_within (omega (arith, up, nil));
        }

    abbrev hit : ℕ → ℕ
    hit t = cond (eqb t s) 1 0

    -- of the first columns, as many as stand in its run are in it
    counted : (i : ℕ) → i ≤ length a.nodes
        → count_by (λ t. eqb t s) (take i a.nodes) ≡ (i - last_of a.supers (s - 1)) - (i - last_of a.supers s)
    counted zero le = omega arith
    counted (suc i) le =
        let next = ap (λ (k : ℕ). count_by (λ t. eqb t s) (take k a.nodes)) (let up : suc i ≡ i + 1 = omega arith in up)
        ∙ sum_by_more hit a.nodes i 0 (omega (arith, le)) in
        let there = covered a.supers (length a.supers) (suc i) (omega arith) (omega (arith, le, r.len, r.total)) in
        let t = there.0 in
        let node : get_or a.nodes i 0 ≡ t = r.nodes t (suc i) (there.1, there.2) there.3 there.4 in
        elim (cases_eq t s) [
          | inl same ↦ (
              let one : hit (get_or a.nodes i 0) ≡ 1 = ap (λ b. cond b 1 0) (eq-eqb (get_or a.nodes i 0) s (node ∙ same)) in
              omega (
                arith,
                next,
                one,
                counted i (omega (arith, le)),
                there.3,
                there.4,
                ap (first_of a.supers) same,
                ap (last_of a.supers) same,
              )
              )
          | inr other ↦ (
              let none : hit (get_or a.nodes i 0) ≡ 0 = ap (λ b. cond b 1 0) (ne_eqb (get_or a.nodes i 0) s (λ e. other (sym node ∙ e))) in
              elim (cases_lt t s) [
                | inl lt ↦
                    omega (arith, next, none, counted i (omega (arith, le)), there.4, last-le a.supers t (s - 1) (omega (arith, lt)), more)
                | inr ge ↦ omega
                    (arith, next, none, counted i (omega (arith, le)), there.3, last-le a.supers s (t - 1) (omega (arith, ge, other)))
              ]
              )
        ]

    held : count_by (λ t. eqb t s) a.nodes ≡ (super_at a.supers s).columns
    held =
        let all = ap (count_by (λ t. eqb t s)) (take_all (length a.nodes) a.nodes (omega arith)) in
        omega (arith, all, counted (length a.nodes) (omega arith), more, last-within a.supers s, r.total, r.len)

  pub are_assembly : IsAssembly a
  are_assembly =
      let sum : sum_by columns_in a.supers ≡ length a.nodes = omega (arith, last-all a.supers, r.total, r.len) in
      record {
        some = omega (arith, r.len, forest.some);
        few = omega (arith, r.len, forest.few);
        each = within;
        total = sum;
        held = held;
        fits = λ s is. omega (arith, front_fits a.supers within s is, sum);
        nodes = λ j is. (found j (is.0, omega (arith, is.1, r.len))).0;
      }
