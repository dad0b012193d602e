-- There is one list of fundamental supernodes.
use Rattle.std.proofs.Common.{◌≡◌, ℕ, zero, suc, ◌+◌, ◌-◌, ◌<◌, ◌≤◌, List, length, get_or, refl, sym, ap, ◌∙◌, inl, inr, arith}
use Rattle.std.proofs.lemmas.List.{ext_get_or}
use Rattle.std.proofs.lemmas.Bool.{cases_lt}
use Rattle.elim_tree.specs.Trees.{parent_at}
use Rattle.assembly_tree.specs.declared.assembly.Super.{Super}
use Rattle.assembly_tree.specs.Assembly.{AssemblyTree, IsSuper, no_super, super_at, super_of}
use Rattle.assembly_tree.specs.Supernodes.{count_at, AreSupernodes, first_of, last_of}
use Rattle.assembly_tree.proofs.RunLemmas.{last-more, last-within}
use Rattle.assembly_tree.proofs.SupernodeLemmas.{same_super, covered}

first-next : (supers : List Super) (s : ℕ) → first_of supers (s + 1) ≡ last_of supers s + 1
first-next supers s = (let back : s + 1 - 1 ≡ s = omega arith in ap (λ (k : ℕ). last_of supers k + 1) back)

module _ (parents counts : List ℕ) (a b : AssemblyTree)
    (as_a : AreSupernodes parents counts a) (as_b : AreSupernodes parents counts b) where
  -- no supernode of a ends before that of b which begins with it
  not_before : (s : ℕ) → s < length a.supers → s < length b.supers
      → last_of a.supers s ≡ last_of b.supers s → last_of a.supers (s + 1) < last_of b.supers (s + 1) → ⊥
  not_before s lt_a lt_b same less =
      let is_a : IsSuper a.supers (s + 1) = (omega arith, omega (arith, lt_a)) in
      let is_b : IsSuper b.supers (s + 1) = (omega arith, omega (arith, lt_b)) in
      as_a.longest (s + 1) is_a (as_b.runs (s + 1) (last_of a.supers (s + 1)) is_b (omega (
        arith,
        as_a.some (s + 1) is_a,
        first-next a.supers s,
        first-next b.supers s,
        same,
      )) less)

  not_longer : (s : ℕ) → s ≡ length a.supers → last_of a.supers s ≡ last_of b.supers s → length b.supers ≤ s
  not_longer s end same =
      elim (cases_lt s (length b.supers)) [
        | inl lt ↦ (
            let is_b : IsSuper b.supers (s + 1) = (omega arith, omega (arith, lt)) in
            let whole : last_of a.supers s ≡ length parents = ap (last_of a.supers) end ∙ as_a.total in
            absurd (omega (arith, whole, same, as_b.some (s + 1) is_b, first-next b.supers s, last-within b.supers (s + 1), as_b.total))
            )
        | inr le ↦ le
      ]

module _ (parents counts : List ℕ) (a b : AssemblyTree)
    (as_a : AreSupernodes parents counts a) (as_b : AreSupernodes parents counts b) where
  ends : (s : ℕ) → s ≤ length a.supers → s ≤ length b.supers → last_of a.supers s ≡ last_of b.supers s
  ends zero le_a le_b = refl
  ends (suc s) le_a le_b =
      let before = ends s (omega (arith, le_a)) (omega (arith, le_b)) in
      let lt_a : s < length a.supers = omega (arith, le_a) in
      let lt_b : s < length b.supers = omega (arith, le_b) in
      let next : s + 1 ≡ suc s = omega arith in
      let same : last_of a.supers (s + 1) ≡ last_of b.supers (s + 1) =
      elim (cases_lt (last_of a.supers (s + 1)) (last_of b.supers (s + 1))) [
        | inl less ↦ absurd (not_before parents counts a b as_a as_b s lt_a lt_b before less)
        | inr le ↦ elim (cases_lt (last_of b.supers (s + 1)) (last_of a.supers (s + 1))) [
          | inl less ↦ absurd (not_before parents counts b a as_b as_a s lt_b lt_a (sym before) less)
          | inr ge ↦ omega (arith, le, ge)
        ]
      ] in
      ap (last_of a.supers) (sym next) ∙ same ∙ ap (last_of b.supers) next

  lengths : length a.supers ≡ length b.supers
  lengths =
      elim (cases_lt (length a.supers) (length b.supers)) [
        | inl lt ↦ absurd (omega (
          arith,
          lt,
          not_longer parents counts a b as_a as_b (length a.supers) refl (ends (length a.supers) (omega arith) (omega (arith, lt))),
        ))
        | inr le ↦
            (let back = not_longer parents counts b a as_b as_a (length b.supers) refl (sym (ends (length b.supers) le (omega arith))) in
            omega (arith, le, back))
      ]

  lasts : (s : ℕ) → s ≤ length a.supers → last_of a.supers s ≡ last_of b.supers s
  lasts s le = ends s le (omega (arith, le, lengths))

  nodes_at : (i : ℕ) → i < length a.nodes → get_or a.nodes i 0 ≡ get_or b.nodes i 0
  nodes_at i lt =
      let there = covered a.supers (length a.supers) (suc i) (omega arith) (omega (arith, lt, as_a.len, as_a.total)) in
      let t = there.0 in
      let is_a : IsSuper a.supers t = (there.1, there.2) in
      let is_b : IsSuper b.supers t = (there.1, omega (arith, there.2, lengths)) in
      as_a.nodes t (suc i) is_a there.3 there.4
      ∙ sym (as_b.nodes t (suc i) is_b (omega (arith, there.3, lasts (t - 1) (omega (arith, there.2))))
      (omega (arith, there.4, lasts t there.2)))

  one_nodes : a.nodes ≡ b.nodes
  one_nodes = ext_get_or 0 a.nodes b.nodes (as_a.len ∙ sym as_b.len) nodes_at

  same_at : (s : ℕ) → IsSuper a.supers s → super_at a.supers s ≡ super_at b.supers s
  same_at s is =
      let is_b : IsSuper b.supers s = (is.0, omega (arith, is.1, lengths)) in
      let last = lasts s is.1 in
      let first = lasts (s - 1) (omega (arith, is.1)) in
      let columns : (super_at a.supers s).columns ≡ (super_at b.supers s).columns =
      omega (arith, last, first, last-more a.supers s is.0 is.1, last-more b.supers s is_b.0 is_b.1) in
      let front = as_a.front s is ∙ ap (λ (k : ℕ). count_at counts (k + 1)) first ∙ sym (as_b.front s is_b) in
      let parent = as_a.parent s is ∙ ap (λ (k : ℕ). super_of a.nodes (parent_at parents k)) last
      ∙ ap (λ (ns : List ℕ). super_of ns (parent_at parents (last_of b.supers s))) one_nodes ∙ sym (as_b.parent s is_b) in
      same_super (super_at a.supers s) (super_at b.supers s) columns (omega (arith, front, columns)) parent

  one_supers : a.supers ≡ b.supers
  one_supers = ext_get_or no_super a.supers b.supers lengths (λ i lt.
      let back : i ≡ i + 1 - 1 = omega arith in
      ap (λ (k : ℕ). get_or a.supers k no_super) back ∙ same_at (i + 1) (omega arith, omega (arith, lt))
      ∙ ap (λ (k : ℕ). get_or b.supers k no_super) (sym back))

  pub one_assembly : a ≡ b
  one_assembly =
      let by_supers : List Super → AssemblyTree = λ xs. record { supers = xs; nodes = a.nodes } in
      let by_nodes : List ℕ → AssemblyTree = λ ns. record { supers = b.supers; nodes = ns } in
      ap by_supers one_supers ∙ ap by_nodes one_nodes
