-- The parent of a column is in the column's front, or in the front's parent: for fundamental supernodes, and where they are merged.
use Rattle.std.proofs.Common.{sym, ◌∙◌, subst, ap, ◌≡◌, ◌⊎◌, inl, inr, ℕ, zero, suc, ◌+◌, ◌-◌, ◌<◌, ◌≤◌, Bool, true, false, not, cond}
use Rattle.std.proofs.Common.{List, [], ◌∷◌, ◌++◌, length, get_or, filter, arith}
use Rattle.std.specs.List.{range_with_len, count_by}
use Rattle.std.proofs.Math.Seq.{get_or-append_seam}
use Rattle.std.proofs.lemmas.Bool.{cases_eq, cases_lt, cases_Bool}
use Rattle.std.proofs.lemmas.List.{get_or-map, get_or_append_left, length-append, length-map}
use Rattle.std.proofs.lemmas.List.Elements.{filter-append}
use Rattle.std.proofs.lemmas.List.Sums.{length-filter}
use Rattle.permutations.specs.Perm.{IsVertex}
use Rattle.elim_tree.specs.Trees.{parent_at}
use Rattle.elim_tree.proofs.Columns.{vertex_with_parent}
use Rattle.assembly_tree.specs.declared.assembly.Super.{Super}
use Rattle.assembly_tree.specs.Assembly.{AssemblyTree, IsAssembly, IsSuper, no_super, super_at, super_of}
use Rattle.assembly_tree.specs.Relaxation.{enlarged, number_among, IsRelaxed}
use Rattle.assembly_tree.specs.Supernodes.{last_of, AreSupernodes}
use Rattle.assembly_tree.proofs.ListLemmas.{range_more, count_next}
use Rattle.assembly_tree.proofs.SupernodeLemmas.{covered}

abbrev pub AreFollowed : List ℕ → AssemblyTree → Type 0
AreFollowed parents assembly = (j : ℕ) → 0 < parent_at parents j
    → (super_of assembly.nodes (parent_at parents j) ≡ super_of assembly.nodes j)
    ⊎ (super_of assembly.nodes (parent_at parents j) ≡ (super_at assembly.supers (super_of assembly.nodes j)).parent)

-- ---- fundamental supernodes

pub supernodes_followed : (parents counts : List ℕ) (a : AssemblyTree) → AreSupernodes parents counts a → AreFollowed parents a
supernodes_followed parents counts a r j some =
    let vj = vertex_with_parent parents j some in
    let there = covered a.supers (length a.supers) j vj.0 (omega (arith, vj.1, r.total)) in
    let t = there.0 in
    let is : IsSuper a.supers t = (there.1, there.2) in
    let at : super_of a.nodes j ≡ t = r.nodes t j is there.3 there.4 in
    elim (cases_eq j (last_of a.supers t)) [
      | inl e ↦ inr
          (ap (λ k. super_of a.nodes (parent_at parents k)) e ∙ sym (r.parent t is) ∙ ap (λ k. (super_at a.supers k).parent) (sym at))
      | inr ne ↦
          let run = r.runs t j is there.3 (omega (arith, ne, there.4)) in
          inl (ap (super_of a.nodes) run.parent
          ∙ r.nodes t (j + 1) is (omega (arith, there.3)) (omega (arith, ne, there.4)) ∙ sym at)
    ]

-- ---- merged supernodes

-- a number that passes stands among those that pass behind as many as pass before it
pub picked : (p : ℕ → Bool) (n s : ℕ) → 1 ≤ s → s ≤ n → p s ≡ true
    → (1 ≤ count_by p (range_with_len 1 s)) × (count_by p (range_with_len 1 s) ≤ length (filter p (range_with_len 1 n)))
    × (get_or (filter p (range_with_len 1 n)) (count_by p (range_with_len 1 s) - 1) 0 ≡ s)
picked p zero s low high passes = absurd (omega arith)
picked p (suc n) s low high passes =
    let more : filter p (range_with_len 1 (suc n)) ≡ filter p (range_with_len 1 n) ++ filter p ((n + 1) ∷ []) =
    ap (λ (m : ℕ). filter p (range_with_len 1 m)) (let up : suc n ≡ n + 1 = omega arith in up)
    ∙ ap (filter p) (range_more n) ∙ filter-append p (range_with_len 1 n) ((n + 1) ∷ []) in
    let long = ap length more ∙ length-append (filter p (range_with_len 1 n)) (filter p ((n + 1) ∷ [])) in
    elim (cases_lt s (suc n)) [
      | inl lt ↦
          let ih = picked p n s low (omega arith) passes in
          let some = ih.0 in
          let within = ih.1 in (
            some,
            omega arith,
            ap (λ (xs : List ℕ). get_or xs (count_by p (range_with_len 1 s) - 1) 0) more
                ∙ get_or_append_left (filter p (range_with_len 1 n)) (filter p ((n + 1) ∷ [])) 0
                (count_by p (range_with_len 1 s) - 1) (omega arith)
                ∙ ih.2,
          )
      | inr ge ↦
          let e : s ≡ n + 1 = omega arith in
          let hit : p (n + 1) ≡ true = ap p (sym e) ∙ passes in
          let one : filter p ((n + 1) ∷ []) ≡ (n + 1) ∷ [] = ap (λ b. cond b ((n + 1) ∷ []) []) hit in
          let count : count_by p (range_with_len 1 s) ≡ length (filter p (range_with_len 1 n)) + 1 =
          ap (λ (m : ℕ). count_by p (range_with_len 1 m)) e ∙ count_next p n
          ∙ ap (λ b. count_by p (range_with_len 1 n) + cond b 1 0) hit
          ∙ ap (λ (m : ℕ). m + 1) (sym (length-filter p (range_with_len 1 n))) in
          let back : count_by p (range_with_len 1 s) - 1 ≡ length (filter p (range_with_len 1 n)) = omega arith in
          let last = ap length one in (
            omega arith,
            omega arith,
            ap (λ (xs : List ℕ). get_or xs (count_by p (range_with_len 1 s) - 1) 0)
                (more ∙ ap (λ (ys : List ℕ). filter p (range_with_len 1 n) ++ ys) one)
                ∙ ap (λ (k : ℕ). get_or (filter p (range_with_len 1 n) ++ (n + 1) ∷ []) k 0) back
                ∙ get_or-append_seam (filter p (range_with_len 1 n)) (n + 1) [] 0 ∙ sym e,
          )
    ]

module _ (zeros : ℕ) (old new : AssemblyTree) (r : IsRelaxed zeros old new) (is_old : IsAssembly old) where
  abbrev number : ℕ → ℕ
  number s = number_among r.goes s

  node_is : (j : ℕ) → IsVertex (length old.nodes) j → super_of new.nodes j ≡ number (r.home (super_of old.nodes j))
  node_is zero vj = absurd (let some = vj.0 in omega arith)
  node_is (suc i) vj =
      let le = vj.1 in
      ap (λ (xs : List ℕ). get_or xs i 0) r.nodes ∙ get_or-map (λ s. number (r.home s)) old.nodes i 0 0 (omega arith)

  pub merged_nodes : length new.nodes ≡ length old.nodes
  merged_nodes = ap length r.nodes ∙ length-map old.nodes (λ s. number (r.home s))

  -- the parent of one that stays
  kept_parent : (s : ℕ) → IsSuper old.supers s → r.goes s ≡ false
      → (super_at new.supers (number s)).parent ≡ number (r.home ((super_at old.supers s).parent))
  kept_parent s is stays =
      let n = length old.supers in
      let here = picked (λ t. not (r.goes t)) n s is.0 is.1 (ap not stays) in
      let some = here.0 in
      let within = here.1 in
      ap (λ (xs : List Super). (get_or xs (number s - 1) no_super).parent) r.supers
      ∙ ap (λ (x : Super). x.parent) (get_or-map
      (λ t. record (enlarged r.goes r.width old.supers n t) { parent = number_among r.goes (r.home ((super_at old.supers t).parent)) })
      (filter (λ t. not (r.goes t)) (range_with_len 1 n)) (number s - 1) 0 no_super (omega arith))
      ∙ ap (λ (t : ℕ). number_among r.goes (r.home ((super_at old.supers t).parent))) here.2

  pub merged_followed : (parents : List ℕ) → length old.nodes ≡ length parents
      → ((j : ℕ) → 0 < parent_at parents j → parent_at parents j ≤ length parents) → AreFollowed parents old → AreFollowed parents new
  merged_followed parents len within followed j some =
      let vj : IsVertex (length old.nodes) j = subst (λ m. IsVertex m j) (sym len) (vertex_with_parent parents j some) in
      let vp : IsVertex (length old.nodes) (parent_at parents j) = (some, (let le = within j some in omega arith)) in
      let s = super_of old.nodes j in
      let here = node_is j vj in
      let there = node_is (parent_at parents j) vp in
      elim (followed j some) [
        | inl e ↦ inl (there ∙ ap (λ t. number (r.home t)) e ∙ sym here)
        | inr e ↦ elim (cases_Bool (r.goes s)) [
          | inl goes ↦
              let home : r.home s ≡ r.home ((super_at old.supers s).parent) =
              r.homes s (is_old.nodes j vj) ∙ ap (λ b. cond b (r.home ((super_at old.supers s).parent)) s) goes in
              inl (there ∙ ap (λ t. number (r.home t)) e ∙ ap number (sym home) ∙ sym here)
          | inr stays ↦
              let home : r.home s ≡ s =
              r.homes s (is_old.nodes j vj) ∙ ap (λ b. cond b (r.home ((super_at old.supers s).parent)) s) stays in
              inr (there ∙ ap (λ t. number (r.home t)) e ∙ sym (kept_parent s (is_old.nodes j vj) stays)
              ∙ ap (λ t. (super_at new.supers t).parent) (ap number (sym home) ∙ sym here))
        ]
      ]
