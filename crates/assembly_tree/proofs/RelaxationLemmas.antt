-- What amalgamation yields, without its visits.
use Rattle.std.proofs.Common.{◌≡◌, ◌≢◌, ◌↔◌, ℕ, zero, suc, ◌+◌, ◌-◌, ◌<◌, ◌≤◌, Bool, true, false, not, cond, eqb, ◌&&◌, IsTrue}
use Rattle.std.proofs.Common.{List, length, get_or, take, map, filter, refl, sym, ap, ◌∙◌, subst, inl, inr, arith}
use Rattle.std.specs.List.{count_by, range_with_len}
use Rattle.std.proofs.lemmas.List.FromFn.{take-map-range_with_len}
use Rattle.std.proofs.lemmas.Simd.{map-map}
use Rattle.std.proofs.lemmas.Bool.{cases_eq, cases_lt, cases_Bool, eq-eqb, ne_eqb, false≢true}
use Rattle.assembly_tree.specs.declared.assembly.Super.{Super}
use Rattle.assembly_tree.specs.Assembly.{AssemblyTree, IsSuper, IsAssembly, super_at, columns_in, reparented}
use Rattle.assembly_tree.specs.Amalgamation.{zeros_of, merged_supers, is_left, new_number, amalgamated}
use Rattle.assembly_tree.specs.Relaxation.{enlarged, number_among, IsRelaxed}
use Rattle.assembly_tree.specs.MergeTables.{IsMerging, AreStanding, stays, gathered_at, gathered}
use Rattle.assembly_tree.proofs.ListLemmas.{filter-map, map_agree, fold_next, sum_of_picked_more, pick_agree, count_agree}
use Rattle.lists.proofs.Lists.{sum_by-map}
use Rattle.assembly_tree.proofs.SupernodeLemmas.{same_super, supers-range}
use Rattle.assembly_tree.proofs.JoinLemmas.{stands_in, stays-root, stays-dear, stays-cheap, merged_each, merged_supers-child}
use Rattle.assembly_tree.proofs.JoinLemmas.{merged_supers-parent, merged_supers-other}
use Rattle.assembly_tree.proofs.LeftLemmas.{left-some, left-none}
use Rattle.assembly_tree.proofs.MergeLemmas.{merging, merging_above}
use Rattle.assembly_tree.proofs.AmalgamationLemmas.{standing, amalgamated_is, is_node}

module _ (zeros : ℕ) (a : AssemblyTree) (is : IsAssembly a) where
  abbrev old : List Super
  old = a.supers

  abbrev at : ℕ → ℕ → Super
  at i s = super_at (gathered zeros old i) s

  abbrev goes : ℕ → Bool
  goes s = not (stays zeros (gathered zeros old (s - 1)) s)

  abbrev width : ℕ → ℕ
  width s = (at (s - 1) s).columns

  abbrev grown : ℕ → ℕ → Super
  grown i s = enlarged goes width old i s

  m : (i : ℕ) → i ≤ length old → IsMerging zeros old (gathered zeros old i) i
  m i le = (merging zeros old is.each i le).0

  -- ---- the columns after each visit

  grown-more : (i t : ℕ)
      → (grown (i + 1) t).columns ≡ (grown i t).columns + cond (goes (i + 1) && eqb (super_at old (i + 1)).parent t) (width (i + 1)) 0
  grown-more i t = omega (arith, sum_of_picked_more (λ c. goes c && eqb (super_at old c).parent t) width i)

  record Grown (i : ℕ) : Type 0 where
    kept : (t : ℕ) → IsSuper old t → (t ≤ i → goes t ≡ false) → (at i t).columns ≡ (grown i t).columns
    gone : (t : ℕ) → IsSuper old t → t ≤ i → goes t ≡ true → (at i t).columns ≡ 0

  module _ (i : ℕ) (lt : i < length old) (g : Grown i) where
    chosen : goes (i + 1) ≡ not (stays zeros (gathered zeros old i) (i + 1))
    chosen = (let back : i + 1 - 1 ≡ i = omega arith in ap (λ (k : ℕ). not (stays zeros (gathered zeros old k) (i + 1))) back)

    grown_stays : stays zeros (gathered zeros old i) (i + 1) ≡ true → Grown (i + 1)
    grown_stays stay =
        let goes_not : goes (i + 1) ≡ false = chosen ∙ ap not stay in
        let same : gathered zeros old (i + 1) ≡ gathered zeros old i = fold_next (gathered_at zeros) old i
        ∙ ap (λ (b : Bool). cond b (gathered zeros old i) (merged_supers (gathered zeros old i) (i + 1) (at i (i + 1)).parent)) stay in
        let columns = λ (t : ℕ). ap (λ (xs : List Super). (super_at xs t).columns) same in
        record {
          kept = λ t h free. columns t ∙ g.kept t h (λ le. free (omega (arith, le)))
              ∙ sym (rw goes_not at (grown-more i t) ∙ (let e : (grown i t).columns + 0 ≡ (grown i t).columns = omega arith in e));
          gone = λ t h le go. elim (cases_eq t (i + 1)) [
            | inl e ↦ absurd (false≢true (sym goes_not ∙ ap goes (sym e) ∙ go))
            | inr ne ↦ columns t ∙ g.gone t h (omega (arith, le, ne)) go
          ];
        }

    grown_goes : stays zeros (gathered zeros old i) (i + 1) ≡ false → Grown (i + 1)
    grown_goes go =
        let v = i + 1 in
        let xs = gathered zeros old i in
        let before = m i (omega (arith, lt)) in
        let p = (super_at old v).parent in
        let up : (super_at xs v).parent ≡ p = before.parent v (omega arith) in
        let child : p ≢ 0 = λ root. false≢true (sym go ∙ stays-root zeros xs v (up ∙ root)) in
        let above = merging_above zeros old xs i before lt is.each p up child in
        let is_v : IsSuper xs v = (omega arith, omega (arith, lt, before.len)) in
        let does : goes v ≡ true = chosen ∙ ap not go in
        let same : gathered zeros old v ≡ merged_supers xs v p = fold_next (gathered_at zeros) old i
        ∙ ap (λ (b : Bool). cond b xs (merged_supers xs v (super_at xs v).parent)) go ∙ ap (merged_supers xs v) up in
        let columns = λ (t : ℕ). ap (λ (ys : List Super). (super_at ys t).columns) same in
        let more = λ (t : ℕ). rw does at (grown-more i t) in
        let wide : width v ≡ (at i v).columns = (let back : i + 1 - 1 ≡ i = omega arith in ap (λ (k : ℕ). (at k v).columns) back) in
        let Kept : ℕ → Type 0 = λ t. t ≤ length old → (t ≤ v → goes t ≡ false) → (at v t).columns ≡ (grown v t).columns in
        let Gone : ℕ → Type 0 = λ t. t ≤ length old → t ≤ v → goes t ≡ true → (at v t).columns ≡ 0 in
        record {
          kept = λ t h. merged_each xs v p is_v above.0 above.1 Kept
              (λ le free. absurd (false≢true (sym (free (omega arith)) ∙ does)))
              (λ le free. omega (
                arith,
                columns p,
                ap columns_in (merged_supers-parent xs v p is_v above.0 above.1),
                rw (eq-eqb p p refl) at (more p),
                wide,
                g.kept p (omega (arith, above.1), le) (λ early. absurd (omega (arith, early, above.1))),
              ))
              (λ k some not_v not_p le free. omega (
                arith,
                columns k,
                ap columns_in (merged_supers-other xs v p is_v above.0 above.1 k some not_v not_p),
                rw (ne_eqb p k (λ e. not_p (sym e))) at (more k),
                g.kept k (some, le) (λ early. free (omega (arith, early))),
              ))
              t h.0 h.1;
          gone = λ t h. merged_each xs v p is_v above.0 above.1 Gone
              (λ le early go_t. omega (arith, columns v, ap columns_in (merged_supers-child xs v p is_v above.0 above.1)))
              (λ le early go_t. absurd (omega (arith, early, above.1)))
              (λ k some not_v not_p le early go_k. omega (
                arith,
                columns k,
                ap columns_in (merged_supers-other xs v p is_v above.0 above.1 k some not_v not_p),
                g.gone k (some, le) (omega (arith, early, not_v)) go_k,
              ))
              t h.0 h.1;
        }

  grown_at : (i : ℕ) → i ≤ length old → Grown i
  grown_at zero le = record { kept = λ t h free. omega arith; gone = λ t h le. absurd (omega (arith, h.0, le)) }
  grown_at (suc i) le =
      let before = grown_at i (omega (arith, le)) in
      let lt : i < length old = omega (arith, le) in
      let up : i + 1 ≡ suc i = omega arith in
      subst Grown up (elim (cases_Bool (stays zeros (gathered zeros old i) (i + 1))) [
        | inl stay ↦ grown_stays i lt before stay
        | inr go ↦ grown_goes i lt before go
      ])

  -- ---- as a supernode is visited

  module _ (s : ℕ) (h : IsSuper old s) where
    before : IsMerging zeros old (gathered zeros old (s - 1)) (s - 1)
    before = m (s - 1) (omega (arith, h.1))

    later_is : (t : ℕ) → s ≤ t → t ≤ length old → at (s - 1) t ≡ grown (s - 1) t
    later_is t later within =
        same_super (at (s - 1) t) (grown (s - 1) t)
        ((grown_at (s - 1) (omega (arith, h.1))).kept t (omega (arith, h.0, later), within)
        (λ early. absurd (omega (arith, early, later, h.0))))
        (before.rest t (omega (arith, h.0, later))) (before.parent t (omega (arith, h.0, later)))

    up : (at (s - 1) s).parent ≡ (super_at old s).parent
    up = before.parent s h.0

    costs : (super_at old s).parent ≢ 0
        → zeros_of (at (s - 1) s) (at (s - 1) (at (s - 1) s).parent) ≡ zeros_of (grown (s - 1) s) (grown (s - 1) (super_at old s).parent)
    costs child =
        let above = (is.each s h).parent (omega (arith, child)) in
        ap (λ (k : ℕ). zeros_of (at (s - 1) s) (at (s - 1) k)) up
        ∙ ap (λ (x : Super). zeros_of x (at (s - 1) (super_at old s).parent)) (later_is s (omega arith) h.1)
        ∙ ap (zeros_of (grown (s - 1) s)) (later_is (super_at old s).parent (omega (arith, above.0)) above.1)

    rule : IsTrue (goes s) ↔ ((0 < (super_at old s).parent) × (zeros_of (grown (s - 1) s) (grown (s - 1) (super_at old s).parent) ≤ zeros))
    rule =
        let xs = gathered zeros old (s - 1) in
        let p = (super_at old s).parent in (
          λ go. (
              let stays_not = λ (stay : stays zeros xs s ≡ true). false≢true (sym (ap not stay) ∙ go) in
              let child : p ≢ 0 = λ root. stays_not (stays-root zeros xs s (up ∙ root)) in (
                omega (arith, child),
                elim (cases_lt zeros (zeros_of (at (s - 1) s) (at (s - 1) (at (s - 1) s).parent))) [
                  | inl dear ↦ absurd (stays_not (stays-dear zeros xs s (λ e. child (sym up ∙ e)) dear))
                  | inr cheap ↦ omega (arith, cheap, costs child)
                ],
              )
              ),
          λ both. ap not
              (stays-cheap zeros xs s (λ e. absurd (omega (arith, both.0, up, e))) (omega (arith, both.1, costs (omega (arith, both.0))))),
        )

  -- ---- in the end

  abbrev n : ℕ
  n = length old

  end : IsMerging zeros old (gathered zeros old n) n
  end = m n (omega arith)

  abbrev st : AreStanding zeros old (gathered zeros old n) n
  st = standing zeros a is (gathered zeros old n) end

  left : (s : ℕ) → IsSuper old s → goes s ≡ false → (at n s).columns ≡ (grown n s).columns
  left s h stay = (grown_at n (omega arith)).kept s h (λ le. stay)

  left_test : (s : ℕ) → 1 ≤ s → s ≤ n → is_left (at n s) ≡ not (goes s)
  left_test s low high =
      elim (cases_Bool (goes s)) [
        | inl go ↦ left-none (at n s) ((grown_at n (omega arith)).gone s (low, high) high go) ∙ sym (ap not go)
        | inr stay ↦ left-some (at n s) (omega (arith, left s (low, high) stay, (is.each s (low, high)).some)) ∙ sym (ap not stay)
      ]

  homes : (s : ℕ) → IsSuper old s → st.name s ≡ cond (goes s) (st.name (super_at old s).parent) s
  homes s h =
      let there : IsSuper (gathered zeros old n) s = (h.0, omega (arith, h.1, end.len)) in
      let P = λ (b : Bool). st.name s ≡ cond b (st.name (super_at old s).parent) s in
      elim (cases_Bool (goes s)) [
        | inl go ↦ subst P (sym go) ((st.names.gone s there ((grown_at n (omega arith)).gone s h h.1 go)).2 ∙ ap st.name (end.parent s h.0))
        | inr stay ↦ subst P (sym stay) (st.names.left s there (omega (arith, left s h stay, (is.each s h).some)))
      ]

  listed : map (at n) (range_with_len 1 n) ≡ gathered zeros old n
  listed = ap (λ (k : ℕ). map (at n) (range_with_len 1 k)) (sym end.len) ∙ supers-range (gathered zeros old n)

  number_is : (t : ℕ) → t ≤ n → new_number (gathered zeros old n) t ≡ number_among goes t
  number_is t le =
      ap (λ (xs : List Super). count_by is_left (take t xs)) (sym listed) ∙ ap (count_by is_left) (take-map-range_with_len (at n) 1 n t le)
      ∙ sum_by-map (λ x. cond (is_left x) 1 0) (at n) (range_with_len 1 t)
      ∙ count_agree (λ s. is_left (at n s)) (λ s. not (goes s)) t (λ s low high. left_test s low (omega (arith, high, le)))

  number_home : (s : ℕ) → s ≤ n → new_number (gathered zeros old n) (st.name s) ≡ number_among goes (st.name s)
  number_home s le =
      elim (cases_eq s 0) [
        | inl nil ↦ (let none : st.name s ≡ 0 = ap st.name nil ∙ st.names.none in number_is (st.name s) (omega (arith, none)))
        | inr some ↦ number_is (st.name s) (omega (
          arith,
          (stands_in (gathered zeros old n) st.name st.names s (omega (arith, some), omega (arith, le, end.len))).0.1,
          end.len,
        ))
      ]

  inside : (s : ℕ) → IsSuper old s → (super_at old s).parent ≤ n
  inside s h = elim (cases_eq (super_at old s).parent 0) [
    | inl root ↦ omega (arith, root)
    | inr child ↦ ((is.each s h).parent (omega (arith, child))).1
  ]

  pub relaxed : IsRelaxed zeros a (amalgamated zeros a)
  relaxed =
      let f : ℕ → ℕ = λ s. new_number (gathered zeros old n) (st.name s) in
      let made = amalgamated_is zeros a is (gathered zeros old n) end in
      let kept : ℕ → Super = λ s. record (grown n s) { parent = number_among goes (st.name (super_at old s).parent) } in
      record {
        goes = goes;
        width = width;
        widths = λ s h. ap columns_in (later_is s h s (omega arith) h.1);
        rule = rule;
        home = st.name;
        none = st.names.none;
        homes = homes;
        supers = ap (λ (b : AssemblyTree). b.supers) made ∙ ap (λ (xs : List Super). map (reparented f) (filter is_left xs)) (sym listed)
            ∙ ap (map (reparented f)) (filter-map is_left (at n) (range_with_len 1 n))
            ∙ map-map (reparented f) (at n) (filter (λ s. is_left (at n s)) (range_with_len 1 n))
            ∙ pick_agree (λ s. is_left (at n s)) (λ s. not (goes s)) (λ s. reparented f (at n s)) kept n left_test (λ s low high stay.
            same_super (reparented f (at n s)) (kept s) (left s (low, high) (elim (cases_Bool (goes s)) [
              | inl go ↦ absurd (false≢true (sym (ap not go) ∙ stay))
              | inr stays ↦ stays
            ])) (end.rest s low)
            (ap f (end.parent s low) ∙ number_home (super_at old s).parent (inside s (low, high))));
        nodes = ap (λ (b : AssemblyTree). b.nodes) made
            ∙ map_agree f (λ s. number_among goes (st.name s)) 0 a.nodes
            (λ i lt. number_home (get_or a.nodes i 0) (is_node zeros a is (gathered zeros old n) end i lt).1);
      }
