-- Merging, one visit more at a time.
use Rattle.std.proofs.Common.{◌≡◌, ◌≢◌, ℕ, zero, suc, ◌+◌, ◌<◌, ◌≤◌, Bool, true, false, cond, List}
use Rattle.std.proofs.Common.{length, map, fold, refl, sym, ap, ◌∙◌, subst, inl, inr, arith}
use Rattle.std.specs.List.{range_with_len}
use Rattle.std.proofs.lemmas.List.{map-id}
use Rattle.std.proofs.lemmas.Simd.{map-map}
use Rattle.std.proofs.lemmas.Bool.{cases_eq, cases_Bool, false≢true}
use Rattle.assembly_tree.specs.declared.assembly.Super.{Super}
use Rattle.assembly_tree.specs.Assembly.{AssemblyTree, IsSuper, IsSuperWithin, HaveColumns, super_at, front_of, reparented}
use Rattle.assembly_tree.specs.Amalgamation.{merged_number, merged_supers, visited}
use Rattle.assembly_tree.specs.MergeTables.{IsMerging, AreStanding, named, stays, gathered_at, gathered}
use Rattle.assembly_tree.proofs.ListLemmas.{fold_next}
use Rattle.assembly_tree.proofs.JoinLemmas.{merged_number-same, merged_number-other, visited-stays, visited-goes, stays-root}
use Rattle.assembly_tree.proofs.JoinLemmas.{stands_in, names_more, length-merged_supers, merged_supers-rest, merged_supers-up}
use Rattle.assembly_tree.proofs.JoinLemmas.{merged_supers-grows, merged_supers-parent, merged_supers-total, merged_held}

pub merging_none : (zeros : ℕ) (supers : List Super) → IsMerging zeros supers supers 0
merging_none most supers =
    record { is = refl; len = refl; rest = λ s some. refl; parent = λ s some. refl; grown = λ s later. omega arith; total = refl }

standing_none : (zeros : ℕ) (supers : List Super)
    → ((s : ℕ) → IsSuper supers s → IsSuperWithin supers s) → AreStanding zeros supers supers 0
standing_none most supers each = record {
  name = λ x. x;
  names = record { none = refl; left = λ s is some. refl; gone = λ s is nil. absurd (omega (arith, nil, (each s is).some)) };
  stands = λ nodes. ap (λ (xs : List Super). record { supers = xs; nodes = nodes }) (sym (map-id supers))
      ∙ ap (λ (ns : List ℕ). record { supers = map (reparented (λ x. x)) supers; nodes = ns }) (sym (map-id nodes));
  held = λ nodes held. subst (HaveColumns supers) (sym (map-id nodes)) held;
  fits = λ s is child. (each s is).rest child;
}

module _ (zeros : ℕ) (old new : List Super) (i : ℕ) (m : IsMerging zeros old new i)
    (lt : i < length old) (each : (s : ℕ) → IsSuper old s → IsSuperWithin old s) where
  is_new : IsSuper new (i + 1)
  is_new = (omega arith, omega (arith, lt, m.len))

  is_old : IsSuper old (i + 1)
  is_old = (omega arith, omega (arith, lt))

  module _ (p : ℕ) (up : (super_at new (i + 1)).parent ≡ p) where
    old_up : (super_at old (i + 1)).parent ≡ p
    old_up = sym (m.parent (i + 1) (omega arith)) ∙ up

    pub merging_above : p ≢ 0 → IsSuper new p × (i + 1 < p) × (0 < (super_at new p).columns)
    merging_above child =
        let h = (each (i + 1) is_old).parent (omega (arith, old_up, child)) in
        let later : i + 1 < p = omega (arith, h.0, old_up) in
        let within : p ≤ length old = omega (arith, h.1, old_up) in (
          (omega (arith, later), omega (arith, within, m.len)),
          later,
          omega (arith, m.grown p (omega (arith, later)), (each p (omega (arith, later), within)).some),
        )

    -- one visit more of the code and of the definition
    next : (xs : List Super) → gathered_at zeros new (i + 1) ≡ xs → xs ≡ gathered zeros old (i + 1)
    next xs is = sym (fold_next (gathered_at zeros) old i ∙ ap (λ (ys : List Super). gathered_at zeros ys (i + 1)) (sym m.is) ∙ is)

    pub merging_stays : stays zeros new (i + 1) ≡ true → IsMerging zeros old new (i + 1)
    merging_stays stay = record {
      is = next new (ap (λ (b : Bool). cond b new (merged_supers new (i + 1) (super_at new (i + 1)).parent)) stay);
      len = m.len;
      rest = m.rest;
      parent = m.parent;
      grown = λ s later. m.grown s (omega (arith, later));
      total = m.total;
    }

    pub merging_goes : p ≢ 0 → stays zeros new (i + 1) ≡ false → IsMerging zeros old (merged_supers new (i + 1) p) (i + 1)
    merging_goes child goes =
        let s = i + 1 in
        let there = merging_above child in record {
          is = next (merged_supers new s p)
              (ap (λ (b : Bool). cond b new (merged_supers new s (super_at new s).parent)) goes ∙ ap (merged_supers new s) up);
          len = length-merged_supers new s p is_new there.0 there.1 ∙ m.len;
          rest = λ t some. merged_supers-rest new s p is_new there.0 there.1 t some ∙ m.rest t some;
          parent = λ t some. merged_supers-up new s p is_new there.0 there.1 t some ∙ m.parent t some;
          grown = λ t later. omega (
            arith,
            m.grown t (omega (arith, later)),
            merged_supers-grows new s p is_new there.0 there.1 t (omega (arith, later)) (omega (arith, later)),
          );
          total = merged_supers-total new s p is_new there.0 there.1 ∙ m.total;
        }

    module _ (st : AreStanding zeros old new i) where
      onward : (nodes : List ℕ) (b : AssemblyTree) → visited zeros (named st.name new nodes) (i + 1) ≡ b
          → fold (visited zeros) (record { supers = old; nodes = nodes }) (range_with_len 1 (i + 1)) ≡ b
      onward nodes b is = fold_next (visited zeros) (record { supers = old; nodes = nodes }) i
          ∙ ap (λ (a : AssemblyTree). visited zeros a (i + 1)) (st.stands nodes) ∙ is

      standing_stays : stays zeros new (i + 1) ≡ true → AreStanding zeros old new (i + 1)
      standing_stays stay = record {
        name = st.name;
        names = st.names;
        stands = λ nodes.
            onward nodes (named st.name new nodes) (visited-stays zeros new nodes st.name st.names (i + 1) p is_new up merging_above stay);
        held = st.held;
        fits = st.fits;
      }

      standing_goes : p ≢ 0 → stays zeros new (i + 1) ≡ false → AreStanding zeros old (merged_supers new (i + 1) p) (i + 1)
      standing_goes child goes =
          let s = i + 1 in
          let there = merging_above child in
          let is_p = there.0 in
          let after = there.1 in
          let xs = merged_supers new s p in
          let columns_s : 0 < (super_at new s).columns = omega (arith, m.grown s (omega arith), (each s is_old).some) in
          record {
            name = λ x. merged_number s p (st.name x);
            names = names_more new s p is_new is_p after st.name st.names up columns_s there.2;
            stands = λ nodes. onward nodes (named (λ x. merged_number s p (st.name x)) xs nodes)
                (visited-goes zeros new nodes st.name st.names s p is_new up merging_above child goes);
            held = λ nodes held. subst (HaveColumns xs) (map-map (merged_number s p) st.name nodes)
                (merged_held new s p is_new is_p after (map st.name nodes) (st.held nodes held));
            fits = λ t is some. (
                let q = (super_at old t).parent in
                let is_q : IsSuper new q = (omega (arith, some), omega (arith, ((each t is).parent some).1, m.len)) in
                let stand = stands_in new st.name st.names q is_q in
                let before = st.fits t is some in
                let P = λ (k : ℕ). (super_at old t).rest ≤ front_of (super_at xs k) in
                elim (cases_eq (st.name q) s) [
                  | inl here ↦ (
                      let own = st.fits s is_old (omega (arith, old_up, child)) in
                      let to : st.name (super_at old s).parent ≡ p = ap st.name old_up ∙ st.names.left p is_p there.2 in
                      subst P (sym (merged_number-same s p (st.name q) here)) (omega (
                        arith,
                        before,
                        ap (λ (k : ℕ). front_of (super_at new k)) here,
                        own,
                        ap (λ (k : ℕ). front_of (super_at new k)) to,
                        m.rest s (omega arith),
                        ap front_of (merged_supers-parent new s p is_new is_p after),
                      ))
                      )
                  | inr other ↦ subst P (sym (merged_number-other s p (st.name q) other)) (omega (
                    arith,
                    before,
                    merged_supers-grows new s p is_new is_p after (st.name q) stand.0.0 other,
                    merged_supers-rest new s p is_new is_p after (st.name q) stand.0.0,
                  ))
                ]
                );
          }

  both_next : AreStanding zeros old new i
      → IsMerging zeros old (gathered_at zeros new (i + 1)) (i + 1) × AreStanding zeros old (gathered_at zeros new (i + 1)) (i + 1)
  both_next st =
      let p = (super_at new (i + 1)).parent in
      let P = λ (b : Bool). IsMerging zeros old (cond b new (merged_supers new (i + 1) p)) (i + 1)
      × AreStanding zeros old (cond b new (merged_supers new (i + 1) p)) (i + 1) in
      elim (cases_Bool (stays zeros new (i + 1))) [
        | inl stay ↦ subst P (sym stay) (merging_stays p refl stay, standing_stays p refl st stay)
        | inr goes ↦ (
            let child : p ≢ 0 = λ root. false≢true (sym goes ∙ stays-root zeros new (i + 1) root) in
            subst P (sym goes) (merging_goes p refl child goes, standing_goes p refl st child goes)
            )
      ]

-- after each number of visits
pub merging : (zeros : ℕ) (supers : List Super) → ((s : ℕ) → IsSuper supers s → IsSuperWithin supers s) → (i : ℕ)
    → i ≤ length supers → IsMerging zeros supers (gathered zeros supers i) i × AreStanding zeros supers (gathered zeros supers i) i
merging zeros supers each zero le = (merging_none zeros supers, standing_none zeros supers each)
merging zeros supers each (suc i) le =
    let before = merging zeros supers each i (omega (arith, le)) in
    let up : i + 1 ≡ suc i = omega arith in
    let P = λ (k : ℕ). IsMerging zeros supers (gathered zeros supers k) k × AreStanding zeros supers (gathered zeros supers k) k in
    let Q = λ (xs : List Super). IsMerging zeros supers xs (i + 1) × AreStanding zeros supers xs (i + 1) in
    subst P up
    (subst Q (sym (fold_next (gathered_at zeros) supers i))
    (both_next zeros supers (gathered zeros supers i) i before.0 (omega (arith, le)) each before.1))
