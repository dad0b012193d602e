-- One merge: what the supernodes are after it, and what the tables of the code stand for.
use Rattle.std.proofs.Common.{◌≡◌, ◌≢◌, ℕ, zero, suc, ◌+◌, ◌-◌, ◌<◌, ◌≤◌, Bool, true, false, cond, eqb, ltb, ◌||◌}
use Rattle.std.proofs.Common.{List, [], ◌∷◌, length, set, map, refl, sym, ap, ◌∙◌, subst, inl, inr, arith}
use Rattle.std.specs.List.{sum_by, count_by}
use Rattle.std.proofs.lemmas.List.{length-set, map-set, get_or-set_same, get_or-set_other}
use Rattle.std.proofs.lemmas.List.Sums.{sum_by-set, sum_by-cons}
use Rattle.std.proofs.lemmas.Bool.Decides.{nat_tests}
use Rattle.std.proofs.lemmas.Simd.{map-map}
use Rattle.std.proofs.lemmas.Bool.{cases_eq, eq-eqb, ne_eqb, lt-ltb, le-ltb}
use Rattle.assembly_tree.specs.declared.assembly.Super.{Super}
use Rattle.assembly_tree.specs.Assembly.{IsSuper, HaveColumns, no_super, super_at, columns_in, reparented}
use Rattle.assembly_tree.specs.Amalgamation.{zeros_of, merged_number, merged_supers, merged, visited}
use Rattle.assembly_tree.specs.MergeTables.{AreNames, named, stays}
use Rattle.assembly_tree.proofs.SupernodeLemmas.{at-reparented}
use Rattle.lists.proofs.Bools.{cond_zero}

pub merged_number-same : (s p x : ℕ) → x ≡ s → merged_number s p x ≡ p
merged_number-same s p x e = ap (λ (b : Bool). cond b p x) (eq-eqb x s e)

pub merged_number-other : (s p x : ℕ) → x ≢ s → merged_number s p x ≡ x
merged_number-other s p x e = ap (λ (b : Bool). cond b p x) (ne_eqb x s e)

-- ---- how many columns stand in each

cond_add : (b : Bool) (m n k : ℕ) → k ≡ m + n → cond b k 0 ≡ cond b m 0 + cond b n 0
cond_add true m n k e = e
cond_add false m n k e = refl

-- a column counts for p where it counted for s
one_moved : (s p t x : ℕ) → s ≢ p
    → cond (eqb (merged_number s p x) t) 1 0 + cond (eqb t s) (cond (eqb x s) 1 0) 0
    ≡ cond (eqb x t) 1 0 + cond (eqb t p) (cond (eqb x s) 1 0) 0
one_moved s p t x apart = grind (arith, nat_tests)

all_moved : (s p t : ℕ) → s ≢ p → (nodes : List ℕ)
    → count_by (λ x. eqb x t) (map (merged_number s p) nodes) + cond (eqb t s) (count_by (λ x. eqb x s) nodes) 0
    ≡ count_by (λ x. eqb x t) nodes + cond (eqb t p) (count_by (λ x. eqb x s) nodes) 0
all_moved s p t apart [] = omega (arith, cond_zero (eqb t s) 0 refl, cond_zero (eqb t p) 0 refl)
all_moved s p t apart (x ∷ nodes) =
    let here = one_moved s p t x apart in
    let rest = all_moved s p t apart nodes in
    let one = sum_by-cons (λ k. cond (eqb k t) 1 0) (merged_number s p x) (map (merged_number s p) nodes) in
    let two = sum_by-cons (λ k. cond (eqb k s) 1 0) x nodes in
    let three = sum_by-cons (λ k. cond (eqb k t) 1 0) x nodes in
    let at = λ (b : Bool). cond_add b (cond (eqb x s) 1 0) (count_by (λ k. eqb k s) nodes) (count_by (λ k. eqb k s) (x ∷ nodes)) two in
    omega (arith, here, rest, one, three, at (eqb t s), at (eqb t p))

-- ---- what a merge leaves

module _ (supers : List Super) (s p : ℕ) (is_s : IsSuper supers s) (is_p : IsSuper supers p) (lt : s < p) where
  abbrev more : Super
  more = record (super_at supers p) { columns = (super_at supers p).columns + (super_at supers s).columns }

  abbrev none : Super
  none = record (super_at supers s) { columns = 0 }

  pub length-merged_supers : length (merged_supers supers s p) ≡ length supers
  length-merged_supers = length-set (set supers (p - 1) more) (s - 1) none ∙ length-set supers (p - 1) more

  pub merged_supers-child : super_at (merged_supers supers s p) s ≡ none
  merged_supers-child =
      get_or-set_same (set supers (p - 1) more) (s - 1) none no_super (omega (arith, length-set supers (p - 1) more, is_s.0, is_s.1))

  pub merged_supers-parent : super_at (merged_supers supers s p) p ≡ more
  merged_supers-parent = get_or-set_other (set supers (p - 1) more) (s - 1) (p - 1) none no_super (omega (arith, is_s.0, lt))
      ∙ get_or-set_same supers (p - 1) more no_super (omega (arith, is_p.0, is_p.1))

  pub merged_supers-other : (t : ℕ) → 1 ≤ t → t ≢ s → t ≢ p → super_at (merged_supers supers s p) t ≡ super_at supers t
  merged_supers-other t some not_s not_p =
      get_or-set_other (set supers (p - 1) more) (s - 1) (t - 1) none no_super (omega (arith, some, is_s.0, not_s))
      ∙ get_or-set_other supers (p - 1) (t - 1) more no_super (omega (arith, some, is_p.0, not_p))

  -- what holds of s, of p and of all others
  pub merged_each : (P : ℕ → Type 0) → P s → P p → ((t : ℕ) → 1 ≤ t → t ≢ s → t ≢ p → P t) → (t : ℕ) → 1 ≤ t → P t
  merged_each P at_s at_p at t some =
      elim (cases_eq t s) [
        | inl e ↦ subst P (sym e) at_s
        | inr not_s ↦ elim (cases_eq t p) [ inl e ↦ subst P (sym e) at_p | inr not_p ↦ at t some not_s not_p ]
      ]

  -- only columns change
  pub merged_supers-rest : (t : ℕ) → 1 ≤ t → (super_at (merged_supers supers s p) t).rest ≡ (super_at supers t).rest
  merged_supers-rest =
      let P : ℕ → Type 0 = λ t. (super_at (merged_supers supers s p) t).rest ≡ (super_at supers t).rest in
      merged_each P (ap (λ (x : Super). x.rest) merged_supers-child) (ap (λ (x : Super). x.rest) merged_supers-parent)
      (λ t some not_s not_p. ap (λ (x : Super). x.rest) (merged_supers-other t some not_s not_p))

  pub merged_supers-up : (t : ℕ) → 1 ≤ t → (super_at (merged_supers supers s p) t).parent ≡ (super_at supers t).parent
  merged_supers-up =
      let P : ℕ → Type 0 = λ t. (super_at (merged_supers supers s p) t).parent ≡ (super_at supers t).parent in
      merged_each P (ap (λ (x : Super). x.parent) merged_supers-child) (ap (λ (x : Super). x.parent) merged_supers-parent)
      (λ t some not_s not_p. ap (λ (x : Super). x.parent) (merged_supers-other t some not_s not_p))

  pub merged_supers-grows : (t : ℕ) → 1 ≤ t → t ≢ s → (super_at supers t).columns ≤ (super_at (merged_supers supers s p) t).columns
  merged_supers-grows =
      let P : ℕ → Type 0 = λ t. t ≢ s → (super_at supers t).columns ≤ (super_at (merged_supers supers s p) t).columns in
      merged_each P (λ not_s. absurd (not_s refl)) (λ not_s. omega (arith, ap columns_in merged_supers-parent))
      (λ t some not_s not_p still. omega (arith, ap columns_in (merged_supers-other t some not_s not_p)))

  pub merged_supers-total : sum_by columns_in (merged_supers supers s p) ≡ sum_by columns_in supers
  merged_supers-total =
      let one = sum_by-set columns_in supers (p - 1) more no_super (omega (arith, is_p.0, is_p.1)) in
      let two = sum_by-set columns_in (set supers (p - 1) more) (s - 1) none no_super
      (omega (arith, length-set supers (p - 1) more, is_s.0, is_s.1)) in
      let kept = ap columns_in (get_or-set_other supers (p - 1) (s - 1) more no_super (omega (arith, is_s.0, lt))) in
      omega (arith, one, two, kept)

  pub merged_held : (nodes : List ℕ) → HaveColumns supers nodes → HaveColumns (merged_supers supers s p) (map (merged_number s p) nodes)
  merged_held nodes held t is =
      let moved = λ (k : ℕ). all_moved s p k (omega (arith, lt)) nodes in
      let P : ℕ → Type 0 = λ k. k ≤ length supers
      → count_by (λ x. eqb x k) (map (merged_number s p) nodes) ≡ (super_at (merged_supers supers s p) k).columns in
      let to_p : eqb s p ≡ false = ne_eqb s p (omega (arith, lt)) in
      let to_s : eqb p s ≡ false = ne_eqb p s (omega (arith, lt)) in
      merged_each P
      (λ le. omega (arith, rw (eq-eqb s s refl, to_p) at (moved s), ap columns_in merged_supers-child))
      (λ le. omega (arith, rw (to_s, eq-eqb p p refl) at (moved p), held p is_p, held s is_s, ap columns_in merged_supers-parent))
      (λ k some not_s not_p le. omega (
        arith,
        rw (ne_eqb k s not_s, ne_eqb k p not_p) at (moved k),
        held k (some, le),
        ap columns_in (merged_supers-other k some not_s not_p),
      ))
      t is.0 (omega (arith, is.1, length-merged_supers))

  -- the supernodes with other parents are merged as they are
  pub merged_supers-reparented : (name : ℕ → ℕ)
      → merged_supers (map (reparented name) supers) s p ≡ map (reparented name) (merged_supers supers s p)
  merged_supers-reparented name =
      let xs = map (reparented name) supers in
      let read = λ (child parent : Super).
      set (set xs (p - 1) (record parent { columns = parent.columns + child.columns })) (s - 1) (record child { columns = 0 }) in
      ap (λ (child : Super). read child (super_at xs p)) (at-reparented name supers s is_s)
      ∙ ap (λ (parent : Super). read (reparented name (super_at supers s)) parent) (at-reparented name supers p is_p)
      ∙ sym (map-set (reparented name) (set supers (p - 1) more) (s - 1) none
      ∙ ap (λ (ys : List Super). set ys (s - 1) (reparented name none)) (map-set (reparented name) supers (p - 1) more))

  pub names_more : (name : ℕ → ℕ) → AreNames supers name → (super_at supers s).parent ≡ p → 0 < (super_at supers s).columns
      → 0 < (super_at supers p).columns → AreNames (merged_supers supers s p) (λ x. merged_number s p (name x))
  names_more name are up some_s some_p =
      let stays : merged_number s p (name p) ≡ p =
      ap (merged_number s p) (are.left p is_p some_p) ∙ merged_number-other s p p (omega (arith, lt)) in
      let old = λ (t : ℕ) (is : IsSuper (merged_supers supers s p) t).
      (let out : IsSuper supers t = (is.0, omega (arith, is.1, length-merged_supers)) in out) in
      let P : ℕ → Type 0 = λ k. IsSuper supers k → 0 < (super_at (merged_supers supers s p) k).columns → merged_number s p (name k) ≡ k in
      record {
        none = ap (merged_number s p) are.none ∙ merged_number-other s p 0 (omega (arith, is_s.0));
        left = λ t is. merged_each P (λ _ some. absurd (omega (arith, some, ap columns_in merged_supers-child))) (λ _ some. stays)
            (λ k low not_s not_p is_k some. ap (merged_number s p) (are.left k is_k (omega (
              arith,
              some,
              ap columns_in (merged_supers-other k low not_s not_p),
            ))) ∙ merged_number-other s p k not_s) t is.0 (old t is);
        gone = λ t is nil. elim (cases_eq t s) [
          | inl e ↦ (
              let same : (super_at (merged_supers supers s p) t).parent ≡ p =
              merged_supers-up t is.0 ∙ ap (λ (k : ℕ). (super_at supers k).parent) e ∙ up in
              let here : merged_number s p (name t) ≡ p =
              ap (merged_number s p) (ap name e ∙ are.left s is_s some_s) ∙ merged_number-same s p s refl in (
                omega (arith, same, e, lt),
                omega (arith, same, is_p.1, length-merged_supers),
                here ∙ sym (ap (λ (k : ℕ). merged_number s p (name k)) same ∙ stays),
              )
              )
          | inr not_s ↦ (
              let before = are.gone t (old t is) (omega (arith, nil, merged_supers-grows t is.0 not_s)) in
              let same = merged_supers-up t is.0 in (
                omega (arith, same, before.0),
                omega (arith, same, before.1, length-merged_supers),
                ap (merged_number s p) before.2 ∙ ap (λ (k : ℕ). merged_number s p (name k)) (sym same),
              )
              )
        ];
      }

-- ---- each stands in one that is left, itself or a later one

module _ (supers : List Super) (name : ℕ → ℕ) (are : AreNames supers name) where
  abbrev StandsIn : ℕ → ℕ → Type 0
  StandsIn s t = IsSuper supers t × (s ≤ t) × (1 ≤ (super_at supers t).columns)

  itself : (s : ℕ) → IsSuper supers s → (super_at supers s).columns ≢ 0 → StandsIn s (name s)
  itself s is some = subst (StandsIn s) (sym (are.left s is (omega (arith, some)))) (is, omega arith, omega (arith, some))

  stand : (fuel s : ℕ) → length supers ≤ s + fuel → IsSuper supers s → StandsIn s (name s)
  stand zero s far is = elim (cases_eq (super_at supers s).columns 0) [
    | inl nil ↦ (let gone = are.gone s is nil in absurd (omega (arith, far, gone.0, gone.1)))
    | inr some ↦ itself s is some
  ]
  stand (suc fuel) s far is = elim (cases_eq (super_at supers s).columns 0) [
    | inl nil ↦ (
        let gone = are.gone s is nil in
        let up = stand fuel (super_at supers s).parent (omega (arith, far, gone.0)) (omega (arith, gone.0), gone.1) in
        subst (StandsIn s) (sym gone.2) (up.0, omega (arith, up.1, gone.0), up.2)
        )
    | inr some ↦ itself s is some
  ]

  pub stands_in : (s : ℕ) → IsSuper supers s → IsSuper supers (name s) × (s ≤ name s) × (1 ≤ (super_at supers (name s)).columns)
  stands_in s is = stand (length supers) s (omega arith) is

-- ---- a visit

pub stays-root : (zeros : ℕ) (supers : List Super) (s : ℕ) → (super_at supers s).parent ≡ 0 → stays zeros supers s ≡ true
stays-root zeros supers s root =
    ap (λ (b : Bool). b || ltb zeros (zeros_of (super_at supers s) (super_at supers ((super_at supers s).parent))))
    (eq-eqb (super_at supers s).parent 0 root)

stays-child : (zeros : ℕ) (supers : List Super) (s : ℕ) → (super_at supers s).parent ≢ 0
    → stays zeros supers s ≡ ltb zeros (zeros_of (super_at supers s) (super_at supers ((super_at supers s).parent)))
stays-child zeros supers s child =
    ap (λ (b : Bool). b || ltb zeros (zeros_of (super_at supers s) (super_at supers ((super_at supers s).parent))))
    (ne_eqb (super_at supers s).parent 0 child)

pub stays-dear : (zeros : ℕ) (supers : List Super) (s : ℕ) → (super_at supers s).parent ≢ 0
    → zeros < zeros_of (super_at supers s) (super_at supers ((super_at supers s).parent)) → stays zeros supers s ≡ true
stays-dear zeros supers s child dear = stays-child zeros supers s child ∙ lt-ltb zeros _ dear

pub stays-cheap : (zeros : ℕ) (supers : List Super) (s : ℕ) → (super_at supers s).parent ≢ 0
    → zeros_of (super_at supers s) (super_at supers ((super_at supers s).parent)) ≤ zeros → stays zeros supers s ≡ false
stays-cheap zeros supers s child cheap = stays-child zeros supers s child ∙ le-ltb zeros _ cheap

module _ (zeros : ℕ) (supers : List Super) (nodes : List ℕ) (name : ℕ → ℕ)
    (are : AreNames supers name) (s p : ℕ) (is_s : IsSuper supers s) (up : (super_at supers s).parent ≡ p)
    (above : p ≢ 0 → IsSuper supers p × (s < p) × (0 < (super_at supers p).columns)) where
  abbrev xs : List Super
  xs = map (reparented name) supers

  -- with its parent named, a supernode passes the same test
  same_test : stays zeros xs s ≡ stays zeros supers s
  same_test =
      let test = λ (x : Super) (ys : List Super). eqb x.parent 0 || ltb zeros (zeros_of x (super_at ys x.parent)) in
      let child = reparented name (super_at supers s) in
      ap (λ (x : Super). test x xs) (at-reparented name supers s is_s) ∙ (elim (cases_eq p 0) [
        | inl root ↦ (
            let nil : name (super_at supers s).parent ≡ 0 = ap name (up ∙ root) ∙ are.none in
            ap (λ (b : Bool). b || ltb zeros (zeros_of child (super_at xs child.parent))) (eq-eqb child.parent 0 nil)
            ∙ sym (stays-root zeros supers s (up ∙ root))
            )
        | inr some ↦ (
            let there = above some in
            let same : name (super_at supers s).parent ≡ p = ap name up ∙ are.left p there.0 there.2 in
            let old = λ (k : ℕ) (y : Super). eqb k 0 || ltb zeros (zeros_of (super_at supers s) y) in
            ap (λ (k : ℕ). old k (super_at xs k)) same ∙ ap (old p) (at-reparented name supers p there.0)
            ∙ sym (ap (λ (k : ℕ). old k (super_at supers k)) up)
            )
      ])

  pub visited-stays : stays zeros supers s ≡ true → visited zeros (named name supers nodes) s ≡ named name supers nodes
  visited-stays stay =
      ap (λ (b : Bool). cond b (named name supers nodes) (merged (named name supers nodes) s (super_at xs s).parent)) (same_test ∙ stay)

  pub visited-goes : p ≢ 0 → stays zeros supers s ≡ false
      → visited zeros (named name supers nodes) s ≡ named (λ x. merged_number s p (name x)) (merged_supers supers s p) nodes
  visited-goes some goes =
      let a = named name supers nodes in
      let there = above some in
      let to : (super_at xs s).parent ≡ p =
      ap (λ (x : Super). x.parent) (at-reparented name supers s is_s) ∙ ap name up ∙ are.left p there.0 there.2 in
      let moved = ap (map (reparented (merged_number s p))) (merged_supers-reparented supers s p is_s there.0 there.1 name)
      ∙ map-map (reparented (merged_number s p)) (reparented name) (merged_supers supers s p) in
      ap (λ (b : Bool). cond b a (merged a s (super_at xs s).parent)) (same_test ∙ goes) ∙ ap (merged a s) to
      ∙ ap (λ (ys : List Super). record { supers = ys; nodes = map (merged_number s p) (map name nodes) }) moved
      ∙ ap (λ (ns : List ℕ). record { supers = map (reparented (λ x. merged_number s p (name x))) (merged_supers supers s p); nodes = ns })
      (map-map (merged_number s p) name nodes)
