-- The places that the two passes give are a postorder: spans are nested or apart, and fill all places.
use Rattle.std.proofs.Common.{sym, ◌∙◌, subst, ap, ◌+◌, ◌-◌, ◌≡◌, ◌≢◌, inl, inr, ℕ, zero, suc}
use Rattle.std.proofs.Common.{◌<◌, ◌≤◌, List, length, arith, refl, cond, ◌==◌, slice_index}
use Rattle.std.proofs.lemmas.Bool.{cases_eq, cases_lt, cond-true, cond-false, eq-eqb, ne_eqb}
use Rattle.limits.specs.Limits.{most_order}
use Rattle.permutations.specs.Perm.{IsVertex, IsPerm, place_of}
use Rattle.elim_tree.specs.ParentTables.{parents_in, IsParentTable}
use Rattle.elim_tree.specs.Trees.{parent_at, IsForest, IsAbove, self, step}
use Rattle.elim_tree.specs.Postorders.{Precedes, below, beside, IsPostorder}
use Rattle.elim_tree.specs.Spans.{in_children, AreSpanSizes, ArePlaces}
use Rattle.elim_tree.proofs.Columns.{in_table, length_of_table, parent_within}
use Rattle.elim_tree.proofs.SpanLemmas.{IsPlaced, IsPlacedFrom, placed_all}
use Rattle.elim_tree.proofs.CountLemmas.{IsRising, children_yes, children_to, children_all}
use Rattle.elim_tree.proofs.Postorderings.{place_one}

-- the child in whose span k falls
locate : (parent many : ℕ → ℕ) (p m k : ℕ) → 0 < k → k ≤ in_children parent many p m
    → (c : ℕ) × (0 < c) × (c < m) × (parent c ≡ p) × (in_children parent many p c < k) × (k ≤ in_children parent many p c + many c + 1)
unfolding in_children
locate parent many p zero k pos le = absurd (omega arith)
locate parent many p (suc m) k pos le =
    elim (cases_lt (in_children parent many p m) k) [
      | inr old ↦ let f = locate parent many p m k pos old in (f.0, f.1, omega arith, f.3, f.4, f.5)
      | inl new ↦ elim (cases_eq (parent m) p) [
        | inl e ↦ elim (cases_eq m 0) [
          | inl z ↦ let q = cond-true (m == 0) 0 (many m + 1) (eq-eqb m 0 z) in
              let r = cond-true (parent m == p) (cond (m == 0) 0 (many m + 1)) 0 (eq-eqb (parent m) p e) in absurd (omega arith)
          | inr z ↦ let s = children_yes parent many p m (omega arith) e in (m, omega arith, omega arith, e, new, omega arith)
        ]
        | inr ne ↦ let r = cond-false (parent m == p) (cond (m == 0) 0 (many m + 1)) 0 (ne_eqb (parent m) p ne) in absurd (omega arith)
      ]
    ]

module _ (parents : List ℕ) (forest : IsForest parents) (n : ℕ) (len : n ≡ suc (length parents)) (many before start place : ℕ → ℕ)
    (counted : AreSpanSizes n (parent_at parents) many before) (placed : IsPlaced n (parent_at parents) many start place) where
  rising : IsRising n (parent_at parents)
  rising x some = let f = forest.rising x some in (f.0, omega arith)

  sizes : (x : ℕ) → 0 < x → x < n → many x ≡ in_children (parent_at parents) many x x
  sizes x pos lt = counted.sizes x lt ∙ children_all n (parent_at parents) many x n rising pos (omega arith)

  -- the span of a child lies in its parent's, before the parent itself
  inner : (c : ℕ) → 0 < c → c < n → 0 < parent_at parents c
      → (start (parent_at parents c) ≤ start c) × (start c + many c < start (parent_at parents c) + many (parent_at parents c))
  inner c pos lt up =
      let f = rising c up in
      let s = placed.begins c pos lt in
      let z = sizes (parent_at parents c) up f.1 in
      let y = children_yes (parent_at parents) many (parent_at parents c) c pos refl in
      let t = children_to (parent_at parents) many (parent_at parents c) (suc c) (parent_at parents c) f.0 in
      (omega arith, omega arith)

  -- siblings stand in rising order, apart
  apart : (c d : ℕ) → 0 < c → c < d → d < n → parent_at parents c ≡ parent_at parents d → start c + many c < start d
  apart c d pos lt dn e =
      let s = placed.begins c pos (omega arith) in
      let s' = placed.begins d (omega arith) dn in
      let y = children_yes (parent_at parents) many (parent_at parents c) c pos refl in
      let t = children_to (parent_at parents) many (parent_at parents c) (suc c) d lt in
      let s'' : start d ≡ start (parent_at parents c) + in_children (parent_at parents) many (parent_at parents c) d =
      subst (λ v. start d ≡ start v + in_children (parent_at parents) many v d) (sym e) s' in
      omega arith

  -- the span of what is below x lies in the span of x
  nested : {a x : ℕ} → IsAbove parents a x → 0 < a → a < n → (start x ≤ start a) × (start a + many a ≤ start x + many x) × (x < n) × (0 < x)
  nested self pos lt = (omega arith, omega arith, lt, pos)
  nested {a} (step up q) pos lt =
      let f = rising a up in
      let i = inner a pos lt up in
      let r = nested q up f.1 in
      (omega arith, omega arith, r.2, r.3)

  strictly : {a x : ℕ} → IsAbove parents a x → a ≢ x → 0 < a → a < n → start a + many a < start x + many x
  strictly self ne pos lt = absurd (ne refl)
  strictly {a} (step up q) ne pos lt =
      let f = rising a up in
      let i = inner a pos lt up in
      let r = nested q up f.1 in
      omega arith

  in_order : (a b : ℕ) → 0 < a → a < n → 0 < b → b < n → Precedes parents a b → start a + many a < start b + many b
  in_order a b pa an pb bn (below q ne) = strictly q ne pa an
  in_order a b pa an pb bn (beside {c = c} {d = d} p q lt e) =
      let x = nested p pa an in
      let y = nested q pb bn in
      let z = apart c d x.3 lt y.2 e in
      omega arith

  pub places_before : (a b : ℕ) → IsVertex (length parents) a → IsVertex (length parents) b → Precedes parents a b → place a < place b
  places_before a b va vb h =
      let la = va.0 in
      let ha = va.1 in
      let lb = vb.0 in
      let hb = vb.1 in
      let less = in_order a b (omega arith) (omega arith) (omega arith) (omega arith) h in
      let pa = placed.ends a (omega arith) (omega arith) in
      let pb = placed.ends b (omega arith) (omega arith) in
      omega arith

  -- every place of the span of x is the place of something below x
  taken_in : (m x k : ℕ) → x < m → 0 < x → x < n → start x < k
      → k ≤ start x + many x + 1 → (y : ℕ) × (0 < y) × (y < n) × (start y + many y + 1 ≡ k)
  taken_in zero x k xm pos lt low high = absurd (omega arith)
  taken_in (suc m) x k xm pos lt low high =
      elim (cases_eq k (start x + many x + 1)) [
        | inl e ↦ (x, pos, lt, sym e)
        | inr ne ↦
            let z = sizes x pos lt in
            let f = locate (parent_at parents) many x x (k - start x) (omega arith) (omega arith) in
            let c = f.2 in
            let lo = f.4 in
            let hi = f.5 in
            let s : start f.0 ≡ start x + in_children (parent_at parents) many x f.0 =
            subst (λ v. start f.0 ≡ start v + in_children (parent_at parents) many v f.0) f.3 (placed.begins f.0 f.1 (omega arith)) in
            taken_in m f.0 k (omega arith) f.1 (omega arith) (omega arith) (omega arith)
      ]

  all_in : in_children (parent_at parents) many 0 n + 1 ≡ n
  all_in = let whole = counted.all in let root = counted.sizes 0 (omega arith) in omega arith

  -- no span ends after the last place
  low : (m x : ℕ) → n ≤ x + m → 0 < x → x < n → start x + many x + 1 < n
  low zero x le pos lt = absurd (omega arith)
  low (suc m) x le pos lt =
      elim (cases_eq (parent_at parents x) 0) [
        | inl e ↦
            let s : start x ≡ start 0 + in_children (parent_at parents) many 0 x =
            subst (λ v. start x ≡ start v + in_children (parent_at parents) many v x) e (placed.begins x pos lt) in
            let y = children_yes (parent_at parents) many 0 x pos e in
            let t = children_to (parent_at parents) many 0 (suc x) n lt in
            let whole = all_in in
            let zero_start = placed.first in
            omega arith
        | inr ne ↦
            let f = rising x (omega arith) in
            let i = inner x pos lt (omega arith) in
            let r = low m (parent_at parents x) (omega arith) (omega arith) f.1 in
            omega arith
      ]

  -- a place is the end of its span
  ended : (x k : ℕ) → 0 < x → x < n → start x + many x + 1 ≡ k → place x ≡ k
  ended x k pos lt e = placed.ends x pos lt ∙ e

  taken : (k : ℕ) → 0 < k → k < n → (x : ℕ) × (x < n) × (place x ≡ k)
  taken k pos lt =
      let whole = all_in in
      let f = locate (parent_at parents) many 0 n k pos (omega arith) in
      let lo = f.4 in
      let hi = f.5 in
      let s : start f.0 ≡ start 0 + in_children (parent_at parents) many 0 f.0 =
      subst (λ v. start f.0 ≡ start v + in_children (parent_at parents) many v f.0) f.3 (placed.begins f.0 f.1 f.2) in
      let zero_start = placed.first in
      let there = taken_in (suc f.0) f.0 k (omega arith) f.1 f.2 (omega arith) (omega arith) in
      (there.0, there.2, ended there.0 k there.1 there.2 there.3)

  some_place : (x : ℕ) → 0 < x → x < n → 0 < place x
  some_place x pos lt = let e = placed.ends x pos lt in omega arith

  pub are_places : ArePlaces n place
  are_places = record {
    unused = placed.unused;
    within = λ x lt. elim (cases_eq x 0) [
      | inl e ↦ (let z = ap place e ∙ placed.unused in omega arith)
      | inr ne ↦ (let e = placed.ends x (omega arith) lt in let small = low n x (omega arith) (omega arith) lt in omega arith)
    ];
    apart = λ x y xn yn e. elim (cases_eq x 0) [
      | inl zx ↦ elim (cases_eq y 0) [
        | inl zy ↦ zx ∙ sym zy
        | inr ny ↦ (let s = some_place y (omega arith) yn in let z = ap place zx ∙ placed.unused in absurd (omega arith))
      ]
      | inr nx ↦ elim (cases_eq y 0) [
        | inl zy ↦ (let s = some_place x (omega arith) xn in let z = ap place zy ∙ placed.unused in absurd (omega arith))
        | inr ny ↦ place_one parents forest place places_before x y (omega arith, omega arith) (omega arith, omega arith) e
      ]
    ];
    taken = λ k lt. elim (cases_eq k 0) [
      | inl e ↦ (0, omega arith, placed.unused ∙ sym e)
      | inr ne ↦ taken k (omega arith) lt
    ];
  }

-- ---- the same of a table of parents

module _ (table : List ℕ) (is : IsParentTable table) where
  -- a table is its parents, as a function
  table_is : slice_index table ≡ parent_at (parents_in table)
  table_is = λ i. λ x. sym (in_table table is x) i

  pub table_rising : IsRising (length table) (slice_index table)
  table_rising =
      let len = length_of_table table is in
      subst (IsRising (length table)) (sym table_is) (λ x some. let f = is.forest.rising x some in (f.0, omega arith))

  pub table_short : length table ≤ (most_order + 1)
  table_short = let len = length_of_table table is in let few = is.forest.few in omega arith

  pub table_within : (x : ℕ) → slice_index table x < length table
  table_within x =
      let len = length_of_table table is in
      let same = in_table table is x in
      let most = parent_within (parents_in table) is.forest x in
      omega arith

  module _ (many before start place : ℕ → ℕ) (counted : AreSpanSizes (length table) (slice_index table) many before)
      (j : ℕ) (done : j ≤ 1) (from : IsPlacedFrom j (length table) (slice_index table) many before start place) where
    here_counted : AreSpanSizes (length table) (parent_at (parents_in table)) many before
    here_counted = subst (λ parent. AreSpanSizes (length table) parent many before) table_is counted

    here_placed : IsPlaced (length table) (parent_at (parents_in table)) many start place
    here_placed = subst (λ parent. IsPlaced (length table) parent many start place) table_is
        (placed_all (length table) (slice_index table) many before table_rising counted j start place done from)

    pub table_places : ArePlaces (length table) place
    table_places =
        are_places (parents_in table) is.forest (length table) (length_of_table table is) many before start place here_counted here_placed

    pub table_before : (a b : ℕ) → IsVertex (length (parents_in table)) a
        → IsVertex (length (parents_in table)) b → Precedes (parents_in table) a b → place a < place b
    table_before = places_before (parents_in table) is.forest (length table)
        (length_of_table table is) many before start place here_counted here_placed

-- what was written through a slice is the whole table

pub is_postorder : (parents order places : List ℕ) → IsPerm (length order) order
    → length order ≡ length parents → ((v : ℕ) → place_of order v ≡ slice_index places v)
    → ((a b : ℕ) → IsVertex (length parents) a → IsVertex (length parents) b
    → Precedes parents a b → slice_index places a < slice_index places b)
    → IsPostorder parents order
is_postorder parents order places perm len same before = record {
  perm = subst (λ n. IsPerm n order) len perm;
  before = λ a b va vb h. (let less = before a b va vb h in let pa = same a in let pb = same b in omega arith);
}
