-- Each forest has a listing, and it is no longer than the forest has nodes.
use Rattle.std.proofs.Common.{◌≡◌, ◌≢◌, ◌↔◌, ◌⊎◌, ◌∙◌, inl, inr, sym, ap, subst, ℕ, zero, suc, ◌+◌, ◌<◌}
use Rattle.std.proofs.Common.{◌≤◌, Bool, true, false, List, [], ◌∷◌, ◌++◌, length, arith, refl}
use Rattle.std.proofs.lemmas.Bool.{cases_eq, cases_lt}
use Rattle.postorder_best.specs.BestPostorder.{Listed, node, ListedAll, none, more}
use Rattle.postorder_best.specs.Postorder.{Member, IsUnder, self, step}
use Rattle.postorder_best.specs.Rows.{Once, sum_out}
use Rattle.postorder_best.proofs.Forest.{IsNode, Rooted, top, raise, IsForest, total, bit, stands}
use Rattle.postorder_best.proofs.Spans.{under_trans}
use Rattle.postorder_best.proofs.Places.{member_parts}
use Rattle.postorder_best.proofs.Listings.{no_cycle, row_of, all_members, all_once, one_once}
use Rattle.postorder_best.proofs.Least.{sum_stands}

never_zero : {parent : ℕ → ℕ} (y x : ℕ) → y ≡ 0 → x ≢ 0 → IsUnder parent y x → ⊥
never_zero y x e ne self = ne e
never_zero y x e ne (step pos p) = omega arith

under_or : {parent : ℕ → ℕ} {y : ℕ} (x : ℕ) → Rooted parent y → IsUnder parent y x ⊎ (IsUnder parent y x → ⊥)
under_or {parent} x top =
    elim (cases_eq x 0) [ inl e ↦ inl (subst (λ v. IsUnder parent 0 v) (sym e) self) | inr ne ↦ inr (never_zero 0 x refl ne) ]
under_or {parent} x (raise {x = y} pos r) = elim (cases_eq y x) [
  | inl e ↦ inl (subst (λ v. IsUnder parent y v) e self)
  | inr ne ↦ elim (under_or x r) [ inl u ↦ inl (step pos u) | inr no_way ↦ inr (λ u. no_way (parent_up y x ne u)) ]
]
  where
    parent_up : (y x : ℕ) → y ≢ x → IsUnder parent y x → IsUnder parent (parent y) x
    parent_up y x ne self = absurd (ne refl)
    parent_up y x ne (step p w) = w

pub totals_below : (a b : ℕ → ℕ) (n : ℕ) → ((v : ℕ) → v < n → a v ≤ b v) → total a n ≤ total b n
totals_below a b zero each = omega arith
totals_below a b (suc m) each = let h = each m (omega arith) in let r = totals_below a b m (λ v l. each v (omega arith)) in omega arith

bit-le : (b : Bool) (size : ℕ) → bit b size ≤ size
bit-le true size = omega arith
bit-le false size = omega arith

sum_append : (f : ℕ → ℕ) (xs ys : List ℕ) → sum_out f (xs ++ ys) ≡ sum_out f xs + sum_out f ys
sum_append f [] ys = omega arith
sum_append f (x ∷ xs) ys = let r = sum_append f xs ys in omega arith

totals_less : (a b : ℕ → ℕ) (n x : ℕ) → x < n → ((v : ℕ) → v < n → a v ≤ b v) → a x < b x → total a n < total b n
totals_less a b zero x l each lt = absurd (omega arith)
totals_less a b (suc m) x l each lt = elim (cases_eq x m) [
  | inl e ↦ (let r = totals_below a b m (λ v k. each v (omega arith)) in let h : a m < b m = subst (λ v. a v < b v) e lt in omega arith)
  | inr ne ↦ (let r = totals_less a b m x (omega arith) (λ v k. each v (omega arith)) lt in let h = each m (omega arith) in omega arith)
]

bits_few : (p : ℕ → Bool) (n : ℕ) → total (λ v. bit (p v) 1) n ≤ n
bits_few p zero = omega arith
bits_few p (suc m) = let r = bits_few p m in let h = one (p m) in omega arith
  where
    one : (b : Bool) → bit b 1 ≤ 1
    one true = omega arith
    one false = omega arith

ones : (xs : List ℕ) → sum_out (λ v. 1) xs ≡ length xs
ones [] = refl
ones (x ∷ xs) = let r = ones xs in omega arith

-- a list of different numbers below n is no longer than n
pub few_once : (n : ℕ) (xs : List ℕ) → Once xs → ((d : ℕ) → Member d xs → d < n) → length xs ≤ n
few_once n xs o low = let s = sum_stands (λ v. 1) n xs o low in let b = bits_few (λ v. stands v xs) n in let e = ones xs in omega arith

module _ (n : ℕ) (parent : ℕ → ℕ) (kids : ℕ → List ℕ) (forest : IsForest n parent)
    (exact : (x : ℕ) → x < n → (c : ℕ) → Member c (kids x) ↔ (IsNode n c × (parent c ≡ x))) where
  mark : ℕ → ℕ → ℕ
  mark x y = elim (cases_lt y n) [
    | inl l ↦ elim (under_or {parent = parent} {y = y} x (forest.rooted y l)) [ inl u ↦ 1 | inr no_way ↦ 0 ]
    | inr g ↦ 0
  ]

  mark_one : (x y : ℕ) → y < n → IsUnder parent y x → mark x y ≡ 1
  unfolding mark
  mark_one x y l u = go (cases_lt y n)
    where
      inner : (d : IsUnder parent y x ⊎ (IsUnder parent y x → ⊥)) → (elim d as (λ v. ℕ) [ inl w ↦ 1 | inr no_way ↦ 0 ]) ≡ 1
      inner (inl w) = refl
      inner (inr no_way) = absurd (no_way u)

      go : (d : (y < n) ⊎ (n ≤ y))
          → (elim d as (λ v. ℕ) [
            | inl l ↦ elim (under_or {parent = parent} {y = y} x (forest.rooted y l)) as (λ v. ℕ) [ inl u ↦ 1 | inr no_way ↦ 0 ]
            | inr g ↦ 0
          ]) ≡ 1
      go (inl l') = inner (under_or {parent = parent} {y = y} x (forest.rooted y l'))
      go (inr g) = absurd (omega arith)

  mark_none : (x y : ℕ) → (IsUnder parent y x → ⊥) → mark x y ≡ 0
  unfolding mark
  mark_none x y no_one = go (cases_lt y n)
    where
      inner : (d : IsUnder parent y x ⊎ (IsUnder parent y x → ⊥)) → (elim d as (λ v. ℕ) [ inl w ↦ 1 | inr no_way ↦ 0 ]) ≡ 0
      inner (inl w) = absurd (no_one w)
      inner (inr no_way) = refl

      go : (d : (y < n) ⊎ (n ≤ y))
          → (elim d as (λ v. ℕ) [
            | inl l ↦ elim (under_or {parent = parent} {y = y} x (forest.rooted y l)) as (λ v. ℕ) [ inl u ↦ 1 | inr no_way ↦ 0 ]
            | inr g ↦ 0
          ]) ≡ 0
      go (inl l') = inner (under_or {parent = parent} {y = y} x (forest.rooted y l'))
      go (inr g) = refl

  pub weight : ℕ → ℕ
  weight x = total (mark x) n

  pub lighter : (x c : ℕ) → x < n → IsNode n c → parent c ≡ x → weight c < weight x
  unfolding weight
  lighter x c l nc e = totals_less (mark c) (mark x) n x l each here
    where
      each : (y : ℕ) → y < n → mark c y ≤ mark x y
      each y ly = elim (under_or {parent = parent} {y = y} c (forest.rooted y ly)) [
        | inl u ↦
            (let a = mark_one c y ly u in
            let b = mark_one x y ly (under_trans u (step nc.0 (subst (λ v. IsUnder parent v x) (sym e) self))) in omega arith)
        | inr no_way ↦ (let a = mark_none c y no_way in omega arith)
      ]

      here : mark c x < mark x x
      here =
          let a = mark_none c x (λ u. no_cycle (forest.rooted c nc.1) nc.0 (subst (λ v. IsUnder parent v c) (sym e) u)) in
          let b = mark_one x x l self in
          omega arith

  each_listed : (cs : List ℕ) → ((c : ℕ) → Member c cs → (o : List ℕ) × Listed kids c o) → (o : List ℕ) × ListedAll kids cs o
  each_listed [] one = ([], none)
  each_listed (c ∷ cs) one =
      let a = one c (inl refl) in
      let r = each_listed cs (λ d m. one d (inr m)) in
      (a.0 ++ r.0, more {c = c} {cs = cs} {o = a.0} {os = r.0} a.1 r.1)

  is_listed : (m x : ℕ) → x < n → weight x < m → (o : List ℕ) × Listed kids x o
  is_listed zero x l w = absurd (omega arith)
  is_listed (suc m) x l w =
      let r =
      each_listed (kids x) (λ c k. let h = (exact x l c).0 k in let lt = lighter x c l h.0 h.1 in is_listed m c h.0.1 (omega arith)) in
      (r.0 ++ x ∷ [], node {x = x} {o = r.0} r.1)

  pub has_listing : (o : List ℕ) × ListedAll kids (kids 0) o
  has_listing = each_listed (kids 0) (λ c k. let h = (exact 0 forest.some c).0 k in is_listed (suc (weight c)) c h.0.1 (omega arith))

  -- ---- what the nodes of a subtree come to

  module _ (size : ℕ → ℕ) where
    -- the sizes of x and of the nodes below it, so many levels deep
    heavy : ℕ → ℕ → ℕ
    heavy zero x = 0
    heavy (suc m) x = size x + sum_out (heavy m) (kids x)

    mutual
      unfolding heavy

      heavy_one : (m x : ℕ) (o : List ℕ) → Listed kids x o → x < n → weight x < m → heavy m x ≡ sum_out size o
      heavy_one zero x o listed l w = absurd (omega arith)
      heavy_one (suc m) x o (node {x = y} {o = p} all) l w =
          let below = heavy_all (λ c. m) (kids y) p all
          (λ c k. let h = (exact y l c).0 k in let lt = lighter y c l h.0 h.1 in (h.0.1, omega arith)) in
          let parts = sum_append size p (y ∷ []) in
          omega arith

      heavy_all : (f : ℕ → ℕ) (cs o : List ℕ) → ListedAll kids cs o
          → ((c : ℕ) → Member c cs → (c < n) × (weight c < f c)) → sum_out (λ c. heavy (f c) c) cs ≡ sum_out size o
      heavy_all f cs o none each = refl
      heavy_all f cs o (more {c = c} {cs = ds} {o = p} {os = q} first others) each =
          let here = each c (inl refl) in
          let one = heavy_one (f c) c p first here.0 here.1 in
          let rest = heavy_all f ds q others (λ d m. each d (inr m)) in
          let parts = sum_append size p q in
          omega arith

    pub whole : ℕ → ℕ
    whole x = heavy (suc (weight x)) x

    children_listed : (x : ℕ) → x < n → (o : List ℕ) × ListedAll kids (kids x) o
    children_listed x l = each_listed (kids x) (λ c k. let h = (exact x l c).0 k in is_listed (suc (weight c)) c h.0.1 (omega arith))

    pub whole_row : (x : ℕ) → x < n → whole x ≡ size x + sum_out whole (kids x)
    unfolding whole heavy
    whole_row x l =
        let o = children_listed x l in
        let one = heavy_all (λ c. weight x) (kids x) o.0 o.1 (λ c k. let h = (exact x l c).0 k in (h.0.1, lighter x c l h.0 h.1)) in
        let two = heavy_all (λ c. suc (weight c)) (kids x) o.0 o.1 (λ c k. let h = (exact x l c).0 k in (h.0.1, omega arith)) in
        omega arith

    pub whole_past : (x : ℕ) → kids x ≡ [] → whole x ≡ size x
    unfolding whole heavy
    whole_past x none_here = let e = ap (sum_out (heavy (weight x))) none_here in omega arith

    pub whole_low : ((x : ℕ) → x < n → Once (kids x)) → size 0 ≡ 0 → (x : ℕ) → x < n → whole x ≤ total size n
    unfolding whole
    whole_low once zero_size x l =
        let o = children_listed x l in
        let row = row_of n parent kids forest exact once x l in
        let is : whole x ≡ size x + sum_out size o.0 = whole_row x l
        ∙ (let e = heavy_all (λ c. suc (weight c)) (kids x) o.0 o.1 (λ c k. let h = (exact x l c).0 k in (h.0.1, omega arith)) in
        ap (λ s. size x + s) e) in
        let low = λ (y : ℕ) (m : Member y o.0). ((all_members n parent kids forest exact once x (kids x) o.0 o.1 l row y).0 m).0 in
        let all = all_once n parent kids forest exact once x (kids x) o.0 o.1 l row in
        elim (cases_eq x 0) [
          | inl e ↦ (
              let s = sum_stands size n o.0 all low in
              let b = totals_below (λ v. bit (stands v o.0) (size v)) size n (λ v k. bit-le (stands v o.0) (size v)) in
              let z = ap size e in
              omega arith
              )
          | inr ne ↦ (
              let whole_list = one_once n parent kids forest exact once x (o.0 ++ x ∷ []) (node {x = x} {o = o.0} o.1) (omega arith, l) in
              let s = sum_stands size n (o.0 ++ x ∷ []) whole_list (λ y m. elim (member_parts y o.0 (x ∷ []) m) [
                | inl a ↦ low y a
                | inr b ↦ elim b [ inl q ↦ (let k = l in omega arith) | inr z ↦ absurd z ]
              ]) in
              let b =
              totals_below (λ v. bit (stands v (o.0 ++ x ∷ [])) (size v)) size n (λ v k. bit-le (stands v (o.0 ++ x ∷ [])) (size v)) in
              let parts = sum_append size o.0 (x ∷ []) in
              omega arith
              )
        ]
