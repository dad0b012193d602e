-- No postorder has a lower peak than the best one.
use Rattle.std.proofs.Common.{sym, ◌∙◌, subst, ap, ◌+◌, ◌-◌, ◌≡◌, ◌≢◌, ◌↔◌, inl, inr, ℕ, zero, suc, ◌<◌, ◌≤◌, arith, refl, Bool}
use Rattle.std.proofs.Common.{true, false, ◌||◌, eqb, eq-eqb, eqb-true, List, [], ◌∷◌, ◌++◌, length, get_or, take, append_assoc}
use Rattle.std.proofs.lemmas.Bool.{cases_eq, cases_lt, ne_eqb}
use Rattle.std.proofs.lemmas.List.{length-append, take_more, take-append-le}
use Rattle.postorder_best.specs.BestPostorder.{children_peak, subtrees_of}
use Rattle.postorder_best.specs.Postorder.{Member, IsUnder, self, step, StandsTogether}
use Rattle.postorder_best.specs.Rows.{Once, sum_out}
use Rattle.postorder_best.proofs.Forest.{IsNode, IsForest, IsPostorder, stands, total, bit, memory, peak_from, IsBestAt}
use Rattle.postorder_best.proofs.Places.{member_left, member_right, member_parts, place_of, one_place}
use Rattle.postorder_best.proofs.Spans.{under_top, own, hi, task, bounds, no_lower}
use Rattle.postorder_best.proofs.Rearranging.{rearranged}
use Rattle.postorder_best.proofs.Exchange.{falling_least}
use Rattle.postorder_best.proofs.Steps.{totals_balance, totals_same, total_none, total_one, member_stands, no_stand, IsNext, memory-step}
use Rattle.lists.proofs.Lists.{append_nil}

-- ---- sums over children

apart_bits : (a b : Bool) (size : ℕ) → (a ≡ true → b ≡ false) → bit (a || b) size + 0 ≡ bit a size + bit b size
apart_bits true true size h = absurd (let e = h refl in cc)
apart_bits true false size h = refl
apart_bits false b size h = omega arith

pub sum_stands : (out : ℕ → ℕ) (n : ℕ) (cs : List ℕ) → Once cs
    → ((d : ℕ) → Member d cs → d < n) → total (λ w. bit (stands w cs) (out w)) n ≡ sum_out out cs
sum_stands out n [] o below = total_none (λ w. bit false (out w)) n (λ v l. refl)
sum_stands out n (c ∷ cs) o below =
    let ih = sum_stands out n cs o.1 (λ d m. below d (inr m)) in
    let one = total_one out c n (below c (inl refl)) in
    let none = total_none (λ w. 0) n (λ v l. refl) in
    let both =
    totals_balance (λ w. bit (stands w (c ∷ cs)) (out w)) (λ w. 0) (λ w. bit (eqb c w) (out w)) (λ w. bit (stands w cs) (out w)) n
    (λ w l. apart_bits (eqb c w) (stands w cs) (out w) (λ e. no_stand w cs (subst (λ v. Member v cs → ⊥) (eqb-true c w e) o.0))) in
    omega arith

pub sum_children : (n : ℕ) (parent out : ℕ → ℕ) (x : ℕ) (cs : List ℕ)
    → out 0 ≡ 0 → Once cs → ((d : ℕ) → Member d cs ↔ (IsNode n d × (parent d ≡ x)))
    → total (λ w. bit (eqb x (parent w)) (out w)) n ≡ sum_out out cs
sum_children n parent out x cs zero_out o exact =
    totals_same (λ w. bit (eqb x (parent w)) (out w)) (λ w. bit (stands w cs) (out w)) n each
    ∙ sum_stands out n cs o (λ d m. ((exact d).0 m).0.1)
  where
    zero_bit : (b : Bool) (w : ℕ) → out w ≡ 0 → bit b (out w) ≡ 0
    zero_bit true w e = e
    zero_bit false w e = refl

    each : (w : ℕ) → w < n → bit (eqb x (parent w)) (out w) ≡ bit (stands w cs) (out w)
    each w l = elim (cases_eq w 0) [
      | inl e ↦ (let z = ap out e ∙ zero_out in zero_bit (eqb x (parent w)) w z ∙ sym (zero_bit (stands w cs) w z))
      | inr ne ↦ elim (cases_eq (parent w) x) [
        | inl e ↦ (let a = member_stands w cs ((exact w).1 ((omega arith, l), e)) in rw (eq-eqb x (parent w) (sym e), a) refl)
        | inr nq ↦
            (let a = no_stand w cs (λ m. nq ((exact w).0 m).1) in
            let b : eqb x (parent w) ≡ false = ne_eqb x (parent w) (λ e. nq (sym e)) in rw (a, b) refl)
      ]
    ]

-- ---- lists and their fronts

pub once_last : (xs : List ℕ) (y : ℕ) → Once xs → (Member y xs → ⊥) → Once (xs ++ y ∷ [])
once_last [] y o none = (λ m. absurd m, tt)
once_last (x ∷ xs) y o none = (
  λ m. elim (member_parts x xs (y ∷ []) m) [ inl a ↦ o.0 a | inr b ↦ elim b [ inl e ↦ none (inl (sym e)) | inr z ↦ absurd z ] ],
  once_last xs y o.1 (λ m. none (inr m)),
)

pub at_front : (xs ys : List ℕ) (k : ℕ) → k < length xs → get_or (xs ++ ys) k 0 ≡ get_or xs k 0
at_front [] ys k l = absurd (omega arith)
at_front (x ∷ xs) ys zero l = refl
at_front (x ∷ xs) ys (suc k) l = at_front xs ys k (omega arith)

pub at_last : (xs : List ℕ) (y k : ℕ) → k ≡ length xs → get_or (xs ++ y ∷ []) k 0 ≡ y
at_last [] y zero e = refl
at_last [] y (suc k) e = absurd (omega arith)
at_last (x ∷ xs) y zero e = absurd (omega arith)
at_last (x ∷ xs) y (suc k) e = at_last xs y k (omega arith)

past_end : (xs : List ℕ) (k : ℕ) → length xs ≤ k → get_or xs k 0 ≡ 0
past_end [] k l = refl
past_end (x ∷ xs) zero l = absurd (omega arith)
past_end (x ∷ xs) (suc k) l = past_end xs k (omega arith)

pub front_member : (xs : List ℕ) (j k : ℕ) → j < k → j < length xs → Member (get_or xs j 0) (take k xs)
front_member [] j k l h = absurd (omega arith)
front_member (x ∷ xs) j zero l h = absurd (omega arith)
front_member (x ∷ xs) zero (suc k) l h = inl refl
front_member (x ∷ xs) (suc j) (suc k) l h = inr (front_member xs j k (omega arith) (omega arith))

pub front_place : (y : ℕ) (xs : List ℕ) (k : ℕ) → Member y (take k xs) → (j : ℕ) × (j < k) × (j < length xs) × (get_or xs j 0 ≡ y)
front_place y [] zero m = absurd m
front_place y [] (suc k) m = absurd m
front_place y (x ∷ xs) zero m = absurd m
front_place y (x ∷ xs) (suc k) m = elim m [
  | inl e ↦ (0, omega arith, omega arith, sym e)
  | inr r ↦ (let p = front_place y xs k r in let a = p.1 in let b = p.2 in (suc p.0, omega arith, omega arith, p.3))
]

-- ---- the peak is no less than the memory while any task runs

at_peak : (n : ℕ) (parent out need : ℕ → ℕ) (done rest : List ℕ) (k : ℕ) → need 0 ≡ 0 → k ≤ length rest
    → memory n parent out (done ++ take k rest) + need (get_or rest k 0) ≤ peak_from n parent out need done rest
at_peak n parent out need done [] zero z l = let e = ap (memory n parent out) (append_nil done) in omega arith
at_peak n parent out need done [] (suc k) z l = absurd (omega arith)
at_peak n parent out need done (v ∷ vs) zero z l = let e = ap (memory n parent out) (append_nil done) in omega arith
at_peak n parent out need done (v ∷ vs) (suc k) z l =
    let r = at_peak n parent out need (done ++ v ∷ []) vs k z (omega arith) in
    let e = ap (memory n parent out) (append_assoc done (v ∷ []) (take k vs)) in
    omega arith

-- ---- the theorem

module _ (n : ℕ) (parent out need best : ℕ → ℕ) (kids : ℕ → List ℕ)
    (forest : IsForest n parent) (zero_out : out 0 ≡ 0) (zero_need : need 0 ≡ 0)
    (best_at : (x : ℕ) → x < n → IsBestAt n parent out need best kids x) (order : List ℕ) (post : IsPostorder n parent order) where
  abbrev whole : List ℕ
  whole = order ++ 0 ∷ []

  size : length whole ≡ length order + 1
  size = length-append order (0 ∷ [])

  inside : (x : ℕ) → 0 < x → x < n → parent x < n
  inside x p l = forest.inside x (p, l)

  no_zero : Member 0 order → ⊥
  no_zero m = let l = ((post.traversal.all 0).1 m).0 in omega arith

  once : Once whole
  once = once_last order 0 post.traversal.once no_zero

  all : (x : ℕ) → (x < n) ↔ Member x whole
  all x = (
    (λ l. elim (cases_eq x 0) [
      | inl e ↦ member_right x order (0 ∷ []) (inl e)
      | inr ne ↦ member_left x order (0 ∷ []) ((post.traversal.all x).0 (omega arith, l))
    ]),
    (λ m. elim (member_parts x order (0 ∷ []) m) [
      | inl a ↦ ((post.traversal.all x).1 a).1
      | inr b ↦ elim b [ inl e ↦ (let s = forest.some in omega arith) | inr z ↦ absurd z ]
    ]),
  )

  early : (i j : ℕ) → i < length whole → j < length whole → 0 < get_or whole i 0 → parent (get_or whole i 0) ≡ get_or whole j 0 → i < j
  early i j li lj pos e =
      let s = size in
      elim (cases_lt i (length order)) [
        | inl fi ↦ elim (cases_lt j (length order)) [
          | inl fj ↦ post.traversal.early i j fi fj (ap parent (sym (at_front order (0 ∷ []) i fi)) ∙ e ∙ at_front order (0 ∷ []) j fj)
          | inr gj ↦ omega arith
        ]
        | inr gi ↦ (let z = at_last order 0 i (omega arith) in absurd (omega arith))
      ]

  together : (x : ℕ) → x < n → StandsTogether parent whole x
  together x l = elim (cases_eq x 0) [
    | inl e ↦ record {
      before = [];
      block = whole;
      after = [];
      parts = sym (append_nil whole);
      exact = λ y. ((λ m. (m, subst (λ v. IsUnder parent y v) (sym e) (under_top (forest.rooted y ((all y).1 m))))), λ h. h.0);
    }
    | inr ne ↦ (
        let t = post.together x (omega arith, l) in
        record {
          before = t.before;
          block = t.block;
          after = t.after ++ 0 ∷ [];
          parts = ap (λ v. v ++ 0 ∷ []) t.parts ∙ append_assoc t.before (t.block ++ t.after) (0 ∷ [])
              ∙ ap (λ v. t.before ++ v) (append_assoc t.block t.after (0 ∷ []));
          exact = λ y. (
            (λ m. let p = (t.exact y).0 m in (member_left y order (0 ∷ []) p.0, p.1)),
            (λ h. elim (member_parts y order (0 ∷ []) h.0) [
              | inl a ↦ (t.exact y).1 (a, h.1)
              | inr b ↦ elim b [ inl z ↦ absurd (not_zero x ne (subst (λ v. IsUnder parent v x) z h.1)) | inr z ↦ absurd z ]
            ]),
          );
        }
        )
  ]
    where
      go : (y x : ℕ) → y ≡ 0 → x ≢ 0 → IsUnder parent y x → ⊥
      go y x e ne self = ne e
      go y x e ne (step pos p) = omega arith

      not_zero : (x : ℕ) → x ≢ 0 → IsUnder parent 0 x → ⊥
      not_zero x ne u = go 0 x refl ne u

  next : (x k : ℕ) → x < n → k < length whole → get_or whole k 0 ≡ x → IsNext n parent (take k whole) x
  next x k l lk at = record {
    new = λ m. let p = front_place x whole k m in let a = p.1 in let e = one_place whole p.0 k once p.2 lk (p.3 ∙ sym at) in omega arith;
    children = λ w node up.
        let p = place_of w whole ((all w).0 node.1) in
        let lt = early p.0 k p.1 lk (subst (λ v. 0 < v) (sym p.2) node.0) (ap parent p.2 ∙ up ∙ sym at) in
        subst (λ v. Member v (take k whole)) p.2 (front_member whole p.0 k lt p.1);
    above = λ pos m.
        let p = front_place (parent x) whole k m in
        let a = p.1 in
        let lt = early k p.0 lk p.2 (subst (λ v. 0 < v) (sym at) pos) (ap parent at ∙ sym p.3) in
        omega arith;
    before = λ w node m.
        let q = front_place (parent w) whole k m in
        let p = place_of w whole ((all w).0 node.1) in
        let a = q.1 in
        let lt = early p.0 q.0 p.1 q.2 (subst (λ v. 0 < v) (sym p.2) node.0) (ap parent p.2 ∙ sym q.3) in
        subst (λ v. Member v (take k whole)) p.2 (front_member whole p.0 k (omega arith) p.1);
  }

  mem : ℕ → ℕ
  mem k = memory n parent out (take k whole)

  settles : (x : ℕ) (cs : List ℕ) → x < n → Once cs → ((d : ℕ) → Member d cs ↔ (IsNode n d × (parent d ≡ x)))
      → mem (hi n parent whole inside once all early together x) + sum_out out cs
      ≡ mem (hi n parent whole inside once all early together x - 1) + out x
  unfolding mem task
  settles x cs l o exact =
      let h : ℕ = hi n parent whole inside once all early together x in
      let b = bounds n parent whole inside once all early together x l in
      let at : get_or whole (h - 1) 0 ≡ x = own n parent whole inside once all early together x l in
      let lk : h - 1 < length whole = omega arith in
      let e : h - 1 + 1 ≡ h = omega arith in
      let more : take h whole ≡ take (h - 1) whole ++ x ∷ [] =
      ap (λ v. take v whole) (sym e) ∙ take_more whole (h - 1) 0 lk ∙ ap (λ v. take (h - 1) whole ++ v ∷ []) at in
      let s = memory-step n parent out (take (h - 1) whole) x l zero_out (next x (h - 1) l lk at) in
      let u = sum_children n parent out x cs zero_out o exact in
      let m = ap (memory n parent out) more in
      omega arith

  least : (x : ℕ) (cs : List ℕ) → x < n → Once cs → ((d : ℕ) → Member d cs ↔ (IsNode n d × (parent d ≡ x)))
      → best x ≤ children_peak (need x) (subtrees_of best out cs)
  least x cs l o exact =
      let b = best_at x l in
      let r = rearranged (λ c. record { peak = best c; out = out c }) cs (kids x) o b.once
      (λ d m. (b.exact d).1 ((exact d).0 m)) (λ d m. (exact d).1 ((b.exact d).0 m)) in
      let f = falling_least (need x) (subtrees_of best out cs) (subtrees_of best out (kids x)) b.falling r in
      let e = b.peak in
      omega arith

  pub best_is_least : best 0 ≤ peak_from n parent out need [] order
  unfolding mem task
  best_is_least =
      let some = forest.some in
      let b = bounds n parent whole inside once all early together 0 some in
      let r = (no_lower n parent whole inside once all early together mem need out best settles least
      (hi n parent whole inside once all early together 0) 0 (omega arith) some).1 in
      let k = r.0 in
      let s = size in
      let below = r.2 in
      let p = at_peak n parent out need [] order r.0 zero_need (omega arith) in
      let front : take r.0 whole ≡ take r.0 order = take-append-le r.0 order (0 ∷ []) (omega arith) in
      let same = ap (memory n parent out) front in
      let last : get_or whole r.0 0 ≡ get_or order r.0 0 = elim (cases_lt r.0 (length order)) [
        | inl a ↦ at_front order (0 ∷ []) r.0 a
        | inr g ↦ at_last order 0 r.0 (omega arith) ∙ sym (past_end order r.0 g)
      ] in
      let needs = ap need last in
      let w = r.3 in
      omega arith
