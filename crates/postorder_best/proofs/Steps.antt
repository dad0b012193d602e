-- One task's step of the memory, and sums over children.
use Rattle.std.proofs.Common.{sym, ◌∙◌, subst, ap, ◌+◌, ◌≡◌, ◌≢◌, inl, inr, ℕ, zero, suc, ◌<◌, arith, refl, Bool}
use Rattle.std.proofs.Common.{true, false, cond, not, ◌&&◌, ◌||◌, eqb, eq-eqb, eqb-true, List, [], ◌∷◌, ◌++◌}
use Rattle.std.proofs.lemmas.Bool.{cases_eq, ne_eqb}
use Rattle.std.proofs.lemmas.List.Folds.{list_any-append}
use Rattle.postorder_best.specs.Postorder.{Member}
use Rattle.postorder_best.proofs.Forest.{IsNode, stands, total, bit, memory}
use Rattle.lists.proofs.Bools.{or_false, true_or_false}

-- whether an item was made, was used up, is made by the task, is used by it
pub record Place (stood gone made used : Bool) : Type 0 where
  pub order : gone ≡ true → stood ≡ true
  pub new_made : made ≡ true → stood ≡ false
  pub new_used : used ≡ true → gone ≡ false
  pub ready : used ≡ true → stood ≡ true

pub balance : (stood gone made used : Bool) (size : ℕ) → Place stood gone made used
    → cond ((stood || made) && not (gone || used)) size 0 + cond used size 0 ≡ cond (stood && not gone) size 0 + cond made size 0
balance true true made true size p = absurd (let h = p.new_used refl in cc)
balance true true true false size p = absurd (let h = p.new_made refl in cc)
balance true true false false size p = refl
balance true false true used size p = absurd (let h = p.new_made refl in cc)
balance true false false true size p = omega arith
balance true false false false size p = refl
balance false true made used size p = absurd (let h = p.order refl in cc)
balance false false made true size p = absurd (let h = p.ready refl in cc)
balance false false true false size p = omega arith
balance false false false false size p = refl

pub totals_balance : (a b c d : ℕ → ℕ) (n : ℕ) → ((v : ℕ) → v < n → a v + b v ≡ c v + d v) → total a n + total b n ≡ total c n + total d n
totals_balance a b c d zero each = refl
totals_balance a b c d (suc m) each = let h = each m (omega arith) in
    let r = totals_balance a b c d m (λ v l. each v (omega arith)) in
    omega arith

pub totals_same : (a b : ℕ → ℕ) (n : ℕ) → ((v : ℕ) → v < n → a v ≡ b v) → total a n ≡ total b n
totals_same a b zero each = refl
totals_same a b (suc m) each = let h = each m (omega arith) in let r = totals_same a b m (λ v l. each v (omega arith)) in omega arith

pub total_none : (a : ℕ → ℕ) (n : ℕ) → ((v : ℕ) → v < n → a v ≡ 0) → total a n ≡ 0
total_none a zero each = refl
total_none a (suc m) each = let h = each m (omega arith) in let r = total_none a m (λ v l. each v (omega arith)) in omega arith

pub total_one : (f : ℕ → ℕ) (x n : ℕ) → x < n → total (λ v. bit (eqb x v) (f v)) n ≡ f x
total_one f x zero l = absurd (omega arith)
total_one f x (suc m) l = elim (cases_eq x m) [
  | inl e ↦ (
      let here : bit (eqb x m) (f m) ≡ f m = rw (eq-eqb x m e) refl in
      let none = total_none (λ v. bit (eqb x v) (f v)) m (λ v lv. let ne : x ≢ v = omega arith in rw (ne_eqb x v ne) refl) in
      let same : f m ≡ f x = ap f (sym e) in
      omega arith
      )
  | inr ne ↦ (
      let here : bit (eqb x m) (f m) ≡ 0 = rw (ne_eqb x m ne) refl in
      let r = total_one f x m (omega arith) in
      omega arith
      )
]

-- ---- members and tests

pub stands_member : (v : ℕ) (vs : List ℕ) → stands v vs ≡ true → Member v vs
stands_member v [] e = absurd cc
stands_member v (u ∷ us) e = elim (true_or_false (eqb u v)) [
  | inl same ↦ inl (sym (eqb-true u v same))
  | inr other ↦ inr (stands_member v us (rw other at e))
]

pub member_stands : (v : ℕ) (vs : List ℕ) → Member v vs → stands v vs ≡ true
member_stands v [] m = absurd m
member_stands v (u ∷ us) m = elim m [
  | inl e ↦ rw (eq-eqb u v (sym e)) refl
  | inr r ↦ (elim (eqb u v) as (λ b. (b || stands v us) ≡ true) [ true ↦ refl | false ↦ member_stands v us r ])
]

pub no_stand : (v : ℕ) (vs : List ℕ) → (Member v vs → ⊥) → stands v vs ≡ false
no_stand v vs none = elim (true_or_false (stands v vs)) [ inl y ↦ absurd (none (stands_member v vs y)) | inr n ↦ n ]

pub stands-push : (u v : ℕ) (done : List ℕ) → stands u (done ++ v ∷ []) ≡ (stands u done || eqb v u)
stands-push u v done = list_any-append (λ w. eqb w u) done (v ∷ []) ∙ ap (λ (b : Bool). stands u done || b) (or_false (eqb v u))

-- ---- the step

-- v runs after the tasks of done
pub record IsNext (n : ℕ) (parent : ℕ → ℕ) (done : List ℕ) (v : ℕ) : Type 0 where
  pub new : Member v done → ⊥
  pub children : (w : ℕ) → IsNode n w → parent w ≡ v → Member w done
  pub above : 0 < v → Member (parent v) done → ⊥
  pub before : (w : ℕ) → IsNode n w → Member (parent w) done → Member w done

pub memory-step : (n : ℕ) (parent out : ℕ → ℕ) (done : List ℕ) (v : ℕ) → v < n → out 0 ≡ 0 → IsNext n parent done v
    → memory n parent out (done ++ v ∷ []) + total (λ w. bit (eqb v (parent w)) (out w)) n ≡ memory n parent out done + out v
memory-step n parent out done v l zero_out next =
    let sums = totals_balance (λ w. bit (stands w (done ++ v ∷ []) && not (stands (parent w) (done ++ v ∷ []))) (out w))
    (λ w. bit (eqb v (parent w)) (out w))
    (λ w. bit (stands w done && not (stands (parent w) done)) (out w)) (λ w. bit (eqb v w) (out w)) n each in
    let one = total_one out v n l in
    omega arith
  where
    zero_bit : (b : Bool) (w : ℕ) → out w ≡ 0 → bit b (out w) ≡ 0
    zero_bit true w e = e
    zero_bit false w e = refl

    place : (w : ℕ) → IsNode n w → Place (stands w done) (stands (parent w) done) (eqb v w) (eqb v (parent w))
    place w node = record {
      order = λ g. member_stands w done (next.before w node (stands_member (parent w) done g));
      new_made = λ e. no_stand w done (subst (λ x. Member x done → ⊥) (eqb-true v w e) next.new);
      new_used = λ e. no_stand (parent w) done (subst (λ x. Member x done → ⊥) (eqb-true v (parent w) e) next.new);
      ready = λ e. member_stands w done (next.children w node (sym (eqb-true v (parent w) e)));
    }

    each : (w : ℕ) → w < n
        → bit (stands w (done ++ v ∷ []) && not (stands (parent w) (done ++ v ∷ []))) (out w) + bit (eqb v (parent w)) (out w)
        ≡ bit (stands w done && not (stands (parent w) done)) (out w) + bit (eqb v w) (out w)
    each w lw = elim (cases_eq w 0) [
      | inl e ↦ (
          let o : out w ≡ 0 = ap out e ∙ zero_out in
          let z1 = zero_bit (stands w (done ++ v ∷ []) && not (stands (parent w) (done ++ v ∷ []))) w o in
          let z2 = zero_bit (eqb v (parent w)) w o in
          let z3 = zero_bit (stands w done && not (stands (parent w) done)) w o in
          let z4 = zero_bit (eqb v w) w o in
          omega arith
          )
      | inr ne ↦ rw (stands-push w v done, stands-push (parent w) v done)
          (balance (stands w done) (stands (parent w) done) (eqb v w) (eqb v (parent w)) (out w) (place w (omega arith, lw)))
    ]
