-- The columns of a fundamental supernode are consecutive numbers.
use Rattle.std.proofs.Common.{sym, ◌∙◌, subst, ap, ◌≡◌, inl, inr, ℕ, zero, suc, ◌+◌, ◌-◌, ◌<◌, ◌≤◌, Bool, true, false, cond}
use Rattle.std.proofs.Common.{◌==◌, List, [], ◌∷◌, ◌++◌, length, filter, arith, refl}
use Rattle.std.specs.List.{range_with_len}
use Rattle.std.proofs.lemmas.Bool.{cases_lt, eq-eqb, ne_eqb}
use Rattle.std.proofs.lemmas.List.{map-id, append-nil, get_or_past}
use Rattle.std.proofs.lemmas.List.Elements.{filter-append}
use Rattle.std.proofs.lemmas.List.FromFn.{map-range_with_len_more}
use Rattle.elim_tree.specs.Trees.{IsForest}
use Rattle.assembly_tree.specs.Assembly.{AssemblyTree, IsSuper, super_at, super_of}
use Rattle.assembly_tree.specs.Supernodes.{first_of, last_of, AreSupernodes}
use Rattle.assembly_tree.proofs.RunLemmas.{last-more, last-within}
use Rattle.equivalent_orders.specs.Fronts.{columns_in_front}
use Rattle.equivalent_orders.proofs.FrontPaths.{in_front}

range_next : (a i : ℕ) → range_with_len a (i + 1) ≡ range_with_len a i ++ (a + i) ∷ []
range_next a i =
    sym (map-id (range_with_len a (i + 1))) ∙ map-range_with_len_more (λ (x : ℕ). x) a i (a + i) refl
    ∙ ap (λ (ys : List ℕ). ys ++ (a + i) ∷ []) (map-id (range_with_len a i))

-- a test that the c numbers after a pass, and no other
module _ (p : ℕ → Bool) (a c : ℕ) (passes : (j : ℕ) → a < j → j ≤ a + c → p j ≡ true)
    (fails_before : (j : ℕ) → 1 ≤ j → j ≤ a → p j ≡ false) where
  one_more : (i : ℕ) → filter p (range_with_len 1 (i + 1)) ≡ filter p (range_with_len 1 i) ++ cond (p (1 + i)) ((1 + i) ∷ []) []
  one_more i = ap (filter p) (range_next 1 i) ∙ filter-append p (range_with_len 1 i) ((1 + i) ∷ [])

  none_before : (i : ℕ) → i ≤ a → filter p (range_with_len 1 i) ≡ []
  none_before zero le = refl
  none_before (suc i) le =
      let up : suc i ≡ i + 1 = omega arith in
      ap (λ (m : ℕ). filter p (range_with_len 1 m)) up ∙ one_more i
      ∙ ap (λ b. filter p (range_with_len 1 i) ++ cond b ((1 + i) ∷ []) []) (fails_before (1 + i) (omega arith) (omega arith))
      ∙ append-nil (filter p (range_with_len 1 i)) ∙ none_before i (omega arith)

  those_up_to : (i : ℕ) → i ≤ c → filter p (range_with_len 1 (a + i)) ≡ range_with_len (a + 1) i
  those_up_to zero le =
      ap (λ (m : ℕ). filter p (range_with_len 1 m)) (let e : a + 0 ≡ a = omega arith in e) ∙ none_before a (omega arith)
  those_up_to (suc i) le =
      let up : a + suc i ≡ a + i + 1 = omega arith in
      let more : i + 1 ≡ suc i = omega arith in
      let here : 1 + (a + i) ≡ a + 1 + i = omega arith in
      ap (λ (m : ℕ). filter p (range_with_len 1 m)) up ∙ one_more (a + i)
      ∙ ap (λ b. filter p (range_with_len 1 (a + i)) ++ cond b ((1 + (a + i)) ∷ []) []) (passes (1 + (a + i)) (omega arith) (omega arith))
      ∙ ap (λ (ys : List ℕ). ys ++ (1 + (a + i)) ∷ []) (those_up_to i (omega arith))
      ∙ ap (λ (m : ℕ). range_with_len (a + 1) i ++ m ∷ []) here
      ∙ sym (range_next (a + 1) i) ∙ ap (range_with_len (a + 1)) more

  pub those_passing : (n : ℕ) → a + c ≤ n → ((j : ℕ) → a + c < j → p j ≡ false) → filter p (range_with_len 1 n) ≡ range_with_len (a + 1) c
  those_passing n le fails =
      let e : n ≡ a + c + (n - (a + c)) = omega arith in
      ap (λ (m : ℕ). filter p (range_with_len 1 m)) e ∙ beyond (n - (a + c))
    where
      beyond : (d : ℕ) → filter p (range_with_len 1 (a + c + d)) ≡ range_with_len (a + 1) c
      beyond zero =
          ap (λ (m : ℕ). filter p (range_with_len 1 m)) (let e : a + c + 0 ≡ a + c = omega arith in e) ∙ those_up_to c (omega arith)
      beyond (suc d) =
          let up : a + c + suc d ≡ a + c + d + 1 = omega arith in
          ap (λ (m : ℕ). filter p (range_with_len 1 m)) up ∙ one_more (a + c + d)
          ∙ ap (λ b. filter p (range_with_len 1 (a + c + d)) ++ cond b ((1 + (a + c + d)) ∷ []) [])
          (fails (1 + (a + c + d)) (omega arith))
          ∙ append-nil (filter p (range_with_len 1 (a + c + d))) ∙ beyond d

pub columns_of_front : (parents counts : List ℕ) (a : AssemblyTree) → IsForest parents → AreSupernodes parents counts a → (s : ℕ)
    → IsSuper a.supers s → columns_in_front a s ≡ range_with_len (first_of a.supers s) (super_at a.supers s).columns
columns_of_front parents counts a forest r s is =
    let last = last-more a.supers s is.0 is.1 in
    let within = last-within a.supers s in
    let total = r.total in
    let len = r.len in
    those_passing (λ j. super_of a.nodes j == s) (last_of a.supers (s - 1)) (super_at a.supers s).columns
    (λ j low high. eq-eqb (super_of a.nodes j) s (r.nodes s j is (omega arith) (omega arith)))
    (λ j some high. ne_eqb (super_of a.nodes j) s (λ e. absurd (
    let low = (at j s some (omega arith) e).0 in omega arith
    )))
    (length a.nodes) (omega arith)
    (λ j low. ne_eqb (super_of a.nodes j) s (λ e. elim (cases_lt (length parents) j) [
      | inl out ↦ absurd (let none = super_beyond a.nodes j (omega arith) in let some = is.0 in omega arith)
      | inr in_range ↦ absurd (let high = (at j s (omega arith) in_range e).1 in omega arith)
    ]))
  where
    at : (j s : ℕ) → 1 ≤ j → j ≤ length parents → super_of a.nodes j ≡ s → (first_of a.supers s ≤ j) × (j ≤ last_of a.supers s)
    at j s some le e =
        let there = in_front parents counts a forest r j (some, le) in (
          subst (λ t. first_of a.supers t ≤ j) e there.1,
          subst (λ t. j ≤ last_of a.supers t) e there.2,
        )

    super_beyond : (nodes : List ℕ) (j : ℕ) → length nodes < j → super_of nodes j ≡ 0
    super_beyond nodes zero lt = refl
    super_beyond nodes (suc i) lt = get_or_past nodes i 0 (omega arith)
