-- A column is taken into a row: as no leaf, as the first leaf, or as a further leaf, whose way up meets that of the last leaf. Gilbert, Ng
-- and
-- Peyton 1994. The subtree of x is the span from `first x` to x.
use Rattle.std.proofs.Common.{sym, ◌∙◌, subst, ap, ◌+◌, ◌≡◌, ◌≢◌, ◌⊎◌, inl, inr, ℕ, suc, ◌<◌, ◌≤◌, Bool, true, arith, refl, ◌==◌}
use Rattle.std.specs.Cmp.{both_ways}
use Rattle.std.proofs.lemmas.Bool.{cases_eq, cases_lt, and_parts, or_cases, and_from, or_left}
use Rattle.std.proofs.lemmas.Bool.{or_right, eq-eqb, eqb-true, false_from_ne_true}
use Rattle.column_counts.specs.Leaves.{any_in, sum_in, passing, AreLeaves, with_entry}
use Rattle.column_counts.proofs.SumLemmas.{any_from, any_to, sum_in_out, sum_in_more, passing_same, passing_more}

pub entry_old : (taken : ℕ → ℕ → Bool) (k j i y : ℕ) → taken i y ≡ true → with_entry taken k j i y ≡ true
unfolding with_entry
entry_old taken k j i y h = or_left _ _ h

pub entry_new : (taken : ℕ → ℕ → Bool) (k j : ℕ) → with_entry taken k j k j ≡ true
unfolding with_entry
entry_new taken k j = or_right _ _ (and_from _ _ (eq-eqb k k refl) (eq-eqb j j refl))

pub entry_cases : (taken : ℕ → ℕ → Bool) (k j i y : ℕ) → with_entry taken k j i y ≡ true → (taken i y ≡ true) ⊎ ((i ≡ k) × (y ≡ j))
unfolding with_entry
entry_cases taken k j i y h =
    elim (or_cases (taken i y) _ h) [
      | inl e ↦ inl e
      | inr r ↦ inr (let q = and_parts (i == k) (y == j) r in (eqb-true i k q.0, eqb-true y j q.1))
    ]

module _ (first : ℕ → ℕ) (n j k : ℕ) (kn : k < n) (pos : 0 < j) (taken : ℕ → ℕ → Bool) (last leaves meetings : ℕ → ℕ)
    (nested : (x y : ℕ) → first x ≤ y → y ≤ x → first x ≤ first y)
    (own : (x : ℕ) → first x ≤ x) (st : AreLeaves first n j taken last leaves meetings) where
  other_row : (x i : ℕ) → i ≢ k → any_in (with_entry taken k j i) (first x) (suc x) ≡ any_in (taken i) (first x) (suc x)
  other_row x i ne =
      both_ways _ _
      (λ h. let y = any_to (with_entry taken k j i) (first x) (suc x) h in
      elim (entry_cases taken k j i y.0 y.3) [ inl e ↦ any_from (taken i) (first x) (suc x) y.0 y.1 y.2 e | inr q ↦ absurd (ne q.0) ])
      (λ h. let y = any_to (taken i) (first x) (suc x) h in
      any_from (with_entry taken k j i) (first x) (suc x) y.0 y.1 y.2 (entry_old taken k j i y.0 y.3))

  -- no new hit where j is outside, or where the row was hit already
  same_row : (x : ℕ) → ((first x ≤ j) → (j ≤ x) → any_in (taken k) (first x) (suc x) ≡ true)
      → any_in (with_entry taken k j k) (first x) (suc x) ≡ any_in (taken k) (first x) (suc x)
  same_row x old =
      both_ways _ _
      (λ h. let y = any_to (with_entry taken k j k) (first x) (suc x) h in
      elim (entry_cases taken k j k y.0 y.3) [
        | inl e ↦ any_from (taken k) (first x) (suc x) y.0 y.1 y.2 e
        | inr q ↦ let a = y.1 in let b = y.2 in let c = q.1 in old (omega arith) (omega arith)
      ])
      (λ h. let y = any_to (taken k) (first x) (suc x) h in
      any_from (with_entry taken k j k) (first x) (suc x) y.0 y.1 y.2 (entry_old taken k j k y.0 y.3))

  passing_kept : (x : ℕ) → ((first x ≤ j) → (j ≤ x) → any_in (taken k) (first x) (suc x) ≡ true)
      → passing (λ i. any_in (with_entry taken k j i) (first x) (suc x)) n ≡ passing (λ i. any_in (taken i) (first x) (suc x)) n
  passing_kept x old =
      passing_same (λ i. any_in (with_entry taken k j i) (first x) (suc x)) (λ i. any_in (taken i) (first x) (suc x)) n
      (λ i. elim (cases_eq i k) [
        | inl e ↦
            subst (λ v. any_in (with_entry taken k j v) (first x) (suc x) ≡ any_in (taken v) (first x) (suc x)) (sym e) (same_row x old)
        | inr ne ↦ other_row x i ne
      ])

  passing_grown : (x : ℕ) → first x ≤ j → j ≤ x → (any_in (taken k) (first x) (suc x) ≡ true → ⊥)
      → passing (λ i. any_in (with_entry taken k j i) (first x) (suc x)) n ≡ passing (λ i. any_in (taken i) (first x) (suc x)) n + 1
  passing_grown x a b unhit =
      passing_more (λ i. any_in (taken i) (first x) (suc x)) (λ i. any_in (with_entry taken k j i) (first x) (suc x)) k n kn
      (false_from_ne_true _ unhit)
      (any_from (with_entry taken k j k) (first x) (suc x) j a (omega arith) (entry_new taken k j)) (λ i ne. other_row x i ne)

  until' : (i y : ℕ) → with_entry taken k j i y ≡ true → y ≤ j
  until' i y h = elim (entry_cases taken k j i y h) [ inl e ↦ st.until i y e | inr q ↦ let e = q.1 in omega arith ]

  -- the last leaf of row k stands below j: nothing is new
  pub no_leaf : 0 < last k → first j ≤ last k → AreLeaves first n j (with_entry taken k j) last leaves meetings
  no_leaf some under =
      let here = st.until k (last k) (st.leaf k some) in
      record {
        balance = λ x xn. st.balance x xn ∙ ap (λ v. v + sum_in meetings (first x) (suc x))
            (sym (passing_kept x (λ a b.
            any_from (taken k) (first x) (suc x) (last k) (let w = nested x j a b in omega arith) (omega arith) (st.leaf k some))));
        until = until';
        none = λ i e y h.
            elim (entry_cases taken k j i y h) [ inl q ↦ st.none i e y q | inr q ↦ let z = ap last (sym q.0) ∙ e in absurd (omega arith) ];
        leaf = λ i p. entry_old taken k j i (last i) (st.leaf i p);
        covers = λ i y x h le a. elim (entry_cases taken k j i y h) [
          | inl q ↦ st.covers i y x q le a
          | inr q ↦ let e = q.1 in let w = nested x j (omega arith) le in let z = ap last q.0 in omega arith
        ];
      }

  module _ (last' leaves' : ℕ → ℕ) (last_here : last' k ≡ j) (last_other : (i : ℕ) → i ≢ k → last' i ≡ last i)
      (leaves_here : leaves' j ≡ leaves j + 1) (leaves_other : (d : ℕ) → d ≢ j → leaves' d ≡ leaves d) where
    none' : (i : ℕ) → last' i ≡ 0 → (y : ℕ) → ¬ (with_entry taken k j i y ≡ true)
    none' i e y h =
        elim (cases_eq i k) [
          | inl q ↦ let z = ap last' q ∙ last_here in absurd (omega arith)
          | inr ne ↦ elim (entry_cases taken k j i y h) [ inl q ↦ st.none i (sym (last_other i ne) ∙ e) y q | inr q ↦ ne q.0 ]
        ]

    leaf' : (i : ℕ) → 0 < last' i → with_entry taken k j i (last' i) ≡ true
    leaf' i p =
        elim (cases_eq i k) [
          | inl q ↦ let z = ap last' q ∙ last_here in rw (z, q) (entry_new taken k j)
          | inr ne ↦ let z = last_other i ne in rw z (entry_old taken k j i (last i) (st.leaf i (omega arith)))
        ]

    covers' : (i y x : ℕ) → with_entry taken k j i y ≡ true → j ≤ x → first x ≤ y → first x ≤ last' i
    covers' i y x h le a =
        elim (cases_eq i k) [
          | inl q ↦ let z = ap last' q ∙ last_here in let u = until' i y h in omega arith
          | inr ne ↦ elim (entry_cases taken k j i y h) [
            | inl e ↦ let z = last_other i ne in let w = st.covers i y x e le a in omega arith
            | inr q ↦ absurd (ne q.0)
          ]
        ]

    -- the first leaf of row k
    pub first_leaf : last k ≡ 0 → AreLeaves first n j (with_entry taken k j) last' leaves' meetings
    first_leaf lone = record {
      balance = λ x xn. elim (cases_lt j (first x)) [
        | inl out ↦ sum_in_out leaves leaves' j (first x) (suc x) leaves_other (inl out) ∙ st.balance x xn
            ∙ ap (λ v. v + sum_in meetings (first x) (suc x)) (sym (passing_kept x (λ a b. absurd (omega arith))))
        | inr a ↦ elim (cases_lt x j) [
          | inl out ↦ sum_in_out leaves leaves' j (first x) (suc x) leaves_other (inr (omega arith)) ∙ st.balance x xn
              ∙ ap (λ v. v + sum_in meetings (first x) (suc x)) (sym (passing_kept x (λ a b. absurd (omega arith))))
          | inr b ↦
              let s = sum_in_more leaves leaves' j (first x) (suc x) leaves_other leaves_here a (omega arith) in
              let r = passing_grown x a b (λ h. let y = any_to (taken k) (first x) (suc x) h in st.none k lone y.0 y.3) in
              let t = st.balance x xn in
              omega arith
        ]
      ];
      until = until';
      none = none';
      leaf = leaf';
      covers = covers';
    }

    -- a further leaf, cut at q, the least column above the last leaf that is not below j
    pub further_leaf : 0 < last k → last k < first j → (q : ℕ) → j ≤ q
        → first q ≤ last k → ((z : ℕ) → z < n → j ≤ z → first z ≤ last k → q ≤ z)
        → (meetings' : ℕ → ℕ) → meetings' q ≡ meetings q + 1 → ((d : ℕ) → d ≢ q → meetings' d ≡ meetings d)
        → AreLeaves first n j (with_entry taken k j) last' leaves' meetings'
    further_leaf some over q jq fq least meetings' meetings_here meetings_other =
        let pj = own j in
        let lk = st.leaf k some in
        record {
          balance = λ x xn.
              let t = st.balance x xn in
              elim (cases_lt j (first x)) [
                | inl out ↦
                    let s = sum_in_out leaves leaves' j (first x) (suc x) leaves_other (inl out) in
                    let r = passing_kept x (λ a b. absurd (omega arith)) in
                    let m = sum_in_out meetings meetings' q (first x) (suc x) meetings_other (elim (cases_lt x q) [
                      | inl l ↦ inr (omega arith)
                      | inr l ↦
                          elim (cases_lt q (first x)) [ inl l' ↦ inl l' | inr l' ↦ let w = nested x q l' l in absurd (omega arith) ]
                    ]) in
                    omega arith
                | inr a ↦ elim (cases_lt x j) [
                  | inl out ↦
                      let s = sum_in_out leaves leaves' j (first x) (suc x) leaves_other (inr (omega arith)) in
                      let r = passing_kept x (λ a b. absurd (omega arith)) in
                      let m = sum_in_out meetings meetings' q (first x) (suc x) meetings_other (inr (omega arith)) in
                      omega arith
                  | inr b ↦
                      let s = sum_in_more leaves leaves' j (first x) (suc x) leaves_other leaves_here a (omega arith) in
                      elim (cases_lt (last k) (first x)) [
                        | inl new ↦
                            let qx : x < q =
                            elim (cases_lt x q) [ inl l ↦ l | inr l ↦ let w = nested x q (omega arith) l in absurd (omega arith) ] in
                            let r = passing_grown x a b
                            (λ h. let y = any_to (taken k) (first x) (suc x) h in
                            let w = st.covers k y.0 x y.3 b y.1 in omega arith) in
                            let m = sum_in_out meetings meetings' q (first x) (suc x) meetings_other (inr (omega arith)) in
                            omega arith
                        | inr old ↦
                            let qx = least x xn b old in
                            let r = passing_kept x (λ a' b'. any_from (taken k) (first x) (suc x) (last k) old (omega arith) lk) in
                            let m = sum_in_more meetings meetings' q (first x)
                            (suc x) meetings_other meetings_here (omega arith) (omega arith) in
                            omega arith
                      ]
                ]
              ];
          until = until';
          none = none';
          leaf = leaf';
          covers = covers';
        }
