-- The pass that counts the columns below each column: what it has counted so far, and that one column more keeps this.
use Rattle.std.proofs.Common.{add-zero, add-suc, sym, ◌∙◌, subst, ap, ◌+◌, ◌-◌, ◌≡◌, ◌≢◌}
use Rattle.std.proofs.Common.{inl, inr, ℕ, zero, suc, ◌<◌, ◌≤◌, arith, refl, cond, ◌==◌}
use Rattle.std.proofs.lemmas.Bool.{cases_eq, cond-true, cond-false, eq-eqb, ne_eqb}
use Rattle.elim_tree.specs.Spans.{in_children}

-- each parent is 0 or a greater column
abbrev pub IsRising : ℕ → (ℕ → ℕ) → Type 0
IsRising n parent = (x : ℕ) → 0 < parent x → (x < parent x) × (parent x < n)

-- ---- the columns in the subtrees of children

pub children_yes : (parent below : ℕ → ℕ) (p m : ℕ) → 0 < m → parent m ≡ p
    → in_children parent below p (suc m) ≡ below m + 1 + in_children parent below p m
unfolding in_children
children_yes parent below p m pos e =
    ap (λ v. v + in_children parent below p m)
    (cond-true (parent m == p) (cond (m == 0) 0 (below m + 1)) 0 (eq-eqb (parent m) p e)
    ∙ cond-false (m == 0) 0 (below m + 1) (ne_eqb m 0 (omega arith)))

pub children_no : (parent below : ℕ → ℕ) (p m : ℕ) → parent m ≢ p → in_children parent below p (suc m) ≡ in_children parent below p m
unfolding in_children
children_no parent below p m ne =
    ap (λ v. v + in_children parent below p m) (cond-false (parent m == p) (cond (m == 0) 0 (below m + 1)) 0 (ne_eqb (parent m) p ne))
    ∙ omega arith

-- column 0 is no child
pub children_none : (parent below : ℕ → ℕ) (p : ℕ) → in_children parent below p 1 ≡ 0
unfolding in_children
children_none parent below p =
    elim (cases_eq (parent 0) p) [
      | inl e ↦ ap (λ v. v + 0) (cond-true (parent 0 == p) 0 0 (eq-eqb (parent 0) p e))
      | inr e ↦ ap (λ v. v + 0) (cond-false (parent 0 == p) 0 0 (ne_eqb (parent 0) p e))
    ]

pub children_le : (parent below : ℕ → ℕ) (p m : ℕ) → in_children parent below p m ≤ in_children parent below p (suc m)
unfolding in_children
children_le parent below p m = omega arith

children_further : (parent below : ℕ → ℕ) (p m d : ℕ) → in_children parent below p m ≤ in_children parent below p (m + d)
children_further parent below p m zero = rw add-zero (omega arith)
children_further parent below p m (suc d) = let a = children_further parent below p m d in
    let b = children_le parent below p (m + d) in
    rw add-suc (omega arith)

pub children_to : (parent below : ℕ → ℕ) (p m k : ℕ) → m ≤ k → in_children parent below p m ≤ in_children parent below p k
children_to parent below p m k le = let a = children_further parent below p m (k - m) in
    let e : m + (k - m) ≡ k = omega arith in
    subst (λ v. in_children parent below p m ≤ in_children parent below p v) e a

-- a column's children are less than it
pub children_all : (n : ℕ) (parent below : ℕ → ℕ) (p m : ℕ) → IsRising n parent
    → 0 < p → p ≤ m → in_children parent below p m ≡ in_children parent below p p
children_all n parent below p zero rising pos le = absurd (omega arith)
children_all n parent below p (suc m) rising pos le =
    elim (cases_eq p (suc m)) [
      | inl e ↦ ap (in_children parent below p) (sym e)
      | inr ne ↦
          let no : parent m ≢ p = λ e. (let up = rising m (omega arith) in absurd (omega arith)) in
          children_no parent below p m no ∙ children_all n parent below p m rising pos (omega arith)
    ]

-- other counts, the same where they are looked at
pub children_same : (parent below below' : ℕ → ℕ) (p m : ℕ) → ((c : ℕ) → 0 < c → c < m → below' c ≡ below c)
    → in_children parent below' p m ≡ in_children parent below p m
unfolding in_children
children_same parent below below' p zero same = refl
children_same parent below below' p (suc m) same =
    let rest = children_same parent below below' p m (λ c pos lt. same c pos (omega arith)) in
    elim (cases_eq (parent m) p) [
      | inl e ↦ elim (cases_eq m 0) [
        | inl z ↦ rw (rest, eq-eqb m 0 z) refl
        | inr nz ↦ rw (rest, same m (omega arith) (omega arith)) refl
      ]
      | inr ne ↦ rw (rest, ne_eqb (parent m) p ne) refl
    ]

-- one count more
pub children_more : (parent below below' : ℕ → ℕ) (p d m q : ℕ) → 0 < q → q < m
    → parent q ≡ p → below' q ≡ below q + d → ((c : ℕ) → c ≢ q → below' c ≡ below c)
    → in_children parent below' p m ≡ in_children parent below p m + d
children_more parent below below' p d zero q pos lt up more same = absurd (omega arith)
children_more parent below below' p d (suc m) q pos lt up more same =
    elim (cases_eq m q) [
      | inl e ↦
          let a = children_yes parent below' p m (omega arith) (ap parent e ∙ up) in
          let b = children_yes parent below p m (omega arith) (ap parent e ∙ up) in
          let c = children_same parent below below' p m (λ c _ lc. same c (λ e'. absurd (omega arith))) in
          let d' : below' m ≡ below m + d = rw e more in
          omega arith
      | inr ne ↦
          let rest = children_more parent below below' p d m q pos (omega arith) up more same in
          elim (cases_eq (parent m) p) [
            | inl e ↦ elim (cases_eq m 0) [
              | inl z ↦ absurd (omega arith)
              | inr nz ↦
                  let a = children_yes parent below' p m (omega arith) e in
                  let b = children_yes parent below p m (omega arith) e in
                  let c = same m ne in
                  omega arith
            ]
            | inr nc ↦ children_no parent below' p m nc ∙ rest ∙ ap (λ v. v + d) (sym (children_no parent below p m nc))
          ]
    ]

-- ---- the pass

-- all columns from 1 to m - 1, with those that were counted to be below them
abbrev pub in_all : (ℕ → ℕ) → ℕ → ℕ
in_all below m = in_children (λ _. 0) below 0 m

-- the columns less than j were counted at their parents
pub record IsCountedTo (j n : ℕ) (parent below before : ℕ → ℕ) : Type 0 where
  pub sizes : (x : ℕ) → x < n → below x ≡ in_children parent below x j
  pub siblings : (c : ℕ) → 0 < c → c < j → before c ≡ in_children parent below (parent c) c
  -- each column is counted once
  pub whole : below 0 + in_all below n + 1 ≡ n + in_all below j

all_none : (below : ℕ → ℕ) (m : ℕ) → ((x : ℕ) → below x ≡ 0) → in_all below (suc m) ≡ m
all_none below zero none = children_none (λ _. 0) below 0
all_none below (suc m) none =
    let a = children_yes (λ _. 0) below 0 (suc m) (omega arith) refl in
    let b = all_none below m none in
    let c = none (suc m) in
    omega arith

pub counted_none : (n : ℕ) (parent below before : ℕ → ℕ) → 0 < n → ((x : ℕ) → below x ≡ 0) → IsCountedTo 1 n parent below before
counted_none zero parent below before some none = absurd (omega arith)
counted_none (suc m) parent below before some none = record {
  sizes = λ x lt. none x ∙ sym (children_none parent below x);
  siblings = λ c pos lt. absurd (omega arith);
  whole = let a = all_none below m none in let b = children_none (λ _. 0) below 0 in let c = none 0 in omega arith;
}

module _ (j n : ℕ) (parent below before : ℕ → ℕ) (rising : IsRising n parent)
    (pos : 0 < j) (lt : j < n) (counted : IsCountedTo j n parent below before) where
  pub inside : parent j < n
  inside = elim (cases_eq (parent j) 0) [ inl e ↦ omega arith | inr ne ↦ (rising j (omega arith)).1 ]

  all_here : in_all below (suc j) ≡ below j + 1 + in_all below j
  all_here = children_yes (λ _. 0) below 0 j pos refl

  -- no sum is greater than the number of columns
  pub room : below (parent j) + below j + 2 ≤ n
  room =
      let whole = counted.whole in
      let here = all_here in
      let rest = children_to (λ _. 0) below 0 (suc j) n lt in
      elim (cases_eq (parent j) 0) [
        | inl e ↦ let same = ap below e in omega arith
        | inr ne ↦
            let up = rising j (omega arith) in
            let there = children_yes (λ _. 0) below 0 (parent j) (omega arith) refl in
            let between = children_to (λ _. 0) below 0 (suc j) (parent j) up.0 in
            let after = children_to (λ _. 0) below 0 (suc (parent j)) n up.1 in
            omega arith
      ]

  pub counted_more : (below' before' : ℕ → ℕ) → below' (parent j) ≡ below (parent j) + below j + 1
      → ((x : ℕ) → x ≢ parent j → below' x ≡ below x)
      → before' j ≡ below (parent j) → ((x : ℕ) → x ≢ j → before' x ≡ before x) → IsCountedTo (suc j) n parent below' before'
  counted_more below' before' more same here other = record {
    sizes = λ x xn. elim (cases_eq x (parent j)) [
      | inl e ↦
          let a = children_yes parent below x j pos (sym e) in
          let b = counted.sizes x xn in
          let c = children_same parent below below' x (suc j) early in
          let d : below' x ≡ below x + below j + 1 = rw e more in
          omega arith
      | inr ne ↦ same x ne ∙ counted.sizes x xn ∙ sym (children_no parent below x j (λ e. ne (sym e)))
          ∙ sym (children_same parent below below' x (suc j) early)
    ];
    siblings = λ c cp cj. elim (cases_eq c j) [
      | inl e ↦
          let a : before' j ≡ in_children parent below' (parent j) j =
          here ∙ counted.sizes (parent j) inside
          ∙ sym (children_same parent below below' (parent j) j (λ x xp xj. early x xp (omega arith))) in
          rw e a
      | inr ne ↦ other c ne ∙ counted.siblings c cp (omega arith)
          ∙ sym (children_same parent below below' (parent c) c (λ x xp xc. early x xp (omega arith)))
    ];
    whole = let whole = counted.whole in
        let now = all_here in
        let sums = total in
        let old = children_same (λ _. 0) below below' 0 (suc j) early in
        omega arith;
  }
    where
      early : (c : ℕ) → 0 < c → c < suc j → below' c ≡ below c
      early c cp cj =
          same c (λ e. elim (cases_eq (parent j) 0) [
            | inl z ↦ absurd (omega arith)
            | inr nz ↦ let up = rising j (omega arith) in absurd (omega arith)
          ])

      total : below' 0 + in_all below' n ≡ below 0 + in_all below n + below j + 1
      total =
          elim (cases_eq (parent j) 0) [
            | inl e ↦
                let a = children_same (λ _. 0) below below' 0 n (λ c cp cn. same c (λ e'. absurd (omega arith))) in
                let b : below' 0 ≡ below 0 + below j + 1 = subst (λ p. below' p ≡ below p + below j + 1) e more in
                omega arith
            | inr ne ↦
                let a =
                children_more (λ _. 0) below below' 0 (below j + 1) n (parent j) (omega arith) inside refl (more ∙ omega arith) same in
                let b = same 0 (λ e. ne (sym e)) in
                omega arith
          ]
