-- The children of each node, in rows.
use Rattle.std.proofs.Common.{◌≡◌, ◌∙◌, ◌↔◌, inl, inr, sym, ap, subst, ℕ, zero, suc, ◌+◌, ◌<◌, ◌≤◌, Bool}
use Rattle.std.proofs.Common.{true, false, eqb, eq-eqb, eqb-true, List, [], ◌∷◌, length, get_or, arith}
use Rattle.std.specs.List.{filter, range_with_len}
use Rattle.std.proofs.lemmas.Bool.{cases_Bool, cases_lt}
use Rattle.std.proofs.lemmas.List.{get_or_past}
use Rattle.trees.specs.declared.node.Node.{Node}
use Rattle.trees.specs.Tree.{IsTree, parent_of_node}
use Rattle.postorder_best.specs.Postorder.{Member}
use Rattle.trees.specs.Forest.{AreChildren}
use Rattle.postorder_best.specs.Rows.{Once, AreRows}
use Rattle.postorder_best.proofs.TreeLinks.{forest_of}

-- ---- what passes a test, and ranges

member_filter : (test : ℕ → Bool) (xs : List ℕ) (c : ℕ) → Member c (filter test xs) ↔ (Member c xs × (test c ≡ true))
member_filter test [] c = (λ m. absurd m, λ h. h.0)
member_filter test (x ∷ xs) c =
    let rest = member_filter test xs c in
    elim (cases_Bool (test x)) [
      | inl passes ↦ rw passes (
        (λ m. elim m [ inl e ↦ (inl e, ap test e ∙ passes) | inr q ↦ (inr (rest.0 q).0, (rest.0 q).1) ]),
        (λ h. elim h.0 [ inl e ↦ inl e | inr q ↦ inr (rest.1 (q, h.1)) ]),
      )
      | inr fails ↦ rw fails (
        (λ m. (inr (rest.0 m).0, (rest.0 m).1)),
        (λ h. elim h.0 [ inl e ↦ absurd (let clash : true ≡ false = sym h.1 ∙ ap test e ∙ fails in cc) | inr q ↦ rest.1 (q, h.1) ]),
      )
    ]

once_filter : (test : ℕ → Bool) (xs : List ℕ) → Once xs → Once (filter test xs)
once_filter test [] once = tt
once_filter test (x ∷ xs) once = elim (cases_Bool (test x)) [
  | inl passes ↦ rw passes ((λ m. once.0 ((member_filter test xs x).0 m).0), once_filter test xs once.1)
  | inr fails ↦ rw fails (once_filter test xs once.1)
]

member_range : (a n c : ℕ) → Member c (range_with_len a n) ↔ ((a ≤ c) × (c < a + n))
member_range a zero c = (λ m. absurd m, λ h. let low = h.0 in let high = h.1 in absurd (omega arith))
member_range a (suc n) c =
    let rest = member_range (a + 1) n c in (
      (λ m. elim m [
        | inl e ↦ (omega arith, omega arith)
        | inr q ↦ (let h = rest.0 q in let low = h.0 in let high = h.1 in (omega arith, omega arith))
      ]),
      (λ h. let low = h.0 in
          let high = h.1 in
          elim (cases_lt a c) [ inl l ↦ inr (rest.1 (omega arith, omega arith)) | inr g ↦ inl (omega arith) ]),
    )

once_range : (a n : ℕ) → Once (range_with_len a n)
once_range a zero = tt
once_range a (suc n) = ((λ m. let low = ((member_range (a + 1) n a).0 m).0 in omega arith), once_range (a + 1) n)

-- ---- rows

module _ (nodes : List Node) (t : IsTree nodes) where
  pub parents_within : (i : ℕ) (d : Node) → i < length nodes → (get_or nodes i d).parent ≤ length nodes
  parents_within i d lt = let has = t.each i d lt in has.parent

  pub rows_of_children : (rows : List (List ℕ)) → AreChildren nodes rows → AreRows nodes rows
  rows_of_children rows are =
      let is = λ (x : ℕ) (l : x < length nodes + 1). are.rows_are x (omega arith) in
      record {
        len = are.len;
        members = λ x c. elim (cases_lt x (length nodes + 1)) [
          | inl l ↦ (
              let f = member_filter (λ v. eqb (parent_of_node nodes v) x) (range_with_len 1 (length nodes)) c in
              let r = member_range 1 (length nodes) c in (
                (λ m. let h = f.0 (subst (λ (xs : List ℕ). Member c xs) (is x l) m) in
                    let b = r.0 h.0 in
                    let low = b.0 in
                    let high = b.1 in
                    ((omega arith, omega arith), eqb-true (parent_of_node nodes c) x h.1)),
                (λ h. let low = h.0.0 in
                    let high = h.0.1 in
                    subst (λ (xs : List ℕ). Member c xs) (sym (is x l))
                    (f.1 (r.1 (omega arith, omega arith), eq-eqb (parent_of_node nodes c) x h.1))),
              )
              )
          | inr g ↦ (
            (λ m. absurd (subst (λ (xs : List ℕ). Member c xs) (get_or_past rows x [] (let len = are.len in omega arith)) m)),
            (λ h. let up = (forest_of nodes t).inside c h.0 in let e = h.1 in absurd (omega arith)),
          )
        ];
        once = λ x l. subst Once (sym (is x l))
            (once_filter (λ v. eqb (parent_of_node nodes v) x) (range_with_len 1 (length nodes)) (once_range 1 (length nodes)));
      }
