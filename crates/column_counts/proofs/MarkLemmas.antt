-- One way up a row of the factor: what is marked, and what it takes to go on.
use Rattle.std.proofs.Common.{sym, ◌∙◌, subst, ap, ◌+◌, ◌^◌, ◌≡◌, ◌≢◌, inl, inr, ℕ, ◌<◌, ◌≤◌}
use Rattle.std.proofs.Common.{IsTrue, List, length, get_or, arith, ◌==◌, slice_index}
use Rattle.std.proofs.lemmas.Grind.{get_or_default_zero}
use Rattle.std.proofs.lemmas.Bool.{cases_eq, eq-eqb, ne_eqb}
use Rattle.column_counts.specs.Marks.{Row, IsFactorRow, IsMarked, CanGoOn, bit}

-- ---- one entry of a table is written

-- what was read at a place that is there
pub read_at : (xs : List ℕ) (i x : ℕ) → i < length xs → x ≡ get_or xs i x → x ≡ slice_index xs i
read_at xs i x lt e = e ∙ get_or_default_zero xs i x lt

-- what was written through the slice is the whole table

-- ---- one step up

-- with each marked column its parent is marked, whatever c is
pub closed_anywhere : (row : Row) (parent : ℕ → ℕ) (i c : ℕ) (counts marks : ℕ → ℕ)
    → IsMarked row parent i i counts marks → IsMarked row parent i c counts marks
closed_anywhere row parent i c counts marks m = record {
  count = m.count;
  sound = m.sound;
  closed = λ x h ne. inl (elim (m.closed x h ne) [ inl e ↦ e | inr e ↦ ap marks e ∙ m.own ]);
  own = m.own;
  low = m.low;
}

module _ (row : Row) (parent : ℕ → ℕ) (i : ℕ) (is : IsFactorRow parent i row.holds) (c : ℕ) (counts marks : ℕ → ℕ)
    (here : IsTrue (row.holds c)) (m : IsMarked row parent i c counts marks) where
  pub column_le : c ≤ i
  column_le = elim (cases_eq c i) [ inl e ↦ omega arith | inr ne ↦ (let below = (is.up c here ne).0 in omega arith) ]

  not_last : (marks c ≡ i → ⊥) → c ≢ i
  not_last unmarked e = unmarked (subst (λ v. marks v ≡ i) (sym e) m.own)

  pub can_go_on : row.before c + 1 < 2 ^ 32 → CanGoOn i c parent counts marks
  can_go_on room = (
    column_le,
    λ unmarked.
        let up = is.up c here (not_last unmarked) in
        let none : bit (marks c == i) ≡ 0 = ap bit (ne_eqb (marks c) i unmarked) in
        let k = m.count c in
        (up.0, up.1, up.2, omega arith),
  )

  -- one column more is marked
  pub marked_up : (marks c ≡ i → ⊥) → (counts' marks' : ℕ → ℕ) → counts' c ≡ counts c + 1 → ((x : ℕ) → x ≢ c → counts' x ≡ counts x)
      → marks' c ≡ i → ((x : ℕ) → x ≢ c → marks' x ≡ marks x)
      → IsMarked row parent i (parent c) counts' marks' × IsTrue (row.holds (parent c))
  marked_up unmarked counts' marks' hc oc hm om = (
    record {
      count = λ x. elim (cases_eq x c) [
        | inl e ↦ (
            let none : bit (marks c == i) ≡ 0 = ap bit (ne_eqb (marks c) i unmarked) in
            let one : bit (marks' c == i) ≡ 1 = ap bit (eq-eqb (marks' c) i hm) in
            let k = m.count c in
            subst (λ v. counts' v ≡ row.before v + bit (marks' v == i)) (sym e) (omega arith)
            )
        | inr ne ↦ oc x ne ∙ m.count x ∙ ap (λ v. row.before x + bit (v == i)) (sym (om x ne))
      ];
      sound = λ x h. elim (cases_eq x c) [
        | inl e ↦ subst (λ v. IsTrue (row.holds v)) (sym e) here
        | inr ne ↦ m.sound x (sym (om x ne) ∙ h)
      ];
      closed = λ x h last. elim (cases_eq x c) [
        | inl e ↦ inr (ap parent e)
        | inr ne ↦ inl (elim (m.closed x (sym (om x ne) ∙ h) last) [
          | inl k ↦ elim (cases_eq (parent x) c) [ inl q ↦ ap marks' q ∙ hm | inr nq ↦ om (parent x) nq ∙ k ]
          | inr k ↦ ap marks' k ∙ hm
        ])
      ];
      own = elim (cases_eq i c) [ inl e ↦ ap marks' e ∙ hm | inr ne ↦ om i ne ∙ m.own ];
      low = λ x. elim (cases_eq x c) [
        | inl e ↦ (let same = ap marks' e ∙ hm in omega arith)
        | inr ne ↦ (let same = om x ne in let le = m.low x in omega arith)
      ];
    },
    (is.up c here (not_last unmarked)).3,
  )

-- ---- a row begins with itself

pub row_start : (row : Row) (parent : ℕ → ℕ) (i : ℕ) → IsFactorRow parent i row.holds
    → (counts marks : ℕ → ℕ) → ((x : ℕ) → (counts x ≡ row.before x) × (marks x < i))
    → (counts' marks' : ℕ → ℕ) → counts' i ≡ counts i + 1 → ((x : ℕ) → x ≢ i → counts' x ≡ counts x)
    → marks' i ≡ i → ((x : ℕ) → x ≢ i → marks' x ≡ marks x)
    → IsMarked row parent i i counts' marks'
row_start row parent i is counts marks fresh counts' marks' hc oc hm om = record {
  count = λ x. elim (cases_eq x i) [
    | inl e ↦ (
        let one : bit (marks' i == i) ≡ 1 = ap bit (eq-eqb (marks' i) i hm) in
        let k = (fresh i).0 in
        subst (λ v. counts' v ≡ row.before v + bit (marks' v == i)) (sym e) (omega arith)
        )
    | inr ne ↦ (
        let low = (fresh x).1 in
        let same = om x ne in
        let none : bit (marks' x == i) ≡ 0 = ap bit (ne_eqb (marks' x) i (λ q. absurd (omega arith))) in
        let k = (fresh x).0 in
        let k' = oc x ne in
        omega arith
        )
  ];
  sound = λ x h. elim (cases_eq x i) [
    | inl e ↦ subst (λ v. IsTrue (row.holds v)) (sym e) is.own
    | inr ne ↦ (let low = (fresh x).1 in let same = om x ne in absurd (omega arith))
  ];
  closed = λ x h ne. (let low = (fresh x).1 in let same = om x ne in absurd (omega arith));
  own = hm;
  low = λ x. elim (cases_eq x i) [
    | inl e ↦ (let same = ap marks' e ∙ hm in omega arith)
    | inr ne ↦ (let same = om x ne in let low = (fresh x).1 in omega arith)
  ];
}
