-- Bounds of degrees: where the least stands, after a count, and after an elimination.
use Rattle.std.proofs.Common.{◌≡◌, ◌≢◌, ℕ, ◌<◌, ◌≤◌, inl, inr, ◌⊎◌, List, length, refl, sym, ap, ◌∙◌, arith, subst, set, length-set}
use Rattle.std.proofs.lemmas.Bool.{cases_eq, cases_lt}
use Rattle.std.proofs.lemmas.List.{get_or-set_other}
use Rattle.std.proofs.lemmas.Grind.{get_or-set_at}
use Rattle.limits.specs.Limits.{most_order}
use Rattle.elimination.specs.Elimination.{IsAdjacency, IsVertex, degree_of, IsAhead}
use Rattle.min_tree.specs.Least.{IsFirstLeast}
use Rattle.elimination.specs.Quotients.{Quotient, at}
use Rattle.elimination.specs.Twins.{IsGrouped}
use Rattle.elimination.specs.Turns.{AreBounds}
use Rattle.elimination.proofs.Degrees.{degree_le, degree_twins}

-- a table after a write
pub at_other : (keys : List ℕ) (v k x : ℕ) → x ≢ v → at (set keys v k) x ≡ at keys x
at_other keys v k x ne = get_or-set_other keys v x k 0 ne

pub at_here : (keys : List ℕ) (v k : ℕ) → v < length keys → at (set keys v k) v ≡ k
at_here keys v k lt = get_or-set_at keys v v k 0 refl lt

module _ (q : Quotient) (turn : ℕ → ℕ) (groups : ℕ → List ℕ) (sizes keys : List ℕ) (gr : IsGrouped q turn groups sizes)
    (b : AreBounds q turn keys) where
  rep_vertex : (x : ℕ) → IsVertex q.order x → IsVertex q.order (q.rep x)
  rep_vertex x v = elim (cases_eq (q.rep x) x) [ inl e ↦ subst (IsVertex q.order) (sym e) v | inr ne ↦ (gr.vertex x ne).1 ]

  -- the first least stands at a vertex that is left and stands for its group, if any is left
  pub least_left : q.order ≤ most_order → (w : ℕ) → IsVertex q.order w → turn w ≡ 0 → (i : ℕ) → IsFirstLeast keys i
      → IsVertex q.order i × (turn i ≡ 0) × (q.rep i ≡ i)
  least_left few w vertex left i f =
      let len = b.len in
      let within = f.within in
      let vr = rep_vertex w vertex in
      let wn = vr.1 in
      let least = f.least (q.rep w) (omega arith) in
      let low = b.low (q.rep w) vr (gr.left w left) (gr.stands w) in
      let most = degree_le q.left q.order (q.rep w) in
      let small : at keys i ≤ most_order = omega arith in
      let kept : (((i ≡ 0) ⊎ (0 < turn i)) ⊎ (q.rep i ≢ i)) → ⊥ = λ o. absurd (let off = b.off i (omega arith) o in omega arith) in
      let pos : 1 ≤ i = elim (cases_eq i 0) [ inl e ↦ absurd (kept (inl (inl e))) | inr ne ↦ omega arith ] in (
        (pos, omega arith),
        elim (cases_eq (turn i) 0) [ inl e ↦ e | inr ne ↦ absurd (kept (inl (inr (omega arith)))) ],
        elim (cases_eq (q.rep i) i) [ inl e ↦ e | inr ne ↦ absurd (kept (inr ne)) ],
      )

  -- a first least whose bound is its degree is the first of all that are left
  pub first_of_all : IsAdjacency q.left → (v : ℕ) → IsFirstLeast keys v → degree_of q.left q.order v ≤ at keys v → (u : ℕ)
      → IsVertex q.order u → turn u ≡ 0 → IsAhead (degree_of q.left q.order) v u
  first_of_all plain v f exact u vertex left =
      let len = b.len in
      let vr = rep_vertex u vertex in
      let un = vr.1 in
      let same = degree_twins q.left q.order u (q.rep u) plain vertex vr (λ z. gr.twins u z left) in
      let before = gr.least u in
      let low = b.low (q.rep u) vr (gr.left u left) (gr.stands u) in
      let least = f.least (q.rep u) (omega arith) in
      elim (cases_lt (degree_of q.left q.order v) (degree_of q.left q.order u)) [
        | inl lt ↦ inl lt
        | inr ge ↦ inr (
          omega arith,
          elim (cases_lt (q.rep u) v) [
            | inl sooner ↦ absurd (let more = f.first (q.rep u) sooner in omega arith)
            | inr le ↦ omega arith
          ],
        )
      ]

-- a bound that is the degree
pub counted_bound : (q : Quotient) (turn : ℕ → ℕ) (keys : List ℕ) → AreBounds q turn keys → (v : ℕ) → IsVertex q.order v → turn v ≡ 0
    → q.rep v ≡ v
    → (k : ℕ) → k ≡ degree_of q.left q.order v → AreBounds q turn (set keys v k)
counted_bound q turn keys b v vertex left own k is =
    let vn = vertex.1 in
    let len = b.len in
    let here = at_here keys v k (omega arith) in
    record {
      len = length-set keys v k ∙ b.len;
      low = λ w vw lw ow. elim (cases_eq w v) [
        | inl e ↦ subst (λ z. at (set keys v k) z ≤ degree_of q.left q.order z) (sym e) (omega arith)
        | inr ne ↦ let o = at_other keys v k w ne in let l = b.low w vw lw ow in omega arith
      ];
      off = λ w le o. elim (cases_eq w v) [
        | inl e ↦ absurd (elim o [
          | inl x ↦ elim x [ inl z ↦ (let some = vertex.0 in omega arith) | inr g ↦ (let t = ap turn e in omega arith) ]
          | inr ne ↦ absurd (ne (subst (λ z. q.rep z ≡ z) (sym e) own))
        ])
        | inr ne ↦ at_other keys v k w ne ∙ b.off w le o
      ];
    }
