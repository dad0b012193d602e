-- One look at a vertex: the open rows that have it are put into its row.
use Rattle.std.proofs.Common.{◌≡◌, ◌≢◌, ◌⊎◌, inl, inr, ℕ, ◌-◌, ◌&&◌, Bool, eqb, List, length, sym, ap, ◌∙◌, arith, subst, IsTrue}
use Rattle.std.specs.List.{count_by, range_with_len}
use Rattle.std.proofs.lemmas.Bool.{cases_eq, or_cases, and_parts, and_from, eqb-true}
use Rattle.patterns.specs.Pattern.{has}
use Rattle.elimination.specs.Elimination.{degree_of, times}
use Rattle.elimination.specs.Twins.{is_near}
use Rattle.bit_rows.specs.Bits.{bit_in}
use Rattle.elimination.specs.Dense.{Stage, IsStanding, IsInOpen, AreBitRows, IsLookedAt, width_of}
use Rattle.lists.proofs.Bools.{same_bool}
use Rattle.elimination.proofs.Degrees.{counted_is, near_count}

-- who is near a vertex that is left is left too
pub near_stands : (stage : Stage) (row : ℕ → List Bool) (opened : List ℕ) (alive : List Bool)
    → AreBitRows stage row opened alive → (v x : ℕ)
    → IsStanding stage v → IsTrue (is_near stage.left v x) → IsStanding stage x
near_stands stage row opened alive s v x here near = elim (or_cases (eqb v x) _ near) [
  | inl e ↦ subst (IsStanding stage) (eqb-true v x e) here
  | inr t ↦ s.within x v (s.plain.symmetric v x t)
]

-- what is open is gone
pub open_apart : (stage : Stage) (row : ℕ → List Bool) (opened : List ℕ) (alive : List Bool) → AreBitRows stage row opened alive → (v : ℕ)
    → IsStanding stage v → (p : ℕ) → IsTrue (has opened p) → p ≢ v
open_apart stage row opened alive s v here p h e = let g = (s.open_gone p h).1 in let k = ap (times stage.gone) e in let z = here.1 in
    absurd (omega arith)

module _ (stage : Stage) (row row' : ℕ → List Bool) (opened : List ℕ) (alive : List Bool) (s : AreBitRows stage row opened alive) (v : ℕ)
    (here : IsStanding stage v)
    (same : (y : ℕ) → y ≢ v → row' y ≡ row y) (len : length (row' v) ≡ length (row v))
    (kept : (x : ℕ) → IsTrue (bit_in (row v) x) → IsTrue (bit_in (row' v) x))
    (made : (x : ℕ) → IsTrue (bit_in (row' v) x) → IsTrue (bit_in (row v) x) ⊎ IsInOpen row opened v x)
    (all : (p x : ℕ) → IsTrue (has opened p) → IsTrue (bit_in (row p) v) → IsTrue (bit_in (row p) x) → IsTrue (bit_in (row' v) x)) where
  open_differs : (p : ℕ) → IsTrue (has opened p) → p ≢ v
  open_differs = open_apart stage row opened alive s v here

  open_before : (a b : ℕ) → IsInOpen row' opened a b → IsInOpen row opened a b
  open_before a b (p, h, t, u) = let e = same p (open_differs p h) in
      (p, h, subst (λ z. IsTrue (bit_in z a)) e t, subst (λ z. IsTrue (bit_in z b)) e u)

  open_after : (a b : ℕ) → IsInOpen row opened a b → IsInOpen row' opened a b
  open_after a b (p, h, t, u) = let e = sym (same p (open_differs p h)) in
      (p, h, subst (λ z. IsTrue (bit_in z a)) e t, subst (λ z. IsTrue (bit_in z b)) e u)

  bit_before : (a b : ℕ) → IsTrue (bit_in (row' a) b) → IsTrue (bit_in (row a) b) ⊎ IsInOpen row opened a b
  bit_before a b t = elim (cases_eq a v) [
    | inl e ↦ subst (λ z. IsTrue (bit_in (row z) b) ⊎ IsInOpen row opened z b) (sym e)
        (made b (subst (λ z. IsTrue (bit_in (row' z) b)) e t))
    | inr ne ↦ inl (subst (λ z. IsTrue (bit_in z b)) (same a ne) t)
  ]

  bit_after : (a b : ℕ) → IsTrue (bit_in (row a) b) → IsTrue (bit_in (row' a) b)
  bit_after a b t = elim (cases_eq a v) [
    | inl e ↦ subst (λ z. IsTrue (bit_in (row' z) b)) (sym e) (kept b (subst (λ z. IsTrue (bit_in (row z) b)) e t))
    | inr ne ↦ subst (λ z. IsTrue (bit_in z b)) (sym (same a ne)) t
  ]

  pub looked_rows : AreBitRows stage row' opened alive
  looked_rows = record {
    plain = s.plain;
    within = s.within;
    from = λ a b la lb near. elim (s.from a b la lb near) [ inl t ↦ inl (bit_after a b t) | inr o ↦ inr (open_after a b o) ];
    to = λ a b la lb h. s.to a b la lb (elim h [ inl t ↦ bit_before a b t | inr o ↦ inr (open_before a b o) ]);
    alive_from = s.alive_from;
    alive_to = s.alive_to;
    open_gone = s.open_gone;
    alive_width = s.alive_width;
    row_width = λ x lx. elim (cases_eq x v) [
      | inl e ↦ subst (λ z. length (row' z) ≡ width_of stage.order) (sym e) (len ∙ s.row_width v here)
      | inr ne ↦ ap length (same x ne) ∙ s.row_width x lx
    ];
    open_width = λ p h. ap length (same p (open_differs p h)) ∙ s.open_width p h;
  }

  pub looked_exact : (x : ℕ) → IsStanding stage x → bit_in (row' v) x ≡ is_near stage.left v x
  looked_exact x lx = same_bool (bit_in (row' v) x) (is_near stage.left v x)
      (λ t. s.to v x here lx (made x t))
      (λ near. elim (s.from v x here lx near) [ inl t ↦ kept x t | inr o ↦ all o.0 x o.1 o.2 o.3 ])

  pub looked_degree : count_by (λ x. bit_in (row' v) x && bit_in alive x)
      (range_with_len 1 stage.order) - 1 ≡ degree_of stage.left stage.order v
  looked_degree =
      let is : (λ x. bit_in (row' v) x && bit_in alive x) ≡ is_near stage.left v = λ i. λ x. same_bool
      (bit_in (row' v) x && bit_in alive x) (is_near stage.left v x)
      (λ t. let p = and_parts (bit_in (row' v) x) (bit_in alive x) t in sym (looked_exact x (s.alive_from x p.1)) ∙ p.0)
      (λ near. let lx = near_stands stage row opened alive s v x here near in
      and_from (bit_in (row' v) x) (bit_in alive x) (looked_exact x lx ∙ near) (s.alive_to x lx)) i in
      let a = ap (λ p. count_by p (range_with_len 1 stage.order)) is in
      let b = counted_is (is_near stage.left v) stage.order in
      let c = near_count stage.left stage.order v s.plain here.0 in
      let d = counted_is (stage.left v) stage.order in
      omega arith

  pub looked : (degree : ℕ) → degree ≡ count_by (λ x. bit_in (row' v) x && bit_in alive x) (range_with_len 1 stage.order) - 1
      → IsLookedAt stage row' opened alive v degree
  looked degree e = record { rows = looked_rows; exact = looked_exact; degree_is = e ∙ looked_degree }
