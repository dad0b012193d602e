-- Groups of twins: degrees by their sizes, and twins that are found.
use Rattle.std.proofs.Common.{◌≡◌, ◌≢◌, ℕ, ◌+◌, ◌≤◌, inl, inr, ◌⊎◌, Bool, false, List, [], ◌∷◌, ◌++◌, length}
use Rattle.std.proofs.Common.{refl, sym, ◌∙◌, arith, subst, IsTrue, eqb, length-append, get_or}
use Rattle.std.specs.List.{All, sum_by}
use Rattle.std.proofs.lemmas.Bool.{cases_eq, cases_Bool, both_ways, eq-eqb, eqb-true, or_cases, or_left, or_right}
use Rattle.std.proofs.lemmas.List.Sums.{sum_by-cons}
use Rattle.std.proofs.lemmas.List.Elements.{All-from_get_or}
use Rattle.elimination.specs.Elimination.{IsAdjacency, IsVertex, times, degree_of}
use Rattle.elimination.proofs.VertexLists.{times-here, times-beyond, times_append}
use Rattle.patterns.proofs.NumberLists.{has_at}
use Rattle.patterns.specs.Pattern.{has}
use Rattle.elimination.specs.Quotients.{Quotient, at}
use Rattle.elimination.specs.Hoods.{IsHood}
use Rattle.elimination.specs.Twins.{is_near, IsGrouped}
use Rattle.elimination.proofs.ListFacts.{has_one, has_own, has_left, has_right, has_cases, times_unless, times_some}
use Rattle.lists.proofs.Bools.{same_bool}
use Rattle.elimination.proofs.Degrees.{degree_near_listed}

-- ---- nearness

pub near_own : (left : ℕ → ℕ → Bool) (a : ℕ) → IsTrue (is_near left a a)
near_own left a = or_left _ _ (eq-eqb a a refl)

pub near_left : (left : ℕ → ℕ → Bool) (a b : ℕ) → IsTrue (left a b) → IsTrue (is_near left a b)
near_left left a b h = or_right (eqb a b) _ h

pub near_cases : (left : ℕ → ℕ → Bool) (a b : ℕ) → IsTrue (is_near left a b) → (a ≡ b) ⊎ IsTrue (left a b)
near_cases left a b h = elim (or_cases (eqb a b) _ h) [ inl e ↦ inl (eqb-true a b e) | inr t ↦ inr t ]

near_turned : (left : ℕ → ℕ → Bool) → IsAdjacency left → (a b : ℕ) → IsTrue (is_near left a b) → IsTrue (is_near left b a)
near_turned left p a b h = elim (near_cases left a b h) [
  | inl e ↦ or_left _ _ (eq-eqb b a (sym e))
  | inr t ↦ near_left left b a (p.symmetric a b t)
]

all_from : {P : ℕ → Type 0} → (xs : List ℕ) → ((x : ℕ) → IsTrue (has xs x) → P x) → All P xs
all_from {P} xs h = All-from_get_or P xs 0 (λ i lt. h (get_or xs i 0) (has_at xs i lt))

-- ---- all that some vertices stand for

flat : (ℕ → List ℕ) → List ℕ → List ℕ
flat groups [] = []
flat groups (r ∷ rs) = (r ∷ groups r) ++ flat groups rs

module _ (q : Quotient) (turn : ℕ → ℕ) (groups : ℕ → List ℕ) (sizes : List ℕ) (g : IsGrouped q turn groups sizes) where
  -- who is in the group of a vertex
  pub in_block : (r x : ℕ) → IsTrue (has (r ∷ groups r) x) → q.rep r ≡ r → q.rep x ≡ r
  in_block r x h own = elim (has_cases (r ∷ []) (groups r) x h) [
    | inl o ↦ subst (λ z. q.rep z ≡ r) (has_one r x o) own
    | inr m ↦ (g.members r x m).0
  ]

  block_has : (x : ℕ) → IsTrue (has (q.rep x ∷ groups (q.rep x)) x)
  block_has x = elim (cases_eq (q.rep x) x) [
    | inl e ↦ has_left (q.rep x ∷ []) (groups (q.rep x)) x (subst (λ z. IsTrue (has (z ∷ []) x)) (sym e) (has_own x))
    | inr ne ↦ has_right (q.rep x ∷ []) (groups (q.rep x)) x (g.listed x ne)
  ]

  pub block_once : (r x : ℕ) → times (r ∷ groups r) x ≤ 1
  block_once r x =
      let o = g.once r x in
      elim (cases_eq r x) [
        | inl e ↦ (
            let none : has (groups r) x ≡ false = elim (cases_Bool (has (groups r) x))
            [ inl t ↦ absurd ((g.members r x t).1 (sym e)) | inr f ↦ f ] in
            omega (arith, times-here r x (groups r) e, times_unless (groups r) x none)
            )
        | inr ne ↦ omega (arith, times-beyond r x (groups r) ne)
      ]

  -- the members of a group are vertices that are left
  member_left : (r x : ℕ) → IsTrue (has (groups r) x) → IsVertex q.order x × (turn x ≡ 0)
  member_left r x h =
      let m = g.members r x h in
      let ne : q.rep x ≢ x = λ e. m.1 (sym e ∙ m.0) in
      ((g.vertex x ne).0, elim (cases_eq (turn x) 0) [ inl e ↦ e | inr o ↦ absurd (ne (g.gone x (omega arith))) ])

  pub left_of_hidden : (x : ℕ) → q.rep x ≢ x → turn x ≡ 0
  left_of_hidden x ne = elim (cases_eq (turn x) 0) [ inl e ↦ e | inr o ↦ absurd (ne (g.gone x (omega arith))) ]

  Stand : List ℕ → Type 0
  Stand rs = (r : ℕ) → IsTrue (has rs r) → (q.rep r ≡ r) × IsVertex q.order r × (turn r ≡ 0)

  stand_head : (r : ℕ) (rs : List ℕ) → Stand (r ∷ rs) → (q.rep r ≡ r) × IsVertex q.order r × (turn r ≡ 0)
  unfolding Stand
  stand_head r rs s = s r (has_left (r ∷ []) rs r (has_own r))

  stand_tail : (r : ℕ) (rs : List ℕ) → Stand (r ∷ rs) → Stand rs
  unfolding Stand
  stand_tail r rs s x h = s x (has_right (r ∷ []) rs x h)

  flat_to : (rs : List ℕ) (x : ℕ) → IsTrue (has rs (q.rep x)) → IsTrue (has (flat groups rs) x)
  unfolding flat
  flat_to [] x h = absurd (both_ways _ refl h)
  flat_to (r ∷ rs) x h = elim (has_cases (r ∷ []) rs (q.rep x) h) [
    | inl o ↦ has_left (r ∷ groups r) (flat groups rs) x (subst (λ z. IsTrue (has (z ∷ groups z) x)) (sym (has_one r (q.rep x) o))
        (block_has x))
    | inr t ↦ has_right (r ∷ groups r) (flat groups rs) x (flat_to rs x t)
  ]

  flat_from : (rs : List ℕ) → Stand rs → (x : ℕ) → IsTrue (has (flat groups rs) x) → IsTrue (has rs (q.rep x))
  unfolding flat
  flat_from [] s x h = absurd (both_ways _ refl h)
  flat_from (r ∷ rs) s x h = elim (has_cases (r ∷ groups r) (flat groups rs) x h) [
    | inl b ↦ has_left (r ∷ []) rs (q.rep x) (subst (λ z. IsTrue (has (r ∷ []) z)) (sym (in_block r x b (stand_head r rs s).0)) (has_own r))
    | inr t ↦ has_right (r ∷ []) rs (q.rep x) (flat_from rs (stand_tail r rs s) x t)
  ]

  flat_once : (rs : List ℕ) → Stand rs → ((x : ℕ) → times rs x ≤ 1) → (x : ℕ) → times (flat groups rs) x ≤ 1
  unfolding flat
  flat_once [] s once x = omega arith
  flat_once (r ∷ rs) s once x =
      let once' : (y : ℕ) → times rs y ≤ 1 = λ y. let k = times_append (r ∷ []) rs y in let m = once y in omega arith in
      let i = flat_once rs (stand_tail r rs s) once' x in
      let b = block_once r x in
      let k = times_append (r ∷ groups r) (flat groups rs) x in
      elim (cases_Bool (has (r ∷ groups r) x)) [
        | inr f ↦ omega (arith, times_unless (r ∷ groups r) x f)
        | inl t ↦ (
            let own = in_block r x t (stand_head r rs s).0 in
            let none : has (flat groups rs) x ≡ false = elim (cases_Bool (has (flat groups rs) x)) [
              | inl u ↦ absurd (
                  let w : IsTrue (has rs r) = subst (λ z. IsTrue (has rs z)) own (flat_from rs (stand_tail r rs s) x u) in
                  let m = once r in
                  omega (arith, times-here r r rs refl, times_some rs r w))
              | inr f ↦ f
            ] in
            omega (arith, times_unless (flat groups rs) x none)
            )
      ]

  stand_one : (ts : List ℕ) → Stand ts → (r : ℕ) → IsTrue (has ts r) → IsVertex q.order r
  unfolding Stand
  stand_one ts s r h = (s r h).1

  flat_vertices : (rs : List ℕ) → Stand rs → All (IsVertex q.order) (flat groups rs)
  flat_vertices rs s = all_from (flat groups rs) (λ x h. elim (cases_eq (q.rep x) x) [
    | inl e ↦ subst (IsVertex q.order) e (stand_one rs s (q.rep x) (flat_from rs s x h))
    | inr ne ↦ (g.vertex x ne).0
  ])

  flat_length : (rs : List ℕ) → Stand rs → length (flat groups rs) ≡ sum_by (at sizes) rs
  unfolding flat
  flat_length [] s = refl
  flat_length (r ∷ rs) s =
      let h = stand_head r rs s in
      let w = g.weights r h.1 h.2 h.0 in
      let i = flat_length rs (stand_tail r rs s) in
      let a = length-append (r ∷ groups r) (flat groups rs) in
      let b = sum_by-cons (at sizes) r rs in
      omega arith

  -- ---- degrees by sizes

  module _ (plain : IsAdjacency q.left) (alive : (a b : ℕ) → IsTrue (q.left a b) → (turn a ≡ 0) × (turn b ≡ 0)) where
    -- to be near someone is to be near him who stands for him
    near_rep : (a x : ℕ) → turn x ≡ 0 → IsTrue (is_near q.left a x) → IsTrue (is_near q.left a (q.rep x))
    near_rep a x l h = near_turned q.left plain (q.rep x) a (sym (g.twins x a l) ∙ near_turned q.left plain a x h)

    near_member : (a x : ℕ) → turn x ≡ 0 → IsTrue (is_near q.left a (q.rep x)) → IsTrue (is_near q.left a x)
    near_member a x l h = near_turned q.left plain x a (g.twins x a l ∙ near_turned q.left plain a (q.rep x) h)

    pub near_rep_of : (a x : ℕ) → turn x ≡ 0 → IsTrue (is_near q.left a x) → IsTrue (is_near q.left a (q.rep x))
    near_rep_of = near_rep

    pub near_member_of : (a x : ℕ) → turn x ≡ 0 → IsTrue (is_near q.left a (q.rep x)) → IsTrue (is_near q.left a x)
    near_member_of = near_member

    module _ (u : ℕ) (near touched : List ℕ) (hood : IsHood q turn u near touched) (vertex : IsVertex q.order u) (here : turn u ≡ 0)
        (own : q.rep u ≡ u)
        (within : (a x : ℕ) → IsTrue (q.left a x) → IsVertex q.order x) where
      stand : Stand (u ∷ near)
      unfolding Stand
      stand r h = elim (has_cases (u ∷ []) near r h) [
        | inl o ↦ subst (λ z. (q.rep z ≡ z) × IsVertex q.order z × (turn z ≡ 0)) (has_one u r o) (own, vertex, here)
        | inr t ↦ (let s = hood.sound r t in (s.1, within u r s.0, (alive u r s.0).1))
      ]

      list_once : (x : ℕ) → times (u ∷ near) x ≤ 1
      list_once x =
          let o = hood.once x in
          elim (cases_eq u x) [
            | inl e ↦ (
                let none : has near x ≡ false = elim (cases_Bool (has near x)) [
                  | inl t ↦ absurd (plain.irreflexive u (subst (λ z. IsTrue (q.left u z)) (sym e) (hood.sound x t).0))
                  | inr f ↦ f
                ] in
                omega (arith, times-here u x near e, times_unless near x none)
                )
            | inr ne ↦ omega (arith, times-beyond u x near ne)
          ]

      flat_near : (x : ℕ) → IsTrue (has (flat groups (u ∷ near)) x) → IsTrue (is_near q.left u x)
      flat_near x h =
          let r = flat_from (u ∷ near) stand x h in
          let at_rep : IsTrue (is_near q.left u (q.rep x)) = elim (has_cases (u ∷ []) near (q.rep x) r) [
            | inl o ↦ subst (λ z. IsTrue (is_near q.left u z)) (has_one u (q.rep x) o) (near_own q.left u)
            | inr t ↦ near_left q.left u (q.rep x) (hood.sound (q.rep x) t).0
          ] in
          elim (cases_eq (q.rep x) x) [
            | inl e ↦ subst (λ z. IsTrue (is_near q.left u z)) e at_rep
            | inr ne ↦ near_member u x (left_of_hidden x ne) at_rep
          ]

      near_flat : (x : ℕ) → IsTrue (is_near q.left u x) → IsTrue (has (flat groups (u ∷ near)) x)
      near_flat x h =
          let l : turn x ≡ 0 = elim (near_cases q.left u x h) [ inl e ↦ subst (λ z. turn z ≡ 0) e here | inr t ↦ (alive u x t).1 ] in
          flat_to (u ∷ near) x (elim (near_cases q.left u (q.rep x) (near_rep u x l h)) [
            | inl e ↦ has_left (u ∷ []) near (q.rep x) (subst (λ z. IsTrue (has (u ∷ []) z)) e (has_own u))
            | inr t ↦ has_right (u ∷ []) near (q.rep x) (hood.complete (q.rep x) t (g.stands x))
          ])

      pub degree_weighed : at sizes u + sum_by (at sizes) near ≡ degree_of q.left q.order u + 1
      degree_weighed =
          let a = degree_near_listed q.left q.order u (flat groups (u ∷ near)) plain vertex (flat_vertices (u ∷ near) stand)
          (flat_once (u ∷ near) stand list_once)
          (λ x. same_bool (has (flat groups (u ∷ near)) x) (is_near q.left u x) (flat_near x) (near_flat x)) in
          let b = flat_length (u ∷ near) stand in
          let c = sum_by-cons (at sizes) u near in
          omega arith
