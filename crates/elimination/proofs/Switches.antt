-- The row of a vertex from its hood and the groups of twins.
use Rattle.std.proofs.Common.{◌≡◌, ◌≢◌, ◌⊎◌, inl, inr, ℕ, ◌≤◌, Bool, eqb, List, [], ◌++◌}
use Rattle.std.proofs.Common.{map, length, refl, sym, ap, ◌∙◌, arith, subst, IsTrue}
use Rattle.std.proofs.lemmas.Bool.{cases_eq, cases_lt, or_left, eq-eqb}
use Rattle.std.proofs.lemmas.List.{get_or_past}
use Rattle.patterns.specs.Pattern.{has}
use Rattle.elimination.specs.Elimination.{IsVertex, IsAdjacency, eliminated, degree_of}
use Rattle.elimination.specs.Quotients.{Quotient, at}
use Rattle.elimination.specs.Tables.{Tables}
use Rattle.elimination.specs.Turns.{StandFor, IsReleased}
use Rattle.elimination.specs.Twins.{is_near}
use Rattle.bit_rows.specs.Bits.{bit_in}
use Rattle.elimination.specs.Dense.{IsStanding, IsFullRow, IsFilling, IsDense, IsDenseUnderWay, IsLeastDegreeOrder, width_of}
use Rattle.elimination.specs.declared.dense.DenseSearch.{DenseSearch}
use Rattle.elimination.specs.Switch.{most_of, stage_at, renumbered, AreNumbers, IsNumberIn, IsNumberInGroups, CanFill, IsRestAfter}
use Rattle.elimination.specs.declared.switch.Rest.{Rest}
use Rattle.elimination.proofs.Orders.{begun_none}
use Rattle.elimination.proofs.Renumberings.{order_after, vertex_at, number_at, same_vertex, near_numbered, degree_numbered}
use Rattle.lists.proofs.Bools.{same_bool}
use Rattle.elimination.proofs.Degrees.{degree_twins}
use Rattle.elimination.proofs.DenseFilling.{filled}
use Rattle.elimination.proofs.Groups.{near_own, near_left, near_cases}

near_back : (left : ℕ → ℕ → Bool) → IsAdjacency left → (a b : ℕ) → IsTrue (is_near left a b) → IsTrue (is_near left b a)
near_back left p a b near = elim (near_cases left a b near) [
  | inl e ↦ or_left (eqb b a) _ (eq-eqb b a (sym e))
  | inr t ↦ near_left left b a (p.symmetric a b t)
]

-- what is joined is left
pub joined_left : (q : Quotient) (t : Tables) → StandFor q t → (a b : ℕ) → IsTrue (q.left a b) → IsVertex q.order b × (t.turn b ≡ 0)
joined_left q t stand a b h =
    let u = stand.quotient in (
      elim (u.parted.near a b h) [
        | inl e ↦ u.within a b e
        | inr y ↦ (let r = u.parted.rim_from y.0 b y.1 y.3 in u.within r.0 b r.3)
      ],
      (u.parted.alive a b h).1,
    )

-- a pattern stays one
renumbered_plain : (left : ℕ → ℕ → Bool) (vertices : List ℕ) → at vertices 0 ≡ 0 → IsAdjacency left → IsAdjacency (renumbered left vertices)
renumbered_plain left vertices first p = record {
  symmetric = λ j k t. p.symmetric (at vertices j) (at vertices k) t;
  irreflexive = λ j t. p.irreflexive (at vertices j) t;
  none_of_0 = λ k t. p.none_of_0 (at vertices k) (subst (λ z. IsTrue (left z (at vertices k))) first t);
}

-- what is joined has a new number
number_within : (left : ℕ → ℕ → Bool) (vertices : List ℕ) → at vertices 0 ≡ 0 → IsAdjacency left → (j k : ℕ)
    → IsTrue (renumbered left vertices j k) → IsVertex (most_of vertices) j
number_within left vertices first p j k t =
    let out : at vertices j ≢ 0 = λ e. p.none_of_0 (at vertices k) (subst (λ z. IsTrue (left z (at vertices k))) e t) in (
      elim (cases_eq j 0) [ inl e ↦ absurd (out (ap (at vertices) e ∙ first)) | inr ne ↦ omega arith ],
      elim (cases_lt j (length vertices)) [ inl lt ↦ omega arith | inr ge ↦ absurd (out (get_or_past vertices j 0 ge)) ],
    )

module _ (q : Quotient) (t : Tables) (v : ℕ) (s : IsReleased q t v) where
  -- those in the groups of the hood are vertices
  pub group_vertex : (r x : ℕ) → IsTrue (has (t.groups r) x) → IsVertex q.order x
  group_vertex r x h =
      let g = s.stand.grouped in
      let m = g.members r x h in
      (g.vertex x (λ e. m.1 (sym e ∙ m.0))).0

  module _ (vertices numbers : List ℕ) (a : AreNumbers t.turn q.order vertices numbers) where
    -- the bits of a row are new numbers
    module _ (row : List Bool) (own : IsTrue (bit_in row (at numbers v)))
        (group : (x : ℕ) → IsTrue (has (t.groups v) x) → IsTrue (bit_in row (at numbers x)))
        (near : (x : ℕ) → IsTrue (has t.near x) → IsTrue (bit_in row (at numbers x)))
        (groups : (r x : ℕ) → IsTrue (has t.near r) → IsTrue (has (t.groups r) x) → IsTrue (bit_in row (at numbers x)))
        (from : (y : ℕ) → IsTrue (bit_in row y) → (at numbers v ≡ y) ⊎
        (IsNumberIn numbers (t.groups v) y ⊎ (IsNumberIn numbers t.near y ⊎ IsNumberInGroups numbers t.groups t.near y))) where
      full_to : (x : ℕ) → IsVertex q.order x → t.turn x ≡ 0 → IsTrue (bit_in row (at numbers x)) → IsTrue (is_near q.left v x)
      full_to x vx here h =
          let g = s.stand.grouped in
          let plain = s.stand.quotient.plain in
          let same = same_vertex t.turn q.order vertices numbers a x in
          elim (from (at numbers x) h) [
            | inl e ↦ subst (λ z. IsTrue (is_near q.left v z)) (same v vx here e) (near_own q.left v)
            | inr o ↦ elim o [
              | inl m ↦ (
                  let is = subst (λ z. IsTrue (has (t.groups v) z)) (same m.0 vx here m.2) m.1 in
                  subst (λ z. IsTrue (is_near q.left z x)) (g.members v x is).0 (sym (g.twins x x here) ∙ near_own q.left x)
                  )
              | inr o' ↦ elim o' [
                | inl n ↦ near_left q.left v x (s.hood.sound x (subst (λ z. IsTrue (has t.near z)) (same n.0 vx here n.2) n.1)).0
                | inr i ↦ (
                    let r = i.0 in
                    let is = subst (λ z. IsTrue (has (t.groups r) z)) (same i.2.0 vx here i.2.2) i.2.1 in
                    near_back q.left plain x v (
                    g.twins x v here
                    ∙ subst (λ z. IsTrue (is_near q.left z v)) (sym (g.members r x is).0)
                    (near_left q.left r v (plain.symmetric v r (s.hood.sound r i.1).0))
                    )
                    )
              ]
            ]
          ]

      full_from : (x : ℕ) → t.turn x ≡ 0 → IsTrue (is_near q.left v x) → IsTrue (bit_in row (at numbers x))
      full_from x here h =
          let g = s.stand.grouped in
          let plain = s.stand.quotient.plain in
          let r = q.rep x in
          let back : IsTrue (is_near q.left r v) = sym (g.twins x v here) ∙ near_back q.left plain v x h in
          elim (near_cases q.left r v back) [
            | inl e ↦ elim (cases_eq (q.rep x) x) [
              | inl same ↦ subst (λ z. IsTrue (bit_in row (at numbers z))) (sym e ∙ same) own
              | inr ne ↦ group x (subst (λ z. IsTrue (has (t.groups z) x)) e (g.listed x ne))
            ]
            | inr l ↦ (
                let n = s.hood.complete r (plain.symmetric r v l) (g.stands x) in
                elim (cases_eq (q.rep x) x) [
                  | inl same ↦ near x (subst (λ z. IsTrue (has t.near z)) same n)
                  | inr ne ↦ groups r x n (g.listed x ne)
                ]
                )
          ]

      pub full_exact : (x : ℕ) → IsVertex q.order x → t.turn x ≡ 0 → bit_in row (at numbers x) ≡ is_near q.left v x
      full_exact x vx here =
          same_bool (bit_in row (at numbers x)) (is_near q.left v x) (full_to x vx here) (full_from x here)

    -- the row of a vertex that is left, by new numbers
    module _ (u : ℕ) (vu : IsVertex q.order u) (hu : t.turn u ≡ 0) where
      near_is : (y : ℕ) → IsStanding (stage_at q.left vertices) y
          → is_near (renumbered q.left vertices) (at numbers u) y ≡ is_near q.left u (at vertices y)
      near_is y ly =
          let k = vertex_at t.turn q.order vertices numbers a u vu hu in
          let some = a.numbered.some in
          let most = ly.0.1 in
          near_numbered t.turn q.order vertices a.numbered q.left (at numbers u) y (a.most u) (omega arith)
          ∙ ap (λ z. is_near q.left z (at vertices y)) k.1

      pub full_row : (row : List Bool) → length row ≡ width_of (most_of vertices)
          → ((x : ℕ) → IsVertex q.order x → t.turn x ≡ 0 → bit_in row (at numbers x) ≡ is_near q.left u x)
          → IsFullRow (stage_at q.left vertices) (at numbers u) row
      full_row row width exact = record {
        width = width;
        exact = λ y ly.
            let l = a.numbered.left y ly.0 in
            sym (ap (bit_in row) (number_at t.turn q.order vertices numbers a y ly.0)) ∙ exact (at vertices y) l.0 l.1 ∙ sym (near_is y ly);
      }

      pub numbered_stands : IsStanding (stage_at q.left vertices) (at numbers u)
      numbered_stands = ((vertex_at t.turn q.order vertices numbers a u vu hu).0, refl)

      pub numbered_degree : degree_of (renumbered q.left vertices) (most_of vertices) (at numbers u) ≡ degree_of q.left q.order u
      numbered_degree =
          let k = vertex_at t.turn q.order vertices numbers a u vu hu in
          degree_numbered t.turn q.order vertices a.numbered (renumbered q.left vertices) q.left (λ x y vx vy. refl)
          (joined_left q t s.stand) (at numbers u) k.0 ∙ ap (degree_of q.left q.order) k.1

    -- v, and those for which it stands
    pub own_stands : IsStanding (stage_at q.left vertices) (at numbers v)
    own_stands = numbered_stands v s.vertex s.here

    pub own_bound : at t.bounds v ≤ degree_of (renumbered q.left vertices) (most_of vertices) (at numbers v)
    own_bound =
        let low = s.stand.bounds.low v s.vertex s.here s.stands in
        let e = numbered_degree v s.vertex s.here in
        omega arith

    module _ (x : ℕ) (h : IsTrue (has (t.groups v) x)) where
      not_gone : t.turn x ≡ 0
      not_gone =
          let g = s.stand.grouped in
          let m = g.members v x h in
          elim (cases_eq (t.turn x) 0) [ inl e ↦ e | inr ne ↦ absurd (m.1 (sym (g.gone x (omega arith)) ∙ m.0)) ]

      same_near : (z : ℕ) → is_near q.left x z ≡ is_near q.left v z
      same_near z = s.stand.grouped.twins x z not_gone ∙ ap (λ r. is_near q.left r z) (s.stand.grouped.members v x h).0

      pub twin_stands : IsStanding (stage_at q.left vertices) (at numbers x)
      twin_stands = numbered_stands x (group_vertex v x h) not_gone

      pub twin_bound : at t.bounds v ≤ degree_of (renumbered q.left vertices) (most_of vertices) (at numbers x)
      twin_bound =
          let e = degree_twins q.left q.order x v s.stand.quotient.plain (group_vertex v x h) s.vertex same_near in
          let low = s.stand.bounds.low v s.vertex s.here s.stands in
          let d = numbered_degree x (group_vertex v x h) not_gone in
          omega arith

      pub twin_full : (row : List Bool) → IsFullRow (stage_at q.left vertices) (at numbers v) row
          → IsFullRow (stage_at q.left vertices) (at numbers x) row
      twin_full row f = record {
        width = f.width;
        exact = λ y ly. f.exact y ly ∙ near_is v s.vertex s.here y ly ∙ sym (same_near (at vertices y))
            ∙ sym (near_is x (group_vertex v x h) not_gone y ly);
      }

module _ (rows : List (List ℕ)) (q : Quotient) (t : Tables) (f : CanFill rows q t) where
  -- who stands for a vertex that is left is a vertex that is left, and stands for itself
  pub rep_vertex : (x : ℕ) → IsVertex q.order x → IsVertex q.order (q.rep x)
  rep_vertex x vx = elim (cases_eq (q.rep x) x) [
    | inl e ↦ subst (IsVertex q.order) (sym e) vx
    | inr ne ↦ (f.stand.grouped.vertex x ne).1
  ]

  pub all_filled : (vertices numbers : List ℕ) (dense : DenseSearch) → AreNumbers t.turn q.order vertices numbers
      → IsFilling (stage_at q.left vertices) dense
      → ((x : ℕ) → IsVertex q.order x → t.turn x ≡ 0 → IsTrue (bit_in dense.alive (at numbers x)))
      → IsDense (stage_at q.left vertices) dense
  all_filled vertices numbers dense a filling all =
      let plain = f.stand.quotient.plain in
      filled (stage_at q.left vertices) dense (renumbered_plain q.left vertices a.numbered.first plain)
      (λ j k h. (number_within q.left vertices a.numbered.first plain j k h, refl)) filling
      (λ y ly. (
      let l = a.numbered.left y ly.0 in
      subst (λ z. IsTrue (bit_in dense.alive z)) (number_at t.turn q.order vertices numbers a y ly.0) (all (at vertices y) l.0 l.1)
      ))

-- the dense search of the new numbers can begin
pub rest_starts : (joined : ℕ → ℕ → Bool) (n : ℕ) (gone : List ℕ) (rest : Rest) → IsRestAfter joined n gone rest
    → IsDenseUnderWay (renumbered (eliminated joined gone) rest.vertices.items) [] rest.search
rest_starts joined n gone rest s =
    let left = renumbered (eliminated joined gone) rest.vertices.items in
    record {
      begun = begun_none left rest.search.order;
      dense = subst (λ m. IsDense (record { order = m; left = left; gone = [] }) rest.search) (sym s.dense.order_is) s.dense;
    }

-- .. and where it ends, all are listed
pub rest_ends : (joined : ℕ → ℕ → Bool) (n : ℕ) (gone : List ℕ) (rest : Rest) → IsRestAfter joined n gone rest → (order : List ℕ)
    → IsLeastDegreeOrder (renumbered (eliminated joined gone) rest.vertices.items) rest.search.order order
    → IsLeastDegreeOrder joined n (gone ++ map (at rest.vertices.items) order)
rest_ends joined n gone rest s order o =
    let left = renumbered (eliminated joined gone) rest.vertices.items in
    let o' = subst (λ m. IsLeastDegreeOrder left m order) s.dense.order_is o in
    order_after joined n gone rest.vertices.items s.begun s.within s.numbered order o'.begun o'.len
