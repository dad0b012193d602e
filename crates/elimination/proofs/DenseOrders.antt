-- The order of a dense search: turn by turn, and its end, where all that are left are joined to each other.
use Rattle.std.proofs.Common.{◌≡◌, ◌≢◌, ℕ, ◌+◌, ◌<◌, ◌≤◌, inl, inr, Bool, true, false, eqb, List}
use Rattle.std.proofs.Common.{[], ◌∷◌, ◌++◌, length, get_or, sym, arith, subst, IsTrue}
use Rattle.std.proofs.lemmas.Bool.{cases_eq, cases_lt, cases_Bool, or_cases, or_left, or_right, eq-eqb, eqb-true, both_ways}
use Rattle.patterns.specs.Pattern.{has}
use Rattle.min_tree.specs.Least.{IsFirstLeast}
use Rattle.elimination.specs.Elimination.{IsRemaining, IsAdjacency, times, eliminate, eliminated, degree_of}
use Rattle.elimination.specs.Twins.{is_near}
use Rattle.bit_rows.specs.Bits.{bit_in}
use Rattle.elimination.specs.Dense.{IsStanding, IsDense, IsDenseChoice, IsDenseUnderWay, IsDenseRest}
use Rattle.elimination.specs.Dense.{IsLeastDegreeOrder, stage_of, stage_after}
use Rattle.elimination.specs.declared.dense.DenseSearch.{DenseSearch}
use Rattle.elimination.proofs.Eliminations.{eliminated_push, pattern_eliminate, kept, keep_old}
use Rattle.elimination.proofs.ListFacts.{times_unless, times_some}
use Rattle.lists.proofs.Bools.{same_bool}
use Rattle.elimination.proofs.VertexLists.{times_append, times-here, times-beyond}
use Rattle.elimination.proofs.VertexLists.{length-part}
use Rattle.elimination.specs.Progress.{IsBegun}
use Rattle.elimination.proofs.Degrees.{degree_twins, joined_to_all, left_out}
use Rattle.elimination.proofs.Orders.{begun_push}

has_none : (xs : List ℕ) (x : ℕ) → times xs x ≡ 0 → has xs x ≡ false
has_none xs x e = elim (cases_Bool (has xs x)) [ inl t ↦ absurd (let s = times_some xs x t in omega arith) | inr f ↦ f ]

module _ (joined : ℕ → ℕ → Bool) (vertices : List ℕ) (search : DenseSearch) (s : IsDenseUnderWay joined vertices search) where
  -- one is left, as long as not all are gone
  pub some_left : length vertices < search.order → (w : ℕ) × IsStanding (stage_of joined search.order vertices) w
  some_left lt = let out = left_out search.order vertices s.begun.vertices s.begun.once lt in
      (out.0, (out.1, times_unless vertices out.0 out.2))

  -- v is eliminated
  pub under_way_next : (v : ℕ) (search1 search' : DenseSearch) → search'.order ≡ search.order
      → IsDenseChoice (stage_of joined search.order vertices) search1 v
      → IsDense (stage_after (stage_of joined search.order vertices) v) search' → IsDenseUnderWay joined (vertices ++ v ∷ []) search'
  under_way_next v search1 search' same choice dense =
      let n = search.order in
      let back : n ≡ search'.order = sym same in
      let left_is : eliminate (eliminated joined vertices) v ≡ eliminated joined (vertices ++ v ∷ []) = sym
      (eliminated_push joined vertices v) in
      record {
        begun = subst (λ m. IsBegun joined m (vertices ++ v ∷ [])) back
            (begun_push joined n vertices v s.begun choice.here.0 choice.here.1 (λ u vu none. choice.first u (vu, none)));
        dense = subst (λ m. IsDense (stage_of joined m (vertices ++ v ∷ [])) search') back
            (subst (λ left. IsDense (record { order = n; left = left; gone = vertices ++ v ∷ [] }) search') left_is dense);
      }

  pub under_way_last : search.order ≤ length vertices → IsLeastDegreeOrder joined search.order vertices
  under_way_last le =
      let most = length-part search.order vertices (record { vertices = s.begun.vertices; once = s.begun.once }) in
      record { len = omega arith; begun = s.begun }

  -- where the least bound is not below the number of the others that are left, all are joined
  module _ (i : ℕ) (f : IsFirstLeast search.bounds i) (many : search.order ≤ get_or search.bounds i 0 + length vertices + 1) where
    degree_many : (u : ℕ) → IsStanding (stage_of joined search.order vertices) u
        → get_or search.bounds i 0 ≤ degree_of (eliminated joined vertices) search.order u
    degree_many u lu =
        let b = s.dense.bounds in
        let len = b.len in
        let un = lu.0.1 in
        let least = f.least u (omega arith) in
        let low = b.low u lu in
        omega arith

    pub rest_first : IsDenseRest joined search.order search.alive vertices 1
    rest_first =
        let rows = s.dense.rows in
        let left = eliminated joined vertices in
        record {
          begun = s.begun;
          plain = rows.plain;
          within = rows.within;
          all = λ a b la lb ne.
              let d = degree_many a la in
              let near = joined_to_all (eliminated joined vertices) search.order a vertices rows.plain s.begun.vertices s.begun.once la.0
              (has_none vertices a la.1)
              (λ x t. has_none vertices x (rows.within x a (rows.plain.symmetric a x t)).1) (omega arith) b lb.0
              (has_none vertices b lb.1) in
              elim (or_cases (eqb a b) _ near) [ inl e ↦ absurd (ne (eqb-true a b e)) | inr t ↦ t ];
          passed = λ u vertex lt. absurd (let one = vertex.0 in omega arith);
          alive_from = λ u le t. rows.alive_from u t;
          alive_to = λ u le lu. rows.alive_to u lu;
        }

module _ (joined : ℕ → ℕ → Bool) (n : ℕ) (alive : List Bool) (vertices : List ℕ) (v : ℕ) (s : IsDenseRest joined n alive vertices v) where
  -- v is gone already
  pub rest_skip : bit_in alive v ≡ false → IsDenseRest joined n alive vertices (v + 1)
  rest_skip gone = record {
    begun = s.begun;
    plain = s.plain;
    within = s.within;
    all = s.all;
    passed = λ u vertex lt none. elim (cases_eq u v) [
      | inl e ↦ both_ways _ gone (s.alive_to v (omega arith) (subst (IsRemaining n vertices) e (vertex, none)))
      | inr ne ↦ s.passed u vertex (omega arith) none
    ];
    alive_from = λ u le t. s.alive_from u (omega arith) t;
    alive_to = λ u le lu. s.alive_to u (omega arith) lu;
  }

  module _ (stands : bit_in alive v ≡ true) where
    here : IsRemaining n vertices v
    here = s.alive_from v (omega arith) stands

    left_is : eliminate (eliminated joined vertices) v ≡ eliminated joined (vertices ++ v ∷ [])
    left_is = sym (eliminated_push joined vertices v)

    still : (x : ℕ) → IsRemaining n vertices x → x ≢ v → IsRemaining n (vertices ++ v ∷ []) x
    still x lx ne = let a = times_append vertices (v ∷ []) x in let b = times-beyond v x [] (λ z. ne (sym z)) in let z = lx.1 in
        (lx.0, omega arith)

    was : (x : ℕ) → IsRemaining n (vertices ++ v ∷ []) x → IsRemaining n vertices x × (x ≢ v)
    was x lx =
        let a = times_append vertices (v ∷ []) x in
        let z = lx.1 in
        ((lx.0, omega arith), λ e. absurd (let b = times-here v x [] (sym e) in omega arith))

    near_all : (a u z : ℕ) → IsRemaining n vertices a → IsRemaining n vertices u → IsTrue (is_near (eliminated joined vertices) a z)
        → IsTrue (is_near (eliminated joined vertices) u z)
    near_all a u z la lu h =
        let lz : IsRemaining n vertices z = elim (or_cases (eqb a z) _ h) [
          | inl e ↦ subst (IsRemaining n vertices) (eqb-true a z e) la
          | inr t ↦ s.within z a (s.plain.symmetric a z t)
        ] in
        elim (cases_eq u z) [
          | inl e ↦ or_left (eqb u z) _ (eq-eqb u z e)
          | inr ne ↦ or_right (eqb u z) _ (s.all u z lu lz ne)
        ]

    pub rest_next : IsDenseRest joined n alive (vertices ++ v ∷ []) (v + 1)
    rest_next =
        let h = eliminated joined vertices in
        record {
          begun = begun_push joined n vertices v s.begun here.0 here.1 (λ u vu none.
              let same = degree_twins h n v u s.plain here.0 vu
              (λ z. same_bool (is_near h v z) (is_near h u z) (near_all v u z here (vu, none)) (near_all u v z (vu, none) here)) in
              inr (same, elim (cases_lt u v) [ inl lt ↦ absurd (s.passed u vu lt none) | inr le ↦ le ]));
          plain = subst IsAdjacency left_is (pattern_eliminate h v s.plain);
          within = λ a b t.
              let k = kept h v a b (subst (λ z. IsTrue (z a b)) (sym left_is) t) in
              still a (elim k.from [ inl x ↦ s.within a b x | inr x ↦ s.within a v (s.plain.symmetric v a x.1) ]) k.left;
          all = λ a b la lb ne.
              let wa = was a la in
              let wb = was b lb in
              subst (λ z. IsTrue (z a b)) left_is (keep_old h v a b wa.1 wb.1 (s.all a b wa.0 wb.0 ne));
          passed = λ u vu lt none.
              let w = was u (vu, none) in
              s.passed u vu (let ne = w.1 in omega arith) w.0.1;
          alive_from = λ u le t. still u (s.alive_from u (omega arith) t) (λ e. absurd (omega arith));
          alive_to = λ u le lu. s.alive_to u (omega arith) (was u lu).0;
        }

  pub rest_last : n < v → IsLeastDegreeOrder joined n vertices
  rest_last beyond =
      let most = length-part n vertices (record { vertices = s.begun.vertices; once = s.begun.once }) in
      record {
        len = elim (cases_lt (length vertices) n) [
          | inl lt ↦ absurd (let out = left_out n vertices s.begun.vertices s.begun.once lt in let le = out.1.1 in
              s.passed out.0 out.1 (omega arith) (times_unless vertices out.0 out.2))
          | inr ge ↦ omega arith
        ];
        begun = s.begun;
      }
