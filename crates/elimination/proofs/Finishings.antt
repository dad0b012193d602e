-- The rest of an elimination, where all that are left are joined to each other.
use Rattle.std.proofs.Common.{◌≡◌, ◌≢◌, ℕ, ◌+◌, ◌≤◌, inl, inr, false, List, [], ◌∷◌, ◌++◌, length, sym, ◌∙◌, arith, subst, IsTrue}
use Rattle.std.proofs.lemmas.Bool.{cases_eq, cases_lt, cases_Bool}
use Rattle.patterns.specs.Pattern.{has, is_joined}
use Rattle.min_tree.specs.Least.{IsFirstLeast}
use Rattle.elimination.specs.Elimination.{IsVertex, times, eliminate, eliminated, degree_of, IsRemaining, IsAdjacency}
use Rattle.elimination.specs.Quotients.{at}
use Rattle.elimination.specs.Tables.{Tables}
use Rattle.elimination.specs.Twins.{is_near}
use Rattle.elimination.specs.Progress.{IsUnderWay, IsFinishing}
use Rattle.elimination.proofs.Eliminations.{eliminated_push, pattern_eliminate, kept, keep_old}
use Rattle.elimination.proofs.ListFacts.{times_unless, times_some}
use Rattle.lists.proofs.Bools.{same_bool}
use Rattle.elimination.proofs.VertexLists.{times_push_same, times_push_other, length-part}
use Rattle.elimination.proofs.Degrees.{degree_twins, joined_to_all, left_out}
use Rattle.elimination.proofs.Groups.{near_own, near_left, near_cases}
use Rattle.elimination.proofs.Orders.{begun_push}

has_none : (xs : List ℕ) (x : ℕ) → times xs x ≡ 0 → has xs x ≡ false
has_none xs x e = elim (cases_Bool (has xs x)) [ inl t ↦ absurd (let s = times_some xs x t in omega arith) | inr f ↦ f ]

-- where the least bound is not below the number of the others that are left, all are joined
module _ (rows : List (List ℕ)) (vertices : List ℕ) (t : Tables) (place : ℕ) (s : IsUnderWay rows vertices t place) (i : ℕ)
    (f : IsFirstLeast t.bounds i)
    (many : length rows ≤ at t.bounds i + place) where
  degree_many : (u : ℕ) → IsVertex (length rows) u → times vertices u ≡ 0
      → at t.bounds i ≤ degree_of (eliminated (is_joined rows) vertices) (length rows) u
  degree_many u vertex none =
      let g = s.search.stand.grouped in
      let l = s.unturned u none in
      let vr : IsVertex (length rows) (s.search.rep u) = elim (cases_eq (s.search.rep u) u)
      [ inl e ↦ subst (IsVertex (length rows)) (sym e) vertex | inr ne ↦ (g.vertex u ne).1 ] in
      let same = degree_twins (eliminated (is_joined rows) vertices) (length rows) u
      (s.search.rep u) s.search.stand.quotient.plain vertex vr (λ z. g.twins u z l) in
      let low = s.search.stand.bounds.low (s.search.rep u) vr (g.left u l) (g.stands u) in
      let len = s.search.stand.bounds.len in
      let rn = vr.1 in
      let least = f.least (s.search.rep u) (omega arith) in
      omega arith

  pub finishing_first : IsFinishing rows vertices t.turn 1
  finishing_first =
      let q = s.search.stand.quotient in
      let alive' : (a b : ℕ) → IsTrue (eliminated (is_joined rows) vertices a b) → IsRemaining (length rows) vertices b = λ a b h. (
        elim (q.parted.near a b h) [ inl e ↦ q.within a b e | inr y ↦ (let r = q.parted.rim_from y.0 b y.1 y.3 in q.within r.0 b r.3) ],
        s.unlisted b (q.parted.alive a b h).1,
      ) in
      record {
        begun = s.begun;
        unturned = λ u le. s.unturned u;
        unlisted = λ u le. s.unlisted u;
        plain = q.plain;
        alive = alive';
        all = λ a b la lb ne.
            let here = s.here in
            let d = degree_many a la.0 la.1 in
            let near = joined_to_all (eliminated (is_joined rows) vertices)
            (length rows) a vertices q.plain s.begun.vertices s.begun.once la.0 (has_none vertices a la.1)
            (λ x h. has_none vertices x (alive' a x h).1) (omega arith) b lb.0 (has_none vertices b lb.1) in
            elim (near_cases (eliminated (is_joined rows) vertices) a b near) [ inl e ↦ absurd (ne e) | inr h ↦ h ];
        passed = λ u vertex lt. absurd (let one = vertex.0 in omega arith);
      }

module _ (rows : List (List ℕ)) (vertices : List ℕ) (turn : ℕ → ℕ) (v : ℕ) (s : IsFinishing rows vertices turn v) where
  -- v is gone already
  pub finishing_skip : turn v ≢ 0 → IsFinishing rows vertices turn (v + 1)
  finishing_skip gone = record {
    begun = s.begun;
    unturned = λ u le. s.unturned u (omega arith);
    unlisted = λ u le. s.unlisted u (omega arith);
    plain = s.plain;
    alive = s.alive;
    all = s.all;
    passed = λ u vertex lt none. elim (cases_eq u v) [
      | inl e ↦ gone (s.unturned v (omega arith) (subst (λ z. times vertices z ≡ 0) e none))
      | inr ne ↦ s.passed u vertex (omega arith) none
    ];
  }

  module _ (vertex : IsVertex (length rows) v) (here : turn v ≡ 0) where
    fresh : times vertices v ≡ 0
    fresh = s.unlisted v (omega arith) here

    left_is : eliminate (eliminated (is_joined rows) vertices) v ≡ eliminated (is_joined rows) (vertices ++ v ∷ [])
    left_is = sym (eliminated_push (is_joined rows) vertices v)

    was_fresh : (x : ℕ) → times (vertices ++ v ∷ []) x ≡ 0 → (times vertices x ≡ 0) × (x ≢ v)
    was_fresh x none =
        let other : x ≢ v = λ e. (let more = times_push_same vertices v in let z = subst (λ w. times (vertices ++ v ∷ []) w ≡ 0) e none in
        absurd (omega arith)) in
        (sym (times_push_other vertices v x other) ∙ none, other)

    near_all : (a u z : ℕ) → IsRemaining (length rows) vertices a → IsRemaining (length rows) vertices u
        → IsTrue (is_near (eliminated (is_joined rows) vertices) a z) → IsTrue (is_near (eliminated (is_joined rows) vertices) u z)
    near_all a u z la lu h =
        let lz : IsRemaining (length rows) vertices z = elim (near_cases (eliminated (is_joined rows) vertices) a z h) [
          | inl e ↦ subst (IsRemaining (length rows) vertices) e la
          | inr t ↦ s.alive a z t
        ] in
        elim (cases_eq u z) [
          | inl e ↦ subst (λ w. IsTrue (is_near (eliminated (is_joined rows) vertices) u w)) e
              (near_own (eliminated (is_joined rows) vertices) u)
          | inr ne ↦ near_left (eliminated (is_joined rows) vertices) u z (s.all u z lu lz ne)
        ]

    pub finishing_next : IsFinishing rows (vertices ++ v ∷ []) turn (v + 1)
    finishing_next =
        let n = length rows in
        let h = eliminated (is_joined rows) vertices in
        record {
          begun = begun_push (is_joined rows) n vertices v s.begun vertex fresh (λ u vu none.
              let same = degree_twins h n v u s.plain vertex vu (λ z. same_bool (is_near h v z) (is_near h u z)
              (near_all v u z (vertex, fresh) (vu, none)) (near_all u v z (vu, none) (vertex, fresh))) in
              inr (same, elim (cases_lt u v) [ inl lt ↦ absurd (s.passed u vu lt none) | inr le ↦ le ]));
          unturned = λ u le none. s.unturned u (omega arith) (was_fresh u none).0;
          unlisted = λ u le e. times_push_other vertices v u (omega arith) ∙ s.unlisted u (omega arith) e;
          plain = subst IsAdjacency left_is (pattern_eliminate h v s.plain);
          alive = λ a b t.
              let k = kept h v a b (subst (λ z. IsTrue (z a b)) (sym left_is) t) in
              let old : IsRemaining n vertices b = elim k.from [ inl x ↦ s.alive a b x | inr x ↦ s.alive v b x.2 ] in
              (old.0, times_push_other vertices v b k.right ∙ old.1);
          all = λ a b la lb ne.
              let wa = was_fresh a la.1 in
              let wb = was_fresh b lb.1 in
              subst (λ z. IsTrue (z a b)) left_is (keep_old h v a b wa.1 wb.1 (s.all a b (la.0, wa.0) (lb.0, wb.0) ne));
          passed = λ u vu lt none.
              let w = was_fresh u none in
              s.passed u vu (let ne = w.1 in omega arith) w.0;
        }

-- all are listed
pub finishing_last : (rows : List (List ℕ)) (vertices : List ℕ) (turn : ℕ → ℕ) → IsFinishing rows vertices turn (length rows + 1)
    → length vertices ≡ length rows
finishing_last rows vertices turn s =
    let n = length rows in
    let b = s.begun in
    let most = length-part n vertices (record { vertices = b.vertices; once = b.once }) in
    elim (cases_lt (length vertices) n) [
      | inl lt ↦ absurd (let out = left_out n vertices b.vertices b.once lt in let le = out.1.1 in s.passed out.0 out.1 (omega arith)
          (times_unless vertices out.0 out.2))
      | inr ge ↦ omega arith
    ]
