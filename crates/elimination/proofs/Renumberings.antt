-- The vertices that are left, numbered anew by rising number: what is left of the pattern goes on by the new numbers as by the old.
use Rattle.std.proofs.Common.{◌≡◌, ◌≢◌, ℕ, zero, suc, ◌+◌, ◌-◌, ◌<◌, ◌≤◌, inl, inr, Bool, false, not, eqb, List, [], ◌∷◌}
use Rattle.std.proofs.Common.{◌++◌, map, length, get_or, take, refl, sym, ap, ◌∙◌, arith, subst, IsTrue, length-append}
use Rattle.std.specs.List.{All}
use Rattle.std.proofs.lemmas.Bool.{cases_eq, cases_lt, eq-eqb, ne_eqb, false_from_ne_true}
use Rattle.std.specs.Prelude.{◌&&◌, ◌||◌, set}
use Rattle.std.proofs.lemmas.List.{length-map, get_or_append_left, get_or_push, get_or-append-add, get_or-map, take-append-le, take-map}
use Rattle.std.proofs.Math.Seq.{take-append-add}
use Rattle.std.proofs.lemmas.List.Elements.{All-head, All-tail, All-append, All-map, All-take}
use Rattle.elimination.specs.Elimination.{IsVertex, IsRemaining, IsAhead, GoByLeastDegree, times, eliminate, eliminated, degree_of}
use Rattle.patterns.specs.Pattern.{has}
use Rattle.elimination.specs.Quotients.{at}
use Rattle.elimination.specs.Twins.{is_near}
use Rattle.elimination.specs.Switch.{most_of, renumbered, AreNumbered, AreNumbers}
use Rattle.elimination.proofs.Degrees.{bit, counted, counted_zero, counted_last, counted_is, left_out}
use Rattle.elimination.proofs.Eliminations.{kept}
use Rattle.elimination.proofs.VertexLists.{times-here, times-beyond, times_append, part-push, length-part}
use Rattle.elimination.proofs.BoundSteps.{at_here, at_other}
use Rattle.elimination.proofs.ListFacts.{times_unless}
use Rattle.elimination.specs.Progress.{IsBegun}
use Rattle.elimination.specs.Dense.{IsLeastDegreeOrder}

-- where a test passes none of the numbers after a
counted_flat : (p : ℕ → Bool) (a d : ℕ) → ((x : ℕ) → a < x → x ≤ a + d → p x ≡ false) → counted p (a + d) ≡ counted p a
counted_flat p a zero none = let e : a + 0 ≡ a = omega arith in ap (counted p) e
counted_flat p a (suc d) none =
    let e : a + suc d ≡ suc (a + d) = omega arith in
    let rest = counted_flat p a d (λ x lt le. none x lt (omega arith)) in
    let last = counted_last p (a + d) in
    let out : p (suc (a + d)) ≡ false = none (suc (a + d)) (omega arith) (omega arith) in
    let b : bit (p (suc (a + d))) ≡ 0 = ap bit out in
    ap (counted p) e ∙ omega arith

module _ (turn : ℕ → ℕ) (n : ℕ) (vertices : List ℕ) (s : AreNumbered turn n vertices) where
  -- no two numbers are of one vertex
  pub number_once : (j k : ℕ) → j < length vertices → k < length vertices → at vertices j ≡ at vertices k → j ≡ k
  number_once j k lj lk e = elim (cases_eq j k) [
    | inl same ↦ same
    | inr ne ↦ elim (cases_lt j k) [
      | inl lt ↦ absurd (let r = s.rises j k lt lk in omega arith)
      | inr ge ↦ absurd (let r = s.rises k j (omega arith) lj in omega arith)
    ]
  ]

  -- numbers are equal where their vertices are
  pub eqb_numbered : (j k : ℕ) → j < length vertices → k < length vertices → eqb (at vertices j) (at vertices k) ≡ eqb j k
  eqb_numbered j k lj lk = elim (cases_eq j k) [
    | inl e ↦ eq-eqb (at vertices j) (at vertices k) (ap (at vertices) e) ∙ sym (eq-eqb j k e)
    | inr ne ↦ ne_eqb (at vertices j) (at vertices k) (λ e. ne (number_once j k lj lk e)) ∙ sym (ne_eqb j k ne)
  ]

  -- tests of numbers and of their vertices that agree pass as many
  module _ (p r : ℕ → Bool) (same : (k : ℕ) → IsVertex (most_of vertices) k → p k ≡ r (at vertices k))
      (left : (x : ℕ) → IsTrue (r x) → IsVertex n x × (turn x ≡ 0)) where
    between : (k x : ℕ) → k < length vertices → at vertices k < x
        → ((j : ℕ) → k < j → j < length vertices → x < at vertices j) → r x ≡ false
    between k x lk gt below = false_from_ne_true (r x) (λ t. (
        let l = left x t in
        let j = s.all x l.0 l.1 in
        let e = j.2 in
        let one = j.1.0 in
        let most = j.1.1 in
        let some = s.some in
        let jl : j.0 < length vertices = omega arith in
        elim (cases_lt k j.0) [
          | inl lt ↦ absurd (let b = below j.0 lt jl in omega arith)
          | inr ge ↦ elim (cases_eq j.0 k) [
            | inl is ↦ absurd (let f = ap (at vertices) is in omega arith)
            | inr ne ↦ absurd (let b = s.rises j.0 k (omega arith) lk in omega arith)
          ]
        ]
        ))

    counted_to : (k : ℕ) → k < length vertices → counted p k ≡ counted r (at vertices k)
    counted_to zero lt = counted_zero p ∙ sym (ap (counted r) s.first ∙ counted_zero r)
    counted_to (suc k) lt =
        let before = counted_to k (omega arith) in
        let up = s.rises k (suc k) (omega arith) lt in
        let d : ℕ = at vertices (suc k) - at vertices k - 1 in
        let flat = counted_flat r (at vertices k) d (λ x lt' le. between k x (omega arith) lt' (λ j lj jl. (
        elim (cases_eq j (suc k)) [
          | inl e ↦ (let f = ap (at vertices) e in omega arith)
          | inr ne ↦ (let b = s.rises (suc k) j (omega arith) jl in omega arith)
        ]
        ))) in
        let e : suc (at vertices k + d) ≡ at vertices (suc k) = omega arith in
        let last = counted_last r (at vertices k + d) in
        let last' = counted_last p k in
        let own = same (suc k) (omega arith, omega arith) in
        let b : bit (p (suc k)) ≡ bit (r (suc (at vertices k + d))) = ap bit (own ∙ ap r (sym e)) in
        let whole = ap (counted r) e in
        omega arith

    pub counted_numbered : counted p (most_of vertices) ≡ counted r n
    counted_numbered =
        let some = s.some in
        let m : ℕ = most_of vertices in
        let to = counted_to m (omega arith) in
        let le : at vertices m ≤ n = elim (cases_eq m 0) [
          | inl e ↦ (let f = ap (at vertices) e ∙ s.first in omega arith)
          | inr ne ↦ (let l = (s.left m (omega arith, omega arith)).0.1 in omega arith)
        ] in
        let d : ℕ = n - at vertices m in
        let e : at vertices m + d ≡ n = omega arith in
        let flat = counted_flat r (at vertices m) d (λ x lt le'. between m x (omega arith) lt (λ j lj jl. absurd (omega arith))) in
        to ∙ sym flat ∙ ap (counted r) e

  -- ---- what is left

  -- the patterns agree, one by new numbers, the other by vertices
  abbrev pub Agree : (ℕ → ℕ → Bool) → (ℕ → ℕ → Bool) → Type 0
  Agree new old = (j k : ℕ) → IsVertex (most_of vertices) j → IsVertex (most_of vertices) k → new j k ≡ old (at vertices j) (at vertices k)

  inside : (k : ℕ) → IsVertex (most_of vertices) k → k < length vertices
  inside k vk = let some = s.some in let most = vk.1 in omega arith

  eliminate_agrees : (new old : ℕ → ℕ → Bool) (i : ℕ) → IsVertex (most_of vertices) i → Agree new old
      → Agree (eliminate new i) (eliminate old (at vertices i))
  unfolding eliminate
  eliminate_agrees new old i vi same j k vj vk =
      let li = inside i vi in
      let lj = inside j vj in
      let lk = inside k vk in
      let g : Bool → Bool → Bool → Bool → Bool → Bool → Bool = λ a b c d e f. not a && (not b && (c || (not d && (e && f)))) in
      let x = at vertices j in
      let y = at vertices k in
      let z = at vertices i in
      ap (λ a. g a (eqb k i) (new j k) (eqb j k) (new i j) (new i k)) (sym (eqb_numbered j i lj li))
      ∙ ap (λ b. g (eqb x z) b (new j k) (eqb j k) (new i j) (new i k)) (sym (eqb_numbered k i lk li))
      ∙ ap (λ c. g (eqb x z) (eqb y z) c (eqb j k) (new i j) (new i k)) (same j k vj vk)
      ∙ ap (λ d. g (eqb x z) (eqb y z) (old x y) d (new i j) (new i k)) (sym (eqb_numbered j k lj lk))
      ∙ ap (λ e. g (eqb x z) (eqb y z) (old x y) (eqb x y) e (new i k)) (same i j vi vj)
      ∙ ap (λ f. g (eqb x z) (eqb y z) (old x y) (eqb x y) (old z x) f) (same i k vi vk)

  eliminated_agrees : (xs : List ℕ) → All (IsVertex (most_of vertices)) xs → (new old : ℕ → ℕ → Bool) → Agree new old
      → Agree (eliminated new xs) (eliminated old (map (at vertices) xs))
  eliminated_agrees [] all new old same = same
  eliminated_agrees (i ∷ xs) all new old same =
      eliminated_agrees xs (All-tail (IsVertex (most_of vertices)) i xs all) (eliminate new i) (eliminate old (at vertices i))
      (eliminate_agrees new old i (All-head (IsVertex (most_of vertices)) i xs all) same)

  -- degrees are the same
  pub degree_numbered : (new old : ℕ → ℕ → Bool) → Agree new old
      → ((a b : ℕ) → IsTrue (old a b) → IsVertex n b × (turn b ≡ 0)) → (k : ℕ) → IsVertex (most_of vertices) k
      → degree_of new (most_of vertices) k ≡ degree_of old n (at vertices k)
  degree_numbered new old same within k vk =
      sym (counted_is (new k) (most_of vertices))
      ∙ counted_numbered (new k) (old (at vertices k)) (λ j vj. same k j vk vj) (within (at vertices k))
      ∙ counted_is (old (at vertices k)) n

  -- numbers rise as their vertices do
  rises_le : (j k : ℕ) → k < length vertices → j ≤ k → at vertices j ≤ at vertices k
  rises_le j k lk le = elim (cases_eq j k) [
    | inl e ↦ (let f = ap (at vertices) e in omega arith)
    | inr ne ↦ (let r = s.rises j k (omega arith) lk in omega arith)
  ]

  pub near_numbered : (left : ℕ → ℕ → Bool) (j k : ℕ) → j < length vertices → k < length vertices
      → is_near (renumbered left vertices) j k ≡ is_near left (at vertices j) (at vertices k)
  near_numbered left j k lj lk = ap (λ b. b || left (at vertices j) (at vertices k)) (sym (eqb_numbered j k lj lk))

  -- ---- how often

  times_numbered : (xs : List ℕ) (k : ℕ) → All (IsVertex (most_of vertices)) xs → IsVertex (most_of vertices) k
      → times (map (at vertices) xs) (at vertices k) ≡ times xs k
  times_numbered [] k all vk = refl
  times_numbered (j ∷ xs) k all vk =
      let rest = times_numbered xs k (All-tail (IsVertex (most_of vertices)) j xs all) vk in
      let lj = inside j (All-head (IsVertex (most_of vertices)) j xs all) in
      let ys = map (at vertices) xs in
      elim (cases_eq j k) [
        | inl e ↦ omega (arith, times-here (at vertices j) (at vertices k) ys (ap (at vertices) e), times-here j k xs e, rest)
        | inr ne ↦ omega (
          arith,
          times-beyond (at vertices j) (at vertices k) ys (λ e. ne (number_once j k lj (inside k vk) e)),
          times-beyond j k xs ne,
          rest,
        )
      ]

  number_of : (xs : List ℕ) → All (IsVertex (most_of vertices)) xs → (v : ℕ) → times (map (at vertices) xs) v ≢ 0
      → (k : ℕ) × IsVertex (most_of vertices) k × (at vertices k ≡ v)
  number_of [] all v some = absurd (some refl)
  number_of (j ∷ xs) all v some = elim (cases_eq (at vertices j) v) [
    | inl e ↦ (j, All-head (IsVertex (most_of vertices)) j xs all, e)
    | inr ne ↦ number_of xs (All-tail (IsVertex (most_of vertices)) j xs all) v
        (λ z. some (times-beyond (at vertices j) v (map (at vertices) xs) ne ∙ z))
  ]

-- ---- one list after another

eliminated_append : (joined : ℕ → ℕ → Bool) (xs ys : List ℕ) → eliminated joined (xs ++ ys) ≡ eliminated (eliminated joined xs) ys
eliminated_append joined [] ys = refl
eliminated_append joined (x ∷ xs) ys = eliminated_append (eliminate joined x) xs ys

-- who was in no pair comes into none
still_within : (S : ℕ → Type 0) (xs : List ℕ) (left : ℕ → ℕ → Bool) → ((a b : ℕ) → IsTrue (left a b) → S b)
    → (a b : ℕ) → IsTrue (eliminated left xs a b) → S b
still_within S [] left within a b t = within a b t
still_within S (x ∷ xs) left within a b t =
    still_within S xs (eliminate left x) (λ a b t. elim (kept left x a b t).from [ inl e ↦ within a b e | inr f ↦ within x b f.2 ]) a b t

module _ (joined : ℕ → ℕ → Bool) (n : ℕ) (gone vertices : List ℕ) (begun : IsBegun joined n gone)
    (within : (a b : ℕ) → IsTrue (eliminated joined gone a b) → IsRemaining n gone b) (s : AreNumbered (times gone) n vertices)
    (order : List ℕ) (b : IsBegun (renumbered (eliminated joined gone) vertices) (most_of vertices) order) where
  -- those that were chosen after the first
  ahead_after : (j u : ℕ) → j < length order → IsRemaining n (gone ++ map (at vertices) (take j order)) u
      → IsAhead (degree_of (eliminated joined (gone ++ map (at vertices) (take j order))) n) (at vertices (get_or order j 0)) u
  ahead_after j u lt left =
      let first = take j order in
      let m : ℕ = most_of vertices in
      let all = All-take (IsVertex m) j order b.vertices in
      let none = times_append gone (map (at vertices) first) u in
      let zero' = left.1 in
      let k = s.all u left.0 (omega arith) in
      let fresh : times first k.0 ≡ 0 = sym (times_numbered (times gone) n vertices s first k.0 all k.1)
      ∙ ap (times (map (at vertices) first)) k.2 ∙ omega arith in
      let v = get_or order j 0 in
      let ahead = b.least j k.0 lt (k.1, fresh) in
      let vv = b.vertices j 0 lt in
      let new = eliminated (renumbered (eliminated joined gone) vertices) first in
      let old = eliminated joined (gone ++ map (at vertices) first) in
      let old' = eliminated (eliminated joined gone) (map (at vertices) first) in
      let e : old ≡ old' = eliminated_append joined gone (map (at vertices) first) in
      let agree = eliminated_agrees (times gone) n vertices s first all (renumbered (eliminated joined gone) vertices)
      (eliminated joined gone) (λ x y vx vy. refl) in
      let still = still_within (IsRemaining n gone) (map (at vertices) first) (eliminated joined gone) within in
      let at_v = degree_numbered (times gone) n vertices s new old' agree still v vv in
      let at_u = degree_numbered (times gone) n vertices s new old' agree still k.0 k.1 in
      subst (λ z. IsAhead (degree_of old n) (at vertices v) z) k.2
      (subst (λ h. IsAhead (degree_of h n) (at vertices v) (at vertices k.0)) (sym e) (elim ahead [
        | inl less ↦ inl (omega arith)
        | inr tie ↦ (
            let d = tie.0 in
            let lk = inside (times gone) n vertices s k.0 k.1 in
            inr (omega arith, rises_le (times gone) n vertices s v k.0 lk tie.1)
            )
      ]))

  least_after : GoByLeastDegree joined n (gone ++ map (at vertices) order)
  least_after k u lt left =
      let ys = map (at vertices) order in
      let len = length-append gone ys in
      let len' = length-map order (at vertices) in
      let goal : List ℕ → ℕ → Type 0 = λ xs w. IsAhead (degree_of (eliminated joined xs) n) w u in
      elim (cases_lt k (length gone)) [
        | inl before ↦ (
            let take_is : take k (gone ++ ys) ≡ take k gone = take-append-le k gone ys (omega arith) in
            let get_is : get_or (gone ++ ys) k 0 ≡ get_or gone k 0 = get_or_append_left gone ys 0 k before in
            subst (λ xs. goal xs (get_or (gone ++ ys) k 0)) (sym take_is) (subst (λ w. goal (take k gone) w) (sym get_is)
            (begun.least k u before (subst (λ z. IsRemaining n z u) take_is left)))
            )
        | inr after ↦ (
            let j : ℕ = k - length gone in
            let e : length gone + j ≡ k = omega arith in
            let lt' : j < length order = omega arith in
            let take_is : take k (gone ++ ys) ≡ gone ++ map (at vertices) (take j order) = ap (λ z. take z (gone ++ ys)) (sym e)
            ∙ take-append-add gone ys j ∙ ap (λ z. gone ++ z) (take-map (at vertices) j order) in
            let get_is : get_or (gone ++ ys) k 0 ≡ at vertices (get_or order j 0) = ap (λ z. get_or (gone ++ ys) z 0) (sym e)
            ∙ get_or-append-add gone ys j 0 ∙ get_or-map (at vertices) order j 0 0 lt' in
            subst (λ xs. goal xs (get_or (gone ++ ys) k 0)) (sym take_is)
            (subst (λ w. goal (gone ++ map (at vertices) (take j order)) w) (sym get_is)
            (ahead_after j u lt' (subst (λ z. IsRemaining n z u) take_is left)))
            )
      ]

  begun_after : IsBegun joined n (gone ++ map (at vertices) order)
  begun_after = record {
    vertices = All-append (IsVertex n) gone (map (at vertices) order) begun.vertices
        (All-map (IsVertex n) (at vertices) order (λ i d lt. (s.left (get_or order i d) (b.vertices i d lt)).0));
    once = λ v.
        let a = times_append gone (map (at vertices) order) v in
        let one = begun.once v in
        elim (cases_eq (times (map (at vertices) order) v) 0) [
          | inl e ↦ omega arith
          | inr ne ↦ (
              let k = number_of (times gone) n vertices s order b.vertices v ne in
              let none = sym (ap (times gone) k.2) ∙ (s.left k.0 k.1).1 in
              let same = sym (ap (times (map (at vertices) order)) k.2)
              ∙ times_numbered (times gone) n vertices s order k.0 b.vertices k.1 in
              let once = b.once k.0 in
              omega arith
              )
        ];
    least = least_after;
  }

  -- a vertex that is not listed has a number that is not chosen
  number_left : (u : ℕ) → IsVertex n u → has (gone ++ map (at vertices) order) u ≡ false
      → (k : ℕ) × IsVertex (most_of vertices) k × (times order k ≡ 0)
  number_left u vu out =
      let none = times_unless (gone ++ map (at vertices) order) u out in
      let a = times_append gone (map (at vertices) order) u in
      let k = s.all u vu (omega arith) in
      let same = times_numbered (times gone) n vertices s order k.0 b.vertices k.1 in
      let at_u = ap (times (map (at vertices) order)) k.2 in
      (k.0, k.1, omega arith)

  -- an order of all that are left goes on where the first ended
  pub order_after : length order ≡ most_of vertices → IsLeastDegreeOrder joined n (gone ++ map (at vertices) order)
  order_after full =
      let whole = gone ++ map (at vertices) order in
      let m : ℕ = most_of vertices in
      let most = length-part n whole (record { vertices = begun_after.vertices; once = begun_after.once }) in
      record {
        len = elim (cases_lt (length whole) n) [
          | inl lt ↦ absurd (
              let out = left_out n whole begun_after.vertices begun_after.once lt in
              let k = number_left out.0 out.1 out.2 in
              let part = part-push m order k.0 (record { vertices = b.vertices; once = b.once }) k.1 k.2 in
              let over = length-part m (order ++ k.0 ∷ []) part in
              let len = length-append order (k.0 ∷ []) in
              omega arith
              )
          | inr ge ↦ omega arith
        ];
        begun = begun_after;
      }

-- ---- the new numbers, as they are given

pub numbers_first : (turn : ℕ → ℕ) (numbers : List ℕ) → ((x : ℕ) → at numbers x ≡ 0) → AreNumbers turn 0 (0 ∷ []) numbers
numbers_first turn numbers none = record {
  numbered = record {
    some = omega arith;
    first = refl;
    rises = λ j k lt lk. absurd (omega arith);
    left = λ k vk. absurd (let one = vk.0 in let most = vk.1 in omega arith);
    all = λ x vx. absurd (let one = vx.0 in let most = vx.1 in omega arith);
  };
  here = λ x vx. absurd (let one = vx.0 in let most = vx.1 in omega arith);
  back = λ x ne. absurd (ne (none x));
  most = λ x. let e = none x in omega arith;
}

module _ (turn : ℕ → ℕ) (n : ℕ) (vertices numbers : List ℕ) (s : AreNumbers turn n vertices numbers) where
  -- the next vertex is gone
  pub numbers_skip : turn (n + 1) ≢ 0 → AreNumbers turn (n + 1) vertices numbers
  numbers_skip gone =
      let was : (x : ℕ) → IsVertex (n + 1) x → turn x ≡ 0 → IsVertex n x = λ x vx zero'. elim (cases_eq x (n + 1)) [
        | inl e ↦ absurd (gone (sym (ap turn e) ∙ zero'))
        | inr ne ↦ (vx.0, let most = vx.1 in omega arith)
      ] in
      record {
        numbered = record {
          some = s.numbered.some;
          first = s.numbered.first;
          rises = s.numbered.rises;
          left = λ k vk. let l = s.numbered.left k vk in let most = l.0.1 in ((l.0.0, omega arith), l.1);
          all = λ x vx zero'. s.numbered.all x (was x vx zero') zero';
        };
        here = λ x vx zero'. s.here x (was x vx zero') zero';
        back = s.back;
        most = s.most;
      }

  -- the next vertex is left
  module _ (left : turn (n + 1) ≡ 0) (room : n + 1 < length numbers) where
    len : length (vertices ++ (n + 1) ∷ []) ≡ length vertices + 1
    len = length-append vertices ((n + 1) ∷ [])

    old : (k : ℕ) → k < length vertices → at (vertices ++ (n + 1) ∷ []) k ≡ at vertices k
    old k lt = get_or_append_left vertices ((n + 1) ∷ []) 0 k lt

    last : (k : ℕ) → k ≡ length vertices → at (vertices ++ (n + 1) ∷ []) k ≡ n + 1
    last k e = get_or_push vertices (n + 1) 0 k (sym e)

    below : (k : ℕ) → k < length vertices → at vertices k ≤ n
    below k lt = elim (cases_eq k 0) [
      | inl e ↦ (let f = ap (at vertices) e ∙ s.numbered.first in omega arith)
      | inr ne ↦ (s.numbered.left k (omega arith, omega arith)).0.1
    ]

    was : (x : ℕ) → IsVertex (n + 1) x → x ≢ n + 1 → IsVertex n x
    was x vx ne = (vx.0, let most = vx.1 in omega arith)

    pub numbers_next : AreNumbers turn (n + 1) (vertices ++ (n + 1) ∷ []) (set numbers (n + 1) (length vertices))
    numbers_next =
        let l = len in
        let some = s.numbered.some in
        record {
          numbered = record {
            some = omega arith;
            first = old 0 some ∙ s.numbered.first;
            rises = λ j k lt lk. elim (cases_eq k (length vertices)) [
              | inl e ↦ (let a = old j (omega arith) in let b = last k e in let c = below j (omega arith) in omega arith)
              | inr ne ↦ (
                  let a = old j (omega arith) in
                  let b = old k (omega arith) in
                  let r = s.numbered.rises j k lt (omega arith) in
                  omega arith
                  )
            ];
            left = λ k vk.
                let one = vk.0 in
                let most = vk.1 in
                elim (cases_eq k (length vertices)) [
                  | inl e ↦ (let b = last k e in ((omega arith, omega arith), ap turn b ∙ left))
                  | inr ne ↦ (
                      let b = old k (omega arith) in
                      let l = s.numbered.left k (one, omega arith) in
                      let low = l.0.0 in
                      let high = l.0.1 in
                      ((omega arith, omega arith), ap turn b ∙ l.1)
                      )
                ];
            all = λ x vx zero'. elim (cases_eq x (n + 1)) [
              | inl e ↦ (length vertices, (some, omega arith), last (length vertices) refl ∙ sym e)
              | inr ne ↦ (
                  let k = s.numbered.all x (was x vx ne) zero' in
                  let most = k.1.1 in
                  (k.0, (k.1.0, omega arith), old k.0 (omega arith) ∙ k.2)
                  )
            ];
          };
          here = λ x vx zero'. elim (cases_eq x (n + 1)) [
            | inl e ↦ (
                let h = ap (at (set numbers (n + 1) (length vertices))) e ∙ at_here numbers (n + 1) (length vertices) room in
                λ z. absurd (omega arith)
                )
            | inr ne ↦ (let h = at_other numbers (n + 1) (length vertices) x ne in λ z. s.here x (was x vx ne) zero' (sym h ∙ z))
          ];
          back = λ x some'. elim (cases_eq x (n + 1)) [
            | inl e ↦ (
                let h = ap (at (set numbers (n + 1) (length vertices))) e ∙ at_here numbers (n + 1) (length vertices) room in
                last (at (set numbers (n + 1) (length vertices)) x) h ∙ sym e
                )
            | inr ne ↦ (
                let h = at_other numbers (n + 1) (length vertices) x ne in
                ap (at (vertices ++ (n + 1) ∷ [])) h ∙ old (at numbers x) (s.most x) ∙ s.back x (λ z. some' (h ∙ z))
                )
          ];
          most = λ x. elim (cases_eq x (n + 1)) [
            | inl e ↦ (
                let h = ap (at (set numbers (n + 1) (length vertices))) e ∙ at_here numbers (n + 1) (length vertices) room in
                omega arith
                )
            | inr ne ↦ (let h = at_other numbers (n + 1) (length vertices) x ne in let m = s.most x in omega arith)
          ];
        }

  -- the vertices that are left, and their numbers
  pub vertex_at : (x : ℕ) → IsVertex n x → turn x ≡ 0 → IsVertex (most_of vertices) (at numbers x) × (at vertices (at numbers x) ≡ x)
  vertex_at x vx zero' =
      let ne = s.here x vx zero' in
      let most = s.most x in
      ((omega arith, omega arith), s.back x ne)

  pub number_at : (k : ℕ) → IsVertex (most_of vertices) k → at numbers (at vertices k) ≡ k
  number_at k vk =
      let l = s.numbered.left k vk in
      let ne = s.here (at vertices k) l.0 l.1 in
      let some = s.numbered.some in
      let most = vk.1 in
      number_once turn n vertices s.numbered (at numbers (at vertices k)) k (s.most (at vertices k)) (omega arith)
      (s.back (at vertices k) ne)

  -- a number that a vertex that is left has is had by no other
  pub same_vertex : (x z : ℕ) → IsVertex n x → turn x ≡ 0 → at numbers z ≡ at numbers x → z ≡ x
  same_vertex x z vx zero' e =
      let ne = s.here x vx zero' in
      sym (s.back z (λ none. ne (sym e ∙ none))) ∙ ap (at vertices) e ∙ s.back x ne
