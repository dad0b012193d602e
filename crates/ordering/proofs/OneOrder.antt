-- There is one minimum degree order, and the plain program makes it.
use Rattle.std.proofs.Common.{◌≡◌, ◌≢◌, ℕ, zero, suc, ◌+◌, ◌<◌, ◌≤◌, inl, inr, Bool, List, [], ◌∷◌, ◌++◌}
use Rattle.std.proofs.Common.{length, take, refl, sym, ap, ◌∙◌, arith, subst, get_or, length-append}
use Rattle.std.proofs.lemmas.Bool.{cases_eq, cases_lt, eq-eqb, ne_eqb, lt-leb, le-leb}
use Rattle.std.proofs.lemmas.List.{take_more, take_all, take-append-le, get_or_append_left, get_or_push}
use Rattle.std.specs.List.{All}
use Rattle.elimination.specs.Elimination.{IsVertex, times, eliminated, degree_of, IsRemaining, IsAhead, GoByLeastDegree}
use Rattle.ordering.specs.MinimumDegree.{IsMinimumDegreeOrder, first_left, plain_more, plain_order}
use Rattle.permutations.specs.Perm.{IsPart}
use Rattle.permutations.proofs.PermLemmas.{part-none, part-push, perm_from_part, some_left, fresh_at}

-- ---- one order

both_ahead : (degree : ℕ → ℕ) (a b : ℕ) → IsAhead degree a b → IsAhead degree b a → a ≡ b
both_ahead degree a b (inl x) (inl y) = absurd (omega arith)
both_ahead degree a b (inl x) (inr y) = absurd (let e = y.0 in omega arith)
both_ahead degree a b (inr x) (inl y) = absurd (let e = x.0 in omega arith)
both_ahead degree a b (inr x) (inr y) = let p = x.1 in let r = y.1 in omega arith

module _ (joined : ℕ → ℕ → Bool) (n : ℕ) (one two : List ℕ)
    (p : IsMinimumDegreeOrder joined n one) (r : IsMinimumDegreeOrder joined n two) where
  same_front : (k : ℕ) → k ≤ n → take k one ≡ take k two
  same_front zero le = refl
  same_front (suc k) le =
      let len1 = p.perm.len in
      let len2 = r.perm.len in
      let before = same_front k (omega arith) in
      let a = get_or one k 0 in
      let b = get_or two k 0 in
      let va = p.perm.vertices k 0 (omega arith) in
      let vb = r.perm.vertices k 0 (omega arith) in
      let fa = fresh_at n one p.perm k le in
      let fb = fresh_at n two r.perm k le in
      let ab = p.least k b (omega arith) (vb, subst (λ z. times z b ≡ 0) (sym before) fb) in
      let ba = r.least k a (omega arith) (va, subst (λ z. times z a ≡ 0) before fa) in
      let ba' : IsAhead (degree_of (eliminated joined (take k one)) n) b a =
      subst (λ z. IsAhead (degree_of (eliminated joined z) n) b a) (sym before) ba in
      let e : a ≡ b = both_ahead (degree_of (eliminated joined (take k one)) n) a b ab ba' in
      let m : k + 1 ≡ suc k = omega arith in
      let t1 : take (suc k) one ≡ take k one ++ a ∷ [] = ap (λ z. take z one) (sym m) ∙ take_more one k 0 (omega arith) in
      let t2 : take (suc k) two ≡ take k two ++ b ∷ [] = ap (λ z. take z two) (sym m) ∙ take_more two k 0 (omega arith) in
      t1 ∙ ap (λ z. z ++ a ∷ []) before ∙ ap (λ z. take k two ++ z ∷ []) e ∙ sym t2

  pub one_order_only : one ≡ two
  one_order_only =
      let len1 = p.perm.len in
      let len2 = r.perm.len in
      sym (take_all n one (omega arith)) ∙ same_front n (omega arith) ∙ take_all n two (omega arith)

-- ---- the plain program

record IsFirst (degree : ℕ → ℕ) (gone : List ℕ) (n v : ℕ) : Type 0 where
  none : v ≡ 0 → (u : ℕ) → IsRemaining n gone u → ⊥
  left : v ≢ 0 → IsRemaining n gone v
  ahead : v ≢ 0 → (u : ℕ) → IsRemaining n gone u → IsAhead degree v u

further : (n : ℕ) (gone : List ℕ) (u : ℕ) → IsRemaining n gone u → IsRemaining (suc n) gone u
further n gone u l = let le = l.0.1 in ((l.0.0, omega arith), l.1)

nearer : (n : ℕ) (gone : List ℕ) (u : ℕ) → IsRemaining (suc n) gone u → u ≢ suc n → IsRemaining n gone u
nearer n gone u l ne = let le = l.0.1 in ((l.0.0, omega arith), l.1)

-- n + 1 is the first, where none was
alone_first : (degree : ℕ → ℕ) (gone : List ℕ) (n : ℕ) → IsFirst degree gone n 0
    → times gone (suc n) ≡ 0 → IsFirst degree gone (suc n) (suc n)
alone_first degree gone n f fresh =
    let is : (u : ℕ) → IsRemaining (suc n) gone u → u ≡ suc n =
    λ u l. elim (cases_eq u (suc n)) [ inl e ↦ e | inr ne ↦ absurd (f.none refl u (nearer n gone u l ne)) ] in
    record {
      none = λ e u l. absurd (omega arith);
      left = λ ne. ((omega arith, omega arith), fresh);
      ahead = λ ne u l. let e = is u l in inr (ap degree (sym e), omega arith);
    }

-- the first so far stays the first
still_first : (degree : ℕ → ℕ) (gone : List ℕ) (n v : ℕ) → IsFirst degree gone n v
    → v ≢ 0 → degree v ≤ degree (suc n) → IsFirst degree gone (suc n) v
still_first degree gone n v f some le = record {
  none = λ e. absurd (some e);
  left = λ ne. further n gone v (f.left ne);
  ahead = λ ne u l. elim (cases_eq u (suc n)) [
    | inr other ↦ f.ahead ne u (nearer n gone u l other)
    | inl e ↦ (
        let d = ap degree e in
        let vn = (f.left ne).0.1 in
        elim (cases_lt (degree v) (degree u)) [ inl lt ↦ inl lt | inr ge ↦ inr (omega arith, omega arith) ]
        )
  ];
}

-- n + 1 comes before it
later_first : (degree : ℕ → ℕ) (gone : List ℕ) (n v : ℕ) → IsFirst degree gone n v → v ≢ 0
    → degree (suc n) < degree v → times gone (suc n) ≡ 0 → IsFirst degree gone (suc n) (suc n)
later_first degree gone n v f some lt fresh = record {
  none = λ e u l. absurd (omega arith);
  left = λ ne. ((omega arith, omega arith), fresh);
  ahead = λ ne u l. elim (cases_eq u (suc n)) [
    | inl e ↦ inr (ap degree (sym e), omega arith)
    | inr other ↦ elim (f.ahead some u (nearer n gone u l other)) [ inl x ↦ inl (omega arith) | inr x ↦ inl (let d = x.0 in omega arith) ]
  ];
}

-- n + 1 is not left
kept_first : (degree : ℕ → ℕ) (gone : List ℕ) (n v : ℕ) → IsFirst degree gone n v → times gone (suc n) ≢ 0 → IsFirst degree gone (suc n) v
kept_first degree gone n v f gone' =
    let other : (u : ℕ) → IsRemaining (suc n) gone u → IsRemaining n gone u =
    λ u l. nearer n gone u l (λ e. gone' (subst (λ z. times gone z ≡ 0) e l.1)) in
    record {
      none = λ e u l. f.none e u (other u l);
      left = λ ne. further n gone v (f.left ne);
      ahead = λ ne u l. f.ahead ne u (other u l);
    }

is_first : (degree : ℕ → ℕ) (gone : List ℕ) (n : ℕ) → IsFirst degree gone n (first_left degree gone n)
is_first degree gone zero = record {
  none = λ e u l. absurd (let a = l.0.0 in let b = l.0.1 in omega arith);
  left = λ ne. absurd (ne refl);
  ahead = λ ne. absurd (ne refl);
}
is_first degree gone (suc n) =
    let v = first_left degree gone n in
    let f = is_first degree gone n in
    elim (cases_eq (times gone (suc n)) 0) [
      | inr gone' ↦ rw (ne_eqb (times gone (suc n)) 0 gone') (kept_first degree gone n v f gone')
      | inl fresh ↦ elim (cases_eq v 0) [
        | inl none ↦ rw (eq-eqb (times gone (suc n)) 0 fresh, eq-eqb v 0 none)
            (alone_first degree gone n (subst (IsFirst degree gone n) none f) fresh)
        | inr some ↦ elim (cases_lt (degree (suc n)) (degree v)) [
          | inl lt ↦ rw (eq-eqb (times gone (suc n)) 0 fresh, ne_eqb v 0 some, lt-leb (degree v) (degree (suc n)) lt)
              (later_first degree gone n v f some lt fresh)
          | inr le ↦ rw (eq-eqb (times gone (suc n)) 0 fresh, ne_eqb v 0 some, le-leb (degree v) (degree (suc n)) le)
              (still_first degree gone n v f some le)
        ]
      ]
    ]

-- ---- a vertex more

begun_push : (joined : ℕ → ℕ → Bool) (n : ℕ) (gone : List ℕ) (v : ℕ) → GoByLeastDegree joined n gone
    → ((u : ℕ) → IsRemaining n gone u → IsAhead (degree_of (eliminated joined gone) n) v u) → GoByLeastDegree joined n (gone ++ v ∷ [])
begun_push joined n gone v begun first k u lt left =
    let len = length-append gone (v ∷ []) in
    let take_is : take k (gone ++ v ∷ []) ≡ take k gone = take-append-le k gone (v ∷ []) (omega arith) in
    let left' : IsRemaining n (take k gone) u = subst (λ z. IsRemaining n z u) take_is left in
    let goal : List ℕ → ℕ → Type 0 = λ xs w. IsAhead (degree_of (eliminated joined xs) n) w u in
    elim (cases_lt k (length gone)) [
      | inl before ↦ (
          let get_is : get_or (gone ++ v ∷ []) k 0 ≡ get_or gone k 0 = get_or_append_left gone (v ∷ []) 0 k before in
          subst (λ xs. goal xs (get_or (gone ++ v ∷ []) k 0)) (sym take_is)
          (subst (λ w. goal (take k gone) w) (sym get_is) (begun k u before left'))
          )
      | inr last ↦ (
          let at : length gone ≡ k = omega arith in
          let all : take k gone ≡ gone = take_all k gone (omega arith) in
          let get_is : get_or (gone ++ v ∷ []) k 0 ≡ v = get_or_push gone v 0 k at in
          let ahead = first u (left'.0, subst (λ z. times z u ≡ 0) all left'.1) in
          subst (λ xs. goal xs (get_or (gone ++ v ∷ []) k 0)) (sym (take_is ∙ all)) (subst (λ w. goal gone w) (sym get_is) ahead)
          )
    ]

-- k vertices more, where so many are left
more_begun : (joined : ℕ → ℕ → Bool) (n k : ℕ) (gone : List ℕ) → IsPart n gone → GoByLeastDegree joined n gone
    → length gone + k ≡ n → IsMinimumDegreeOrder joined n (plain_more joined n k gone)
more_begun joined n zero gone part begun len = record { perm = perm_from_part n gone part (omega arith); least = begun }
more_begun joined n (suc k) gone part begun len =
    let degree = degree_of (eliminated joined gone) n in
    let v = first_left degree gone n in
    let f = is_first degree gone n in
    let out = some_left n gone part (omega arith) in
    let some : v ≢ 0 = λ e. f.none e out.0 (out.1, out.2) in
    let left = f.left some in
    let long = length-append gone (v ∷ []) in
    more_begun joined n k (gone ++ v ∷ []) (part-push n gone v part left.0 left.1)
    (begun_push joined n gone v begun (λ u l. f.ahead some u l)) (omega arith)

pub plain_is : (joined : ℕ → ℕ → Bool) (n : ℕ) → IsMinimumDegreeOrder joined n (plain_order joined n)
plain_is joined n = more_begun joined n n [] (part-none n) (λ k u lt left. absurd (omega arith)) (omega arith)

-- ---- the order that a search lists

pub listed_order : (joined : ℕ → ℕ → Bool) (n : ℕ) (list : List ℕ) → length list ≡ n
    → All (IsVertex n) list → ((v : ℕ) → times list v ≤ 1) → GoByLeastDegree joined n list
    → IsMinimumDegreeOrder joined n list
listed_order joined n list len vertices once least =
    record { perm = perm_from_part n list (record { vertices = vertices; once = once }) len; least = least }
