-- The reductions on terms.
use Rattle.std.proofs.Common.{◌≡◌, ℕ, ◌+◌, ◌≤◌, ◌⊎◌, inl, inr, refl, sym, subst, arith, Option, Some}
use Rattle.sp_reduce.specs.Nets.{Net, hold, series, both, times, IsDistinct, count, hits, pair, into, out_of, knows}
use Rattle.sp_reduce.proofs.Ends.{split, hits-self, hits-le, hits-same, knows-series, knows-both, one_place, distinct-left}
use Rattle.sp_reduce.proofs.Ends.{distinct-right, distinct-one, distinct-two, into-known, out-known, no-into, no-out}
use Rattle.sp_reduce.proofs.Ends.{pair-into, pair-out, into-end, out-start, into-task, out-task}

-- ---- two arcs with the same ends

-- the term without one arc
pub record Fewer (from to p q : Option ℕ) (t : Net) : Type 0 where
  pub net : Net
  pub counts : (g : Option ℕ → Option ℕ → ℕ) → count g from to net + g p q ≡ count g from to t
  pub same : (v : ℕ) → times v net ≡ times v t

-- a term that is one arc
pub record IsOne (from to : Option ℕ) (t : Net) : Type 0 where
  pub counts : (g : Option ℕ → Option ℕ → ℕ) → count g from to t ≡ g from to
  pub same : (v : ℕ) → times v t ≡ 0

-- the two parts of a series share no arc, and no arc leads past its task
through : (from to : Option ℕ) (a : Net) (w : ℕ) (b : Net) → knows from (series a w b) ≡ 0
    → knows to (series a w b) ≡ 0 → count (pair from to) from to (series a w b) ≡ 0
through from to a w b e f =
    omega (
      arith,
      pair-into from to from (Some w) a,
      no-into to from (Some w) a (omega (arith, knows-series to a w b)),
      pair-out from to (Some w) to b,
      no-out from (Some w) to b (omega (arith, knows-series from a w b)),
    )

pub drop_arc : (from to : Option ℕ) (t : Net) → knows from t ≡ 0 → knows to t ≡ 0
    → 1 ≤ count (pair from to) from to t → IsOne from to t ⊎ Fewer from to from to t
drop_arc from to (hold n) e f h = inl (record { counts = λ g. refl; same = λ v. refl })
drop_arc from to (series a w b) e f h = absurd (omega (arith, through from to a w b e f))
drop_arc from to (both a b) e f h = split 1 (count (pair from to) from to a)
    (λ k. elim (drop_arc from to a (omega (arith, knows-both from a b)) (omega (arith, knows-both to a b)) k) [
      | inl one ↦ inr (record { net = b; counts = λ g. omega (arith, one.counts g); same = λ v. omega (arith, one.same v) })
      | inr few ↦ inr (record { net = both few.net b; counts = λ g. omega (arith, few.counts g); same = λ v. omega (arith, few.same v) })
    ])
    (λ k. elim (drop_arc from to b (omega (arith, knows-both from a b)) (omega (arith, knows-both to a b)) (omega arith)) [
      | inl one ↦ inr (record { net = a; counts = λ g. omega (arith, one.counts g); same = λ v. omega (arith, one.same v) })
      | inr few ↦ inr (record { net = both a few.net; counts = λ g. omega (arith, few.counts g); same = λ v. omega (arith, few.same v) })
    ])

fewer-both : (from to p q : Option ℕ) (a b : Net) → Fewer from to p q a → Fewer from to p q (both a b)
fewer-both from to p q a b few =
    record { net = both few.net b; counts = λ g. omega (arith, few.counts g); same = λ v. omega (arith, few.same v) }

-- where both parts have the arc, it leads from end to end
ends_meet : (p q from to : Option ℕ) (a b : Net) → IsDistinct (both a b) → knows from (both a b) ≡ 0 → knows to (both a b) ≡ 0
    → 1 ≤ count (pair p q) from to a → 1 ≤ count (pair p q) from to b → (from ≡ p) × (to ≡ q)
ends_meet p q from to a b d e f h k = (
  hits-same from p (omega (
    arith,
    out-known p from to a (omega (arith, pair-out p q from to a)),
    out-known p from to b (omega (arith, pair-out p q from to b)),
    one_place from p (both a b) d e,
    knows-both p a b,
  )),
  hits-same to q (omega (
    arith,
    into-known q from to a (omega (arith, pair-into p q from to a)),
    into-known q from to b (omega (arith, pair-into p q from to b)),
    one_place to q (both a b) d f,
    knows-both q a b,
  )),
)

apart : (p q from to : Option ℕ) (a : Net) (w : ℕ) (b : Net) → IsDistinct (series a w b) → knows to (series a w b) ≡ 0
    → 1 ≤ count (pair p q) from (Some w) a → 1 ≤ count (pair p q) (Some w) to b → ⊥
apart p q from to a w b d f h k =
    omega (
      arith,
      into-known q from (Some w) a (omega (arith, pair-into p q from (Some w) a)),
      into-known q (Some w) to b (omega (arith, pair-into p q (Some w) to b)),
      one_place to q (series a w b) d f,
      knows-series q a w b,
    )

pub drop_twin : (p q from to : Option ℕ) (t : Net) → IsDistinct t → knows from t ≡ 0
    → knows to t ≡ 0 → 2 ≤ count (pair p q) from to t → Fewer from to p q t
drop_twin p q from to (hold n) d e f h = absurd (omega (arith, hits-le from p))
drop_twin p q from to (series a w b) d e f h = split 2 (count (pair p q) from (Some w) a)
    (λ k. let few = drop_twin p q from (Some w) a (distinct-left a w b d)
    (omega (arith, knows-series from a w b)) (omega (arith, d w, hits-self (Some w))) k in
    record { net = series few.net w b; counts = λ g. omega (arith, few.counts g); same = λ v. omega (arith, few.same v) })
    (λ k. split 2 (count (pair p q) (Some w) to b)
    (λ l. let few = drop_twin p q (Some w) to b (distinct-right a w b d)
    (omega (arith, d w, hits-self (Some w))) (omega (arith, knows-series to a w b)) l in
    record { net = series a w few.net; counts = λ g. omega (arith, few.counts g); same = λ v. omega (arith, few.same v) })
    (λ l. absurd (apart p q from to a w b d f (omega arith) (omega arith))))
drop_twin p q from to (both a b) d e f h = split 2 (count (pair p q) from to a)
    (λ k. fewer-both from to p q a b
    (drop_twin p q from to a (distinct-one a b d) (omega (arith, knows-both from a b)) (omega (arith, knows-both to a b)) k))
    (λ k. split 2 (count (pair p q) from to b)
    (λ l. let few =
    drop_twin p q from to b (distinct-two a b d) (omega (arith, knows-both from a b)) (omega (arith, knows-both to a b)) l in
    record { net = both a few.net; counts = λ g. omega (arith, few.counts g); same = λ v. omega (arith, few.same v) })
    (λ l. let at = ends_meet p q from to a b d e f (omega arith) (omega arith) in
    let two : 2 ≤ count (pair from to) from to (both a b) = subst (λ z. 2 ≤ count (pair z to) from to (both a b))
    (sym at.0) (subst (λ z. 2 ≤ count (pair p z) from to (both a b)) (sym at.1) h) in
    elim (drop_arc from to (both a b) e f (omega arith)) [
      | inl one ↦ absurd (omega (arith, two, one.counts (pair from to), hits-le from from))
      | inr few ↦ subst (λ z. Fewer from to z q (both a b)) at.0 (subst (λ z. Fewer from to from z (both a b)) at.1 few)
    ]))

-- ---- a task with one arc in and one arc out

-- where one arc leaves the start, the start may be another
pub record Led (v to : Option ℕ) (t : Net) : Type 0 where
  pub next : Option ℕ
  pub counts : (from : Option ℕ) (g : Option ℕ → Option ℕ → ℕ) → count g from to t + g v next ≡ count g v to t + g from next
  pub far : hits next v ≡ 0

pub led : (v to : Option ℕ) (t : Net) → hits to v ≡ 0 → knows v t ≡ 0 → count (out_of v) v to t ≡ 1 → Led v to t
led v to (hold n) eb e h = record { next = to; counts = λ from g. omega arith; far = eb }
led v to (series a w b) eb e h =
    let l = led v (Some w) a (omega (arith, knows-series v a w b)) (omega (arith, knows-series v a w b))
    (omega (arith, no-out v (Some w) to b (omega (arith, knows-series v a w b)))) in
    record { next = l.next; counts = λ from g. omega (arith, l.counts from g); far = l.far }
led v to (both a b) eb e h = absurd (omega (arith, out-start v to a, out-start v to b))

pub record Joined (from to v : Option ℕ) (a b : Net) : Type 0 where
  pub net : Net
  pub prev : Option ℕ
  pub next : Option ℕ
  pub counts : (g : Option ℕ → Option ℕ → ℕ) → count g from to net + (g prev v + g v next) ≡ count g from v a + count g v to b + g prev next
  pub same : (w : ℕ) → times w net ≡ times w a + times w b
  pub far_prev : hits prev v ≡ 0
  pub far_next : hits next v ≡ 0

pub joined : (from to v : Option ℕ) (a b : Net) → hits from v ≡ 0 → hits to v ≡ 0 → knows v a ≡ 0
    → knows v b ≡ 0 → count (into v) from v a ≡ 1 → count (out_of v) v to b ≡ 1 → Joined from to v a b
joined from to v (hold n) b ea eb e f h k =
    let l = led v to b eb f k in
    record {
      net = b;
      prev = from;
      next = l.next;
      counts = λ g. omega (arith, l.counts from g);
      same = λ w. omega arith;
      far_prev = ea;
      far_next = l.far;
    }
joined from to v (series a u c) b ea eb e f h k =
    let j = joined (Some u) to v c b (omega (arith, knows-series v a u c)) eb (omega (arith, knows-series v a u c)) f
    (omega (arith, no-into v from (Some u) a (omega (arith, knows-series v a u c)))) k in
    record {
      net = series a u j.net;
      prev = j.prev;
      next = j.next;
      counts = λ g. omega (arith, j.counts g);
      same = λ w. omega (arith, j.same w);
      far_prev = j.far_prev;
      far_next = j.far_next;
    }
joined from to v (both a c) b ea eb e f h k = absurd (omega (arith, into-end from v a, into-end from v c))

pub record Without (from to : Option ℕ) (v : ℕ) (t : Net) : Type 0 where
  pub net : Net
  pub prev : Option ℕ
  pub next : Option ℕ
  pub counts : (g : Option ℕ → Option ℕ → ℕ) → count g from to net + (g prev (Some v) + g (Some v) next) ≡ count g from to t + g prev next
  pub same : (w : ℕ) → times w net + hits (Some v) (Some w) ≡ times w t
  pub far_prev : hits prev (Some v) ≡ 0
  pub far_next : hits next (Some v) ≡ 0

pub take_out : (from to : Option ℕ) (v : ℕ) (t : Net) → IsDistinct t → knows from t ≡ 0 → knows to t ≡ 0
    → 1 ≤ times v t → count (into (Some v)) from to t ≡ 1 → count (out_of (Some v)) from to t ≡ 1 → Without from to v t
take_out from to v (hold n) d e f m h k = absurd (omega arith)
take_out from to v (series a w b) d e f m h k = split 1 (times v a)
    (λ l. let r = take_out from (Some w) v a (distinct-left a w b d)
    (omega (arith, knows-series from a w b)) (omega (arith, d w, hits-self (Some w))) l
    (omega (arith, into-task v from (Some w) a l)) (omega (arith, out-task v from (Some w) a l)) in
    record {
      net = series r.net w b;
      prev = r.prev;
      next = r.next;
      counts = λ g. omega (arith, r.counts g);
      same = λ u. omega (arith, r.same u);
      far_prev = r.far_prev;
      far_next = r.far_next;
    })
    (λ l. split 1 (times v b)
    (λ i. let r =
    take_out (Some w) to v b (distinct-right a w b d) (omega (arith, d w, hits-self (Some w))) (omega (arith, knows-series to a w b)) i
    (omega (arith, into-task v (Some w) to b i)) (omega (arith, out-task v (Some w) to b i)) in
    record {
      net = series a w r.net;
      prev = r.prev;
      next = r.next;
      counts = λ g. omega (arith, r.counts g);
      same = λ u. omega (arith, r.same u);
      far_prev = r.far_prev;
      far_next = r.far_next;
    })
    (λ i. let same : Some w ≡ Some v = hits-same (Some w) (Some v) (omega arith) in
    let here = subst (λ o. (count (into o) from (Some w) a + count (into o) (Some w) to b ≡ 1)
    × (count (out_of o) from (Some w) a + count (out_of o) (Some w) to b ≡ 1))
    (sym same) (h, k) in
    let j = joined from to (Some w) a b (omega (arith, one_place from (Some w) (series a w b) d e, hits-self (Some w))) (omega (
      arith,
      one_place to (Some w) (series a w b) d f,
      hits-self (Some w),
    )) (omega (arith, d w, hits-self (Some w))) (omega (arith, d w, hits-self (Some w)))
    (omega (arith, here.0, into-end from (Some w) a)) (omega (arith, here.1, out-start (Some w) to b)) in
    record {
      net = j.net;
      prev = j.prev;
      next = j.next;
      counts = λ g. subst
          (λ o. count g from to j.net + (g j.prev o + g o j.next) ≡ count g from (Some w) a + count g (Some w) to b + g j.prev j.next) same
          (j.counts g);
      same = λ u.
          subst (λ o. times u j.net + hits o (Some u) ≡ times u a + (hits (Some w) (Some u) + times u b)) same (omega (arith, j.same u));
      far_prev = subst (λ o. hits j.prev o ≡ 0) same j.far_prev;
      far_next = subst (λ o. hits j.next o ≡ 0) same j.far_next;
    }))
take_out from to v (both a b) d e f m h k = split 1 (times v a)
    (λ l. let r = take_out from to v a (distinct-one a b d) (omega (arith, knows-both from a b))
    (omega (arith, knows-both to a b)) l (omega (arith, into-task v from to a l)) (omega (arith, out-task v from to a l)) in
    record {
      net = both r.net b;
      prev = r.prev;
      next = r.next;
      counts = λ g. omega (arith, r.counts g);
      same = λ u. omega (arith, r.same u);
      far_prev = r.far_prev;
      far_next = r.far_next;
    })
    (λ l. let i : 1 ≤ times v b = omega arith in
    let r = take_out from to v b (distinct-two a b d) (omega (arith, knows-both from a b))
    (omega (arith, knows-both to a b)) i (omega (arith, into-task v from to b i)) (omega (arith, out-task v from to b i)) in
    record {
      net = both a r.net;
      prev = r.prev;
      next = r.next;
      counts = λ g. omega (arith, r.counts g);
      same = λ u. omega (arith, r.same u);
      far_prev = r.far_prev;
      far_next = r.far_next;
    })

-- ---- some reduction applies

pub data Reducible (from to : Option ℕ) (t : Net) : Type 0 where
  one : IsOne from to t → Reducible from to t
  twins : (p q : Option ℕ) → 2 ≤ count (pair p q) from to t → Reducible from to t
  lone : (v : ℕ) → 1 ≤ times v t → count (into (Some v)) from to t ≡ 1 → count (out_of (Some v)) from to t ≡ 1 → Reducible from to t

pub reducible : (from to : Option ℕ) (t : Net) → IsDistinct t → knows from t ≡ 0 → knows to t ≡ 0 → Reducible from to t
reducible from to (hold n) d e f = one (record { counts = λ g. refl; same = λ v. refl })
reducible from to (series a w b) d e f =
    elim (reducible from (Some w) a (distinct-left a w b d)
    (omega (arith, knows-series from a w b)) (omega (arith, d w, hits-self (Some w)))) [
      | twins p q h ↦ twins p q (omega arith)
      | lone v m h k ↦ lone v (omega arith)
          (omega (arith, no-into (Some v) (Some w) to b (omega (arith, d v, one_place to (Some v) (series a w b) d f))))
          (omega (arith, no-out (Some v) (Some w) to b (omega (arith, d v))))
      | one a_is ↦
          elim (reducible (Some w) to b (distinct-right a w b d)
          (omega (arith, d w, hits-self (Some w))) (omega (arith, knows-series to a w b))) [
            | twins p q h ↦ twins p q (omega arith)
            | lone v m h k ↦ lone v (omega arith)
                (omega (arith, no-into (Some v) from (Some w) a (omega (arith, d v))))
                (omega (arith, no-out (Some v) from (Some w) a (omega (arith, d v, one_place from (Some v) (series a w b) d e))))
            | one b_is ↦ lone w (omega (arith, hits-self (Some w)))
                (omega (
                  arith,
                  a_is.counts (into (Some w)),
                  b_is.counts (into (Some w)),
                  hits-self (Some w),
                  one_place to (Some w) (series a w b) d f,
                ))
                (omega (
                  arith,
                  a_is.counts (out_of (Some w)),
                  b_is.counts (out_of (Some w)),
                  hits-self (Some w),
                  one_place from (Some w) (series a w b) d e,
                ))
          ]
    ]
reducible from to (both a b) d e f =
    elim (reducible from to a (distinct-one a b d) (omega (arith, knows-both from a b)) (omega (arith, knows-both to a b))) [
      | twins p q h ↦ twins p q (omega arith)
      | lone v m h k ↦ lone v (omega arith)
          (omega (arith, no-into (Some v) from to b (omega (arith, d v, one_place to (Some v) (both a b) d f))))
          (omega (arith, no-out (Some v) from to b (omega (arith, d v, one_place from (Some v) (both a b) d e))))
      | one a_is ↦ elim (reducible from to b (distinct-two a b d) (omega (arith, knows-both from a b)) (omega (arith, knows-both to a b))) [
        | twins p q h ↦ twins p q (omega arith)
        | lone v m h k ↦ lone v (omega arith)
            (omega (arith, no-into (Some v) from to a (omega (arith, d v, one_place to (Some v) (both a b) d f))))
            (omega (arith, no-out (Some v) from to a (omega (arith, d v, one_place from (Some v) (both a b) d e))))
        | one b_is ↦ twins from to (omega (arith, a_is.counts (pair from to), b_is.counts (pair from to), hits-self from, hits-self to))
      ]
    ]
