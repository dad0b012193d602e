-- The ends of the arcs of a term.
use Rattle.std.proofs.Common.{◌≡◌, ℕ, ◌+◌, ◌<◌, ◌≤◌, inl, inr, Bool, true, false, cond}
use Rattle.std.proofs.Common.{refl, subst, ap, arith, Option, Some, None, eqb, eq-eqb}
use Rattle.std.specs.Prelude.{◌==◌}
use Rattle.sp_reduce.specs.Nets.{Net, hold, series, both, times, IsDistinct, count, hits, pair, into, out_of, knows}
use Rattle.lists.proofs.Orders.{le_or_lt}

pub split : {A : Type 0} (m n : ℕ) → (m ≤ n → A) → (n < m → A) → A
split m n f g = elim (le_or_lt m n) [ inl h ↦ f h | inr h ↦ g h ]

pub hits-self : (o : Option ℕ) → hits o o ≡ 1
hits-self None = refl
hits-self (Some v) = rw (eq-eqb v v refl) refl

one_le : (b : Bool) → cond b 1 0 ≤ 1
one_le true = omega arith
one_le false = omega arith

pub hits-le : (o p : Option ℕ) → hits o p ≤ 1
hits-le None None = omega arith
hits-le None (Some v) = omega arith
hits-le (Some u) None = omega arith
hits-le (Some u) (Some v) = one_le (eqb u v)

same_some : (u v : ℕ) → 1 ≤ cond (u == v) 1 0 → u ≡ v
same_some u v h = grind arith

pub hits-same : (o p : Option ℕ) → 1 ≤ hits o p → o ≡ p
hits-same None None h = refl
hits-same None (Some v) h = absurd (omega arith)
hits-same (Some u) None h = absurd (omega arith)
hits-same (Some u) (Some v) h = ap Some (same_some u v h)

pub knows-series : (o : Option ℕ) (a : Net) (w : ℕ) (b : Net) → knows o (series a w b) ≡ knows o a + (hits (Some w) o + knows o b)
knows-series None a w b = refl
knows-series (Some v) a w b = refl

pub knows-both : (o : Option ℕ) (a b : Net) → knows o (both a b) ≡ knows o a + knows o b
knows-both None a b = refl
knows-both (Some v) a b = refl

pub knows-le : (o : Option ℕ) (t : Net) → IsDistinct t → knows o t ≤ 1
knows-le None t d = omega arith
knows-le (Some v) t d = d v

-- an end of the whole is no task within
pub one_place : (o q : Option ℕ) (t : Net) → IsDistinct t → knows o t ≡ 0 → hits o q + knows q t ≤ 1
one_place o q t d e = split 1 (hits o q)
    (λ h. let same : knows q t ≡ 0 = subst (λ z. knows z t ≡ 0) (hits-same o q h) e in omega (arith, same, hits-le o q))
    (λ h. omega (arith, knows-le q t d))

pub distinct-left : (a : Net) (w : ℕ) (b : Net) → IsDistinct (series a w b) → IsDistinct a
distinct-left a w b d v = omega (arith, d v)

pub distinct-right : (a : Net) (w : ℕ) (b : Net) → IsDistinct (series a w b) → IsDistinct b
distinct-right a w b d v = omega (arith, d v)

pub distinct-one : (a b : Net) → IsDistinct (both a b) → IsDistinct a
distinct-one a b d v = omega (arith, d v)

pub distinct-two : (a b : Net) → IsDistinct (both a b) → IsDistinct b
distinct-two a b d v = omega (arith, d v)

pub count-le : (g h : Option ℕ → Option ℕ → ℕ) → ((p q : Option ℕ) → g p q ≤ h p q)
    → (from to : Option ℕ) (t : Net) → count g from to t ≤ count h from to t
count-le g h each from to (hold n) = each from to
count-le g h each from to (series a v b) = omega (arith, count-le g h each from (Some v) a, count-le g h each (Some v) to b)
count-le g h each from to (both a b) = omega (arith, count-le g h each from to a, count-le g h each from to b)

-- each arc leads to a task of the term or to its end
pub into-known : (o from to : Option ℕ) (t : Net) → 1 ≤ count (into o) from to t → 1 ≤ hits to o + knows o t
into-known o from to (hold n) h = omega arith
into-known o from to (series a v b) h = split 1 (count (into o) from (Some v) a)
    (λ k. omega (arith, into-known o from (Some v) a k, knows-series o a v b))
    (λ k. omega (arith, into-known o (Some v) to b (omega arith), knows-series o a v b))
into-known o from to (both a b) h = split 1 (count (into o) from to a)
    (λ k. omega (arith, into-known o from to a k, knows-both o a b))
    (λ k. omega (arith, into-known o from to b (omega arith), knows-both o a b))

pub out-known : (o from to : Option ℕ) (t : Net) → 1 ≤ count (out_of o) from to t → 1 ≤ hits from o + knows o t
out-known o from to (hold n) h = omega arith
out-known o from to (series a v b) h = split 1 (count (out_of o) from (Some v) a)
    (λ k. omega (arith, out-known o from (Some v) a k, knows-series o a v b))
    (λ k. omega (arith, out-known o (Some v) to b (omega arith), knows-series o a v b))
out-known o from to (both a b) h = split 1 (count (out_of o) from to a)
    (λ k. omega (arith, out-known o from to a k, knows-both o a b))
    (λ k. omega (arith, out-known o from to b (omega arith), knows-both o a b))

pub no-into : (o from to : Option ℕ) (t : Net) → hits to o + knows o t ≡ 0 → count (into o) from to t ≡ 0
no-into o from to t e = split 1 (count (into o) from to t) (λ h. absurd (omega (arith, into-known o from to t h))) (λ h. omega arith)

pub no-out : (o from to : Option ℕ) (t : Net) → hits from o + knows o t ≡ 0 → count (out_of o) from to t ≡ 0
no-out o from to t e = split 1 (count (out_of o) from to t) (λ h. absurd (omega (arith, out-known o from to t h))) (λ h. omega arith)

pub pair-into : (p q from to : Option ℕ) (t : Net) → count (pair p q) from to t ≤ count (into q) from to t
pair-into p q from to t = count-le (pair p q) (into q) (λ x y. omega arith) from to t

pub pair-out : (p q from to : Option ℕ) (t : Net) → count (pair p q) from to t ≤ count (out_of p) from to t
pair-out p q from to t = count-le (pair p q) (out_of p) (λ x y. omega arith) from to t

-- some arc leads to the end, and some from the start
pub into-end : (from to : Option ℕ) (t : Net) → 1 ≤ count (into to) from to t
into-end from to (hold n) = omega (arith, hits-self to)
into-end from to (series a v b) = omega (arith, into-end (Some v) to b)
into-end from to (both a b) = omega (arith, into-end from to a)

pub out-start : (from to : Option ℕ) (t : Net) → 1 ≤ count (out_of from) from to t
out-start from to (hold n) = omega (arith, hits-self from)
out-start from to (series a v b) = omega (arith, out-start from (Some v) a)
out-start from to (both a b) = omega (arith, out-start from to a)

-- and to each task, and from it
pub into-task : (v : ℕ) (from to : Option ℕ) (t : Net) → 1 ≤ times v t → 1 ≤ count (into (Some v)) from to t
into-task v from to (hold n) h = absurd (omega arith)
into-task v from to (series a w b) h = split 1 (times v a)
    (λ k. omega (arith, into-task v from (Some w) a k))
    (λ k. split 1 (times v b)
    (λ l. omega (arith, into-task v (Some w) to b l))
    (λ l. let same = hits-same (Some w) (Some v) (omega arith) in
    omega (arith, subst (λ o. 1 ≤ count (into o) from (Some w) a) same (into-end from (Some w) a))))
into-task v from to (both a b) h = split 1 (times v a)
    (λ k. omega (arith, into-task v from to a k))
    (λ k. omega (arith, into-task v from to b (omega arith)))

pub out-task : (v : ℕ) (from to : Option ℕ) (t : Net) → 1 ≤ times v t → 1 ≤ count (out_of (Some v)) from to t
out-task v from to (hold n) h = absurd (omega arith)
out-task v from to (series a w b) h = split 1 (times v a)
    (λ k. omega (arith, out-task v from (Some w) a k))
    (λ k. split 1 (times v b)
    (λ l. omega (arith, out-task v (Some w) to b l))
    (λ l. let same = hits-same (Some w) (Some v) (omega arith) in
    omega (arith, subst (λ o. 1 ≤ count (out_of o) (Some w) to b) same (out-start (Some w) to b))))
out-task v from to (both a b) h = split 1 (times v a)
    (λ k. omega (arith, out-task v from to a k))
    (λ k. omega (arith, out-task v from to b (omega arith)))
