-- Each reduction keeps, both ways, whether a term exists, and a rest to which none applies has a term only if it is one arc.
use Rattle.std.proofs.Common.{◌≡◌, ℕ, ◌+◌, ◌≤◌, cond, min, refl, sym, subst, arith, ◌∙◌, List, [], ◌∷◌, Option, Some, None}
use Rattle.std.specs.Prelude.{◌==◌}
use Rattle.std.specs.List.{sum_by}
use Rattle.std.proofs.lemmas.List.Sums.{sum_by-cons, sum_by-append, sum_by-le-sum_by}
use Rattle.mp_system.specs.declared.system.Item.{Item}
use Rattle.sp_reduce.specs.Nets.{Net, hold, series, both, arcs, times, weigh, count, hits, pair, into, out_of, knows}
use Rattle.sp_reduce.specs.NetGraphs.{arc_weight, arc_count, counted, Makes, Fits, arc, IsParallel, IsSeries}
use Rattle.sp_reduce.specs.NetGraphs.{Row, stop, parallel, series_at, IsIrreducible, IsSingle, Decides}
use Rattle.sp_reduce.proofs.Ends.{split, hits-self, hits-le, hits-same, into-known, into-task}
use Rattle.sp_reduce.proofs.Steps.{drop_twin, Without, take_out, one, twins, lone, reducible}

-- the weights of a term are those of its arcs
pub weigh-arcs : (f : Option ℕ → ℕ → Option ℕ → ℕ) (from to : Option ℕ) (t : Net)
    → weigh f from to t ≡ sum_by (arc_weight f) (arcs from to t)
weigh-arcs f from to (hold n) = sym (sum_by-cons (arc_weight f) (arc from n to) [] ∙ omega arith)
weigh-arcs f from to (series a v b) = omega (
  arith,
  weigh-arcs f from (Some v) a,
  weigh-arcs f (Some v) to b,
  sum_by-append (arc_weight f) (arcs from (Some v) a) (arcs (Some v) to b),
)
weigh-arcs f from to (both a b) =
    omega (arith, weigh-arcs f from to a, weigh-arcs f from to b, sum_by-append (arc_weight f) (arcs from to a) (arcs from to b))

weigh-count : (g : Option ℕ → Option ℕ → ℕ) (from to : Option ℕ) (t : Net) → weigh (λ p n q. g p q) from to t ≡ count g from to t
weigh-count g from to (hold n) = refl
weigh-count g from to (series a v b) = omega (arith, weigh-count g from (Some v) a, weigh-count g (Some v) to b)
weigh-count g from to (both a b) = omega (arith, weigh-count g from to a, weigh-count g from to b)

pub makes-fits : (t : Net) (graph : List Item) → Makes t graph → Fits t graph
makes-fits t graph m = record { distinct = m.distinct; ends = λ g. sym (weigh-count g None None t) ∙ m.arcs (λ p n q. g p q) }

-- ---- from the reduced graph to the graph

abbrev pub exact : Option ℕ → ℕ → Option ℕ → Option ℕ → ℕ → Option ℕ → ℕ
exact p n q from m to = min (hits from p) (min (cond (m == n) 1 0) (hits to q))

pub same_size : (m n : ℕ) → 1 ≤ cond (m == n) 1 0 → m ≡ n
same_size m n h = grind arith

size-self : (n : ℕ) → ◌≡◌ {A = ℕ} (cond (n == n) 1 0) 1
size-self n = grind arith

-- a term in the place of an arc
record Replaced (from to p : Option ℕ) (n : ℕ) (q : Option ℕ) (t u : Net) : Type 0 where
  net : Net
  arcs : (f : Option ℕ → ℕ → Option ℕ → ℕ) → weigh f from to net + f p n q ≡ weigh f from to t + weigh f p q u
  same : (w : ℕ) → times w net ≡ times w t + times w u

replaced : (from to p : Option ℕ) (n : ℕ) (q : Option ℕ) (t u : Net) → 1 ≤ weigh (exact p n q) from to t → Replaced from to p n q t u
replaced from to p n q (hold m) u h =
    let a = hits-same from p (omega arith) in
    let b = hits-same to q (omega arith) in
    let c = same_size m n (omega arith) in
    record {
      net = u;
      arcs = λ f. subst (λ x. weigh f x to u + f p n q ≡ f x m to + weigh f p q u) (sym a)
          (subst (λ x. weigh f p x u + f p n q ≡ f p m x + weigh f p q u) (sym b)
          (subst (λ x. weigh f p q u + f p n q ≡ f p x q + weigh f p q u) (sym c) (omega arith)));
      same = λ w. omega arith;
    }
replaced from to p n q (series a v b) u h = split 1 (weigh (exact p n q) from (Some v) a)
    (λ k. let r = replaced from (Some v) p n q a u k in
    record { net = series r.net v b; arcs = λ f. omega (arith, r.arcs f); same = λ w. omega (arith, r.same w) })
    (λ k. let r = replaced (Some v) to p n q b u (omega arith) in
    record { net = series a v r.net; arcs = λ f. omega (arith, r.arcs f); same = λ w. omega (arith, r.same w) })
replaced from to p n q (both a b) u h = split 1 (weigh (exact p n q) from to a)
    (λ k. let r = replaced from to p n q a u k in
    record { net = both r.net b; arcs = λ f. omega (arith, r.arcs f); same = λ w. omega (arith, r.same w) })
    (λ k. let r = replaced from to p n q b u (omega arith) in
    record { net = both a r.net; arcs = λ f. omega (arith, r.arcs f); same = λ w. omega (arith, r.same w) })

two_first : (f : Option ℕ → ℕ → Option ℕ → ℕ) (x y : Item) (rest : List Item)
    → sum_by (arc_weight f) (x ∷ y ∷ rest) ≡ arc_weight f x + (arc_weight f y + sum_by (arc_weight f) rest)
two_first f x y rest = omega (arith, sum_by-cons (arc_weight f) x (y ∷ rest), sum_by-cons (arc_weight f) y rest)

pub exact-self : (p : Option ℕ) (n : ℕ) (q : Option ℕ) → exact p n q p n q ≡ 1
exact-self p n q = omega (arith, hits-self p, hits-self q, size-self n)

pub back-parallel : (before after : List Item) → IsParallel before after → (t : Net) → Makes t after → (u : Net) × Makes u before
back-parallel before after r t m =
    let e = exact r.from r.new r.to in
    let r2 = replaced None None r.from r.new r.to t (both (hold r.one) (hold r.two))
    (omega (arith, m.arcs e, r.is e, sum_by-cons (arc_weight e) (arc r.from r.new r.to) r.rest, exact-self r.from r.new r.to)) in (
      r2.net,
      record {
        distinct = λ v. omega (arith, r2.same v, m.distinct v);
        arcs = λ f. omega (
          arith,
          r2.arcs f,
          m.arcs f,
          r.was f,
          r.is f,
          two_first f (arc r.from r.one r.to) (arc r.from r.two r.to) r.rest,
          sum_by-cons (arc_weight f) (arc r.from r.new r.to) r.rest,
        );
      },
    )

counted-two : (g : Option ℕ → Option ℕ → ℕ) (x y : Item) (rest : List Item)
    → counted g (x ∷ y ∷ rest) ≡ arc_count g x + (arc_count g y + counted g rest)
counted-two g x y rest = omega (arith, sum_by-cons (arc_count g) x (y ∷ rest), sum_by-cons (arc_count g) y rest)

-- nothing else leads to the task, or from it
record Alone (before after : List Item) (r : IsSeries before after) : Type 0 where
  to_far : hits r.to (Some r.task) ≡ 0
  from_far : hits r.from (Some r.task) ≡ 0
  none_in : counted (into (Some r.task)) r.rest ≡ 0
  none_out : counted (out_of (Some r.task)) r.rest ≡ 0

alone : (before after : List Item) (r : IsSeries before after) → Alone before after r
alone before after r =
    let o = Some r.task in
    let i = r.was (λ p n q. into o p q) in
    let j = r.was (λ p n q. out_of o p q) in
    let x = arc r.from r.one o in
    let y = arc o r.two r.to in
    record {
      to_far = omega (arith, i, r.one_in, counted-two (into o) x y r.rest, hits-self o);
      from_far = omega (arith, j, r.one_out, counted-two (out_of o) x y r.rest, hits-self o);
      none_in = omega (arith, i, r.one_in, counted-two (into o) x y r.rest, hits-self o);
      none_out = omega (arith, j, r.one_out, counted-two (out_of o) x y r.rest, hits-self o);
    }

back-series : (before after : List Item) → IsSeries before after → (t : Net) → Makes t after → (u : Net) × Makes u before
back-series before after r t m =
    let e = exact r.from r.new r.to in
    let o = Some r.task in
    let al = alone before after r in
    let r2 = replaced None None r.from r.new r.to t (series (hold r.one) r.task (hold r.two))
    (omega (arith, m.arcs e, r.is e, sum_by-cons (arc_weight e) (arc r.from r.new r.to) r.rest, exact-self r.from r.new r.to)) in
    let fits = makes-fits t after m in
    let new : times r.task t ≡ 0 = split 1 (times r.task t)
    (λ h. absurd (omega (
      arith,
      into-task r.task None None t h,
      fits.ends (into o),
      r.is (λ p n q. into o p q),
      sum_by-cons (arc_count (into o)) (arc r.from r.new r.to) r.rest,
      al.to_far,
      al.none_in,
    )))
    (λ h. omega arith) in (
      r2.net,
      record {
        distinct = λ v. split 1 (hits o (Some v))
            (λ h. let e : times v t ≡ 0 = subst (λ (z : Option ℕ). knows z t ≡ 0) (hits-same o (Some v) h) new in
            omega (arith, e, r2.same v, hits-le o (Some v)))
            (λ h. omega (arith, r2.same v, m.distinct v));
        arcs = λ f. omega (
          arith,
          r2.arcs f,
          m.arcs f,
          r.was f,
          r.is f,
          two_first f (arc r.from r.one o) (arc o r.two r.to) r.rest,
          sum_by-cons (arc_weight f) (arc r.from r.new r.to) r.rest,
        );
      },
    )

-- ---- from the graph to the reduced graph

pub forth-parallel : (before after : List Item) → IsParallel before after → (t : Net) → Fits t before → (u : Net) × Fits u after
forth-parallel before after r t m =
    let x = arc r.from r.one r.to in
    let y = arc r.from r.two r.to in
    let g = pair r.from r.to in
    let few = drop_twin r.from r.to None None t m.distinct refl refl
    (omega (arith, m.ends g, r.was (λ p n q. g p q), counted-two g x y r.rest, hits-self r.from, hits-self r.to)) in (
      few.net,
      record {
        distinct = λ v. omega (arith, few.same v, m.distinct v);
        ends = λ h. omega (
          arith,
          few.counts h,
          m.ends h,
          r.was (λ p n q. h p q),
          r.is (λ p n q. h p q),
          counted-two h x y r.rest,
          sum_by-cons (arc_count h) (arc r.from r.new r.to) r.rest,
        );
      },
    )

counted-le : (g h : Option ℕ → Option ℕ → ℕ) → ((p q : Option ℕ) → g p q ≤ h p q) → (xs : List Item) → counted g xs ≤ counted h xs
counted-le g h each xs = sum_by-le-sum_by (arc_count g) (arc_count h) xs (λ x. each x.from x.to)

module _ (before after : List Item) (r : IsSeries before after) (t : Net) (m : Fits t before) where
  al : Alone before after r
  al = alone before after r

  there : 1 ≤ times r.task t
  there = omega (arith, into-known (Some r.task) None None t (omega (arith, m.ends (into (Some r.task)), r.one_in)))

  out : Without None None r.task t
  out = take_out None None r.task t m.distinct refl refl there
      (m.ends (into (Some r.task)) ∙ r.one_in) (m.ends (out_of (Some r.task)) ∙ r.one_out)

  ends_at : (h : Option ℕ → Option ℕ → ℕ) → count h None None t ≡ h r.from (Some r.task) + (h (Some r.task) r.to + counted h r.rest)
  ends_at h = m.ends h ∙ r.was (λ p n q. h p q) ∙ counted-two h (arc r.from r.one (Some r.task)) (arc (Some r.task) r.two r.to) r.rest

  prev_is : r.from ≡ out.prev
  prev_is =
      let g = pair out.prev (Some r.task) in
      hits-same r.from out.prev (omega (
        arith,
        out.counts g,
        ends_at g,
        hits-self (Some r.task),
        hits-self out.prev,
        out.far_next,
        al.to_far,
        al.none_in,
        counted-le g (into (Some r.task)) (λ x y. omega arith) r.rest,
      ))

  next_is : r.to ≡ out.next
  next_is =
      let g = pair (Some r.task) out.next in
      hits-same r.to out.next (omega (
        arith,
        out.counts g,
        ends_at g,
        hits-self (Some r.task),
        hits-self out.next,
        out.far_prev,
        al.from_far,
        al.none_out,
        counted-le g (out_of (Some r.task)) (λ x y. omega arith) r.rest,
      ))

  pub forth-series : (u : Net) × Fits u after
  forth-series = (
    out.net,
    record {
      distinct = λ v. omega (arith, out.same v, m.distinct v);
      ends = λ h.
          let c : count h None None out.net + (h r.from (Some r.task) + h (Some r.task) r.to) ≡ count h None None t + h r.from r.to =
          subst (λ x. count h None None out.net + (h x (Some r.task) + h (Some r.task) r.to) ≡ count h None None t + h x r.to) (sym prev_is)
          (subst (λ x. count h None None out.net + (h out.prev (Some r.task) + h (Some r.task) x) ≡ count h None None t + h out.prev x)
          (sym next_is) (out.counts h)) in
          omega (arith, c, ends_at h, r.is (λ p n q. h p q), sum_by-cons (arc_count h) (arc r.from r.new r.to) r.rest);
    },
  )

-- ---- the end

single : (graph : List Item) → ((g : Option ℕ → Option ℕ → ℕ) → counted g graph ≡ g None None) → IsSingle graph
single [] h = absurd (omega (arith, h (λ p q. 1)))
single (x ∷ []) h =
    let g = pair None None in
    let e = sum_by-cons (arc_count g) x [] in
    let a = hits-same x.from None (omega (arith, h g, e)) in
    let b = hits-same x.to None (omega (arith, h g, e)) in
    (x.size, λ i. record { from = a i; size = x.size; to = b i } ∷ [])
single (x ∷ y ∷ rest) h = absurd (omega (arith, h (λ p q. 1), counted-two (λ p q. 1) x y rest))

pub ended : (graph : List Item) → IsIrreducible graph → (t : Net) → Fits t graph → IsSingle graph
ended graph ir t m = elim (reducible None None t m.distinct refl refl) [
  | one is ↦ single graph (λ g. sym (m.ends g) ∙ is.counts g)
  | twins p q h ↦ absurd (omega (arith, m.ends (pair p q), ir.no_pair p q))
  | lone v k i o ↦ absurd (ir.no_task v (sym (m.ends (into (Some v))) ∙ i) (sym (m.ends (out_of (Some v))) ∙ o))
]

back : (graph rest : List Item) → Row graph rest → (t : Net) → Makes t rest → (u : Net) × Makes u graph
back graph rest stop t m = (t, m)
back graph rest (parallel {h = h} r row) t m = let z = back h rest row t m in back-parallel graph h r z.0 z.1
back graph rest (series_at {h = h} r row) t m = let z = back h rest row t m in back-series graph h r z.0 z.1

forth : (graph rest : List Item) → Row graph rest → (t : Net) → Fits t graph → (u : Net) × Fits u rest
forth graph rest stop t m = (t, m)
forth graph rest (parallel {h = h} r row) t m = let z = forth-parallel graph h r t m in forth h rest row z.0 z.1
forth graph rest (series_at {h = h} r row) t m = let z = forth-series graph h r t m in forth h rest row z.0 z.1

pub decides : (graph rest : List Item) → Row graph rest → IsIrreducible rest → Decides graph rest
decides graph rest row ir = record {
  yes = λ s. back graph rest row (hold s.0) (record {
    distinct = λ v. omega arith;
    arcs = λ f. rw (s.1) (sym (sum_by-cons (arc_weight f) (arc None s.0 None) [] ∙ omega arith));
  });
  no = λ not_one t m. let z = forth graph rest row t (makes-fits t graph m) in not_one (ended rest ir z.0 z.1);
}
