-- The steps of the program are reductions, and where it stops none applies.
use Rattle.std.proofs.Common.{◌≡◌, ℕ, ◌+◌, ◌<◌, ◌≤◌, Bool, true, false, cond, min, ◌&&◌, eqb, eq-eqb}
use Rattle.std.proofs.Common.{List, [], ◌∷◌, length, set, refl, sym, ap, ◌∙◌, arith, Option, Some}
use Rattle.std.specs.Prelude.{IsPermutation}
use Rattle.std.specs.List.{sum_by}
use Rattle.std.proofs.lemmas.List.Sums.{sum_by-cons, sum_by-set}
use Rattle.std.proofs.lemmas.List.Sorted.{IsPermutation-trans, sum_by-IsPermutation}
use Rattle.std.proofs.lemmas.Bool.{eqb-true}
use Rattle.graphs.specs.Graph.{end_of}
use Rattle.sp_reduce.specs.declared.link.Link.{Link}
use Rattle.sp_reduce.specs.Nets.{hits, pair, into, out_of}
use Rattle.sp_reduce.specs.NetGraphs as nets
use Rattle.sp_reduce.specs.Reductions.{IsParallel, IsSeries, ReducesTo, in_order, by_parallel, by_series, IsIrreducible}
use Rattle.sp_reduce.specs.Work.{no_link, link_at, hit, link, link_weight, sum_links, graph_of, pairs_of, IsWork, IsLink}
use Rattle.sp_reduce.proofs.Weights.{weighed}
use Rattle.sp_reduce.proofs.Ends.{hits-self}
use Rattle.sp_reduce.proofs.Works.{Meets, two_sums, changed-other, changed-len, alive-weight}
use Rattle.sp_reduce.proofs.Works.{not_i, not_j, graph-sum, hits-end, counts-same}

-- ---- pairs

abbrev alike : ℕ × ℕ → ℕ × ℕ → ℕ
alike x y = cond (eqb y.0 x.0 && eqb y.1 x.1) 1 0

alike-self : (x : ℕ × ℕ) → alike x x ≡ 1
alike-self x = rw (eq-eqb x.0 x.0 refl, eq-eqb x.1 x.1 refl) refl

alike-same : (x y : ℕ × ℕ) → 1 ≤ alike x y → y ≡ x
alike-same x y h = (let a : y.0 ≡ x.0 = one x y h in let b : y.1 ≡ x.1 = two x y h in λ i. (a i, b i)) where
  one : (x y : ℕ × ℕ) → 1 ≤ alike x y → y.0 ≡ x.0
  one x y h = grind arith

  two : (x y : ℕ × ℕ) → 1 ≤ alike x y → y.1 ≡ x.1
  two x y h = grind arith

pub pairs-weighed : (xs ys : List (ℕ × ℕ)) → ((f : ℕ × ℕ → ℕ) → sum_by f xs ≡ sum_by f ys) → IsPermutation xs ys
pairs-weighed = weighed alike alike-self alike-same

pub pairs-sum : (f : ℕ × ℕ → ℕ) (links : List Link) → sum_by f (pairs_of links) ≡ sum_links (λ a b. f (a, b)) links
pairs-sum f [] = refl
pairs-sum f (l ∷ ls) = omega (arith, pairs-sum f ls, here l.alive, sum_by-cons (link_weight (λ a b. f (a, b))) l ls)
  where
    here : (b : Bool)
        → sum_by f (cond b ((l.from, l.to) ∷ pairs_of ls) (pairs_of ls)) ≡ cond b (f (l.from, l.to)) 0 + sum_by f (pairs_of ls)
    here true = sum_by-cons f (l.from, l.to) (pairs_of ls)
    here false = omega arith

two_first : (f : ℕ × ℕ → ℕ) (x y : ℕ × ℕ) (rest : List (ℕ × ℕ)) → sum_by f (x ∷ y ∷ rest) ≡ f x + (f y + sum_by f rest)
two_first f x y rest = omega (arith, sum_by-cons f x (y ∷ rest), sum_by-cons f y rest)

pub leads-trans : (g h k : List (ℕ × ℕ)) → ReducesTo g h → ReducesTo h k → ReducesTo g k
leads-trans g h k (in_order p) (in_order q) = in_order (IsPermutation-trans g h k p q)
leads-trans g h k (in_order p) (by_parallel {h = x} r row) = by_parallel {h = x} (record {
  from = r.from;
  to = r.to;
  rest = r.rest;
  was = IsPermutation-trans g h ((r.from, r.to) ∷ (r.from, r.to) ∷ r.rest) p r.was;
  is = r.is;
}) row
leads-trans g h k (in_order p) (by_series {h = x} r row) = by_series {h = x} (record {
  from = r.from;
  to = r.to;
  task = r.task;
  is_task = r.is_task;
  rest = r.rest;
  was = IsPermutation-trans g h ((r.from, r.task) ∷ (r.task, r.to) ∷ r.rest) p r.was;
  is = r.is;
  one_in = sym (sum_by-IsPermutation (λ (a : ℕ × ℕ). cond {A = ℕ} (eqb a.1 r.task) 1 0) g h p) ∙ r.one_in;
  one_out = sym (sum_by-IsPermutation (λ (a : ℕ × ℕ). cond {A = ℕ} (eqb a.0 r.task) 1 0) g h p) ∙ r.one_out;
}) row
leads-trans g h k (by_parallel {h = x} r row) rest = by_parallel {h = x} r (leads-trans x h k row rest)
leads-trans g h k (by_series {h = x} r row) rest = by_series {h = x} r (leads-trans x h k row rest)

-- ---- a task is taken out

module _ (n : ℕ) (rank : ℕ → ℕ) (links : List Link) (ins outs in_at out_at : List ℕ)
    (table : ℕ → Option ℕ) (v i j p s : ℕ) (w : IsWork n rank links ins outs in_at out_at table)
    (m : Meets n rank links ins outs v i j p s) where
  sums : (new : Link) (g : ℕ → ℕ → ℕ)
      → sum_links g (set (set links i new) j no_link) + (g p v + g v s) ≡ sum_links g links + link_weight g new
  sums new g = two_sums n rank links ins outs in_at out_at table v i j p s w m new g

  pub leads-series : IsSeries (pairs_of links) (pairs_of (set (set links i (link p s)) j no_link))
  leads-series =
      let gone = set (set links i no_link) j no_link in
      record {
        from = p;
        to = s;
        task = v;
        is_task = m.task;
        rest = pairs_of gone;
        was = pairs-weighed (pairs_of links) ((p, v) ∷ (v, s) ∷ pairs_of gone)
            (λ f. omega
            (arith, pairs-sum f links, pairs-sum f gone, sums no_link (λ a b. f (a, b)), two_first f (p, v) (v, s) (pairs_of gone)));
        is = pairs-weighed (pairs_of (set (set links i (link p s)) j no_link)) ((p, s) ∷ pairs_of gone)
            (λ f. omega (
              arith,
              pairs-sum f (set (set links i (link p s)) j no_link),
              pairs-sum f gone,
              sums (link p s) (λ a b. f (a, b)),
              sums no_link (λ a b. f (a, b)),
              sum_by-cons f (p, s) (pairs_of gone),
            ));
        one_in = pairs-sum (λ a. cond {A = ℕ} (eqb a.1 v) 1 0) links ∙ sym (w.ins_are v m.small) ∙ m.one_in;
        one_out = pairs-sum (λ a. cond {A = ℕ} (eqb a.0 v) 1 0) links ∙ sym (w.outs_are v m.small) ∙ m.one_out;
      }

  pub leads-parallel : (k : ℕ) → IsLink links k p s
      → IsParallel (pairs_of (set (set links i (link p s)) j no_link)) (pairs_of (set (set links i no_link) j no_link))
  leads-parallel k twin =
      let gone = set (set links i no_link) j no_link in
      let lt : k < length gone = omega (arith, changed-len links i j m.first.within m.second.within m.apart no_link, twin.within) in
      let now : link_at gone k ≡ link_at links k = changed-other links i j m.first.within m.second.within m.apart no_link k
      (not_i n rank links ins outs in_at out_at table v i j p s w m k s twin.to m.other_s)
      (not_j n rank links ins outs in_at out_at table v i j p s w m k p twin.from m.other_p) in
      let one : (g : ℕ → ℕ → ℕ) → sum_links g gone ≡ g p s + sum_links g (set gone k no_link) =
      λ g. omega (
        arith,
        sum_by-set (link_weight g) gone k no_link no_link lt,
        ap (link_weight g) now,
        alive-weight g (link_at links k) p s twin.alive twin.from twin.to,
      ) in
      record {
        from = p;
        to = s;
        rest = pairs_of (set gone k no_link);
        was = pairs-weighed (pairs_of (set (set links i (link p s)) j no_link)) ((p, s) ∷ (p, s) ∷ pairs_of (set gone k no_link))
            (λ f. omega (
              arith,
              pairs-sum f (set (set links i (link p s)) j no_link),
              pairs-sum f (set gone k no_link),
              sums (link p s) (λ a b. f (a, b)),
              sums no_link (λ a b. f (a, b)),
              one (λ a b. f (a, b)),
              two_first f (p, s) (p, s) (pairs_of (set gone k no_link)),
            ));
        is = pairs-weighed (pairs_of gone) ((p, s) ∷ pairs_of (set gone k no_link))
            (λ f. omega (
              arith,
              pairs-sum f gone,
              pairs-sum f (set gone k no_link),
              one (λ a b. f (a, b)),
              sum_by-cons f (p, s) (pairs_of (set gone k no_link)),
            ));
      }

-- ---- the end

ends-alike : (p q a b : ℕ) → alike (p, q) (a, b) ≤ min (hits (end_of a) (end_of p)) (hits (end_of b) (end_of q))
ends-alike p q a b = go (eqb a p) (eqb b q) refl refl where
  go : (s t : Bool) → eqb a p ≡ s → eqb b q ≡ t → alike (p, q) (a, b) ≤ min (hits (end_of a) (end_of p)) (hits (end_of b) (end_of q))
  go true true e f = (
      let x : hits (end_of a) (end_of p) ≡ 1 = ap (λ (z : ℕ). hits (end_of a) (end_of z)) (sym (eqb-true a p e)) ∙ hits-self (end_of a) in
      let y : hits (end_of b) (end_of q) ≡ 1 = ap (λ (z : ℕ). hits (end_of b) (end_of z)) (sym (eqb-true b q f)) ∙ hits-self (end_of b) in
      rw (e, f) (omega (arith, x, y))
      )
  go true false e f = rw (e, f) (omega arith)
  go false true e f = rw e (omega arith)
  go false false e f = rw e (omega arith)

links-le : (g h : ℕ → ℕ → ℕ) → ((a b : ℕ) → g a b ≤ h a b) → (links : List Link) → sum_links g links ≤ sum_links h links
links-le g h each [] = omega arith
links-le g h each (l ∷ ls) =
    omega (arith, links-le g h each ls, here l.alive, sum_by-cons (link_weight g) l ls, sum_by-cons (link_weight h) l ls) where
      here : (b : Bool) → cond b (g l.from l.to) 0 ≤ cond b (h l.from l.to) 0
      here true = each l.from l.to
      here false = omega arith

pub pairs-irreducible : (links : List Link) → nets.IsIrreducible (graph_of links) → IsIrreducible (pairs_of links)
pairs-irreducible links ir = record {
  no_parallel = λ after r.
      let f = alike (r.from, r.to) in
      let x : ℕ × ℕ = (r.from, r.to) in
      let g = pair (end_of r.from) (end_of r.to) in
      omega (
        arith,
        sum_by-IsPermutation f (pairs_of links) (x ∷ x ∷ r.rest) r.was,
        two_first f x x r.rest,
        alike-self x,
        pairs-sum f links,
        links-le (λ a b. f (a, b)) (λ a b. g (end_of a) (end_of b)) (ends-alike r.from r.to) links,
        graph-sum (λ a k b. g a b) links,
        ir.no_pair (end_of r.from) (end_of r.to),
      );
  no_series = λ after r.
      let v = r.task in
      ir.no_task v
      (graph-sum (λ a k b. into (Some v) a b) links
      ∙ counts-same (λ a b. hits (end_of b) (Some v)) (λ a b. hit b v) (λ a b. hits-end b v r.is_task) links
      ∙ sym (pairs-sum (λ a. cond {A = ℕ} (eqb a.1 v) 1 0) links) ∙ r.one_in)
      (graph-sum (λ a k b. out_of (Some v) a b) links
      ∙ counts-same (λ a b. hits (end_of a) (Some v)) (λ a b. hit a v) (λ a b. hits-end a v r.is_task) links
      ∙ sym (pairs-sum (λ a. cond {A = ℕ} (eqb a.0 v) 1 0) links) ∙ r.one_out);
}
