-- The steps of the reduction keep a forest.
use Rattle.std.proofs.Common.{◌≡◌, ◌≢◌, ℕ, ◌+◌, ◌<◌, Bool, true, false, cond, refl, sym, subst, ap}
use Rattle.std.proofs.Common.{arith, ◌∙◌, List, [], ◌∷◌, length, Option, Some, None, get_or, set}
use Rattle.std.specs.List.{sum_by}
use Rattle.std.proofs.lemmas.List.{get_or-set_other, length-set}
use Rattle.std.proofs.lemmas.List.Sums.{sum_by-cons, sum_by-set}
use Rattle.mp_system.specs.declared.system.Item.{Item}
use Rattle.sp_reduce.specs.Nets.{Net, hold, series, both, times, weigh, hits, knows}
use Rattle.sp_reduce.specs.NetGraphs.{arc_weight, Makes, arc, IsParallel, IsSeries, IsIrreducible, IsSingle}
use Rattle.sp_reduce.specs.Forests.{Edge, dead, edge_weight, total, arcs_of, IsNetForest, planted}
use Rattle.sp_reduce.proofs.Ends.{split, hits-le, hits-same}
use Rattle.sp_reduce.proofs.Whole.{makes-fits, forth-parallel, forth-series, ended}

-- the graph's weights, whatever the sizes
pub arcs-total : (f : Option ℕ → ℕ → Option ℕ → ℕ) (es : List Edge) → sum_by (arc_weight f) (arcs_of es) ≡ total (λ p n q. f p 0 q) es
arcs-total f [] = refl
arcs-total f (e ∷ es) = omega (arith, arcs-total f es, here e.alive, sum_by-cons (edge_weight (λ p n q. f p 0 q)) e es)
  where
    here : (b : Bool)
        → sum_by (arc_weight f) (cond b (arc e.from 0 e.to ∷ arcs_of es) (arcs_of es))
        ≡ cond b (f e.from 0 e.to) 0 + sum_by (arc_weight f) (arcs_of es)
    here true = sum_by-cons (arc_weight f) (arc e.from 0 e.to) (arcs_of es)
    here false = omega arith

-- ---- two arcs become one

module _ (es : List Edge) (i j : ℕ) (p q r s : Option ℕ) (m n : Net) (lt : i < length es) (lt_j : j < length es) (ne : i ≢ j)
    (at_i : get_or es i dead ≡ record { alive = true; from = p; net = m; to = q })
    (at_j : get_or es j dead ≡ record { alive = true; from = r; net = n; to = s }) where
  pub was : (f : Option ℕ → Net → Option ℕ → ℕ) → total f es ≡ f p m q + (f r n s + total f (set (set es i dead) j dead))
  was f =
      let a = sum_by-set (edge_weight f) es i dead dead lt in
      let b = sum_by-set (edge_weight f) (set es i dead) j dead dead (omega (arith, length-set es i dead)) in
      let c : get_or (set es i dead) j dead ≡ record { alive = true; from = r; net = n; to = s } =
      get_or-set_other es i j dead dead (λ z. ne (sym z)) ∙ at_j in
      omega (arith, a, b, ap (edge_weight f) at_i, ap (edge_weight f) c)

  pub is : (f : Option ℕ → Net → Option ℕ → ℕ) (x : Option ℕ) (k : Net) (y : Option ℕ)
      → total f (set (set es i (record { alive = true; from = x; net = k; to = y })) j dead)
      ≡ f x k y + total f (set (set es i dead) j dead)
  is f x k y =
      let new : Edge = record { alive = true; from = x; net = k; to = y } in
      let a = sum_by-set (edge_weight f) es i new dead lt in
      let b = sum_by-set (edge_weight f) (set es i new) j dead dead (omega (arith, length-set es i new)) in
      let c : get_or (set es i new) j dead ≡ record { alive = true; from = r; net = n; to = s } =
      get_or-set_other es i j new dead (λ z. ne (sym z)) ∙ at_j in
      omega (arith, a, b, was f, ap (edge_weight f) at_i, ap (edge_weight f) c)

  module _ (graph : List Item) (forest : IsNetForest graph es) where
    -- the same ends
    pub forest-parallel : p ≡ r → q ≡ s
        → IsNetForest graph (set (set es i (record { alive = true; from = p; net = both m n; to = q })) j dead)
    forest-parallel e e' =
        let after = set (set es i (record { alive = true; from = p; net = both m n; to = q })) j dead in
        let gone = set (set es i dead) j dead in
        let two : (f : Option ℕ → Net → Option ℕ → ℕ) → total f es ≡ f p m q + (f p n q + total f gone) =
        λ f. was f
        ∙ subst (λ x. f p m q + (f x n s + total f gone) ≡ f p m q + (f p n q + total f gone)) e
        (subst (λ x. f p m q + (f p n x + total f gone) ≡ f p m q + (f p n q + total f gone)) e' refl) in
        record {
          whole = λ f. omega (arith, is (λ x k y. weigh f x y k) p (both m n) q, two (λ x k y. weigh f x y k), forest.whole f);
          once = λ v. omega (arith, is (λ x k y. times v k) p (both m n) q, two (λ x k y. times v k), forest.once v);
          open_tasks = λ v h. omega (
            arith,
            is (λ x k y. times v k) p (both m n) q,
            two (λ x k y. times v k),
            forest.open_tasks v (omega (arith, h, is (λ x k y. hits y (Some v)) p (both m n) q, two (λ x k y. hits y (Some v)))),
          );
          keeps = λ t fits.
              let u = forest.keeps t fits in
              let par : IsParallel (arcs_of es) (arcs_of after) = record {
                from = p;
                to = q;
                one = 0;
                two = 0;
                new = 0;
                rest = arcs_of gone;
                was = λ f. omega (
                  arith,
                  arcs-total f es,
                  arcs-total f gone,
                  two (λ x k y. f x 0 y),
                  sum_by-cons (arc_weight f) (arc p 0 q) (arc p 0 q ∷ arcs_of gone),
                  sum_by-cons (arc_weight f) (arc p 0 q) (arcs_of gone),
                );
                is = λ f. omega (
                  arith,
                  arcs-total f after,
                  arcs-total f gone,
                  is (λ x k y. f x 0 y) p (both m n) q,
                  sum_by-cons (arc_weight f) (arc p 0 q) (arcs_of gone),
                );
              } in
              forth-parallel (arcs_of es) (arcs_of after) par u.0 u.1;
        }

    -- one arc into a task and one out of it
    pub forest-series : (v : ℕ) → q ≡ Some v → r ≡ Some v
        → total (λ x k y. hits y (Some v)) es ≡ 1 → total (λ x k y. hits x (Some v)) es ≡ 1
        → IsNetForest graph (set (set es i (record { alive = true; from = p; net = series m v n; to = s })) j dead)
    forest-series v e e' one_in one_out =
        let after = set (set es i (record { alive = true; from = p; net = series m v n; to = s })) j dead in
        let gone = set (set es i dead) j dead in
        let two : (f : Option ℕ → Net → Option ℕ → ℕ) → total f es ≡ f p m (Some v) + (f (Some v) n s + total f gone) =
        λ f. was f ∙ subst (λ x. f p m q + (f x n s + total f gone) ≡ f p m (Some v) + (f (Some v) n s + total f gone)) (sym e')
        (subst (λ x. f p m x + (f (Some v) n s + total f gone) ≡ f p m (Some v) + (f (Some v) n s + total f gone)) (sym e) refl) in
        let closed = forest.open_tasks v (omega arith) in
        record {
          whole = λ f. omega (arith, is (λ x k y. weigh f x y k) p (series m v n) s, two (λ x k y. weigh f x y k), forest.whole f);
          once = λ w. split 1 (hits (Some v) (Some w))
              (λ h. let z = subst (λ (o : Option ℕ). total (λ x k y. knows o k) es ≡ 0) (hits-same (Some v) (Some w) h) closed in
              omega (arith, is (λ x k y. times w k) p (series m v n) s, two (λ x k y. times w k), z, hits-le (Some v) (Some w)))
              (λ h. omega (arith, is (λ x k y. times w k) p (series m v n) s, two (λ x k y. times w k), forest.once w));
          open_tasks = λ w h. split 1 (hits (Some v) (Some w))
              (λ l. absurd (let z = subst (λ (o : Option ℕ). total (λ x k y. hits y o) es ≡ 1) (hits-same (Some v) (Some w) l) one_in in
              omega (arith, z, h, l, is (λ x k y. hits y (Some w)) p (series m v n) s, two (λ x k y. hits y (Some w)))))
              (λ l. omega (
                arith,
                is (λ x k y. times w k) p (series m v n) s,
                two (λ x k y. times w k),
                forest.open_tasks w (omega (arith, h, is (λ x k y. hits y (Some w)) p (series m v n) s, two (λ x k y. hits y (Some w)))),
              ));
          keeps = λ t fits.
              let u = forest.keeps t fits in
              let ser : IsSeries (arcs_of es) (arcs_of after) = record {
                from = p;
                to = s;
                task = v;
                one = 0;
                two = 0;
                new = 0;
                rest = arcs_of gone;
                was = λ f. omega (
                  arith,
                  arcs-total f es,
                  arcs-total f gone,
                  two (λ x k y. f x 0 y),
                  sum_by-cons (arc_weight f) (arc p 0 (Some v)) (arc (Some v) 0 s ∷ arcs_of gone),
                  sum_by-cons (arc_weight f) (arc (Some v) 0 s) (arcs_of gone),
                );
                is = λ f. omega (
                  arith,
                  arcs-total f after,
                  arcs-total f gone,
                  is (λ x k y. f x 0 y) p (series m v n) s,
                  sum_by-cons (arc_weight f) (arc p 0 s) (arcs_of gone),
                );
                one_in = arcs-total (λ x k y. hits y (Some v)) es ∙ one_in;
                one_out = arcs-total (λ x k y. hits x (Some v)) es ∙ one_out;
              } in
              forth-series (arcs_of es) (arcs_of after) ser u.0 u.1;
        }

-- ---- the start and the end

planted-total : (f : Option ℕ → Net → Option ℕ → ℕ) (xs : List Item) → total f (planted xs) ≡ sum_by (λ x. f x.from (hold x.size) x.to) xs
planted-total f [] = refl
planted-total f (x ∷ xs) = omega (
  arith,
  planted-total f xs,
  sum_by-cons (edge_weight f) (record { alive = true; from = x.from; net = hold x.size; to = x.to }) (planted xs),
  sum_by-cons (λ (y : Item). f y.from (hold y.size) y.to) x xs,
)

no_sum : (xs : List Item) → sum_by (λ x. 0) xs ≡ 0
no_sum [] = refl
no_sum (x ∷ xs) = omega (arith, sum_by-cons (λ (y : Item). 0) x xs, no_sum xs)

pub forest-first : (graph : List Item) → IsNetForest graph (planted graph)
forest-first graph = record {
  whole = λ f. planted-total (λ p n q. weigh f p q n) graph;
  once = λ v. omega (arith, planted-total (λ p n q. times v n) graph, no_sum graph);
  open_tasks = λ v h. planted-total (λ p n q. times v n) graph ∙ no_sum graph;
  keeps = λ t fits. (
    t,
    record {
      distinct = fits.distinct;
      ends = λ g. fits.ends g ∙ sym (arcs-total (λ p n q. g p q) (planted graph) ∙ planted-total (λ p n q. g p q) graph);
    },
  );
}

-- where one arc alone is alive, from none to none, its term has the graph
none-alive : (f : Option ℕ → Net → Option ℕ → ℕ) (es : List Edge) → total (λ p n q. 1) es ≡ 0 → total f es ≡ 0
none-alive f [] h = refl
none-alive f (e ∷ es) h =
    let a = sum_by-cons (edge_weight f) e es in
    let b = sum_by-cons (edge_weight (λ p n q. 1)) e es in
    omega (arith, a, off e.alive (omega (arith, b, h)), none-alive f es (omega (arith, b, h)))
  where
    off : (b : Bool) → ◌≡◌ {A = ℕ} (cond b 1 0) 0 → cond b (f e.from e.net e.to) 0 ≡ 0
    off true k = absurd (omega arith)
    off false k = refl

pub forest-yes : (graph : List Item) (es : List Edge) (i : ℕ) (n : Net) → IsNetForest graph es
    → i < length es → get_or es i dead ≡ record { alive = true; from = None; net = n; to = None }
    → total (λ p m q. 1) es ≡ 1 → Makes n graph
forest-yes graph es i n forest lt at one =
    let only : (f : Option ℕ → Net → Option ℕ → ℕ) → total f es ≡ f None n None =
    λ f. (let a = sum_by-set (edge_weight f) es i dead dead lt in
    let b = sum_by-set (edge_weight (λ p m q. 1)) es i dead dead lt in
    let c = none-alive f (set es i dead) (omega (arith, b, one, ap (edge_weight (λ p m q. 1)) at)) in
    omega (arith, a, c, ap (edge_weight f) at)) in
    record {
      distinct = λ v. omega (arith, forest.once v, only (λ p m q. times v m));
      arcs = λ f. sym (only (λ p m q. weigh f p q m)) ∙ forest.whole f;
    }

pub forest-no : (graph : List Item) (es : List Edge) → IsNetForest graph es
    → IsIrreducible (arcs_of es) → (IsSingle (arcs_of es) → ⊥) → (t : Net) → Makes t graph → ⊥
forest-no graph es forest ir not_one t m =
    let u = forest.keeps t (makes-fits t graph m) in
    not_one (ended (arcs_of es) ir u.0 u.1)
