-- The net that makes the completed graph is a term with its system; and where no net does, no term has it.
use Rattle.std.proofs.Common.{◌≡◌, ◌≢◌, ℕ, zero, suc, ◌+◌, ◌-◌, ◌<◌, ◌≤◌, Bool, true, false, cond, eqb, eq-eqb, refl, sym, ap}
use Rattle.std.proofs.Common.{subst, arith, ◌∙◌, List, [], ◌∷◌, ◌++◌, length, map, get_or, take, Option, Some, None, inl, inr}
use Rattle.std.specs.Prelude.{IsPermutation}
use Rattle.std.specs.List.{sum_by, count_by, All, range_with_len, position_or_len}
use Rattle.std.proofs.lemmas.List.{length-map, length-append, get_or-take, length-take-le}
use Rattle.std.proofs.lemmas.List.Sums.{sum_by-cons, sum_by-append, get_or-le-sum_by, sum_by_more_le, position_or_len_is}
use Rattle.std.proofs.lemmas.List.Elements.{All-head, All-tail}
use Rattle.std.proofs.lemmas.List.FromFn.{length-range_with_len, get_or-range_with_len}
use Rattle.std.proofs.lemmas.Bool.{ne_eqb, le-leb, eqb-true, cases_Bool}
use Rattle.limits.specs.Limits.{most_size, most_positions}
use Rattle.mp_system.specs.declared.system.Task.{Task}
use Rattle.mp_system.specs.declared.system.Item.{Item}
use Rattle.mp_system.specs.System.{TaskSystem, IsSystem, IsItemWithin, is_named, is_input, is_output, size_where, extra_size, item_size}
use Rattle.mp_system.specs.System as systems
use Rattle.mp_system.specs.Renaming.{name_in}
use Rattle.sp_terms.specs.Term.{Term, Parts, no_parts, part}
use Rattle.sp_terms.specs.Term as terms
use Rattle.sp_terms.specs.SystemOfTerm.{task_count, task_count_of_parts, tasks_of_term, tasks_of_parts}
use Rattle.sp_terms.specs.Postfix.{Denotes, postfix}
use Rattle.sp_terms.specs.Values.{stack_from, last_term, term_of, Leaves, IsTerms}
use Rattle.graphs.specs.declared.arc.Arc.{Arc}
use Rattle.graphs.specs.Graph.{TaskGraph, IsAmong, IsArcWithin, IsGraph, is_into, item_of_arc}
use Rattle.graphs.specs.Graph.{end_of, listed_task, completed_arcs, completed_system}
use Rattle.sp_reduce.specs.Nets.{Net, hold, series, both, names, times, arcs, hits, into}
use Rattle.sp_reduce.specs.NetGraphs.{arc_weight, counted, Makes}
use Rattle.sp_reduce.specs.Reduced.{HasSystem, HasParts}
use Rattle.sp_reduce.specs.Shapes.{term_of_net, named, holds_of, size_of}
use Rattle.sp_reduce.proofs.Ends.{split, into-known, into-task, hits-same}
use Rattle.sp_reduce.proofs.Whole.{makes-fits, weigh-arcs, exact, exact-self, same_size}
use Rattle.sp_reduce.proofs.Works.{hits-end}
use Rattle.sp_reduce.proofs.Weights.{weighed}
use Rattle.sp_reduce.proofs.RenamedTerms.{items-made}
use Rattle.sp_reduce.proofs.Shaped.{tasks-are, items-are, size_if, size_in, size_out, ShareFits, allowed}
use Rattle.sp_reduce.proofs.Bounds.{weigh-data, weigh-holds, size-holds, bad, small, AreBound, bounds}
use Rattle.graphs.proofs.SystemLemmas.{end-is}

-- ---- sums over numbers

-- a number, so many times
rep : ℕ → ℕ → ℕ
rep zero m = 0
rep (suc k) m = m + rep k m

rep-add : (a b m : ℕ) → rep (a + b) m ≡ rep a m + rep b m
unfolding rep
rep-add zero b m = let e : 0 + b ≡ b = omega arith in ap (λ (k : ℕ). rep k m) e ∙ omega arith
rep-add (suc a) b m = let e : suc a + b ≡ suc (a + b) = omega arith in ap (λ (k : ℕ). rep k m) e ∙ omega (arith, rep-add a b m)

sum-each : (g h : ℕ → ℕ) (xs : List ℕ) → ((i : ℕ) → i < length xs → g (get_or xs i 0) ≡ h (get_or xs i 0)) → sum_by g xs ≡ sum_by h xs
sum-each g h [] each = refl
sum-each g h (x ∷ xs) each =
    omega (arith, sum_by-cons g x xs, sum_by-cons h x xs, each 0 (omega arith), sum-each g h xs (λ i lt. each (suc i) (omega (arith, lt))))

sum-add : (g h : ℕ → ℕ) (xs : List ℕ) → sum_by (λ v. g v + h v) xs ≡ sum_by g xs + sum_by h xs
sum-add g h [] = refl
sum-add g h (x ∷ xs) = omega (arith, sum_by-cons (λ v. g v + h v) x xs, sum_by-cons g x xs, sum_by-cons h x xs, sum-add g h xs)

sum-zero : (g : ℕ → ℕ) (xs : List ℕ) → ((i : ℕ) → i < length xs → g (get_or xs i 0) ≡ 0) → sum_by g xs ≡ 0
sum-zero g [] each = refl
sum-zero g (x ∷ xs) each = omega (arith, sum_by-cons g x xs, each 0 (omega arith), sum-zero g xs (λ i lt. each (suc i) (omega (arith, lt))))

module _ (f : ℕ → ℕ) (x : ℕ) where
  abbrev one_at : ℕ → ℕ
  one_at v = rep (cond (eqb x v) 1 0) (f v)

  off : (v : ℕ) → x ≢ v → rep (cond (eqb x v) 1 0) (f v) ≡ 0
  unfolding rep
  off v ne = rw (ne_eqb x v ne) refl

  on : rep (cond (eqb x x) 1 0) (f x) ≡ f x
  unfolding rep
  on = rw (eq-eqb x x refl) (omega arith)

  -- one number of a range alone counts
  single : (a n : ℕ) → a ≤ x → x < a + n → sum_by (λ v. rep (cond (eqb x v) 1 0) (f v)) (range_with_len a n) ≡ f x
  single a zero le lt = absurd (omega arith)
  single a (suc n) le lt =
      let g : ℕ → ℕ = λ v. rep (cond (eqb x v) 1 0) (f v) in
      let e = sum_by-cons g a (range_with_len (a + 1) n) in
      elim (cases_Bool (eqb x a)) [
        | inl same ↦ (let is : x ≡ a = eqb-true x a same in
            let rest = sum-zero g (range_with_len (a + 1) n)
            (λ i short. let at = get_or-range_with_len (a + 1) n i 0 (omega (arith, short, length-range_with_len (a + 1) n)) in
            off (get_or (range_with_len (a + 1) n) i 0) (λ z. omega (arith, z, is, at))) in
            omega (arith, e, rest, ap (λ (v : ℕ). rep (cond (eqb x v) 1 0) (f v)) is, on))
        | inr other ↦ (let ne : x ≢ a = λ z. absurd (cc (sym other ∙ eq-eqb x a z)) in
            omega (arith, e, off a ne, single (a + 1) n (omega (arith, ne)) (omega arith)))
      ]

-- a sum over numbers from 1 to n, by how often each stands
by-number : (f : ℕ → ℕ) (n : ℕ) (xs : List ℕ) → All (IsAmong n) xs
    → sum_by f xs ≡ sum_by (λ v. rep (count_by (λ u. eqb u v) xs) (f v)) (range_with_len 1 n)
unfolding rep
by-number f n [] h = sym (sum-zero (λ v. 0) (range_with_len 1 n) (λ i lt. refl))
by-number f n (x ∷ xs) h =
    let among = All-head (IsAmong n) x xs h in
    let one : ℕ → ℕ = λ v. rep (cond (eqb x v) 1 0) (f v) in
    let rest : ℕ → ℕ = λ v. rep (count_by (λ u. eqb u v) xs) (f v) in
    let each = sum-each (λ v. rep (count_by (λ u. eqb u v) (x ∷ xs)) (f v)) (λ v. one v + rest v) (range_with_len 1 n)
    (λ i lt. let v = get_or (range_with_len 1 n) i 0 in
    ap (λ (k : ℕ). rep k (f v)) (sum_by-cons (λ u. cond {A = ℕ} (eqb u v) 1 0) x xs)
    ∙ rep-add (cond (eqb x v) 1 0) (count_by (λ u. eqb u v) xs) (f v)) in
    omega (
      arith,
      sum_by-cons f x xs,
      by-number f n xs (All-tail (IsAmong n) x xs h),
      each,
      sum-add one rest (range_with_len 1 n),
      single f x 1 n among.0 (omega (arith, among.1)),
    )

-- each number once
once-sum : (f : ℕ → ℕ) (n : ℕ) (xs : List ℕ) → All (IsAmong n) xs
    → ((v : ℕ) → IsAmong n v → count_by (λ u. eqb u v) xs ≡ 1) → sum_by f xs ≡ sum_by f (range_with_len 1 n)
unfolding rep
once-sum f n xs h once =
    by-number f n xs h ∙ sum-each (λ v. rep (count_by (λ u. eqb u v) xs) (f v)) f (range_with_len 1 n)
    (λ i lt. let v = get_or (range_with_len 1 n) i 0 in
    let at = get_or-range_with_len 1 n i 0 (omega (arith, lt, length-range_with_len 1 n)) in
    let one = once v (omega (arith, at), omega (arith, at, lt, length-range_with_len 1 n)) in
    ap (λ (k : ℕ). rep k (f v)) one ∙ omega arith)

range-sum : (g : ℕ → ℕ) (h : Task → ℕ) (a : ℕ) (tasks : List Task) (d : Task)
    → ((i : ℕ) → i < length tasks → g (a + i) ≡ h (get_or tasks i d)) → sum_by g (range_with_len a (length tasks)) ≡ sum_by h tasks
range-sum g h a [] d each = refl
range-sum g h a (t ∷ ts) d each =
    let here : g a ≡ h t = (let e : a ≡ a + 0 = omega arith in ap g e) ∙ each 0 (omega arith) in
    let rest =
    range-sum g h (a + 1) ts d (λ i lt. (let e : a + 1 + i ≡ a + suc i = omega arith in ap g e) ∙ each (suc i) (omega (arith, lt))) in
    omega (arith, sum_by-cons g a (range_with_len (a + 1) (length ts)), sum_by-cons h t ts, here, rest)

ones-length : {X : Type 0} (xs : List X) → sum_by (λ x. 1) xs ≡ length xs
ones-length [] = refl
ones-length {X} (x ∷ xs) = omega (arith, sum_by-cons (λ (y : X). 1) x xs, ones-length xs)

-- ---- names and arcs

count-names : (v : ℕ) (t : Net) → count_by (λ u. eqb u v) (names t) ≡ times v t
count-names v (hold n) = refl
count-names v (series a w b) =
    let f : ℕ → ℕ = λ u. cond (eqb u v) 1 0 in
    omega (
      arith,
      sum_by-append f (names a) (names b ++ w ∷ []),
      sum_by-append f (names b) (w ∷ []),
      sum_by-cons f w [],
      count-names v a,
      count-names v b,
    )
count-names v (both a b) =
    omega (arith, sum_by-append (λ u. cond {A = ℕ} (eqb u v) 1 0) (names a) (names b), count-names v a, count-names v b)

into-counts : (v : ℕ) → 1 ≤ v → (xs : List Arc) → counted (into (Some v)) (map item_of_arc xs) ≡ count_by (is_into v) xs
into-counts v some [] = refl
into-counts v some (x ∷ xs) =
    omega (
      arith,
      sum_by-cons (λ (i : Item). into (Some v) i.from i.to) (item_of_arc x) (map item_of_arc xs),
      sum_by-cons (λ (a : Arc). cond {A = ℕ} (is_into v a) 1 0) x xs,
      hits-end x.to v some,
      into-counts v some xs,
    )

-- a task into which an arc leads is one of the graph
some-end : (n v : ℕ) (xs : List Arc) → All (IsArcWithin n) xs → 1 ≤ counted (into (Some v)) (map item_of_arc xs) → IsAmong n v
some-end n v [] h some = absurd (omega arith)
some-end n v (x ∷ xs) h some =
    let e = sum_by-cons (λ (i : Item). into (Some v) i.from i.to) (item_of_arc x) (map item_of_arc xs) in
    split 1 (hits (end_of x.to) (Some v))
    (λ hit. let k = end-is x.to v (hits-same (end_of x.to) (Some v) hit) in
    let w = All-head (IsArcWithin n) x xs h in
    (k.1, omega (arith, k.0, w.to)))
    (λ no. some-end n v xs (All-tail (IsArcWithin n) x xs h) (omega (arith, e, some, no)))

-- ---- sizes of items

named-size : (o : Option ℕ) (v n : ℕ) → size_if (hits o (Some v)) n ≡ cond (is_named o v) n 0
named-size None v n = refl
named-size (Some u) v n = go (eqb u v) where
  go : (b : Bool) → size_if (cond b 1 0) n ≡ cond b n 0
  go true = refl
  go false = refl

inputs-sum : (v : ℕ) (xs : List Item) → sum_by (arc_weight (size_in (Some v))) xs ≡ size_where (is_input v) xs
inputs-sum v [] = refl
inputs-sum v (x ∷ xs) = omega (
  arith,
  sum_by-cons (arc_weight (size_in (Some v))) x xs,
  sum_by-cons (systems.size_if (is_input v)) x xs,
  named-size x.to v x.size,
  inputs-sum v xs,
)

outputs-sum : (v : ℕ) (xs : List Item) → sum_by (arc_weight (size_out (Some v))) xs ≡ size_where (is_output v) xs
outputs-sum v [] = refl
outputs-sum v (x ∷ xs) = omega (
  arith,
  sum_by-cons (arc_weight (size_out (Some v))) x xs,
  sum_by-cons (systems.size_if (is_output v)) x xs,
  named-size x.from v x.size,
  outputs-sum v xs,
)

data-sum : (xs : List Item) → sum_by (arc_weight (λ p n q. n)) xs ≡ sum_by item_size xs
data-sum [] = refl
data-sum (x ∷ xs) = omega (arith, sum_by-cons (arc_weight (λ p n q. n)) x xs, sum_by-cons item_size x xs, data-sum xs)

none-bad : (system : TaskSystem) (xs : List Item) → All (IsItemWithin system) xs → sum_by (arc_weight (λ p n q. bad n)) xs ≡ 0
none-bad system [] h = refl
none-bad system (x ∷ xs) h =
    let w = All-head (IsItemWithin system) x xs h in
    let good : bad x.size ≡ 0 = rw (le-leb x.size most_size w.size) refl in
    omega (arith, sum_by-cons (arc_weight (λ p n q. bad n)) x xs, good, none-bad system xs (All-tail (IsItemWithin system) x xs h))

-- ---- items in any order

alike : Item → Item → ℕ
alike x y = exact x.from x.size x.to y.from y.size y.to

pub items-weighed : (xs ys : List Item) → ((f : Item → ℕ) → sum_by f xs ≡ sum_by f ys) → IsPermutation xs ys
unfolding alike
items-weighed = weighed alike (λ x. exact-self x.from x.size x.to)
    (λ x y h. let a = hits-same y.from x.from (omega arith) in
    let b = hits-same y.to x.to (omega arith) in
    let c = same_size y.size x.size (omega arith) in λ i. record { from = a i; size = c i; to = b i })

-- ---- the term of the net

module _ (graph : TaskGraph) (is : IsGraph graph) (system : IsSystem (completed_system graph))
    (within : All (IsArcWithin (length graph.tasks)) (completed_arcs (length graph.tasks) graph.arcs))
    (led : (v : ℕ) → IsAmong (length graph.tasks) v → 1 ≤ count_by (is_into v) (completed_arcs (length graph.tasks) graph.arcs))
    (t : Net) (m : Makes t (completed_system graph).items) where
  tasks : ℕ → Task
  tasks = listed_task graph.tasks

  known : (v : ℕ) → IsAmong (length graph.tasks) v → times v t ≡ 1
  known v among =
      let fits = makes-fits t (completed_system graph).items m in
      let some = into-known (Some v) None None t (omega (
        arith,
        fits.ends (into (Some v)),
        into-counts v among.0 (completed_arcs (length graph.tasks) graph.arcs),
        led v among,
      )) in
      omega (arith, some, m.distinct v)

  pub among-of : (v : ℕ) → 1 ≤ times v t → IsAmong (length graph.tasks) v
  among-of v some =
      let fits = makes-fits t (completed_system graph).items m in
      some-end (length graph.tasks) v (completed_arcs (length graph.tasks) graph.arcs) within
      (omega (arith, fits.ends (into (Some v)), into-task v None None t some))

  pub names-among : All (IsAmong (length graph.tasks)) (names t)
  names-among i d lt =
      let v = get_or (names t) i d in
      let le = get_or-le-sum_by (λ u. cond {A = ℕ} (eqb u v) 1 0) (names t) i d lt in
      let one : cond {A = ℕ} (eqb v v) 1 0 ≡ 1 = rw (eq-eqb v v refl) refl in
      among-of v (omega (arith, le, one, count-names v t))

  once : (v : ℕ) → IsAmong (length graph.tasks) v → count_by (λ u. eqb u v) (names t) ≡ 1
  once v among = count-names v t ∙ known v among

  names-sum : (f : ℕ → ℕ) → sum_by f (names t) ≡ sum_by f (range_with_len 1 (length graph.tasks))
  names-sum f = once-sum f (length graph.tasks) (names t) names-among once

  pub has-system : HasSystem (names t) (term_of_net (listed_task graph.tasks) t) (completed_system graph)
  has-system = record {
    once = once;
    within = names-among;
    tasks = (tasks-are (listed_task graph.tasks) t).0;
    items = subst (λ (xs : List Item). IsPermutation xs (completed_system graph).items)
        (sym (items-are (listed_task graph.tasks) (name_in (names t)) 1 None None t (λ k lt. place k)).0)
        (items-weighed (arcs None None t) (completed_system graph).items
        (λ f. sym (weigh-arcs (λ p n q. f (record { from = p; size = n; to = q })) None None t)
        ∙ m.arcs (λ p n q. f (record { from = p; size = n; to = q }))));
  }
    where
      place : (k : ℕ) → name_in (names t) (1 + k) ≡ get_or (names t) k 0
      place k =
          let other : eqb (1 + k) 0 ≡ false = ne_eqb (1 + k) 0 (λ z. absurd (omega arith)) in
          let at : 1 + k - 1 ≡ k = omega arith in
          rw other (ap (λ (j : ℕ). get_or (names t) j 0) at)

  share-fits : ShareFits (listed_task graph.tasks) None None t
  share-fits v some =
      let has = system.shares v (among-of v some) in (
        omega (arith, has.0, m.arcs (size_in (Some v)), inputs-sum v (completed_system graph).items),
        omega (arith, has.1, m.arcs (size_out (Some v)), outputs-sum v (completed_system graph).items),
      )

  positions-bound : AreBound (listed_task graph.tasks) (postfix (term_of_net (listed_task graph.tasks) t)) t
  positions-bound =
      (bounds (listed_task graph.tasks) t
      (small None None t (m.arcs (λ p n q. bad n) ∙ none-bad (completed_system graph) (completed_system graph).items system.items))
      (λ v some. let among = among-of v some in
      is.tasks (v - 1) (record { extra = 0; share = 0; time = 0 }) (omega (arith, among.0, among.1)))).0

  holds-are : holds_of t ≡ length (completed_arcs (length graph.tasks) graph.arcs)
  holds-are =
      sym (weigh-holds None None t) ∙ m.arcs (λ p n q. 1) ∙ ones-length (completed_system graph).items
      ∙ length-map (completed_arcs (length graph.tasks) graph.arcs) item_of_arc

  pub size-small : size_of t ≤ most_positions
  size-small = omega (arith, size-holds t, holds-are, is.few_arcs)

  extras-are : sum_by (λ v. (listed_task graph.tasks v).extra) (names t) ≡ sum_by extra_size graph.tasks
  extras-are =
      names-sum (λ v. (listed_task graph.tasks v).extra)
      ∙ range-sum (λ v. (listed_task graph.tasks v).extra) extra_size 1 graph.tasks (record { extra = 0; share = 0; time = 0 })
      (λ i lt. let e : 1 + i - 1 ≡ i = omega arith in
      ap (λ (k : ℕ). (get_or graph.tasks k (record { extra = 0; share = 0; time = 0 })).extra) e)

  names-count : length (names t) ≡ length graph.tasks
  names-count = sym (ones-length (names t)) ∙ names-sum (λ v. 1)
      ∙ ones-length (range_with_len 1 (length graph.tasks)) ∙ length-range_with_len 1 (length graph.tasks)

  module _ (form : (u : Term) → Denotes (postfix u) u) where
    pub term-same : term_of (postfix (term_of_net (listed_task graph.tasks) t)) ≡ term_of_net (listed_task graph.tasks) t
    term-same = ap (λ o. last_term (stack_from o)) (form (term_of_net (listed_task graph.tasks) t))

    pub is-terms : IsTerms (postfix (term_of_net (listed_task graph.tasks) t))
    is-terms =
        let u = term_of_net (listed_task graph.tasks) t in
        let b = positions-bound in
        subst (λ (w : Term). Leaves (postfix u) (w ∷ [])) (sym term-same) (record {
          is = form u;
          allowed = ((allowed (listed_task graph.tasks) None None t m.distinct refl refl share-fits).0, tt);
          within = b.within;
          few = omega (arith, b.few, holds-are, is.few_arcs);
          few_tasks = omega (arith, b.tasks_are, names-count, is.few_tasks);
          total = omega (
            arith,
            b.sizes,
            extras-are,
            sym (weigh-data None None t) ∙ m.arcs (λ p n q. n) ∙ data-sum (completed_system graph).items,
            system.total,
          );
        })

-- ---- no term

mutual
  term-tasks : (t : Term) → length (tasks_of_term t) ≡ task_count t
  term-tasks (terms.hold n) = refl
  term-tasks (terms.series a v b) = omega (
    arith,
    length-append (tasks_of_term a) (tasks_of_term b ++ v ∷ []),
    length-append (tasks_of_term b) (v ∷ []),
    term-tasks a,
    term-tasks b,
  )
  term-tasks (terms.par ts) = parts-tasks ts

  parts-tasks : (ts : Parts) → length (tasks_of_parts ts) ≡ task_count_of_parts ts
  parts-tasks no_parts = refl
  parts-tasks (part t ts) = omega (arith, length-append (tasks_of_term t) (tasks_of_parts ts), term-tasks t, parts-tasks ts)

-- names that stand once each have an inverse
inverse : (n : ℕ) (xs : List ℕ) → All (IsAmong n) xs → ((v : ℕ) → IsAmong n v → count_by (λ u. eqb u v) xs ≡ 1)
    → (i : ℕ) → i < length xs → position_or_len (λ u. eqb u (get_or xs i 0)) xs ≡ i
inverse n xs h once i lt =
    let v = get_or xs i 0 in
    position_or_len_is (λ u. eqb u v) xs i 0 (omega (arith, lt))
    (λ k less. ne_eqb (get_or xs k 0) v (twice k less)) (λ short. eq-eqb v v refl)
  where
    twice : (k : ℕ) → k < i → get_or xs k 0 ≡ get_or xs i 0 → ⊥
    twice k less same =
        let v = get_or xs i 0 in
        let f : ℕ → ℕ = λ u. cond (eqb u v) 1 0 in
        let first = get_or-le-sum_by f (take i xs) k 0 (omega (arith, less, length-take-le i xs (omega (arith, lt)))) in
        let both_of = sum_by_more_le f xs i 0 lt in
        let at : f (get_or (take i xs) k 0) ≡ 1 = ap f (get_or-take i xs k 0 less) ∙ rw (eq-eqb (get_or xs k 0) v same) refl in
        let own : f v ≡ 1 = rw (eq-eqb v v refl) refl in
        omega (arith, once v (h i 0 lt), first, both_of, at, own)

pub none-has : (graph : TaskGraph) → ((t : Net) → Makes t (completed_system graph).items → ⊥)
    → (t : Term) (names : List ℕ) → HasParts t → HasSystem names t (completed_system graph) → ⊥
none-has graph none t xs parts h =
    let count : length xs ≡ task_count t =
    sym (length-map xs (systems.task_at (completed_system graph))) ∙ ap length (sym h.tasks) ∙ term-tasks t in
    none (named (name_in xs) 1 t)
    (items-made (name_in xs) (λ v. suc (position_or_len (λ u. eqb u v) xs)) t
    (λ k low short. back k low (omega (arith, short, count))) parts (completed_system graph).items h.items)
  where
    back : (k : ℕ) → 1 ≤ k → k < 1 + length xs → suc (position_or_len (λ u. eqb u (name_in xs k)) xs) ≡ k
    back k low short =
        let other : eqb k 0 ≡ false = ne_eqb k 0 (λ z. absurd (omega (arith, low, z))) in
        let name : name_in xs k ≡ get_or xs (k - 1) 0 = rw other refl in
        let at = inverse (length graph.tasks) xs h.within h.once (k - 1) (omega (arith, low, short)) in
        omega (arith, low, ap (λ (v : ℕ). position_or_len (λ u. eqb u v) xs) name, at)
