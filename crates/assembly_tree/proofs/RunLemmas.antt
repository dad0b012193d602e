-- Cutting columns into runs, one column more at a time.
use Rattle.std.proofs.Common.{◌≡◌, ◌↔◌, ℕ, zero, suc, Bool, false, cond, IsTrue, eqb, ◌+◌, ◌-◌, ◌<◌, ◌≤◌, List}
use Rattle.std.proofs.Common.{[], ◌∷◌, ◌++◌, length, get_or, take, refl, sym, ap, ◌∙◌, subst, inl, inr, arith}
use Rattle.std.specs.List.{sum_by, count_by}
use Rattle.std.proofs.lemmas.List.{take-append-le, take_all, take-take, get_or_append_left, get_or_push, length_push}
use Rattle.std.proofs.lemmas.List.Sums.{sum_by_more, sum_by_push, sum_by-take-le}
use Rattle.std.proofs.lemmas.Bool.{cases_eq, cases_lt, eq-eqb, ne_eqb, false≢true}
use Rattle.permutations.specs.Perm.{IsVertex}
use Rattle.elim_tree.specs.Trees.{parent_at, IsForest}
use Rattle.assembly_tree.specs.declared.assembly.Super.{Super}
use Rattle.assembly_tree.specs.Assembly.{IsSuper, no_super, super_at, super_of, columns_in, front_of}
use Rattle.assembly_tree.specs.Supernodes.{count_at, Continues, first_of, last_of}
use Rattle.assembly_tree.specs.RunTables.{AreFirstChildren, AreRuns}

-- ---- whether a run goes on

pub goes_on : (parents counts children : List ℕ) (j : ℕ) → IsForest parents
    → AreFirstChildren parents children 0 → IsVertex (length parents) j → parent_at parents j ≡ j + 1
    → get_or children (j + 1) 0 ≡ j → count_at counts j ≡ count_at counts (j + 1) + 1
    → Continues parents counts j
goes_on parents counts children j forest first is up least count = record {
  parent = up;
  only = λ c vertex same.
      let before = first.least c vertex (omega (arith, vertex.0)) in
      let there = ap (λ (k : ℕ). get_or children k 0) same in
      let rising = forest.rising c (omega (arith, same)) in
      omega (arith, before.1, there, least, rising.0, same);
  count = count;
}

pub goes_first : (parents counts children : List ℕ) (j : ℕ) → IsForest parents → AreFirstChildren parents children 0
    → IsVertex (length parents) j → Continues parents counts j → get_or children (j + 1) 0 ≡ j
goes_first parents counts children j forest first is goes =
    let own = first.least j is (omega (arith, is.0)) in
    let there = ap (λ (k : ℕ). get_or children k 0) goes.parent in
    let rising = forest.rising j (omega (arith, goes.parent)) in
    let child = first.child (j + 1) (omega arith) (omega (arith, rising.1, goes.parent)) (omega (arith, own.0, there)) in
    goes.only (get_or children (j + 1) 0) child.0 child.1

-- ---- first and last columns

pub last-more : (supers : List Super) (s : ℕ) → 1 ≤ s → s ≤ length supers
    → last_of supers s ≡ last_of supers (s - 1) + (super_at supers s).columns
last-more supers s low high =
    let back : s ≡ s - 1 + 1 = omega arith in
    ap (λ (k : ℕ). last_of supers k) back ∙ sum_by_more columns_in supers (s - 1) no_super (omega arith)

pub last-le : (supers : List Super) (s t : ℕ) → s ≤ t → last_of supers s ≤ last_of supers t
last-le supers s t le = omega (arith, sum_by-take-le columns_in (take t supers) s, ap (sum_by columns_in) (take-take s t supers le))

pub last-all : (supers : List Super) → last_of supers (length supers) ≡ sum_by columns_in supers
last-all supers = ap (sum_by columns_in) (take_all (length supers) supers (omega arith))

pub last-within : (supers : List Super) (s : ℕ) → last_of supers s ≤ last_of supers (length supers)
last-within supers s = omega (arith, sum_by-take-le columns_in supers s, last-all supers)

last-push_old : (supers : List Super) (x : Super) (s : ℕ) → s ≤ length supers → last_of (supers ++ x ∷ []) s ≡ last_of supers s
last-push_old supers x s le = ap (sum_by columns_in) (take-append-le s supers (x ∷ []) le)

last-push_new : (supers : List Super) (x : Super)
    → last_of (supers ++ x ∷ []) (length supers + 1) ≡ last_of supers (length supers) + x.columns
last-push_new supers x =
    let whole : last_of (supers ++ x ∷ []) (length supers + 1) ≡ sum_by columns_in (supers ++ x ∷ []) =
    ap (sum_by columns_in) (take_all (length supers + 1) (supers ++ x ∷ []) (omega (arith, length_push supers x))) in
    omega (arith, whole, sum_by_push columns_in supers x, last-all supers)

first-push_new : (supers : List Super) (x : Super) → first_of (supers ++ x ∷ []) (length supers + 1) ≡ last_of supers (length supers) + 1
first-push_new supers x =
    let back : length supers + 1 - 1 ≡ length supers = omega arith in
    ap (λ (k : ℕ). last_of (supers ++ x ∷ []) k + 1) back ∙ ap (λ (k : ℕ). k + 1) (last-push_old supers x (length supers) (omega arith))

at-push_old : (supers : List Super) (x : Super) (s : ℕ) → 1 ≤ s → s ≤ length supers → super_at (supers ++ x ∷ []) s ≡ super_at supers s
at-push_old supers x s low high = get_or_append_left supers (x ∷ []) no_super (s - 1) (omega arith)

at-push_new : (supers : List Super) (x : Super) → super_at (supers ++ x ∷ []) (length supers + 1) ≡ x
at-push_new supers x = get_or_push supers x no_super (length supers + 1 - 1) (omega arith)

node-push_old : (nodes : List ℕ) (v j : ℕ) → j ≤ length nodes → super_of (nodes ++ v ∷ []) j ≡ super_of nodes j
node-push_old nodes v zero le = refl
node-push_old nodes v (suc i) le = get_or_append_left nodes (v ∷ []) 0 i (omega arith)

node-push_new : (nodes : List ℕ) (v j : ℕ) → j ≡ length nodes + 1 → super_of (nodes ++ v ∷ []) j ≡ v
node-push_new nodes v zero e = absurd (omega arith)
node-push_new nodes v (suc i) e = get_or_push nodes v 0 i (omega arith)

-- ---- one column more

push_each : (P : ℕ → Type 0) (n : ℕ) → ((s : ℕ) → 1 ≤ s → s ≤ n → P s) → P (n + 1) → (s : ℕ) → 1 ≤ s → s ≤ n + 1 → P s
push_each P n old new s low high =
    elim (cases_lt n s) [
      | inl above ↦ (let last : n + 1 ≡ s = omega arith in subst P last new)
      | inr within ↦ old s low within
    ]

module _ (parents counts : List ℕ) (supers : List Super) (nodes : List ℕ)
    (running done : ℕ) (r : AreRuns parents counts supers nodes running done) where
  closed_more : (s j : ℕ) → IsSuper supers s → first_of supers s ≤ j
      → j ≤ last_of supers s → super_of (nodes ++ (length supers + 1) ∷ []) j ≡ s
  closed_more s j is low high =
      node-push_old nodes (length supers + 1) j (omega (arith, last-within supers s, r.total, r.len)) ∙ r.nodes_closed s j is low high

  open_more : (j : ℕ) → last_of supers (length supers) < j → j ≤ done + 1
      → super_of (nodes ++ (length supers + 1) ∷ []) j ≡ length supers + 1
  open_more j low high =
      elim (cases_lt done j) [
        | inl above ↦ node-push_new nodes (length supers + 1) j (omega (arith, r.len))
        | inr within ↦ node-push_old nodes (length supers + 1) j (omega (arith, r.len)) ∙ r.nodes_open j low within
      ]

  held_same : (s : ℕ) → length supers + 1 ≡ s
      → count_by (λ t. eqb t s) (nodes ++ (length supers + 1) ∷ []) ≡ count_by (λ t. eqb t s) nodes + 1
  held_same s e = sum_by_push (λ t. cond (eqb t s) 1 0) nodes (length supers + 1)
      ∙ ap (λ (b : Bool). count_by (λ t. eqb t s) nodes + cond b 1 0) (eq-eqb (length supers + 1) s e)

  held_other : (s : ℕ) → (length supers + 1 ≡ s → ⊥)
      → count_by (λ t. eqb t s) (nodes ++ (length supers + 1) ∷ []) ≡ count_by (λ t. eqb t s) nodes
  held_other s e = omega (
    arith,
    sum_by_push (λ t. cond (eqb t s) 1 0) nodes (length supers + 1)
        ∙ ap (λ (b : Bool). count_by (λ t. eqb t s) nodes + cond b 1 0) (ne_eqb (length supers + 1) s e),
  )

  falls_more : count_at counts (done + 1) + (running + 1) ≡ count_at counts (last_of supers (length supers) + 1) + 1
  falls_more =
      elim (cases_eq running 0) [
        | inl none ↦ (
            let same : done + 1 ≡ last_of supers (length supers) + 1 = omega (arith, r.total) in
            omega (arith, ap (λ (k : ℕ). count_at counts k) same, none)
            )
        | inr some ↦ (
            let before = r.fall (omega arith) in
            let step = (r.runs_open done (omega (arith, r.total)) (omega arith)).count in
            omega (arith, before, step)
            )
      ]

  pub runs_on : Continues parents counts (done + 1)
      → AreRuns parents counts supers (nodes ++ (length supers + 1) ∷ []) (running + 1) (done + 1)
  runs_on goes = record {
    total = omega (arith, r.total);
    some = r.some;
    len = omega (arith, length_push nodes (length supers + 1), r.len);
    nodes_closed = closed_more;
    nodes_open = open_more;
    held_closed = λ s is. held_other s (omega (arith, is.1)) ∙ r.held_closed s is;
    held_open = omega (arith, held_same (length supers + 1) refl, r.held_open);
    held_later = λ s later. held_other s (omega (arith, later)) ∙ r.held_later s later;
    runs_closed = r.runs_closed;
    runs_open = λ j low high. elim (cases_lt done j) [
      | inl above ↦ (let here : done + 1 ≡ j = omega arith in subst (Continues parents counts) here goes)
      | inr within ↦ r.runs_open j low within
    ];
    longest = r.longest;
    front = r.front;
    parent = r.parent;
    fall = λ some. falls_more;
  }

  pub runs_cut : (x : Super) → x.columns ≡ running + 1 → x.rest ≡ count_at counts (done + 1) - 1
      → x.parent ≡ parent_at parents (done + 1) → 1 ≤ count_at counts (done + 1) → ¬ (Continues parents counts (done + 1))
      → AreRuns parents counts (supers ++ x ∷ []) (nodes ++ (length supers + 1) ∷ []) 0 (done + 1)
  runs_cut x columns rest parent count ends =
      let m = length supers in
      let more = supers ++ x ∷ [] in
      let len = length_push supers x in
      let end : last_of more (m + 1) ≡ done + 1 = omega (arith, last-push_new supers x, columns, r.total) in
      let whole : last_of more (length more) ≡ done + 1 = ap (λ (k : ℕ). last_of more k) len ∙ end in
      let begin = first-push_new supers x in
      let new = at-push_new supers x in
      record {
        total = omega (arith, whole);
        some = λ s is. push_each (λ (k : ℕ). 1 ≤ (super_at more k).columns) m
            (λ k low high. omega (arith, ap columns_in (at-push_old supers x k low high), r.some k (low, high)))
            (omega (arith, ap columns_in new, columns)) s is.0 (omega (arith, is.1, len));
        len = omega (arith, length_push nodes (m + 1), r.len);
        nodes_closed = λ s j is. push_each (λ (k : ℕ). first_of more k ≤ j → j ≤ last_of more k → super_of (nodes ++ (m + 1) ∷ []) j ≡ k) m
            (λ k low high from to. closed_more k j (low, high) (omega (arith, from, last-push_old supers x (k - 1) (omega arith)))
            (omega (arith, to, last-push_old supers x k high)))
            (λ from to. open_more j (omega (arith, from, begin)) (omega (arith, to, end))) s is.0 (omega (arith, is.1, len));
        nodes_open = λ j low high. absurd (omega (arith, low, high, whole));
        held_closed = λ s is. push_each (λ (k : ℕ). count_by (λ t. eqb t k) (nodes ++ (m + 1) ∷ []) ≡ (super_at more k).columns) m
            (λ k low high. held_other k (omega (arith, high)) ∙ r.held_closed k (low, high)
            ∙ sym (ap columns_in (at-push_old supers x k low high)))
            (omega (arith, held_same (m + 1) refl, r.held_open, ap columns_in new, columns)) s is.0 (omega (arith, is.1, len));
        held_open = held_other (length more + 1) (omega (arith, len)) ∙ r.held_later (length more + 1) (omega (arith, len));
        held_later = λ s later. held_other s (omega (arith, later, len)) ∙ r.held_later s (omega (arith, later, len));
        runs_closed = λ s j is. push_each (λ (k : ℕ). first_of more k ≤ j → j < last_of more k → Continues parents counts j) m
            (λ k low high from to. r.runs_closed k j (low, high)
            (omega (arith, from, last-push_old supers x (k - 1) (omega arith))) (omega (arith, to, last-push_old supers x k high)))
            (λ from to. r.runs_open j (omega (arith, from, begin)) (omega (arith, to, end))) s is.0 (omega (arith, is.1, len));
        runs_open = λ j low high. absurd (omega (arith, low, high, whole));
        longest = λ s is. push_each (λ (k : ℕ). ¬ (Continues parents counts (last_of more k))) m
            (λ k low high goes. r.longest k (low, high) (subst (Continues parents counts) (last-push_old supers x k high) goes))
            (λ goes. ends (subst (Continues parents counts) end goes)) s is.0 (omega (arith, is.1, len));
        front = λ s is. push_each (λ (k : ℕ). front_of (super_at more k) ≡ count_at counts (first_of more k)) m
            (λ k low high. ap front_of (at-push_old supers x k low high) ∙ r.front k (low, high)
            ∙ ap (λ (i : ℕ). count_at counts (i + 1)) (sym (last-push_old supers x (k - 1) (omega arith))))
            (let there : count_at counts (first_of more (m + 1)) ≡ count_at counts (last_of supers m + 1) =
            ap (λ (i : ℕ). count_at counts i) begin in omega (arith, ap front_of new, columns, rest, count, falls_more, there))
            s is.0 (omega (arith, is.1, len));
        parent = λ s is. push_each (λ (k : ℕ). (super_at more k).parent ≡ parent_at parents (last_of more k)) m
            (λ k low high. ap (λ (y : Super). y.parent) (at-push_old supers x k low high)
            ∙ r.parent k (low, high) ∙ ap (parent_at parents) (sym (last-push_old supers x k high)))
            (ap (λ (y : Super). y.parent) new ∙ parent ∙ ap (parent_at parents) (sym end)) s is.0 (omega (arith, is.1, len));
        fall = λ some. absurd (omega arith);
      }

-- the last column ends its run
pub runs_all : (parents counts : List ℕ) (supers : List Super) (nodes : List ℕ) (running : ℕ)
    → IsForest parents → AreRuns parents counts supers nodes running (length parents) → running ≡ 0
runs_all parents counts supers nodes running forest r =
    elim (cases_eq running 0) [
      | inl none ↦ none
      | inr some ↦ (
          let goes = r.runs_open (length parents) (omega (arith, r.total)) (omega arith) in
          let rising = forest.rising (length parents) (omega (arith, goes.parent)) in
          absurd (omega (arith, rising.1, goes.parent))
          )
    ]

-- each supernode has a column
pub supers-le : (supers : List Super) (s : ℕ)
    → ((k : ℕ) → IsSuper supers k → 1 ≤ (super_at supers k).columns) → s ≤ length supers → s ≤ last_of supers s
supers-le supers zero some high = omega arith
supers-le supers (suc s) some high =
    let before = supers-le supers s some (omega arith) in
    let back : suc s - 1 ≡ s = omega arith in
    omega (arith, before, last-more supers (suc s) (omega arith) high, some (suc s) (omega arith, high), ap (last_of supers) back)

-- the test of counts decides
pub goes_by_counts : (parents counts children : List ℕ) (j next : ℕ) (result : Bool)
    → IsForest parents → AreFirstChildren parents children 0 → IsVertex (length parents) j
    → next ≡ parent_at parents j → next ≡ j + 1 → get_or children next 0 ≡ j
    → IsTrue result ↔ (count_at counts j ≡ count_at counts (j + 1) + 1) → IsTrue result ↔ Continues parents counts j
goes_by_counts parents counts children j next result forest first is next_is up least rows =
    let there = ap (λ (k : ℕ). get_or children k 0) up in (
      λ test. goes_on parents counts children j forest first is (omega (arith, up, next_is)) (omega (arith, there, least)) (rows.0 test),
      λ goes. rows.1 goes.count,
    )

pub ends_here : (parents counts : List ℕ) (j : ℕ) (result : Bool) → result ≡ false
    → (Continues parents counts j → IsTrue result) → ¬ (Continues parents counts j)
ends_here parents counts j result is goes h = false≢true (sym is ∙ goes h)
