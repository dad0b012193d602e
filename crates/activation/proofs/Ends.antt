-- Edges, and where those from a number lead.
use Rattle.std.proofs.Common.{◌≡◌, ℕ, suc, ◌+◌, ◌<◌, ◌≤◌, Bool, true, false, cond, ◌&&◌, List, [], ◌∷◌, ◌++◌, map}
use Rattle.std.proofs.Common.{length, length-append, append_assoc, take, get_or, Option, Some, None, refl, sym, ap, ◌∙◌, arith, ⊎_elim}
use Rattle.std.specs.Prelude.{All, count_by, ◌==◌}
use Rattle.std.specs.List.{filter, list_any, sum_by}
use Rattle.std.specs.List.Sorted.{IsStrictlyIncreasing}
use Rattle.std.specs.Option.{ForSome}
use Rattle.std.proofs.lemmas.Bool.{cases_Bool}
use Rattle.std.proofs.lemmas.List.{length-map, map-append, take_more}
use Rattle.std.proofs.lemmas.List.Sums.{sum_by-cons, sum_by-append}
use Rattle.std.proofs.lemmas.List.Elements.{All-head, All-tail, All-nil, All-append, All-map, All-filter, All-weaker, filter-append}
use Rattle.row_table.specs.Rows.{numbers_with}
use Rattle.mp_system.specs.System.{is_named}
use Rattle.shared_systems.specs.Shared.{SharedItem}
use Rattle.shared_systems.specs.Bounds.{IsSharedItemWithin, reader_count}
use Rattle.activation.specs.declared.edges.Edge.{Edge}
use Rattle.activation.specs.Running.{IsNumber}
use Rattle.activation.specs.Schedule.{task_entry}
use Rattle.activation.specs.Tables.{IsNumbering, is_edge, numbers_read}
use Rattle.activation.specs.Consumers.{edge, IsEdgeWithin, ends_from, item_edges, consumer_edges, number_edges, reading_edges}
use Rattle.activation.proofs.Consuming.{place_within, same_place}
use Rattle.activation.proofs.Readers.{filter_once, count_once}

-- what the rows of numbers of edges are, once the ends are written into them
pub ends_are : (k : ℕ) (g : ℕ → ℕ) (edges : List Edge) (first : ℕ)
    → ((i : ℕ) → i < length edges → g (first + i) ≡ (get_or edges i (edge 0 0)).to) →
    map g (numbers_with (map (λ (e : Edge). e.from) edges) first k) ≡ ends_from k edges
ends_are k g [] first same = refl
ends_are k g (x ∷ xs) first same =
    let zero' : first + 0 ≡ first = omega arith in
    let here : g first ≡ x.to = ap g (sym zero') ∙ same 0 (omega arith) in
    let rest = ends_are k g xs (first + 1)
    (λ i w. let e : first + 1 + i ≡ first + suc i = omega arith in ap g e ∙ same (suc i) (omega arith)) in
    ⊎_elim
    (λ (y : (x.from == k) ≡ true).
    let row : map g (numbers_with (map (λ (e : Edge). e.from) (x ∷ xs)) first k)
    ≡ g first ∷ map g (numbers_with (map (λ (e : Edge). e.from) xs) (first + 1) k) = rw y in
    let ends : ends_from k (x ∷ xs) ≡ x.to ∷ ends_from k xs = rw y in
    row ∙ ap (λ (n : ℕ). n ∷ map g (numbers_with (map (λ (e : Edge). e.from) xs) (first + 1) k)) here
    ∙ ap (λ (ns : List ℕ). x.to ∷ ns) rest ∙ sym ends)
    (λ (n : (x.from == k) ≡ false).
    let row : map g (numbers_with (map (λ (e : Edge). e.from) (x ∷ xs)) first k)
    ≡ map g (numbers_with (map (λ (e : Edge). e.from) xs) (first + 1) k) = rw n in
    let ends : ends_from k (x ∷ xs) ≡ ends_from k xs = rw n in
    row ∙ rest ∙ sym ends)
    (cases_Bool (x.from == k))

ends-append : (k : ℕ) (xs ys : List Edge) → ends_from k (xs ++ ys) ≡ ends_from k xs ++ ends_from k ys
ends-append k xs ys =
    ap (map (λ (e : Edge). e.to)) (filter-append (λ (e : Edge). e.from == k) xs ys)
    ∙ map-append (λ (e : Edge). e.to) (filter (λ (e : Edge). e.from == k) xs) (filter (λ (e : Edge). e.from == k) ys)

-- the ends are ends of edges
pub ends_within : (n m k : ℕ) (edges : List Edge) → All (IsEdgeWithin n m) edges → All (λ p. p < m) (ends_from k edges)
ends_within n m k edges within =
    All-map (λ p. p < m) (λ (e : Edge). e.to) (filter (λ (e : Edge). e.from == k) edges)
    (All-filter (λ (e : Edge). e.from == k) (λ e. e.to < m) edges (All-weaker (IsEdgeWithin n m) (λ e. e.to < m) (λ e w. w.to) edges within))

pub starts_within : (n m : ℕ) (edges : List Edge) → All (IsEdgeWithin n m) edges → All (λ e. e.from < n) edges
starts_within n m edges within = All-weaker (IsEdgeWithin n m) (λ e. e.from < n) (λ e w. w.from) edges within

-- edges that are added for one reader after the other
pub edges_pushed : (f : ℕ → Edge) (old now later : List Edge) (readers : List ℕ) (i : ℕ) (e : Edge) → i < length readers
    → now ≡ old ++ map f (take i readers) → later ≡ now ++ e ∷ [] → e ≡ f (get_or readers i 0) → later ≡ old ++ map f (take (i + 1) readers)
edges_pushed f old now later readers i e lt was push is =
    push ∙ ap (λ (es : List Edge). es ++ e ∷ []) was ∙ append_assoc old (map f (take i readers)) (e ∷ [])
    ∙ ap (λ (es : List Edge). old ++ es)
    (ap (λ (d : Edge). map f (take i readers) ++ d ∷ []) is
    ∙ sym (map-append f (take i readers) (get_or readers i 0 ∷ [])) ∙ ap (map f) (sym (take_more readers i 0 lt)))

-- ---- how many there are

few_item_edges : (place : ℕ → ℕ) (from : Option ℕ) (readers : List ℕ) → length (item_edges place from readers) ≤ length readers
few_item_edges place None readers = omega arith
few_item_edges place (Some u) readers = omega (arith, length-map readers (λ c. edge (place u) (place c)))

pub few_consumer_edges : (place : ℕ → ℕ) (xs : List SharedItem) → length (consumer_edges place xs) ≤ sum_by reader_count xs
few_consumer_edges place [] = omega arith
few_consumer_edges place (x ∷ xs) =
    omega (
      arith,
      length-append (item_edges place x.from x.readers) (consumer_edges place xs),
      few_item_edges place x.from x.readers,
      few_consumer_edges place xs,
      sum_by-cons reader_count x xs,
    )

pub few_reading_edges : (place : ℕ → ℕ) (first : ℕ) (xs : List SharedItem) → length (reading_edges place first xs) ≡ sum_by reader_count xs
few_reading_edges place first [] = refl
few_reading_edges place first (x ∷ xs) =
    omega (
      arith,
      length-append (number_edges place first x.readers) (reading_edges place (first + 1) xs),
      length-map x.readers (λ c. edge (place c) first),
      few_reading_edges place (first + 1) xs,
      sum_by-cons reader_count x xs,
    )

module _ {n : ℕ} {places : List ℕ} (is : IsNumbering n places) where
  -- ---- edges to readers

  item_within : (from : Option ℕ) (readers : List ℕ) → ForSome from (λ t. IsNumber t n) → All (λ t. IsNumber t n) readers
      → All (IsEdgeWithin n n) (item_edges (task_entry places) from readers)
  item_within None readers producer within = All-nil (IsEdgeWithin n n)
  item_within (Some u) readers producer within =
      All-map (IsEdgeWithin n n) (λ c. edge (task_entry places u) (task_entry places c)) readers
      (All-weaker (λ t. IsNumber t n) (λ c. IsEdgeWithin n n (edge (task_entry places u) (task_entry places c)))
      (λ c it. record { from = place_within is u (producer u refl); to = place_within is c it }) readers within)

  pub consumers_within : (xs : List SharedItem) → All (IsSharedItemWithin n) xs
      → All (IsEdgeWithin n n) (consumer_edges (task_entry places) xs)
  consumers_within [] within = All-nil (IsEdgeWithin n n)
  consumers_within (x ∷ xs) within =
      let here = All-head (IsSharedItemWithin n) x xs within in
      All-append (IsEdgeWithin n n) (item_edges (task_entry places) x.from x.readers) (consumer_edges (task_entry places) xs)
      (item_within x.from x.readers here.producer here.readers)
      (consumers_within xs (All-tail (IsSharedItemWithin n) x xs within))

  module _ (t u : ℕ) (it : IsNumber t n) (iu : IsNumber u n) where
    from_one : (a : ℕ) → IsNumber a n → (readers : List ℕ) → All (λ c. IsNumber c n) readers →
        count_by (λ p. p == task_entry places u)
        (ends_from (task_entry places t) (map (λ c. edge (task_entry places a) (task_entry places c)) readers))
        ≡ cond (a == t) (count_by (λ c. c == u) readers) 0
    from_one a ia [] within = elim (a == t) as (λ b. ◌≡◌ {A = ℕ} 0 (cond b 0 0)) [ true ↦ refl | false ↦ refl ]
    from_one a ia (c ∷ cs) within =
        let rest = from_one a ia cs (All-tail (λ d. IsNumber d n) c cs within) in
        let start = same_place is a t ia it in
        let end = same_place is c u (All-head (λ d. IsNumber d n) c cs within) iu in
        let more : List ℕ = ends_from (task_entry places t) (map (λ d. edge (task_entry places a) (task_entry places d)) cs) in
        ⊎_elim
        (λ (y : (a == t) ≡ true).
        let starts : (task_entry places a == task_entry places t) ≡ true = start ∙ y in
        let ends : ends_from (task_entry places t) (map (λ d. edge (task_entry places a) (task_entry places d)) (c ∷ cs))
        ≡ task_entry places c ∷ more = rw starts in
        let one : ◌≡◌ {A = ℕ} (cond (task_entry places c == task_entry places u) 1 0) (cond (c == u) 1 0) =
        ap {B = ℕ} (λ (b : Bool). cond b 1 0) end in
        let later : count_by (λ p. p == task_entry places u) more ≡ count_by (λ d. d == u) cs = rw y at rest in
        rw y (
        omega (
          arith,
          ap (count_by (λ p. p == task_entry places u)) ends,
          one,
          later,
          sum_by-cons (λ p. cond (p == task_entry places u) 1 0) (task_entry places c) more,
          sum_by-cons (λ d. cond (d == u) 1 0) c cs,
        )
        ))
        (λ (o : (a == t) ≡ false).
        let none : (task_entry places a == task_entry places t) ≡ false = start ∙ o in
        let ends : ends_from (task_entry places t) (map (λ d. edge (task_entry places a) (task_entry places d)) (c ∷ cs)) ≡ more = rw none in
        let later : count_by (λ p. p == task_entry places u) more ≡ 0 = rw o at rest in
        rw o (ap (count_by (λ p. p == task_entry places u)) ends ∙ later))
        (cases_Bool (a == t))

    item_counts : (from : Option ℕ) (readers : List ℕ) → ForSome from (λ a. IsNumber a n) → All (λ c. IsNumber c n) readers
        → IsStrictlyIncreasing readers →
        count_by (λ p. p == task_entry places u) (ends_from (task_entry places t) (item_edges (task_entry places) from readers))
        ≡ cond (is_named from t && list_any (λ c. c == u) readers) 1 0
    item_counts None readers producer within rising = refl
    item_counts (Some a) readers producer within rising =
        from_one a (producer a refl) readers within
        ∙ ap (λ (k : ℕ). cond (a == t) k 0) (count_once readers rising u) ∙ both (a == t) (list_any (λ c. c == u) readers)
      where
        both : (b d : Bool) → ◌≡◌ {A = ℕ} (cond b (cond d 1 0) 0) (cond (b && d) 1 0)
        both true d = refl
        both false d = refl

    -- among the ends of the edges from a place another one stands as often as items go from the one to the other
    pub consumer_counts : (xs : List SharedItem) → All (IsSharedItemWithin n) xs →
        count_by (λ p. p == task_entry places u) (ends_from (task_entry places t) (consumer_edges (task_entry places) xs))
        ≡ count_by (is_edge t u) xs
    consumer_counts [] within = refl
    consumer_counts (x ∷ xs) within =
        let here = All-head (IsSharedItemWithin n) x xs within in
        let own = item_edges (task_entry places) x.from x.readers in
        let later = consumer_edges (task_entry places) xs in
        let ends = ends-append (task_entry places t) own later in
        omega (
          arith,
          ap (count_by (λ p. p == task_entry places u)) ends,
          sum_by-append (λ p. cond (p == task_entry places u) 1 0) (ends_from (task_entry places t) own)
              (ends_from (task_entry places t) later),
          item_counts x.from x.readers here.producer here.readers here.rising,
          consumer_counts xs (All-tail (IsSharedItemWithin n) x xs within),
          sum_by-cons (λ y. cond (is_edge t u y) 1 0) x xs,
        )

  -- ---- edges to numbers

  pub readings_within : (first : ℕ) (xs : List SharedItem) → All (IsSharedItemWithin n) xs
      → All (λ e. e.from < n) (reading_edges (task_entry places) first xs)
  readings_within first [] within = All-nil (λ (e : Edge). e.from < n)
  readings_within first (x ∷ xs) within =
      let here = All-head (IsSharedItemWithin n) x xs within in
      All-append (λ (e : Edge). e.from < n) (number_edges (task_entry places) first x.readers)
      (reading_edges (task_entry places) (first + 1) xs)
      (All-map (λ (e : Edge). e.from < n) (λ c. edge (task_entry places c) first) x.readers
      (All-weaker (λ t. IsNumber t n) (λ c. task_entry places c < n) (λ c it. place_within is c it) x.readers here.readers))
      (readings_within (first + 1) xs (All-tail (IsSharedItemWithin n) x xs within))

  module _ (t : ℕ) (it : IsNumber t n) where
    number_ends : (number : ℕ) (readers : List ℕ) → All (λ c. IsNumber c n) readers
        → ends_from (task_entry places t) (number_edges (task_entry places) number readers)
        ≡ map (λ c. number) (filter (λ c. c == t) readers)
    number_ends number [] within = refl
    number_ends number (c ∷ cs) within =
        let rest = number_ends number cs (All-tail (λ d. IsNumber d n) c cs within) in
        let same = same_place is c t (All-head (λ d. IsNumber d n) c cs within) it in
        ⊎_elim
        (λ (y : (c == t) ≡ true). rw (same ∙ y, y) (ap (λ (ns : List ℕ). number ∷ ns) rest))
        (λ (o : (c == t) ≡ false). rw (same ∙ o, o) rest)
        (cases_Bool (c == t))

    -- the numbers to which the edges from a task's place lead are those of the items that it reads
    pub reading_ends : (first : ℕ) (xs : List SharedItem) → All (IsSharedItemWithin n) xs
        → ends_from (task_entry places t) (reading_edges (task_entry places) first xs) ≡ numbers_read t first xs
    reading_ends first [] within = refl
    reading_ends first (x ∷ xs) within =
        let here = All-head (IsSharedItemWithin n) x xs within in
        let own = number_edges (task_entry places) first x.readers in
        let later = reading_edges (task_entry places) (first + 1) xs in
        let mine : ends_from (task_entry places t) own ≡ cond (list_any (λ c. c == t) x.readers) (first ∷ []) [] =
        number_ends first x.readers here.readers ∙ ap (map (λ c. first)) (filter_once x.readers here.rising t)
        ∙ one (list_any (λ c. c == t) x.readers) first in
        ends-append (task_entry places t) own later
        ∙ ap (λ (ns : List ℕ). ns ++ ends_from (task_entry places t) later) mine
        ∙ ap (λ (ns : List ℕ). cond (list_any (λ c. c == t) x.readers) (first ∷ []) [] ++ ns)
        (reading_ends (first + 1) xs (All-tail (IsSharedItemWithin n) x xs within))
      where
        one : (b : Bool) (first : ℕ) → map (λ (c : ℕ). first) (cond b (t ∷ []) []) ≡ cond b (first ∷ []) []
        one true first = refl
        one false first = refl
