-- What the items that stand for one item add to sums of sizes, and who finds what it needs in them.
use Rattle.std.proofs.Common.{◌≡◌, ℕ, zero, suc, ◌+◌, ◌≤◌, Bool, true, false, cond, not, ◌&&◌, ◌||◌, eqb, eq-eqb}
use Rattle.std.proofs.Common.{List, [], ◌∷◌, ◌++◌, Option, Some, None, refl, sym, ap, ◌∙◌, arith, inl, inr}
use Rattle.std.specs.Prelude.{All}
use Rattle.std.specs.List.{list_all, list_any}
use Rattle.std.specs.Option.{ForSome}
use Rattle.std.proofs.lemmas.List.{append-nil}
use Rattle.std.proofs.lemmas.List.Folds.{list_all-append, list_any-append}
use Rattle.std.proofs.lemmas.List.Sums.{sum_by-cons}
use Rattle.std.proofs.lemmas.List.Elements.{All-head, All-tail}
use Rattle.std.proofs.lemmas.Bool.{cases_Bool, cases_eq, ne_eqb, and_parts, and_from}
use Rattle.lists.proofs.Bools.{or_false, or_true, eqb_same}
use Rattle.mp_system.specs.System.{is_named}
use Rattle.graphs.specs.Graph.{IsAmong}
use Rattle.shared_systems.specs.Shared.{SharedItem, only, shared_size_if, shared_size_where, is_made_by, is_read_by, is_read_by_alone}
use Rattle.shared_systems.specs.SharedMemory.{is_made, are_done, is_held}
use Rattle.joined_systems.specs.Joined.{join_task, join_after, through}

abbrev pub item : ℕ → Option ℕ → List ℕ → SharedItem
item size from to = record { size = size; from = from; readers = to }

-- task v reads the item only where it is made
abbrev pub is_given : (ℕ → Bool) → ℕ → SharedItem → Bool
is_given done v x = not (is_read_by v x) || is_made done x

-- ---- sizes

one_sum : (test : SharedItem → Bool) (x : SharedItem) → shared_size_where test (x ∷ []) ≡ shared_size_if test x
one_sum test x = omega (arith, sum_by-cons (shared_size_if test) x [])

two_sum : (test : SharedItem → Bool) (n k : ℕ) (x : SharedItem) → shared_size_where test (through n (suc k) x)
    ≡ shared_size_if test (item x.size x.from ((n + suc k) ∷ [])) + shared_size_if test (item x.size (Some (n + suc k)) x.readers)
two_sum test n k x =
    let first = item x.size x.from ((n + suc k) ∷ []) in
    let second = item x.size (Some (n + suc k)) x.readers in
    omega (arith, sum_by-cons (shared_size_if test) first (second ∷ []), one_sum test second)

other_task : (n k v : ℕ) → v ≤ n → eqb (n + suc k) v ≡ false
other_task n k v le = ne_eqb (n + suc k) v (λ e. omega arith)

-- a task makes what it made
pub makes_same : (n v j : ℕ) (x : SharedItem) → v ≤ n
    → shared_size_where (is_made_by v) (through n j x) ≡ shared_size_if (is_made_by v) x
makes_same n v zero x le = one_sum (is_made_by v) x
makes_same n v (suc k) x le =
    let none : shared_size_if (is_made_by v) (item x.size (Some (n + suc k)) x.readers) ≡ 0 = rw (other_task n k v le) refl in
    omega (arith, none, two_sum (is_made_by v) n k x)

-- and alone reads what it alone read
pub alone_same : (n v j : ℕ) (x : SharedItem) → v ≤ n
    → shared_size_where (is_read_by_alone v) (through n j x) ≡ shared_size_if (is_read_by_alone v) x
alone_same n v zero x le = one_sum (is_read_by_alone v) x
alone_same n v (suc k) x le =
    let none : shared_size_if (is_read_by_alone v) (item x.size x.from ((n + suc k) ∷ [])) ≡ 0 = rw (other_task n k v le) refl in
    omega (arith, none, two_sum (is_read_by_alone v) n k x)

only_same : (n v : ℕ) (joins to : List ℕ) → is_named (only (to ++ join_task n (join_after joins to))) v ≡ is_named (only to) v
only_same n v joins [] = refl
only_same n v joins (c ∷ []) = refl
only_same n v joins (c ∷ d ∷ cs) = refl

pub alone_released : (n v : ℕ) (joins : List ℕ) (size : ℕ) (from : Option ℕ) (to : List ℕ)
    → shared_size_if (is_read_by_alone v) (item size from (to ++ join_task n (join_after joins to)))
    ≡ shared_size_if (is_read_by_alone v) (item size from to)
alone_released n v joins size from to = ap (λ (b : Bool). cond b size 0) (only_same n v joins to)

pub no_join : (n k : ℕ) (from : Option ℕ) → 1 ≤ k → ForSome from (IsAmong n) → is_named from (n + k) ≡ false
no_join n k None some within = refl
no_join n k (Some u) some within = (let task = within u refl in ne_eqb u (n + k) (λ e. omega arith))

same_join : (n k i : ℕ) → eqb (n + suc i) (n + k) ≡ eqb (suc i) k
same_join n k i = elim (cases_eq (suc i) k) [
  | inl same ↦ eq-eqb (n + suc i) (n + k) (omega arith) ∙ sym (eq-eqb (suc i) k same)
  | inr other ↦ ne_eqb (n + suc i) (n + k) (λ e. other (omega arith)) ∙ sym (ne_eqb (suc i) k other)
]

-- a join makes what goes through it
pub join_makes : (n k j : ℕ) (x : SharedItem) → 1 ≤ k → ForSome x.from (IsAmong n)
    → shared_size_where (is_made_by (n + k)) (through n j x) ≡ cond (eqb j k) x.size 0
join_makes n k zero x some within =
    one_sum (is_made_by (n + k)) x ∙ rw (no_join n k x.from some within, ne_eqb 0 k (λ e. omega arith)) refl
join_makes n k (suc i) x some within =
    let none : shared_size_if (is_made_by (n + k)) (item x.size x.from ((n + suc i) ∷ [])) ≡ 0 = rw (no_join n k x.from some within) refl in
    let own : shared_size_if (is_made_by (n + k)) (item x.size (Some (n + suc i)) x.readers) ≡ cond (eqb (suc i) k) x.size 0 =
    ap (λ (b : Bool). cond b x.size 0) (same_join n k i) in
    omega (arith, none, own, two_sum (is_made_by (n + k)) n i x)

-- ---- memory: whether it is made, whether its readers are done, whether its join is
split_le : (m d e : Bool) (size : ℕ) → cond (m && not d) size 0 ≤ cond (m && not (e && true)) size 0 + cond (e && not d) size 0
split_le false d e size = omega arith
split_le true true e size = omega arith
split_le true false true size = omega arith
split_le true false false size = omega arith

split_eq : (m d e : Bool) (size : ℕ) → (e ≡ true → m ≡ true) → (d ≡ true → e ≡ true)
    → cond (m && not d) size 0 ≡ cond (m && not (e && true)) size 0 + cond (e && not d) size 0
split_eq true true true size made past = omega arith
split_eq true true false size made past = absurd (let h = past refl in cc)
split_eq true false true size made past = omega arith
split_eq true false false size made past = omega arith
split_eq false d true size made past = absurd (let h = made refl in cc)
split_eq false d false size made past = omega arith

-- in each state the items take at least what the item takes
pub through_ge : (done : ℕ → Bool) (n j : ℕ) (x : SharedItem)
    → shared_size_if (is_held done) x ≤ shared_size_where (is_held done) (through n j x)
through_ge done n zero x = omega (arith, one_sum (is_held done) x)
through_ge done n (suc k) x =
    omega (arith, split_le (is_made done x) (are_done done x.readers) (done (n + suc k)) x.size, two_sum (is_held done) n k x)

longer : (m used more : Bool) (size : ℕ) → (more ≡ true → used ≡ true) → cond (m && not used) size 0 ≤ cond (m && not more) size 0
longer false used more size h = omega arith
longer true true more size h = omega arith
longer true false true size h = absurd (let e = h refl in cc)
longer true false false size h = omega arith

pub released_ge : (done : ℕ → Bool) (n : ℕ) (joins : List ℕ) (size : ℕ) (from : Option ℕ) (to : List ℕ)
    → shared_size_if (is_held done) (item size from to)
    ≤ shared_size_if (is_held done) (item size from (to ++ join_task n (join_after joins to)))
released_ge done n joins size from [] = omega arith
released_ge done n joins size from (c ∷ []) = omega arith
released_ge done n joins size from (c ∷ d ∷ cs) =
    let to = c ∷ d ∷ cs in
    let more = join_task n (join_after joins to) in
    longer (is_made done (item size from to)) (list_all done to) (list_all done (to ++ more)) size
    (λ e. (and_parts (list_all done to) (list_all done more) (sym (list_all-append done to more) ∙ e)).0)

-- and just that, where the join is done only after the producer and before the readers
pub through_is : (done : ℕ → Bool) (n j : ℕ) (x : SharedItem) → (1 ≤ j → done (n + j) ≡ true → is_made done x ≡ true)
    → (1 ≤ j → are_done done x.readers ≡ true → done (n + j) ≡ true)
    → shared_size_if (is_held done) x ≡ shared_size_where (is_held done) (through n j x)
through_is done n zero x made past = sym (one_sum (is_held done) x)
through_is done n (suc k) x made past =
    omega (
      arith,
      split_eq (is_made done x) (are_done done x.readers) (done (n + suc k)) x.size (made (omega arith)) (past (omega arith)),
      two_sum (is_held done) n k x,
    )

implied : (a b : Bool) → (a ≡ true → b ≡ true) → (a && (b && true)) ≡ a
implied true true h = refl
implied true false h = absurd (let e = h refl in cc)
implied false b h = refl

all_released : (done : ℕ → Bool) (n j : ℕ) (to : List ℕ) → (1 ≤ j → list_all done to ≡ true → done (n + j) ≡ true)
    → list_all done (to ++ join_task n j) ≡ list_all done to
all_released done n zero to h = ap (list_all done) (append-nil to)
all_released done n (suc k) to h =
    list_all-append done to ((n + suc k) ∷ []) ∙ implied (list_all done to) (done (n + suc k)) (h (omega arith))

pub done_released : (done : ℕ → Bool) (n : ℕ) (joins to : List ℕ)
    → (1 ≤ join_after joins to → list_all done to ≡ true → done (n + join_after joins to) ≡ true)
    → are_done done (to ++ join_task n (join_after joins to)) ≡ are_done done to
done_released done n joins [] h = refl
done_released done n joins (c ∷ []) h = refl
done_released done n joins (c ∷ d ∷ cs) h = all_released done n (join_after joins (c ∷ d ∷ cs)) (c ∷ d ∷ cs) h

-- ---- who is given what it reads

one_all : (test : SharedItem → Bool) (x : SharedItem) → list_all test (x ∷ []) ≡ true → test x ≡ true
one_all test x e = (and_parts (test x) true e).0

-- a task that finds what it needs in the items finds it in the item, if the join did
pub given_before : (done : ℕ → Bool) (n v j : ℕ) (x : SharedItem) → list_all (is_given done v) (through n j x) ≡ true
    → (1 ≤ j → done (n + j) ≡ true → list_all (is_given done (n + j)) (through n j x) ≡ true) → is_given done v x ≡ true
given_before done n v zero x given join = one_all (is_given done v) x given
given_before done n v (suc k) x given join =
    let first = item x.size x.from ((n + suc k) ∷ []) in
    let second = item x.size (Some (n + suc k)) x.readers in
    let here : is_given done v second ≡ true = one_all (is_given done v) second
    ((and_parts (is_given done v first) (list_all (is_given done v) (second ∷ [])) given).1) in
    elim (cases_Bool (is_read_by v x)) [
      | inl reads ↦ (
          let passed : done (n + suc k) ≡ true = rw reads at here in
          let own : is_given done (n + suc k) first ≡ true = (and_parts (is_given done (n + suc k) first)
          (list_all (is_given done (n + suc k)) (second ∷ [])) (join (omega arith) passed)).0 in
          let made : is_made done x ≡ true = rw (eqb_same (n + suc k)) at own in
          rw made (or_true (not (is_read_by v x)))
          )
      | inr not_read ↦ rw not_read refl
    ]

fewer : (a b m : Bool) → (not (a || b) || m) ≡ true → (not a || m) ≡ true
fewer true b m e = e
fewer false b m e = refl

pub given_released : (done : ℕ → Bool) (v : ℕ) (size : ℕ) (from : Option ℕ) (to more : List ℕ)
    → is_given done v (item size from (to ++ more)) ≡ true → is_given done v (item size from to) ≡ true
given_released done v size from to more e =
    fewer (list_any (λ c. eqb c v) to) (list_any (λ c. eqb c v) more) (is_made done (item size from to))
    (ap (λ (b : Bool). not b || is_made done (item size from to)) (sym (list_any-append (λ c. eqb c v) to more)) ∙ e)

-- a join is no task
pub read_released : (n v j : ℕ) (to : List ℕ) → v ≤ n
    → list_any (λ c. eqb c v) (to ++ join_task n j) ≡ list_any (λ c. eqb c v) to
read_released n v zero to le = ap (list_any (λ c. eqb c v)) (append-nil to)
read_released n v (suc k) to le =
    list_any-append (λ c. eqb c v) to ((n + suc k) ∷ [])
    ∙ ap (λ (b : Bool). list_any (λ c. eqb c v) to || (b || false)) (other_task n k v le) ∙ or_false (list_any (λ c. eqb c v) to)

when_read : (reads made : Bool) → (reads ≡ true → made ≡ true) → (not reads || made) ≡ true
when_read true made h = h refl
when_read false made h = refl

-- a task finds what it needs in the items, if it finds it in the item, and the join is done
pub given_after : (done : ℕ → Bool) (n v j : ℕ) (x : SharedItem) → v ≤ n → is_given done v x ≡ true
    → (1 ≤ j → is_read_by v x ≡ true → done (n + j) ≡ true) → list_all (is_given done v) (through n j x) ≡ true
given_after done n v zero x le given past = and_from (is_given done v x) true given refl
given_after done n v (suc k) x le given past =
    let first = item x.size x.from ((n + suc k) ∷ []) in
    let second = item x.size (Some (n + suc k)) x.readers in
    and_from (is_given done v first) (list_all (is_given done v) (second ∷ [])) (rw (other_task n k v le) refl)
    (and_from (is_given done v second) true (when_read (is_read_by v x) (done (n + suc k)) (past (omega arith))) refl)

-- a join finds what it needs in the items: those that go through it, and those that go with it
pub given_join : (done : ℕ → Bool) (n k j : ℕ) (x : SharedItem) → (j ≡ k → is_made done x ≡ true)
    → (is_read_by (n + k) x ≡ true → (is_made done x ≡ true) × (1 ≤ j → done (n + j) ≡ true))
    → list_all (is_given done (n + k)) (through n j x) ≡ true
given_join done n k zero x own last =
    and_from (is_given done (n + k) x) true (when_read (is_read_by (n + k) x) (is_made done x) (λ e. (last e).0)) refl
given_join done n k (suc i) x own last =
    let first = item x.size x.from ((n + suc i) ∷ []) in
    let second = item x.size (Some (n + suc i)) x.readers in
    and_from (is_given done (n + k) first) (list_all (is_given done (n + k)) (second ∷ []))
    (when_read (is_read_by (n + k) first) (is_made done x)
    (λ e. own (the_join i (sym (or_false (eqb (n + suc i) (n + k))) ∙ e))))
    (and_from (is_given done (n + k) second) true
    (when_read (is_read_by (n + k) x) (done (n + suc i)) (λ e. (last e).1 (omega arith))) refl)
  where
    the_join : (i : ℕ) → eqb (n + suc i) (n + k) ≡ true → suc i ≡ k
    the_join i e = elim (cases_eq (suc i) k) [
      | inl same ↦ same
      | inr other ↦ absurd (let no = ne_eqb (n + suc i) (n + k) (λ s. other (omega arith)) in cc)
    ]

-- a join reads only the items that go with it
pub join_reads : (n k j : ℕ) (to : List ℕ) → 1 ≤ k → All (IsAmong n) to
    → list_any (λ c. eqb c (n + k)) (to ++ join_task n j) ≡ true → j ≡ k
join_reads n k zero [] some within e = absurd cc
join_reads n k (suc i) [] some within e = elim (cases_eq (suc i) k) [
  | inl same ↦ same
  | inr other ↦ absurd (let no = ne_eqb (n + suc i) (n + k) (λ s. other (omega arith)) in let e' = rw no at e in cc)
]
join_reads n k j (c ∷ to) some within e =
    let task = All-head (IsAmong n) c to within in
    let no = ne_eqb c (n + k) (λ s. omega arith) in
    let later : list_any (λ d. eqb d (n + k)) (to ++ join_task n j) ≡ true = rw no at e in
    join_reads n k j to some (All-tail (IsAmong n) c to within) later
