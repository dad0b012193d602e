-- What the arcs of an item add to sums of sizes: as much as one arc of its size to the last reader. And the items of a list with their
-- last readers, one after the other.
use Rattle.std.proofs.Common.{◌≡◌, ℕ, zero, suc, ◌+◌, ◌<◌, ◌≤◌, max, Bool, true, false, cond, eqb, eq-eqb, List, [], ◌∷◌, ◌++◌}
use Rattle.std.proofs.Common.{length, length-append, append_assoc, add-one, take, unwrap_or, refl, sym, ap, subst, ◌∙◌, arith, inl, inr}
use Rattle.std.specs.Prelude.{slice_index}
use Rattle.std.specs.List.{sum_by}
use Rattle.std.specs.List.Sorted.{IsStrictlyIncreasing}
use Rattle.std.proofs.lemmas.List.{length-map, append-nil}
use Rattle.std.proofs.lemmas.List.Sums.{sum_by-cons, sum_by-append}
use Rattle.std.proofs.lemmas.Bool.{cases_eq, cases_Bool, ne_eqb, eqb-true, or_parts}
use Rattle.lists.proofs.Bools.{cond_zero}
use Rattle.lists.proofs.Lists.{sum-same, sum_by-map, rising-tail}
use Rattle.mp_system.specs.Memory.{stands_in}
use Rattle.graphs.specs.declared.arc.Arc.{Arc}
use Rattle.shared_systems.specs.Shared.{SharedTaskSystem, SharedItem, shared_item_at}
use Rattle.shared_systems.specs.Bounds.{IsSharedItemWithin, IsSharedSystem}
use Rattle.carried_graphs.specs.Carried.{IsLastIfAny, AreLastReaders, reader_arc, arcs_to, item_arcs, carried_arcs, arc_count}

abbrev pub arc : ℕ → ℕ → ℕ → Arc
arc from to size = record { from = from; to = to; size = size }

-- the size of an arc that passes the test, and 0 of one that does not
abbrev pub arc_size_if : (Arc → Bool) → Arc → ℕ
arc_size_if test x = cond (test x) x.size 0

-- ---- one item

missing : (d c : ℕ) (cs : List ℕ) → d < c → IsStrictlyIncreasing (c ∷ cs) → stands_in (c ∷ cs) d ≡ false
missing d c [] lt rising = rw (ne_eqb c d (λ e. omega arith)) refl
missing d c (e ∷ es) lt rising =
    let next : c < e = rising 0 (omega arith) in
    rw (ne_eqb c d (λ same. omega arith)) (missing d e es (omega arith) (rising-tail c (e ∷ es) rising))

once_only : (c : ℕ) (cs : List ℕ) → IsStrictlyIncreasing (c ∷ cs) → stands_in cs c ≡ false
once_only c [] rising = refl
once_only c (d ∷ ds) rising = missing c d ds (rising 0 (omega arith)) (rising-tail c (d ∷ ds) rising)

never : (n z : ℕ) (cs : List ℕ) → stands_in cs z ≡ false → sum_by (λ c. cond (eqb c z) n 0) cs ≡ 0
never n z [] e = refl
never n z (c ∷ cs) e =
    let parts = or_parts (eqb c z) (stands_in cs z) e in
    let here : cond (eqb c z) n 0 ≡ 0 = rw parts.0 refl in
    omega (arith, sum_by-cons (λ d. cond (eqb d z) n 0) c cs, here, never n z cs parts.1)

once : (n z : ℕ) (cs : List ℕ) → IsStrictlyIncreasing cs → stands_in cs z ≡ true → sum_by (λ c. cond (eqb c z) n 0) cs ≡ n
once n z [] rising e = absurd cc
once n z (c ∷ cs) rising e = elim (cases_Bool (eqb c z)) [
  | inl here ↦ (
      let own : cond (eqb c z) n 0 ≡ n = rw here refl in
      let gone = subst (λ (d : ℕ). stands_in cs d ≡ false) (eqb-true c z here) (once_only c cs rising) in
      omega (arith, sum_by-cons (λ d. cond (eqb d z) n 0) c cs, own, never n z cs gone))
  | inr other ↦ (
      let none : cond (eqb c z) n 0 ≡ 0 = rw other refl in
      let there : stands_in cs z ≡ true = rw other at e in
      omega (arith, sum_by-cons (λ d. cond (eqb d z) n 0) c cs, none, once n z cs (rising-tail c cs rising) there))
]

one_arc : (test : Arc → Bool) (from c z size : ℕ)
    → arc_size_if test (arc from c (cond (eqb c z) size 0)) ≡ cond (eqb c z) (arc_size_if test (arc from z size)) 0
one_arc test from c z size = elim (cases_eq c z) [
  | inl same ↦
      subst (λ (d : ℕ). arc_size_if test (arc from d (cond (eqb d z) size 0)) ≡ cond (eqb d z) (arc_size_if test (arc from z size)) 0)
      (sym same) (rw (eq-eqb z z refl) refl)
  | inr other ↦ rw (ne_eqb c z other) (cond_zero (test (arc from c 0)) 0 refl)
]

arcs_sum : (test : Arc → Bool) (x : SharedItem) (z : ℕ) (readers : List ℕ) → (length readers ≡ 0 → z ≡ 0)
    → (0 < length readers → stands_in readers z ≡ true) → IsStrictlyIncreasing readers
    → sum_by (arc_size_if test) (arcs_to x z readers) ≡ arc_size_if test (arc (unwrap_or x.from 0) z x.size)
arcs_sum test x z [] none some rising =
    let own = sum_by-cons (arc_size_if test) (arc (unwrap_or x.from 0) 0 x.size) [] in
    let here : sum_by (arc_size_if test) (arcs_to x z []) ≡ arc_size_if test (arc (unwrap_or x.from 0) 0 x.size) = omega (arith, own) in
    here ∙ ap (λ (d : ℕ). arc_size_if test (arc (unwrap_or x.from 0) d x.size)) (sym (none refl))
arcs_sum test x z (c ∷ cs) none some rising =
    let from = unwrap_or x.from 0 in
    sum_by-map (arc_size_if test) (reader_arc x z) (c ∷ cs)
    ∙ sum-same (λ d. arc_size_if test (reader_arc x z d)) (λ d. cond (eqb d z) (arc_size_if test (arc from z x.size)) 0)
    (λ d. one_arc test from d z x.size) (c ∷ cs)
    ∙ once (arc_size_if test (arc from z x.size)) z (c ∷ cs) rising (some (omega arith))

-- the number of a reader that stands once among rising readers, or 0 where there is none
pub record IsCarriable (n : ℕ) (system : SharedTaskSystem) (x : SharedItem) (z : ℕ) : Type 0 where
  pub within : IsSharedItemWithin n x
  pub last : IsLastIfAny system x z

pub item_sum : (n : ℕ) (system : SharedTaskSystem) (test : Arc → Bool) (x : SharedItem) (z : ℕ) → IsCarriable n system x z
    → sum_by (arc_size_if test) (item_arcs x z) ≡ arc_size_if test (arc (unwrap_or x.from 0) z x.size)
item_sum n system test x z is =
    arcs_sum test x z x.readers is.last.none (λ some. (is.last.some some).reads) is.within.rising

-- ---- all items

pub record EachPair (P : SharedItem → ℕ → Type 0) (xs : List SharedItem) (zs : List ℕ) : Type 0 where
  pub len : length zs ≡ length xs
  pub each : (i : ℕ) → i < length xs → P (shared_item_at xs i) (slice_index zs i)

pub pair_head : (P : SharedItem → ℕ → Type 0) (x : SharedItem) (xs : List SharedItem) (z : ℕ) (zs : List ℕ)
    → EachPair P (x ∷ xs) (z ∷ zs) → P x z
pair_head P x xs z zs pairs = pairs.each 0 (omega arith)

pub pair_tail : (P : SharedItem → ℕ → Type 0) (x : SharedItem) (xs : List SharedItem) (z : ℕ) (zs : List ℕ)
    → EachPair P (x ∷ xs) (z ∷ zs) → EachPair P xs zs
pair_tail P x xs z zs pairs = record {
  len = let e = pairs.len in omega arith;
  each = λ i lt. pairs.each (suc i) (omega arith);
}

module _ (P : SharedItem → ℕ → Type 0) where
  pub sums_same : (f : Arc → ℕ) (g : SharedItem → ℕ) → ((x : SharedItem) (z : ℕ) → P x z → sum_by f (item_arcs x z) ≡ g x)
      → (xs : List SharedItem) (zs : List ℕ) → EachPair P xs zs → sum_by f (carried_arcs zs xs) ≡ sum_by g xs
  sums_same f g same [] [] pairs = refl
  sums_same f g same [] (z ∷ zs) pairs = refl
  sums_same f g same (x ∷ xs) [] pairs = absurd (let e = pairs.len in omega arith)
  sums_same f g same (x ∷ xs) (z ∷ zs) pairs =
      omega (
        arith,
        sum_by-append f (item_arcs x z) (carried_arcs zs xs),
        sum_by-cons g x xs,
        same x z (pair_head P x xs z zs pairs),
        sums_same f g same xs zs (pair_tail P x xs z zs pairs),
      )

  pub sums_above : (f : Arc → ℕ) (g : SharedItem → ℕ) → ((x : SharedItem) (z : ℕ) → P x z → g x ≤ sum_by f (item_arcs x z))
      → (xs : List SharedItem) (zs : List ℕ) → EachPair P xs zs → sum_by g xs ≤ sum_by f (carried_arcs zs xs)
  sums_above f g above [] zs pairs = omega arith
  sums_above f g above (x ∷ xs) [] pairs = absurd (let e = pairs.len in omega arith)
  sums_above f g above (x ∷ xs) (z ∷ zs) pairs =
      omega (
        arith,
        sum_by-append f (item_arcs x z) (carried_arcs zs xs),
        sum_by-cons g x xs,
        above x z (pair_head P x xs z zs pairs),
        sums_above f g above xs zs (pair_tail P x xs z zs pairs),
      )

-- how many arcs there are
arcs_long : (x : SharedItem) (z : ℕ) (readers : List ℕ) → length (arcs_to x z readers) ≡ max 1 (length readers)
arcs_long x z [] = refl
arcs_long x z (c ∷ cs) = omega (arith, length-map cs (reader_arc x z))

pub items_long : (P : SharedItem → ℕ → Type 0) (xs : List SharedItem) (zs : List ℕ) → EachPair P xs zs
    → length (carried_arcs zs xs) ≡ sum_by arc_count xs
items_long P [] [] pairs = refl
items_long P [] (z ∷ zs) pairs = refl
items_long P (x ∷ xs) [] pairs = absurd (let e = pairs.len in omega arith)
items_long P (x ∷ xs) (z ∷ zs) pairs =
    omega (
      arith,
      length-append (item_arcs x z) (carried_arcs zs xs),
      sum_by-cons arc_count x xs,
      arcs_long x z x.readers,
      items_long P xs zs (pair_tail P x xs z zs pairs),
    )

pub lasts_pair : (system : SharedTaskSystem) (lasts : List ℕ) → AreLastReaders system lasts
    → EachPair (IsLastIfAny system) system.items lasts
lasts_pair system lasts are = record { len = are.len; each = are.each }

pub carriable : (system : SharedTaskSystem) (lasts : List ℕ) → IsSharedSystem system → AreLastReaders system lasts
    → EachPair (IsCarriable (length system.tasks) system) system.items lasts
carriable system lasts is are = record {
  len = are.len;
  each = λ i lt. record { within = is.items i _ lt; last = are.each i lt };
}

-- one item more
pub carried_more : (xs : List SharedItem) (zs : List ℕ) (i : ℕ) → i < length xs → i < length zs
    → carried_arcs (take (i + 1) zs) (take (i + 1) xs)
    ≡ carried_arcs (take i zs) (take i xs) ++ item_arcs (shared_item_at xs i) (slice_index zs i)
carried_more [] zs i lt within = absurd (omega arith)
carried_more (x ∷ xs) [] i lt within = absurd (omega arith)
carried_more (x ∷ xs) (z ∷ zs) zero lt within = append-nil (item_arcs x z)
carried_more (x ∷ xs) (z ∷ zs) (suc i) lt within =
    rw add-one
    (ap (λ (l : List Arc). item_arcs x z ++ l)
    (subst (λ (k : ℕ). carried_arcs (take k zs) (take k xs)
    ≡ carried_arcs (take i zs) (take i xs) ++ item_arcs (shared_item_at xs i) (slice_index zs i))
    (add-one i) (carried_more xs zs i (omega arith) (omega arith)))
    ∙ sym (append_assoc (item_arcs x z) (carried_arcs (take i zs) (take i xs)) (item_arcs (shared_item_at xs i) (slice_index zs i))))
