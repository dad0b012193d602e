-- What the items of one item add to sums of sizes and to tests of all items.
use Rattle.std.proofs.Common.{◌≡◌, ℕ, ◌+◌, ◌≤◌, Bool, true, false, cond, not, ◌&&◌, ◌||◌, eqb, eq-eqb}
use Rattle.std.proofs.Common.{List, [], ◌∷◌, ◌++◌, map, Option, Some, None, refl, sym, ap, ◌∙◌, arith}
use Rattle.std.specs.List.{list_all, list_any}
use Rattle.std.proofs.lemmas.List.Folds.{list_all-append}
use Rattle.std.proofs.lemmas.List.Sums.{sum_by-cons, sum_by-append}
use Rattle.std.proofs.lemmas.Bool.{ne_eqb, and_parts, and_from}
use Rattle.lists.proofs.Bools.{or_false, or_true}
use Rattle.mp_system.specs.declared.system.Item.{Item}
use Rattle.mp_system.specs.System.{is_named, is_input, size_if, size_where}
use Rattle.mp_system.specs.Memory.{is_done_or, is_produced, is_consumed, is_present}
use Rattle.shared_systems.specs.Shared.{SharedItem, only, shared_size_if, is_read_by, is_read_by_alone}
use Rattle.shared_systems.specs.SharedMemory.{is_made, are_done, is_held}
use Rattle.shared_systems.specs.Collected.{are_several, is_shared, taker, wait, waits_for, waits_of, kept_item, wait_items}

-- whether the item has what task v needs
abbrev pub is_supplied : (ℕ → Bool) → ℕ → Item → Bool
is_supplied done v item = not (is_input v item) || is_produced done item

-- ---- tests

pub and_true : (b : Bool) → (b && true) ≡ b
and_true true = refl
and_true false = refl

pub spread : (a b d : Bool) → ((not a || d) && (not b || d)) ≡ (not (a || b) || d)
spread true true true = refl
spread true true false = refl
spread true false true = refl
spread true false false = refl
spread false b d = refl

below : (made used consumed : Bool) (size : ℕ) → (consumed ≡ true → used ≡ true)
    → cond (made && not used) size 0 ≤ cond (made && not consumed) size 0
below false used consumed size h = omega arith
below true true consumed size h = omega arith
below true false true size h = absurd (let e = h refl in cc)
below true false false size h = omega arith

-- ---- sizes

no_sizes : (test : Item → Bool) (w : ℕ → Item) → ((c : ℕ) → (w c).size ≡ 0) → (to : List ℕ) → size_where test (map w to) ≡ 0
no_sizes test w none [] = refl
no_sizes test w none (c ∷ to) =
    let here : size_if test (w c) ≡ 0 = elim (test (w c)) as (λ b. cond b (w c).size 0 ≡ 0) [ true ↦ none c | false ↦ refl ] in
    omega (arith, here, sum_by-cons (size_if test) (w c) (map w to), no_sizes test w none to)

no_waits_for : (test : Item → Bool) (from : Option ℕ) (to : List ℕ) → size_where test (waits_for from to) ≡ 0
no_waits_for test None to = refl
no_waits_for test (Some u) to = no_sizes test (wait u) (λ c. refl) to

no_waits : (test : Item → Bool) (k : ℕ) (from : Option ℕ) (to : List ℕ) (several : Bool)
    → size_where test (cond several (waits_for from to ++ waits_of k to) []) ≡ 0
no_waits test k from to true =
    omega (
      arith,
      sum_by-append (size_if test) (waits_for from to) (waits_of k to),
      no_waits_for test from to,
      no_sizes test (λ c. wait c k) (λ c. refl) to,
    )
no_waits test k from to false = refl

-- of the items of an item only its own counts
pub item_counts : (test : Item → Bool) (k : ℕ) (x : SharedItem) (items : List Item)
    → size_where test ((kept_item k x ∷ wait_items k x) ++ items) ≡ size_if test (kept_item k x) + size_where test items
item_counts test k x items =
    omega (
      arith,
      sum_by-cons (size_if test) (kept_item k x) (wait_items k x ++ items),
      sum_by-append (size_if test) (wait_items k x) items,
      no_waits test k x.from x.readers (is_shared x),
    )

-- who takes up the item alone reads the item, if it is not the collector
taker_only : (k v : ℕ) (to : List ℕ) → (k ≡ v → ⊥) → is_named (taker k to) v ≡ is_named (only to) v
taker_only k v [] other = refl
taker_only k v (c ∷ []) other = refl
taker_only k v (c ∷ d ∷ cs) other = ne_eqb k v other

pub item_taken : (k v : ℕ) (x : SharedItem) → (k ≡ v → ⊥) → size_if (is_input v) (kept_item k x) ≡ shared_size_if (is_read_by_alone v) x
item_taken k v x other = ap (λ (b : Bool). cond b x.size 0) (taker_only k v x.readers other)

taken_same : (done : ℕ → Bool) (k : ℕ) (to : List ℕ) → (are_several to ≡ true → done k ≡ are_done done to)
    → is_done_or false done (taker k to) ≡ are_done done to
taken_same done k [] h = refl
taken_same done k (c ∷ []) h = sym (and_true (done c))
taken_same done k (c ∷ d ∷ cs) h = h refl

-- an item whose collector is done where all readers are takes what its item takes
pub item_same : (done : ℕ → Bool) (k : ℕ) (x : SharedItem) → (is_shared x ≡ true → done k ≡ are_done done x.readers)
    → shared_size_if (is_held done) x ≡ size_if (is_present done) (kept_item k x)
item_same done k x h = ap (λ (b : Bool). cond (is_made done x && not b) x.size 0) (sym (taken_same done k x.readers h))

used_up : (done : ℕ → Bool) (k : ℕ) (to : List ℕ) → (are_several to ≡ true → done k ≡ true → list_all done to ≡ true)
    → is_done_or false done (taker k to) ≡ true → are_done done to ≡ true
used_up done k [] h e = absurd cc
used_up done k (c ∷ []) h e = rw e refl
used_up done k (c ∷ d ∷ cs) h e = h refl e

-- an item whose collector is done only after all readers takes at most what its item takes
pub item_below : (done : ℕ → Bool) (k : ℕ) (x : SharedItem) → (is_shared x ≡ true → done k ≡ true → list_all done x.readers ≡ true)
    → shared_size_if (is_held done) x ≤ size_if (is_present done) (kept_item k x)
item_below done k x h =
    below (is_made done x) (are_done done x.readers) (is_consumed done (kept_item k x)) x.size (used_up done k x.readers h)

-- ---- who is ready

waits_of_others : (done : ℕ → Bool) (k v : ℕ) (to : List ℕ) → (k ≡ v → ⊥) → list_all (is_supplied done v) (waits_of k to) ≡ true
waits_of_others done k v [] other = refl
waits_of_others done k v (c ∷ to) other = rw (ne_eqb k v other) (waits_of_others done k v to other)

waits_for_ready : (done : ℕ → Bool) (v : ℕ) (from : Option ℕ) (to : List ℕ)
    → list_all (is_supplied done v) (waits_for from to) ≡ (not (list_any (λ c. eqb c v) to) || is_done_or true done from)
waits_for_ready done v None to = sym (or_true (not (list_any (λ c. eqb c v) to)))
waits_for_ready done v (Some u) [] = refl
waits_for_ready done v (Some u) (c ∷ to) =
    ap (λ (b : Bool). (not (eqb c v) || done u) && b) (waits_for_ready done v (Some u) to)
    ∙ spread (eqb c v) (list_any (λ d. eqb d v) to) (done u)

ready_parts : (done : ℕ → Bool) (k v : ℕ) (size : ℕ) (from : Option ℕ) (to : List ℕ) → (are_several to ≡ true → k ≡ v → ⊥)
    → list_all (is_supplied done v)
    (record { size = size; from = from; to = taker k to } ∷ cond (are_several to) (waits_for from to ++ waits_of k to) [])
    ≡ (not (list_any (λ c. eqb c v) to) || is_done_or true done from)
ready_parts done k v size from [] other = refl
ready_parts done k v size from (c ∷ []) other = rw (or_false (eqb c v)) (and_true (not (eqb c v) || is_done_or true done from))
ready_parts done k v size from (c ∷ d ∷ cs) other =
    let to = c ∷ d ∷ cs in
    let first : (not (eqb k v) || is_done_or true done from) ≡ true = rw (ne_eqb k v (other refl)) refl in
    let rest : list_all (is_supplied done v) (waits_for from to ++ waits_of k to)
    ≡ (not (list_any (λ e. eqb e v) to) || is_done_or true done from) =
    list_all-append (is_supplied done v) (waits_for from to) (waits_of k to)
    ∙ ap (λ (b : Bool). list_all (is_supplied done v) (waits_for from to) && b) (waits_of_others done k v to (other refl))
    ∙ and_true (list_all (is_supplied done v) (waits_for from to))
    ∙ waits_for_ready done v from to in
    ap (λ (b : Bool). b && list_all (is_supplied done v) (waits_for from to ++ waits_of k to)) first ∙ rest

-- a task that is not the collector finds what it needs in the items exactly where it finds it in the item
pub item_ready : (done : ℕ → Bool) (k v : ℕ) (x : SharedItem) → (is_shared x ≡ true → k ≡ v → ⊥)
    → list_all (is_supplied done v) (kept_item k x ∷ wait_items k x) ≡ (not (is_read_by v x) || is_made done x)
item_ready done k v x other = ready_parts done k v x.size x.from x.readers other

-- a collector that is ready has all readers done
waits_of_done : (done : ℕ → Bool) (k : ℕ) (to : List ℕ) → list_all (is_supplied done k) (waits_of k to) ≡ true → list_all done to ≡ true
waits_of_done done k [] e = refl
waits_of_done done k (c ∷ to) e =
    let parts = and_parts (not (eqb k k) || done c) (list_all (is_supplied done k) (waits_of k to)) e in
    let here : done c ≡ true = rw (eq-eqb k k refl) at parts.0 in
    rw here (waits_of_done done k to parts.1)

collects_parts : (done : ℕ → Bool) (k : ℕ) (from : Option ℕ) (to : List ℕ) (several : Bool) → several ≡ true
    → list_all (is_supplied done k) (cond several (waits_for from to ++ waits_of k to) []) ≡ true → list_all done to ≡ true
collects_parts done k from to true e ready = waits_of_done done k to
    (and_parts (list_all (is_supplied done k) (waits_for from to)) (list_all (is_supplied done k) (waits_of k to))
    (sym (list_all-append (is_supplied done k) (waits_for from to) (waits_of k to)) ∙ ready)).1
collects_parts done k from to false e ready = absurd cc

pub item_collects : (done : ℕ → Bool) (k : ℕ) (x : SharedItem) → is_shared x ≡ true
    → list_all (is_supplied done k) (kept_item k x ∷ wait_items k x) ≡ true → list_all done x.readers ≡ true
item_collects done k x shared ready =
    collects_parts done k x.from x.readers (is_shared x) shared
    (and_parts (is_supplied done k (kept_item k x)) (list_all (is_supplied done k) (wait_items k x)) ready).1

-- a collector is ready where its item is made and all readers are done
waits_of_ready : (done : ℕ → Bool) (k : ℕ) (to : List ℕ) → list_all done to ≡ true → list_all (is_supplied done k) (waits_of k to) ≡ true
waits_of_ready done k [] e = refl
waits_of_ready done k (c ∷ to) e =
    let parts = and_parts (done c) (list_all done to) e in
    rw (parts.0, or_true (not (eqb k k))) (waits_of_ready done k to parts.1)

collected_parts : (done : ℕ → Bool) (k : ℕ) (from : Option ℕ) (to : List ℕ) (several : Bool)
    → is_done_or true done from ≡ true → list_all done to ≡ true
    → list_all (is_supplied done k) (cond several (waits_for from to ++ waits_of k to) []) ≡ true
collected_parts done k from to false made e = refl
collected_parts done k from to true made e =
    let first : list_all (is_supplied done k) (waits_for from to) ≡ true =
    waits_for_ready done k from to ∙ ap (λ (b : Bool). not (list_any (λ c. eqb c k) to) || b) made
    ∙ or_true (not (list_any (λ c. eqb c k) to)) in
    list_all-append (is_supplied done k) (waits_for from to) (waits_of k to)
    ∙ and_from (list_all (is_supplied done k) (waits_for from to))
    (list_all (is_supplied done k) (waits_of k to)) first (waits_of_ready done k to e)

pub item_collected : (done : ℕ → Bool) (k : ℕ) (x : SharedItem) → is_made done x ≡ true → list_all done x.readers ≡ true
    → list_all (is_supplied done k) (kept_item k x ∷ wait_items k x) ≡ true
item_collected done k x made e =
    and_from (is_supplied done k (kept_item k x)) (list_all (is_supplied done k) (wait_items k x))
    (ap (λ (b : Bool). not (is_input k (kept_item k x)) || b) made ∙ or_true (not (is_input k (kept_item k x))))
    (collected_parts done k x.from x.readers (is_shared x) made e)

-- ---- readers that are done

pub several_done : (done : ℕ → Bool) (to : List ℕ) → are_several to ≡ true → are_done done to ≡ list_all done to
several_done done [] e = absurd cc
several_done done (c ∷ to) e = refl

-- an item with readers that are done, each of which was ready, is made
made_parts : (done : ℕ → Bool) (made : Bool) (to : List ℕ) → are_several to ≡ true → list_all done to ≡ true
    → ((v : ℕ) → done v ≡ true → (not (list_any (λ c. eqb c v) to) || made) ≡ true) → made ≡ true
made_parts done made [] several e each = absurd cc
made_parts done made (c ∷ to) several e each =
    let ready = each c ((and_parts (done c) (list_all done to) e).0) in
    let made_is : (not (eqb c c || list_any (λ d. eqb d c) to) || made) ≡ made = rw (eq-eqb c c refl) refl in
    sym made_is ∙ ready

pub item_made : (done : ℕ → Bool) (x : SharedItem) → is_shared x ≡ true → list_all done x.readers ≡ true
    → ((v : ℕ) → done v ≡ true → (not (is_read_by v x) || is_made done x) ≡ true) → is_made done x ≡ true
item_made done x shared e each = made_parts done (is_made done x) x.readers shared e each
