-- The uses of items in order: who makes, who takes up, and how many there are.
use Rattle.std.proofs.Common.{◌≡◌, ℕ, ◌+◌, ◌^◌, ◌<◌, ◌≤◌, List, [], ◌∷◌, ◌++◌, length, map, take, Option, Some, None, unwrap_or}
use Rattle.std.proofs.Common.{refl, sym, ap, subst, ◌∙◌, arith, length-append}
use Rattle.std.specs.Prelude.{All}
use Rattle.std.specs.List.{sum_by}
use Rattle.std.proofs.lemmas.List.{length-map, map-append, take_all, take_more, flat_map_more}
use Rattle.std.proofs.lemmas.List.Sums.{sum_by-cons}
use Rattle.std.proofs.lemmas.List.Elements.{All-nil, All-cons, All-head, All-tail, All-append}
use Rattle.graphs.specs.Graph.{IsAmong}
use Rattle.shared_systems.specs.Shared.{SharedTaskSystem, SharedItem, shared_item_at}
use Rattle.shared_systems.specs.Bounds.{IsSharedItemWithin, IsSharedSystem, reader_count}
use Rattle.peak_bounds.specs.declared.uses.Use.{Use}
use Rattle.peak_bounds.specs.Moments.{uses_for, item_uses, uses_of}
use Rattle.peak_bounds.specs.Judging.{maker_of, taker_of, AreRows, AreUses}
use Rattle.peak_bounds.specs.declared.use_table.UseTable.{UseTable}

-- ---- the uses of one item

pub makers_each : (from : Option ℕ) (readers : List ℕ) → 1 ≤ length readers → map maker_of (uses_for from readers) ≡ map (λ reader. unwrap_or from 0) readers
makers_each from [] some = absurd (omega arith)
makers_each from (c ∷ cs) some = each (c ∷ cs) where
  each : (readers : List ℕ) → map maker_of (map (λ reader. let u : Use = record { from = from; to = Some reader } in u) readers) ≡ map (λ reader. unwrap_or from 0) readers
  each [] = refl
  each (d ∷ ds) = ap (λ (l : List ℕ). unwrap_or from 0 ∷ l) (each ds)

pub takers_each : (from : Option ℕ) (readers : List ℕ) → 1 ≤ length readers → map taker_of (uses_for from readers) ≡ readers
takers_each from [] some = absurd (omega arith)
takers_each from (c ∷ cs) some = each (c ∷ cs) where
  each : (readers : List ℕ) → map taker_of (map (λ reader. let u : Use = record { from = from; to = Some reader } in u) readers) ≡ readers
  each [] = refl
  each (d ∷ ds) = ap (λ (l : List ℕ). d ∷ l) (each ds)

pub makers_nobody : (from : Option ℕ) (readers : List ℕ) → readers ≡ [] → map maker_of (uses_for from readers) ≡ unwrap_or from 0 ∷ []
makers_nobody from [] none = refl
makers_nobody from (c ∷ cs) none = absurd cc

pub takers_nobody : (from : Option ℕ) (readers : List ℕ) → readers ≡ [] → map taker_of (uses_for from readers) ≡ 0 ∷ []
takers_nobody from [] none = refl
takers_nobody from (c ∷ cs) none = absurd cc

-- ---- one item more

pub ends_more : (end : Use → ℕ) (items : List SharedItem) (i : ℕ) → i < length items
    → map end (uses_of (take (i + 1) items)) ≡ map end (uses_of (take i items)) ++ map end (item_uses (shared_item_at items i))
ends_more end items i lt =
    ap (λ (l : List SharedItem). map end (uses_of l)) (take_more items i (record { size = 0; from = None; readers = [] }) lt)
    ∙ ap (map end) (sym (flat_map_more item_uses [] (take i items) (shared_item_at items i)))
    ∙ map-append end (uses_of (take i items)) (item_uses (shared_item_at items i))

-- ---- the limits

-- an item has at most one use more than readers
uses_few : (from : Option ℕ) (readers : List ℕ) → length (uses_for from readers) ≤ length readers + 1
uses_few from [] = omega arith
uses_few from (c ∷ cs) = omega (arith, length-map (c ∷ cs) (λ reader. let u : Use = record { from = from; to = Some reader } in u))

pub uses-le : (items : List SharedItem) → length (uses_of items) ≤ sum_by reader_count items + length items
uses-le [] = omega arith
uses-le (x ∷ items) =
    omega (arith, length-append (item_uses x) (uses_of items), uses_few x.from x.readers, uses-le items, sum_by-cons reader_count x items)

module _ (n : ℕ) where
  maker_small : (from : Option ℕ) → ((u : ℕ) → from ≡ Some u → IsAmong n u) → unwrap_or from 0 ≤ n
  maker_small None among = omega arith
  maker_small (Some u) among = (among u refl).1

  makers_item : (from : Option ℕ) (readers : List ℕ) → unwrap_or from 0 ≤ n → All (λ v. v ≤ n) (map maker_of (uses_for from readers))
  makers_item from [] small = All-cons (λ v. v ≤ n) (unwrap_or from 0) [] small (All-nil (λ v. v ≤ n))
  makers_item from (c ∷ cs) small = each (c ∷ cs) where
    each : (readers : List ℕ) → All (λ v. v ≤ n) (map maker_of (map (λ reader. let u : Use = record { from = from; to = Some reader } in u) readers))
    each [] = All-nil (λ v. v ≤ n)
    each (d ∷ ds) = All-cons (λ v. v ≤ n) (unwrap_or from 0) (map maker_of (map (λ reader. let u : Use = record { from = from; to = Some reader } in u) ds)) small (each ds)

  takers_item : (from : Option ℕ) (readers : List ℕ) → All (IsAmong n) readers → All (λ v. v ≤ n) (map taker_of (uses_for from readers))
  takers_item from [] small = All-cons (λ v. v ≤ n) 0 [] (omega arith) (All-nil (λ v. v ≤ n))
  takers_item from (c ∷ cs) small = each (c ∷ cs) small where
    each : (readers : List ℕ) → All (IsAmong n) readers → All (λ v. v ≤ n) (map taker_of (map (λ reader. let u : Use = record { from = from; to = Some reader } in u) readers))
    each [] small = All-nil (λ v. v ≤ n)
    each (d ∷ ds) small =
        All-cons (λ v. v ≤ n) d (map taker_of (map (λ reader. let u : Use = record { from = from; to = Some reader } in u) ds))
        (All-head (IsAmong n) d ds small).1 (each ds (All-tail (IsAmong n) d ds small))

  pub makers_small : (items : List SharedItem) → All (IsSharedItemWithin n) items → All (λ v. v ≤ n) (map maker_of (uses_of items))
  makers_small [] within = All-nil (λ v. v ≤ n)
  makers_small (x ∷ items) within =
      subst (All (λ v. v ≤ n)) (sym (map-append maker_of (item_uses x) (uses_of items)))
      (All-append (λ v. v ≤ n) (map maker_of (item_uses x)) (map maker_of (uses_of items))
      (makers_item x.from x.readers (maker_small x.from (All-head (IsSharedItemWithin n) x items within).producer))
      (makers_small items (All-tail (IsSharedItemWithin n) x items within)))

  pub takers_small : (items : List SharedItem) → All (IsSharedItemWithin n) items → All (λ v. v ≤ n) (map taker_of (uses_of items))
  takers_small [] within = All-nil (λ v. v ≤ n)
  takers_small (x ∷ items) within =
      subst (All (λ v. v ≤ n)) (sym (map-append taker_of (item_uses x) (uses_of items)))
      (All-append (λ v. v ≤ n) (map taker_of (item_uses x)) (map taker_of (uses_of items))
      (takers_item x.from x.readers (All-head (IsSharedItemWithin n) x items within).readers)
      (takers_small items (All-tail (IsSharedItemWithin n) x items within)))

-- ---- all uses of a system, in rows

pub ends_all : (end : Use → ℕ) (items given : List SharedItem) (i : ℕ) (ends : List ℕ) → length items ≤ i → items ≡ given
    → ends ≡ map end (uses_of (take i items)) → ends ≡ map end (uses_of given)
ends_all end items given i ends long same is =
    is ∙ ap (λ (l : List SharedItem). map end (uses_of l)) (take_all i items long ∙ same)

module _ (system : SharedTaskSystem) (within : IsSharedSystem system) where
  pub few_uses : length (uses_of system.items) < 2 ^ 24
  few_uses = omega (arith, uses-le system.items, within.few_uses, within.few_items)

  pub ends_few : (end : Use → ℕ) (ends : List ℕ) → ends ≡ map end (uses_of system.items) → length ends < 2 ^ 24
  ends_few end ends is = omega (arith, few_uses, ap (λ (l : List ℕ). length l) is, length-map (uses_of system.items) end)

  pub uses_are : (uses : UseTable) → uses.makers.items ≡ map maker_of (uses_of system.items) → uses.takers.items ≡ map taker_of (uses_of system.items)
      → AreRows (length system.tasks) uses.makers.items uses.made → AreRows (length system.tasks) uses.takers.items uses.taken → AreUses system uses
  uses_are uses makers takers made taken = record {
    makers = makers;
    takers = takers;
    made = record { same_len = sym same; small = subst (All (λ v. v ≤ length system.tasks)) (sym takers) (takers_small (length system.tasks) system.items within.items); in_rows = made };
    taken = record { same_len = same; small = subst (All (λ v. v ≤ length system.tasks)) (sym makers) (makers_small (length system.tasks) system.items within.items); in_rows = taken };
    few = ends_few maker_of uses.makers.items makers;
  } where
    same : length uses.makers.items ≡ length uses.takers.items
    same = omega (
      arith,
      ap (λ (l : List ℕ). length l) makers,
      ap (λ (l : List ℕ). length l) takers,
      length-map (uses_of system.items) maker_of,
      length-map (uses_of system.items) taker_of,
    )
