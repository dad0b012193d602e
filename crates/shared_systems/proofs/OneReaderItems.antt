-- Items with one reader or none, as the code holds them.
use Rattle.std.proofs.Common.{◌≡◌, ℕ, zero, suc, ◌+◌, ◌<◌, ◌≤◌, List, [], ◌∷◌, ◌++◌, length, length-append}
use Rattle.std.proofs.Common.{map, take, get_or, Option, Some, None, unwrap_or, refl, sym, ap, subst, ◌∙◌, arith}
use Rattle.std.specs.Prelude.{All}
use Rattle.std.specs.List.{sum_by, flat_map}
use Rattle.std.proofs.lemmas.List.{map-append, map_more, take_more, take_all, flat_map_more, length-map, length-take}
use Rattle.std.proofs.lemmas.Bool.{ne_eqb}
use Rattle.std.proofs.lemmas.List.Concat.{length-flat_map}
use Rattle.std.proofs.lemmas.List.Elements.{All-head, All-tail, All-map, All-take}
use Rattle.limits.specs.Limits.{most_arcs}
use Rattle.lists.proofs.Lists.{sum_by-map}
use Rattle.mp_system.specs.declared.system.Item.{Item}
use Rattle.mp_system.specs.Given.{end_given}
use Rattle.graphs.specs.declared.arc.Arc.{Arc}
use Rattle.graphs.specs.Graph.{TaskGraph, IsGraph, end_of, item_of_arc, added_arcs}
use Rattle.shared_systems.specs.declared.items.Entry.{Entry}
use Rattle.shared_systems.specs.declared.given.GivenSharedItem.{GivenSharedItem}
use Rattle.shared_systems.specs.Shared.{SharedItem}
use Rattle.shared_systems.specs.Given.{items_given, count_given}
use Rattle.shared_systems.specs.OneReader.{readers_of, shared_item_of}
use Rattle.shared_systems.specs.Stored.{stored_items, entries_of, AreStored}
use Rattle.shared_systems.proofs.StoredItems.{entry, given_is, stored_from, entries-push}

abbrev pub own_readers : Item → List ℕ
own_readers x = readers_of x.to

-- the item as an array gives it
abbrev pub given_of : Item → GivenSharedItem
given_of x = record { size = x.size; from = unwrap_or x.from 0; readers = length (readers_of x.to) }

-- the entries and the readers of some items
pub record IsMade (xs : List Item) (entries : List Entry) (readers : List ℕ) : Type 0 where
  pub entries_are : entries ≡ entries_of 0 (map given_of xs)
  pub readers_are : readers ≡ flat_map own_readers xs

pub made-none : (entries : List Entry) (readers : List ℕ) → entries ≡ [] → readers ≡ [] → IsMade [] entries readers
made-none entries readers no_entries no_readers = record { entries_are = no_entries; readers_are = no_readers }

counts : (xs : List Item) → sum_by count_given (map given_of xs) ≡ length (flat_map own_readers xs)
counts xs = sum_by-map count_given given_of xs ∙ sym (length-flat_map own_readers xs)

few : (to : Option ℕ) → length (readers_of to) ≤ 1
few None = omega arith
few (Some c) = omega arith

few-readers : (xs : List Item) → length (flat_map own_readers xs) ≤ length xs
few-readers [] = omega arith
few-readers (x ∷ xs) = omega (arith, length-append (own_readers x) (flat_map own_readers xs), few x.to, few-readers xs)

module _ (xs : List Item) (entries : List Entry) (readers : List ℕ) (made : IsMade xs entries readers) where
  pub made-few : length readers ≤ length xs
  made-few = rw made.readers_are (few-readers xs)

  -- one item more
  pub made-push : (x : Item) (later : List Entry) (more : List ℕ) → more ≡ readers ++ readers_of x.to
      → later ≡ entries ++ entry x.size (unwrap_or x.from 0) (length more) ∷ [] → IsMade (xs ++ x ∷ []) later more
  made-push x later more more_is later_is =
      let long : length more ≡ sum_by count_given (map given_of xs) + length (readers_of x.to) = omega (
        arith,
        ap (λ (l : List ℕ). length l) more_is,
        length-append readers (readers_of x.to),
        ap (λ (l : List ℕ). length l) made.readers_are,
        counts xs,
      ) in
      record {
        entries_are = later_is
            ∙ ap (λ (es : List Entry). es ++ entry x.size (unwrap_or x.from 0) (length more) ∷ []) made.entries_are
            ∙ sym (ap (entries_of 0) (map-append given_of xs (x ∷ [])) ∙ entries-push (map given_of xs) (given_of x) (length more) long);
        readers_are = more_is ∙ ap (λ (l : List ℕ). l ++ readers_of x.to) made.readers_are ∙ flat_map_more own_readers [] xs x;
      }

  pub made-stored : AreStored entries readers
  made-stored =
      stored_from entries (map given_of xs) readers made.entries_are (counts xs ∙ sym (ap (λ (l : List ℕ). length l) made.readers_are))

-- a producer is no 0
abbrev pub HasNumber : Item → Type 0
HasNumber x = end_given (unwrap_or x.from 0) ≡ x.from

given-first : (size : ℕ) (from to : Option ℕ) (xs : List GivenSharedItem) (rest : List ℕ) → end_given (unwrap_or from 0) ≡ from
    → items_given (record { size = size; from = unwrap_or from 0; readers = length (readers_of to) } ∷ xs) (readers_of to ++ rest)
    ≡ record { size = size; from = from; readers = readers_of to } ∷ items_given xs rest
given-first size from None xs rest e =
    ap (λ (f : Option ℕ). record { size = size; from = f; readers = [] } ∷ items_given xs rest) e
given-first size from (Some c) xs rest e =
    ap (λ (f : Option ℕ). record { size = size; from = f; readers = c ∷ [] } ∷ items_given xs rest) e

given-items : (xs : List Item) → All HasNumber xs → items_given (map given_of xs) (flat_map own_readers xs) ≡ map shared_item_of xs
given-items [] each = refl
given-items (x ∷ xs) each =
    given-first x.size x.from x.to (map given_of xs) (flat_map own_readers xs) (All-head HasNumber x xs each)
    ∙ ap (λ (l : List SharedItem). shared_item_of x ∷ l) (given-items xs (All-tail HasNumber x xs each))

pub made-items : (xs : List Item) (entries : List Entry) (readers : List ℕ) → IsMade xs entries readers
    → All HasNumber xs → stored_items 0 entries readers ≡ map shared_item_of xs
made-items xs entries readers made each =
    given_is entries (map given_of xs) readers (flat_map own_readers xs) made.entries_are made.readers_are ∙ given-items xs each

-- ---- the ends of arcs, and of the items of a system

pub number-end : (t : ℕ) → unwrap_or (end_of t) 0 ≡ t
number-end zero = refl
number-end (suc t) = refl

end-some : (t : ℕ) → 1 ≤ t → end_given t ≡ Some t
end-some t some = rw (ne_eqb t 0 (λ e. absurd (omega (arith, some, e)))) refl

pub end-same : (t : ℕ) → end_given t ≡ end_of t
end-same zero = refl
end-same (suc t) = end-some (suc t) (omega arith)

pub arcs-numbered : (arcs : List Arc) → All HasNumber (map item_of_arc arcs)
arcs-numbered arcs = All-map HasNumber item_of_arc arcs
    (λ i d lt. let from = (get_or arcs i d).from in ap end_given (number-end from) ∙ end-same from)

pub numbered : (from : Option ℕ) → ((u : ℕ) → from ≡ Some u → 1 ≤ u) → end_given (unwrap_or from 0) ≡ from
numbered None some = refl
numbered (Some u) some = end-some u (some u refl)

-- ---- one arc more, and one item more

abbrev pub no_arc : Arc
no_arc = record { from = 0; to = 0; size = 0 }

abbrev pub no_single : Item
no_single = record { size = 0; from = None; to = None }

module _ (entries later : List Entry) (readers more : List ℕ) where
  pub arc-next : (arcs : List Arc) (i : ℕ) → i < length arcs → IsMade (map item_of_arc (take i arcs)) entries readers
      → more ≡ readers ++ readers_of (end_given (get_or arcs i no_arc).to)
      → later ≡ entries ++ entry (get_or arcs i no_arc).size (get_or arcs i no_arc).from (length more) ∷ []
      → IsMade (map item_of_arc (take (i + 1) arcs)) later more
  arc-next arcs i lt made more_is later_is =
      let arc = get_or arcs i no_arc in
      subst (λ (xs : List Item). IsMade xs later more) (sym (map_more item_of_arc arcs i no_arc lt))
      (made-push (map item_of_arc (take i arcs)) entries readers made (item_of_arc arc) later more
      (more_is ∙ ap (λ (to : Option ℕ). readers ++ readers_of to) (end-same arc.to))
      (later_is ∙ ap (λ (u : ℕ). entries ++ entry arc.size u (length more) ∷ []) (sym (number-end arc.from))))

  pub item-next : (xs : List Item) (i from to : ℕ) → i < length xs → IsMade (take i xs) entries readers
      → ((c : ℕ) → (get_or xs i no_single).to ≡ Some c → 1 ≤ c)
      → from ≡ unwrap_or (get_or xs i no_single).from 0 → to ≡ unwrap_or (get_or xs i no_single).to 0
      → more ≡ readers ++ readers_of (end_given to) → later ≡ entries ++ entry (get_or xs i no_single).size from (length more) ∷ []
      → IsMade (take (i + 1) xs) later more
  item-next xs i from to lt made some from_is to_is more_is later_is =
      let x = get_or xs i no_single in
      subst (λ (ys : List Item). IsMade ys later more) (sym (take_more xs i no_single lt))
      (made-push (take i xs) entries readers made x later more
      (more_is ∙ ap (λ (c : ℕ). readers ++ readers_of (end_given c)) to_is
      ∙ ap (λ (c : Option ℕ). readers ++ readers_of c) (numbered x.to some))
      (later_is ∙ ap (λ (u : ℕ). entries ++ entry x.size u (length more) ∷ []) from_is))

module _ (entries : List Entry) (readers : List ℕ) (made : List SharedItem) (made_is : made ≡ stored_items 0 entries readers) where
  pub arcs-made : (arcs : List Arc) (i : ℕ) → length arcs ≤ i → IsMade (map item_of_arc (take i arcs)) entries readers
      → made ≡ map shared_item_of (map item_of_arc arcs)
  arcs-made arcs i all are =
      made_is ∙ made-items (map item_of_arc (take i arcs)) entries readers are (arcs-numbered (take i arcs))
      ∙ ap (λ (l : List Arc). map shared_item_of (map item_of_arc l)) (take_all i arcs all)

  pub items-made : (xs : List Item) (i : ℕ) → length xs ≤ i → IsMade (take i xs) entries readers → All HasNumber xs
      → made ≡ map shared_item_of xs
  items-made xs i all are each =
      made_is ∙ made-items (take i xs) entries readers are (All-take HasNumber i xs each)
      ∙ ap (map shared_item_of) (take_all i xs all)

-- ---- few enough

pub few-arcs : (graph : TaskGraph) → IsGraph graph → length graph.arcs ≤ most_arcs
few-arcs graph is = omega (arith, is.few_arcs, length-append graph.arcs (added_arcs (length graph.tasks) graph.arcs))

pub arcs-few : (arcs : List Arc) (i : ℕ) (entries : List Entry) (readers : List ℕ)
    → IsMade (map item_of_arc (take i arcs)) entries readers → length readers ≤ i
arcs-few arcs i entries readers made =
    omega (
      arith,
      made-few (map item_of_arc (take i arcs)) entries readers made,
      length-map (take i arcs) item_of_arc,
      length-take i arcs,
    )

pub items-few : (xs : List Item) (i : ℕ) (entries : List Entry) (readers : List ℕ) → IsMade (take i xs) entries readers → length readers ≤ i
items-few xs i entries readers made = omega (arith, made-few (take i xs) entries readers made, length-take i xs)
