-- Items as the code holds them: how many there are, each by its place, and those that arrays give.
use Rattle.std.proofs.Common.{◌≡◌, ℕ, zero, suc, ◌+◌, ◌-◌, ◌<◌, ◌≤◌, List, [], ◌∷◌, ◌++◌, length}
use Rattle.std.proofs.Common.{take, drop, get_or, refl, sym, ap, ◌∙◌, arith, Option}
use Rattle.std.specs.List.{sum_by}
use Rattle.std.proofs.lemmas.List.{get_or_read, take_more}
use Rattle.std.proofs.lemmas.List.Sums.{sum_by-cons, sum_by_more}
use Rattle.mp_system.specs.Given.{end_given}
use Rattle.shared_systems.specs.declared.items.Entry.{Entry}
use Rattle.shared_systems.specs.declared.given.GivenSharedItem.{GivenSharedItem}
use Rattle.shared_systems.specs.Shared.{SharedItem, shared_item_at}
use Rattle.shared_systems.specs.Given.{items_given, count_given}
use Rattle.shared_systems.specs.Stored.{stored_items, end_at, start_at, entries_of, AreStored}

abbrev pub entry : ℕ → ℕ → ℕ → Entry
entry size from end = record { size = size; from = from; end = end }

abbrev pub no_entry : Entry
no_entry = entry 0 0 0

abbrev item_of : ℕ → Option ℕ → List ℕ → SharedItem
item_of size from readers = record { size = size; from = from; readers = readers }

pub stored_length : (start : ℕ) (xs : List Entry) (readers : List ℕ) → length (stored_items start xs readers) ≡ length xs
stored_length start [] readers = refl
stored_length start (x ∷ xs) readers = omega (arith, stored_length x.end xs readers)

-- where the readers of the item at a place begin, if those of the first begin at `start`
abbrev pub begin : ℕ → List Entry → ℕ → ℕ
begin start xs zero = start
begin start xs (suc i) = end_at xs i

pub begin-tail : (x : Entry) (xs : List Entry) (i : ℕ) → begin x.end xs i ≡ end_at (x ∷ xs) i
begin-tail x xs zero = refl
begin-tail x xs (suc i) = refl

abbrev pub item_stored : Entry → ℕ → List ℕ → SharedItem
item_stored x start readers = record { size = x.size; from = end_given x.from; readers = take (x.end - start) (drop start readers) }

at : (start : ℕ) (xs : List Entry) (readers : List ℕ) (i : ℕ) → i < length xs
    → shared_item_at (stored_items start xs readers) i ≡ item_stored (get_or xs i no_entry) (begin start xs i) readers
at start [] readers i lt = absurd (omega arith)
at start (x ∷ xs) readers zero lt = refl
at start (x ∷ xs) readers (suc i) lt =
    at x.end xs readers i (omega arith) ∙ ap (λ (k : ℕ). item_stored (get_or xs i no_entry) k readers) (begin-tail x xs i)

pub begin-zero : (xs : List Entry) (i : ℕ) → begin 0 xs i ≡ start_at xs i
begin-zero xs zero = refl
begin-zero xs (suc i) = refl

module _ (xs : List Entry) (readers : List ℕ) (i : ℕ) (lt : i < length xs) where
  item_is : shared_item_at (stored_items 0 xs readers) i ≡ item_stored (get_or xs i no_entry) (start_at xs i) readers
  item_is = at 0 xs readers i lt ∙ ap (λ (k : ℕ). item_stored (get_or xs i no_entry) k readers) (begin-zero xs i)

  pub size_is : (shared_item_at (stored_items 0 xs readers) i).size ≡ (get_or xs i no_entry).size
  size_is = ap (λ (x : SharedItem). x.size) item_is

  pub from_is : (shared_item_at (stored_items 0 xs readers) i).from ≡ end_given (get_or xs i no_entry).from
  from_is = ap (λ (x : SharedItem). x.from) item_is

  pub readers_are :
      (shared_item_at (stored_items 0 xs readers) i).readers ≡ take (end_at xs i - start_at xs i) (drop (start_at xs i) readers)
  readers_are = ap (λ (x : SharedItem). x.readers) item_is

-- what the code reads of the item at a place
module _ (xs : List Entry) (readers : List ℕ) (now : List SharedItem) (view : stored_items 0 xs readers ≡ now) where
  pub long : length now ≡ length xs
  long = sym (ap (λ (l : List SharedItem). length l) view) ∙ stored_length 0 xs readers

  module _ (i : ℕ) (lt : i < length now) where
    pub inside : i < length xs
    inside = omega (arith, lt, long)

    pub size_at : (x : Entry) → x ≡ get_or xs i x → x.size ≡ (shared_item_at now i).size
    size_at x is =
        ap (λ (y : Entry). y.size) (get_or_read xs i x inside is no_entry)
        ∙ sym (size_is xs readers i inside) ∙ ap (λ (l : List SharedItem). (shared_item_at l i).size) view

    pub from_at : (x : Entry) (from : Option ℕ) → x ≡ get_or xs i x → from ≡ end_given x.from → from ≡ (shared_item_at now i).from
    from_at x from is from_is' =
        from_is' ∙ ap (λ (y : Entry). end_given y.from) (get_or_read xs i x inside is no_entry)
        ∙ sym (from_is xs readers i inside) ∙ ap (λ (l : List SharedItem). (shared_item_at l i).from) view

    pub readers_at : take (end_at xs i - start_at xs i) (drop (start_at xs i) readers) ≡ (shared_item_at now i).readers
    readers_at = sym (readers_are xs readers i inside) ∙ ap (λ (l : List SharedItem). (shared_item_at l i).readers) view

-- ---- what arrays give

drop_both : (a b : ℕ) (xs : List ℕ) → drop b (drop a xs) ≡ drop (a + b) xs
drop_both zero b xs = ap (λ (k : ℕ). drop k xs) (omega arith)
drop_both (suc a) b [] = none b ∙ sym (none (suc a + b))
  where
    none : (k : ℕ) → drop {A = ℕ} k [] ≡ []
    none zero = refl
    none (suc k) = refl
drop_both (suc a) b (x ∷ xs) = drop_both a b xs ∙ ap (λ (k : ℕ). drop k (x ∷ xs)) (next)
  where
    next : suc (a + b) ≡ suc a + b
    next = omega arith

pub stored_given : (start : ℕ) (xs : List GivenSharedItem) (readers : List ℕ)
    → stored_items start (entries_of start xs) readers ≡ items_given xs (drop start readers)
stored_given start [] readers = refl
stored_given start (x ∷ xs) readers =
    let long : start + x.readers - start ≡ x.readers = omega arith in
    ap (λ (k : ℕ). item_of x.size (end_given x.from) (take k (drop start readers))
    ∷ stored_items (start + x.readers) (entries_of (start + x.readers) xs) readers) long
    ∙ ap (λ (ys : List SharedItem). item_of x.size (end_given x.from) (take x.readers (drop start readers)) ∷ ys)
    (stored_given (start + x.readers) xs readers ∙ ap (items_given xs) (sym (drop_both start x.readers readers)))

pub given_is : (entries : List Entry) (xs : List GivenSharedItem) (stored readers : List ℕ) → entries ≡ entries_of 0 xs → stored ≡ readers
    → stored_items 0 entries stored ≡ items_given xs readers
given_is entries xs stored readers entries_are stored_is =
    ap (λ (es : List Entry). stored_items 0 es stored) entries_are
    ∙ ap (stored_items 0 (entries_of 0 xs)) stored_is ∙ stored_given 0 xs readers

-- the ends rise up to the number of all readers
ends : (start : ℕ) (xs : List GivenSharedItem) (i : ℕ) → i < length (entries_of start xs)
    → (begin start (entries_of start xs) i ≤ end_at (entries_of start xs) i)
    × (end_at (entries_of start xs) i ≤ start + sum_by count_given xs)
ends start [] i lt = absurd (omega arith)
ends start (x ∷ xs) zero lt = (omega arith, omega (arith, sum_by-cons count_given x xs))
ends start (x ∷ xs) (suc i) lt =
    let rest = ends (start + x.readers) xs i (omega arith) in
    let same = begin-tail (entry x.size x.from (start + x.readers)) (entries_of (start + x.readers) xs) i in
    (omega (arith, rest.0, same), omega (arith, rest.1, sum_by-cons count_given x xs))

pub stored_from : (entries : List Entry) (xs : List GivenSharedItem) (readers : List ℕ)
    → entries ≡ entries_of 0 xs → sum_by count_given xs ≡ length readers
    → AreStored entries readers
stored_from entries xs readers entries_are counts = rw entries_are (record {
  rising = λ i lt. (let e = (ends 0 xs i lt).0 in omega (arith, e, begin-zero (entries_of 0 xs) i));
  within = λ i lt. (let e = (ends 0 xs i lt).1 in omega (arith, e, counts));
})

-- ---- one entry more

entries-append : (start : ℕ) (xs ys : List GivenSharedItem)
    → entries_of start (xs ++ ys) ≡ entries_of start xs ++ entries_of (start + sum_by count_given xs) ys
entries-append start [] ys = ap (λ (k : ℕ). entries_of k ys) (omega arith)
entries-append start (x ∷ xs) ys =
    let sum : start + x.readers + sum_by count_given xs ≡ start + sum_by count_given (x ∷ xs) =
    omega (arith, sum_by-cons count_given x xs) in
    ap (λ (es : List Entry). entry x.size x.from (start + x.readers) ∷ es)
    (entries-append (start + x.readers) xs ys ∙ ap (λ (k : ℕ). entries_of (start + x.readers) xs ++ entries_of k ys) sum)

pub entries-push : (xs : List GivenSharedItem) (x : GivenSharedItem) (end : ℕ) → end ≡ sum_by count_given xs + x.readers
    → entries_of 0 (xs ++ x ∷ []) ≡ entries_of 0 xs ++ entry x.size x.from end ∷ []
entries-push xs x end is =
    let sum : 0 + sum_by count_given xs + x.readers ≡ end = omega (arith, is) in
    entries-append 0 xs (x ∷ []) ∙ ap (λ (k : ℕ). entries_of 0 xs ++ entry x.size x.from k ∷ []) sum

abbrev pub no_given : GivenSharedItem
no_given = record { size = 0; from = 0; readers = 0 }

-- after one item more of the list
module _ (xs : List GivenSharedItem) (i : ℕ) (lt : i < length xs) (entries later : List Entry) (end next : ℕ)
    (entries_are : entries ≡ entries_of 0 (take i xs)) (end_is : end ≡ sum_by count_given (take i xs))
    (next_is : next ≡ end + (get_or xs i no_given).readers) where
  pub end_next : next ≡ sum_by count_given (take (i + 1) xs)
  end_next = omega (arith, next_is, end_is, sum_by_more count_given xs i no_given lt)

  pub entries_next : later ≡ entries ++ entry (get_or xs i no_given).size (get_or xs i no_given).from next ∷ []
      → later ≡ entries_of 0 (take (i + 1) xs)
  entries_next is =
      is ∙ ap (λ (es : List Entry). es ++ entry (get_or xs i no_given).size (get_or xs i no_given).from next ∷ []) entries_are
      ∙ sym (ap (entries_of 0) (take_more xs i no_given lt)
      ∙ entries-push (take i xs) (get_or xs i no_given) next (omega (arith, next_is, end_is)))
