-- Items that are made one after the other: one reader more, one item more, and how many readers there are.
use Rattle.std.proofs.Common.{◌≡◌, ℕ, zero, suc, ◌+◌, ◌-◌, ◌<◌, ◌≤◌, List, [], ◌∷◌, ◌++◌, length}
use Rattle.std.proofs.Common.{take, drop, refl, sym, ap, ◌∙◌, arith, inl, inr, length-append, length-drop}
use Rattle.std.specs.List.{sum_by}
use Rattle.std.proofs.Math.Seq.{drop-length}
use Rattle.std.proofs.lemmas.Bool.{cases_lt}
use Rattle.std.proofs.lemmas.List.{drop-append-le, take-append-le, length-take-le, length_push, take_all, get_or_append_left, get_or_push}
use Rattle.std.proofs.lemmas.List.Sums.{sum_by-cons}
use Rattle.mp_system.specs.Given.{end_given}
use Rattle.shared_systems.specs.declared.items.Entry.{Entry}
use Rattle.shared_systems.specs.Shared.{SharedItem}
use Rattle.shared_systems.specs.Bounds.{reader_count}
use Rattle.shared_systems.specs.Growing.{ItemsSoFar, with_reader, with_item}
use Rattle.shared_systems.specs.Stored.{stored_items, end_at, start_at, AreStored}
use Rattle.shared_systems.proofs.StoredItems.{entry, no_entry, begin, begin-tail, begin-zero, item_stored, stored_length}

-- the readers of these items, the first of which begin at the place `start`, end one after the other, and within the list
record AreStoredFrom (start : ℕ) (xs : List Entry) (readers : List ℕ) : Type 0 where
  rising : (i : ℕ) → i < length xs → begin start xs i ≤ end_at xs i
  within : (i : ℕ) → i < length xs → end_at xs i ≤ length readers

from_first : (xs : List Entry) (readers : List ℕ) → AreStored xs readers → AreStoredFrom 0 xs readers
from_first xs readers stored = record {
  rising = λ i lt. (let e = stored.rising i lt in omega (arith, e, begin-zero xs i));
  within = stored.within;
}

module _ (start : ℕ) (x : Entry) (xs : List Entry) (readers : List ℕ) (stored : AreStoredFrom start (x ∷ xs) readers) where
  first_up : start ≤ x.end
  first_up = stored.rising 0 (omega arith)

  first_within : x.end ≤ length readers
  first_within = stored.within 0 (omega arith)

  later : AreStoredFrom x.end xs readers
  later = record {
    rising = λ i lt. (let e = stored.rising (suc i) (omega arith) in omega (arith, e, begin-tail x xs i));
    within = λ i lt. stored.within (suc i) (omega arith);
  }

-- readers that are put behind all others belong to none of the items
more : (start : ℕ) (xs : List Entry) (readers further : List ℕ) → AreStoredFrom start xs readers
    → stored_items start xs (readers ++ further) ≡ stored_items start xs readers
more start [] readers further stored = refl
more start (x ∷ xs) readers further stored =
    let up = first_up start x xs readers stored in
    let within = first_within start x xs readers stored in
    let own : take (x.end - start) (drop start (readers ++ further)) ≡ take (x.end - start) (drop start readers) =
    ap (take (x.end - start)) (drop-append-le start readers further (omega (arith, up, within)))
    ∙ take-append-le (x.end - start) (drop start readers) further (omega (arith, up, within, length-drop start readers)) in
    ap (λ (rs : List ℕ). record { size = x.size; from = end_given x.from; readers = rs } ∷ stored_items x.end xs (readers ++ further)) own
    ∙ ap (λ (ys : List SharedItem). item_stored x start readers ∷ ys) (more x.end xs readers further (later start x xs readers stored))

-- an item more has the readers from where those of the last one end
one_more : (start : ℕ) (xs : List Entry) (x : Entry) (readers : List ℕ)
    → stored_items start (xs ++ x ∷ []) readers ≡ stored_items start xs readers ++ item_stored x (begin start xs (length xs)) readers ∷ []
one_more start [] x readers = refl
one_more start (y ∷ xs) x readers =
    ap (λ (ys : List SharedItem). item_stored y start readers ∷ ys)
    (one_more y.end xs x readers
    ∙ ap (λ (k : ℕ). stored_items y.end xs readers ++ item_stored x k readers ∷ []) (begin-tail y xs (length xs)))

-- where the readers of the last item end
last_within : (start : ℕ) (xs : List Entry) (readers : List ℕ) → start ≤ length readers → AreStoredFrom start xs readers
    → begin start xs (length xs) ≤ length readers
last_within start [] readers le stored = le
last_within start (x ∷ xs) readers le stored =
    let rest = last_within x.end xs readers (first_within start x xs readers stored) (later start x xs readers stored) in
    omega (arith, rest, begin-tail x xs (length xs))

counted : (start : ℕ) (xs : List Entry) (readers : List ℕ) → AreStoredFrom start xs readers
    → start + sum_by reader_count (stored_items start xs readers) ≡ begin start xs (length xs)
counted start [] readers stored = omega arith
counted start (x ∷ xs) readers stored =
    let up = first_up start x xs readers stored in
    let within = first_within start x xs readers stored in
    let own : length (take (x.end - start) (drop start readers)) ≡ x.end - start =
    length-take-le (x.end - start) (drop start readers) (omega (arith, up, within, length-drop start readers)) in
    let rest = counted x.end xs readers (later start x xs readers stored) in
    omega (
      arith,
      up,
      own,
      rest,
      sum_by-cons reader_count (item_stored x start readers) (stored_items x.end xs readers),
      begin-tail x xs (length xs),
    )

-- where the readers that wait begin
abbrev pub closed : List Entry → ℕ
closed xs = start_at xs (length xs)

module _ (xs : List Entry) (readers : List ℕ) (stored : AreStored xs readers) where
  closed_within : closed xs ≤ length readers
  closed_within = (let e = last_within 0 xs readers (omega arith) (from_first xs readers stored) in omega (arith, e, begin-zero xs (length xs)))

  pub uses_are : length readers ≡ sum_by reader_count (stored_items 0 xs readers) + length (drop (closed xs) readers)
  uses_are =
      let sums = counted 0 xs readers (from_first xs readers stored) in
      omega (arith, sums, begin-zero xs (length xs), closed_within, length-drop (closed xs) readers)

  -- one reader more
  pub reader_kept : (c : ℕ) → AreStored xs (readers ++ c ∷ [])
  reader_kept c = record {
    rising = stored.rising;
    within = λ i lt. (let e = stored.within i lt in omega (arith, e, length-append readers (c ∷ [])));
  }

  pub reader_more : (c : ℕ) → stored_items 0 xs (readers ++ c ∷ []) ≡ stored_items 0 xs readers
  reader_more c = more 0 xs readers (c ∷ []) (from_first xs readers stored)

  pub reader_waits : (c : ℕ) → drop (closed xs) (readers ++ c ∷ []) ≡ drop (closed xs) readers ++ c ∷ []
  reader_waits c = drop-append-le (closed xs) readers (c ∷ []) closed_within

  -- one item more, whose readers end with the list
  module _ (size from : ℕ) where
    last : Entry
    last = entry size from (length readers)

    longer : List Entry
    longer = xs ++ last ∷ []

    end_before : (i : ℕ) → i < length xs → end_at longer i ≡ end_at xs i
    unfolding longer
    end_before i lt = ap (λ (x : Entry). x.end) (get_or_append_left xs (last ∷ []) no_entry i lt)

    end_last : end_at longer (length xs) ≡ length readers
    unfolding longer last
    end_last = ap (λ (x : Entry). x.end) (get_or_push xs last no_entry (length xs) refl)

    start_before : (i : ℕ) → i ≤ length xs → start_at longer i ≡ start_at xs i
    start_before zero le = refl
    start_before (suc i) le = end_before i (omega arith)

    end_up : (i : ℕ) → i < length longer → (start_at longer i ≤ end_at longer i) × (end_at longer i ≤ length readers)
    unfolding longer
    end_up i lt = elim (cases_lt i (length xs)) [
      | inl before ↦ (let up = stored.rising i before in
          let within = stored.within i before in
          let same = end_before i before in
          (omega (arith, up, same, start_before i (omega arith)), omega (arith, within, same)))
      | inr past ↦ (let is : length xs ≡ i = omega (arith, past, length_push xs last) in
          let end : end_at longer i ≡ length readers = rw (← is) end_last in
          let start : start_at longer i ≡ closed xs = rw (← is) (start_before (length xs) (omega arith)) in
          (omega (arith, start, end, closed_within), omega (arith, end)))
    ]

    pub item_kept : AreStored (xs ++ entry size from (length readers) ∷ []) readers
    unfolding longer last
    item_kept = record { rising = λ i lt. (end_up i lt).0; within = λ i lt. (end_up i lt).1 }

    pub item_more :
        stored_items 0 (xs ++ entry size from (length readers) ∷ []) readers
        ≡ stored_items 0 xs readers ++ record { size = size; from = end_given from; readers = drop (closed xs) readers } ∷ []
    item_more =
        let own : take (length readers - begin 0 xs (length xs)) (drop (begin 0 xs (length xs)) readers) ≡ drop (closed xs) readers =
        take_all (length readers - begin 0 xs (length xs)) (drop (begin 0 xs (length xs)) readers)
        (omega (arith, length-drop (begin 0 xs (length xs)) readers))
        ∙ ap (λ (k : ℕ). drop k readers) (begin-zero xs (length xs)) in
        one_more 0 xs (entry size from (length readers)) readers
        ∙ ap (λ (rs : List ℕ). stored_items 0 xs readers ++ record { size = size; from = end_given from; readers = rs } ∷ []) own

    pub none_waits : drop (closed (xs ++ entry size from (length readers) ∷ [])) readers ≡ []
    unfolding longer last
    none_waits =
        let long : length longer ≡ suc (length xs) = omega (arith, length_push xs last) in
        let end : closed longer ≡ length readers = ap (start_at longer) long ∙ end_last in
        ap (λ (k : ℕ). drop k readers) end ∙ drop-length readers

-- ---- what the code holds, seen as a value

abbrev pub so_far : List Entry → List ℕ → ItemsSoFar
so_far xs readers = record { items = stored_items 0 xs readers; waiting = drop (closed xs) readers }

module _ (xs : List Entry) (readers : List ℕ) (stored : AreStored xs readers) (now : ItemsSoFar) (view : so_far xs readers ≡ now) where
  pub items_long : length now.items ≡ length xs
  items_long = sym (ap (λ (made : ItemsSoFar). length made.items) view) ∙ stored_length 0 xs readers

  pub uses_now : length readers ≡ sum_by reader_count now.items + length now.waiting
  uses_now =
      uses_are xs readers stored
      ∙ ap (λ (made : ItemsSoFar). sum_by reader_count made.items + length made.waiting) view

  pub with_reader_is : (c : ℕ) (later : List ℕ) → later ≡ readers ++ c ∷ [] → so_far xs later ≡ with_reader now c
  with_reader_is c later is =
      ap (so_far xs) is
      ∙ (λ i. record { items = reader_more xs readers stored c i; waiting = reader_waits xs readers stored c i })
      ∙ ap (λ (made : ItemsSoFar). with_reader made c) view

  module _ (size from end : ℕ) (later : List Entry) (is : later ≡ xs ++ entry size from end ∷ [])
      (end_is : end ≡ sum_by reader_count now.items + length now.waiting) where
    later_is : later ≡ xs ++ entry size from (length readers) ∷ []
    later_is = is ∙ ap (λ (k : ℕ). xs ++ entry size from k ∷ []) (end_is ∙ sym uses_now)

    pub later_kept : AreStored later readers
    later_kept = rw later_is (item_kept xs readers stored size from)

    pub with_item_is : so_far later readers ≡ with_item now size from
    with_item_is =
        ap (λ (ys : List Entry). so_far ys readers) later_is
        ∙ (λ i. record { items = item_more xs readers stored size from i; waiting = none_waits xs readers stored size from i })
        ∙ ap (λ (made : ItemsSoFar). with_item made size from) view
