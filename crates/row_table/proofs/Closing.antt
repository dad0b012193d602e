-- Gaps between rows that lie in rooms, closed: each row stands behind the rows before it.
use Rattle.std.proofs.Common.{◌≡◌, ◌∙◌, sym, ap, ℕ, zero, suc, ◌+◌, ◌-◌, ◌<◌, ◌≤◌, List, [], ◌++◌}
use Rattle.std.proofs.Common.{length, get_or, slice_range, set, map, take, drop, arith, refl, inl, inr, length-append}
use Rattle.std.specs.List.{range_with_len}
use Rattle.std.proofs.Math.Seq.{drop-append_seam}
use Rattle.std.proofs.lemmas.List.{length-set, get_or-set_same, get_or-set_other, same_lists, take-append-le, take-take, take_all}
use Rattle.std.proofs.lemmas.List.Edits.{length-between}
use Rattle.std.proofs.lemmas.List.FromFn.{length-map-range_with_len, get_or-map-range_with_len}
use Rattle.std.proofs.lemmas.Slice.{between_is}
use Rattle.std.proofs.lemmas.Bool.{cases_eq}
use Rattle.row_table.specs.Rooms.{row_in, rows_in_rooms, AreRooms}
use Rattle.row_table.specs.Table.{rows_of, IsTable}
use Rattle.row_table.proofs.Rooms.{inside, drop_same, part_back}
use Rattle.row_table.proofs.Tables.{length-rows_of, get_or-rows_of}

module _ (starts ends numbers : List ℕ) where
  -- the rows before row k, one after the other
  abbrev pub joined : ℕ → List ℕ
  joined zero = []
  joined (suc k) = joined k ++ row_in starts ends numbers k

  -- the rows before row k stand there, up to a place, and the others where they were
  pub record AreClosed (new_starts new_numbers : List ℕ) (k to : ℕ) : Type 0 where
    pub starts_len : length new_starts ≡ length starts
    pub len : length new_numbers ≡ length numbers
    pub to_is : to ≡ length (joined k)
    pub low : to ≤ get_or starts k 0
    pub front : take to new_numbers ≡ joined k
    pub back : drop (get_or starts k 0) new_numbers ≡ drop (get_or starts k 0) numbers
    pub done : (j : ℕ) → j < k → get_or new_starts j 0 ≡ length (joined j)
    pub ahead : (j : ℕ) → k ≤ j → get_or new_starts j 0 ≡ get_or starts j 0

  joined_more : (k : ℕ) → joined (k + 1) ≡ joined k ++ row_in starts ends numbers k
  joined_more k = let next : k + 1 ≡ suc k = omega arith in ap joined next

  joined_rising : (j k : ℕ) → j ≤ k → length (joined j) ≤ length (joined k)
  joined_rising j zero le = let e : j ≡ 0 = omega arith in rw e (omega arith)
  joined_rising j (suc k) le = elim (cases_eq j (suc k)) [
    | inl e ↦ rw e (omega arith)
    | inr ne ↦ omega (arith, joined_rising j k (omega arith), length-append (joined k) (row_in starts ends numbers k))
  ]

  -- the rows before row j come first
  joined_front : (j k : ℕ) → j ≤ k → take (length (joined j)) (joined k) ≡ joined j
  joined_front j zero le = let e : j ≡ 0 = omega arith in rw e refl
  joined_front j (suc k) le = elim (cases_eq j (suc k)) [
    | inl e ↦ rw e (take_all (length (joined (suc k))) (joined (suc k)) (omega arith))
    | inr ne ↦
        take-append-le (length (joined j)) (joined k) (row_in starts ends numbers k) (joined_rising j k (omega arith))
        ∙ joined_front j k (omega arith)
  ]

  module _ (rooms : AreRooms starts ends numbers) (new_starts new_numbers : List ℕ) where
    -- row k, with the facts that the code reads
    module _ (k to : ℕ) (closed : AreClosed new_starts new_numbers k to) (lt : k < length ends) where
      pub row_ahead : (to ≤ get_or new_starts k 0) × (get_or new_starts k 0 ≤ get_or ends k 0) × (get_or ends k 0 ≤ length new_numbers)
      row_ahead =
          let i = inside starts ends numbers rooms k lt in
          let start = closed.ahead k (omega arith) in
          let low = closed.low in
          let len = closed.len in (omega arith, omega (arith, i.0, start), omega (arith, i.1, i.2, len))

      -- moved down
      pub closed-more : (start end : ℕ) (moved : List ℕ) → start ≡ get_or new_starts k 0 → end ≡ get_or ends k 0
          → length moved ≡ length new_numbers
          → take (to + (end - start)) moved ≡ take to new_numbers ++ slice_range new_numbers start end
          → drop end moved ≡ drop end new_numbers
          → AreClosed (set new_starts k to) moved (k + 1) (to + (end - start))
      closed-more start end moved start_is end_is moved_len front back =
          let i = inside starts ends numbers rooms k lt in
          let at : start ≡ get_or starts k 0 = start_is ∙ closed.ahead k (omega arith) in
          let row = row_in starts ends numbers k in
          let same : slice_range new_numbers start end ≡ row_in starts ends numbers k =
          rw (at, end_is)
          (part_back new_numbers numbers (get_or starts k 0) (get_or ends k 0) (get_or starts k 0) closed.back (omega arith)) in
          let long : length (row_in starts ends numbers k) ≡ end - start =
          rw (at, end_is) (length-between numbers (get_or starts k 0) (get_or ends k 0) (omega (arith, i.1, i.2))) in
          let next = joined_more k in
          record {
            starts_len = length-set new_starts k to ∙ closed.starts_len;
            len = moved_len ∙ closed.len;
            to_is = omega (arith, ap length next, length-append (joined k) row, long, closed.to_is);
            low = omega (arith, i.0, i.1, at, end_is, closed.low);
            front = front ∙ ap (λ (l : List ℕ). l ++ slice_range new_numbers start end) closed.front
                ∙ ap (λ (l : List ℕ). joined k ++ l) same ∙ sym next;
            back = drop_same moved new_numbers end (get_or starts (k + 1) 0) back (omega (arith, i.1, end_is))
                ∙ drop_same new_numbers numbers (get_or starts k 0) (get_or starts (k + 1) 0) closed.back (omega (arith, i.0, i.1));
            done = λ j lj. elim (cases_eq j k) [
              | inl e ↦ rw (e, get_or-set_same new_starts k to 0 (omega (arith, lt, closed.starts_len, rooms.starts_len))) closed.to_is
              | inr ne ↦ get_or-set_other new_starts k j to 0 ne ∙ closed.done j (omega arith)
            ];
            ahead = λ j le. get_or-set_other new_starts k j to 0 (omega arith) ∙ closed.ahead j (omega arith);
          }

    -- all rows are moved: the table has them
    module _ (k to : ℕ) (all : k ≡ length ends) (closed : AreClosed new_starts new_numbers k to) where
      starts_after : length (set new_starts (length ends) to) ≡ length ends + 1
      starts_after = length-set new_starts (length ends) to ∙ closed.starts_len ∙ rooms.starts_len

      start_is : (j : ℕ) → j ≤ length ends → get_or (set new_starts (length ends) to) j 0 ≡ length (joined j)
      start_is j le = elim (cases_eq j (length ends)) [
        | inl e ↦
            (let last : length ends < length new_starts = omega (arith, closed.starts_len, rooms.starts_len) in
            rw (e, get_or-set_same new_starts (length ends) to 0 last, ← all) closed.to_is)
        | inr ne ↦ get_or-set_other new_starts (length ends) j to 0 ne ∙ closed.done j (omega (arith, all))
      ]

      closed_row : (j : ℕ) → j < length ends
          → slice_range new_numbers (get_or (set new_starts (length ends) to) j 0) (get_or (set new_starts (length ends) to) (j + 1) 0)
          ≡ row_in starts ends numbers j
      closed_row j lt =
          let a : ℕ = length (joined j) in
          let b : ℕ = length (joined (j + 1)) in
          let up = joined_rising (j + 1) k (omega (arith, all)) in
          let fits : length (joined (j + 1)) ≤ to = omega (arith, up, closed.to_is) in
          let front : take b new_numbers ≡ joined j ++ row_in starts ends numbers j =
          sym (take-take b to new_numbers fits)
          ∙ ap (take b) closed.front ∙ joined_front (j + 1) k (omega (arith, all)) ∙ joined_more j in
          rw (start_is j (omega arith), start_is (j + 1) (omega arith))
          (between_is new_numbers a b ∙ ap (drop a) front ∙ drop-append_seam (joined j) (row_in starts ends numbers j))

      pub closed-table : IsTable (set new_starts (length ends) to) new_numbers
      closed-table = record {
        some = omega (arith, starts_after);
        rising = λ j lt. omega (
          arith,
          start_is j (omega (arith, starts_after)),
          start_is (j + 1) (omega (arith, starts_after)),
          joined_rising j (j + 1) (omega arith),
        );
        within = λ j lt.
            let up = joined_rising j k (omega (arith, starts_after, all)) in
            let last : get_or starts k 0 ≤ length numbers = rw all rooms.all in
            omega (arith, start_is j (omega (arith, starts_after)), up, closed.to_is, closed.low, closed.len, last);
      }

      pub closed-rows : rows_of (set new_starts (length ends) to) new_numbers ≡ (rows_in_rooms starts ends numbers).rows
      closed-rows =
          let new : List ℕ = set new_starts (length ends) to in
          let count = length-rows_of new new_numbers in
          same_lists (rows_of new new_numbers) (map (row_in starts ends numbers) (range_with_len 0 (length ends)))
          (omega (arith, count, starts_after, length-map-range_with_len (row_in starts ends numbers) 0 (length ends)))
          (λ j d lt.
          let lj : j < length ends = omega (arith, count, starts_after) in
          get_or-rows_of new new_numbers j d (omega (arith, starts_after))
          ∙ closed_row j lj
          ∙ sym (get_or-map-range_with_len (row_in starts ends numbers) 0 (length ends) j j d lj (omega arith)))
