-- Rows tell which tasks need a join.
use Rattle.std.proofs.Common.{◌≡◌, ◌≢◌, ℕ, zero, suc, ◌+◌, ◌-◌, ◌<◌, ◌≤◌, Bool, true, false, eqb, List, [], ◌∷◌, length, get_or, map}
use Rattle.std.proofs.Common.{refl, sym, ap, subst, ◌∙◌, arith, inl, inr}
use Rattle.std.specs.Prelude.{All, ◌↔◌, ◌⊎◌, slice_index}
use Rattle.std.specs.List.{list_all, range_with_len}
use Rattle.std.specs.List.Sorted.{IsStrictlyIncreasing}
use Rattle.std.proofs.lemmas.List.{length-map, get_or_past}
use Rattle.std.proofs.lemmas.List.Kept.{IsStrictlyIncreasing-filter}
use Rattle.std.proofs.lemmas.Bool.{cases_eq, cases_lt, and_from}
use Rattle.lists.proofs.Bools.{same_bool}
use Rattle.lists.proofs.Lists.{range_rising}
use Rattle.row_table.specs.Rows.{has, row_at, numbers_with}
use Rattle.row_table.proofs.Keys.{each-number, filter-numbers}
use Rattle.shared_systems.proofs.KeySums.{no_item}
use Rattle.shared_systems.specs.Shared.{SharedTaskSystem, HasTask, shared_item_at}
use Rattle.shared_systems.specs.Paths.{reads_from}
use Rattle.shared_systems.specs.Bounds.{IsSharedItemWithin}
use Rattle.joined_systems.specs.Joins.{AreJoins, HaveSameReaders, NeedsJoin, ReadsWithAll}
use Rattle.joined_systems.specs.Kinds.{makers, takers, meet, AreLeaders}
use Rattle.joined_systems.specs.Needs.{HasTwo, IsReadByAll, TellsNeed, AreNumbers}
use Rattle.joined_systems.proofs.JoinNumbers.{all_at}
use Rattle.joined_systems.proofs.KindSteps.{row_meets}
use Rattle.joined_systems.proofs.Marks.{has_at, has_place}
use Rattle.joined_systems.proofs.UsesMeet.{meet_flip, meet_reads, makers_long, takers_long}
use Rattle.joined_systems.proofs.RisingLists.{rising_same}

-- ---- the tasks of a leader

pub numbers_rising : (keys : List ℕ) (first k : ℕ) → IsStrictlyIncreasing (numbers_with keys first k)
numbers_rising keys first k =
    let test = λ (v : ℕ). eqb (get_or keys (v - first) 0) k in
    subst IsStrictlyIncreasing
    (filter-numbers keys first k test (λ i lt. (
    let place : first + i - first ≡ i = omega arith in
    ap (λ (j : ℕ). eqb (get_or keys j 0) k) place)))
    (IsStrictlyIncreasing-filter test (range_with_len first (length keys)) (range_rising first (length keys)))

all_self : (xs ys : List ℕ) → ((i : ℕ) → i < length ys → has xs (get_or ys i 0) ≡ true) → list_all (has xs) ys ≡ true
all_self xs [] each = refl
all_self xs (y ∷ ys) each =
    and_from (has xs y) (list_all (has xs) ys) (each zero (omega arith)) (all_self xs ys (λ i lt. each (suc i) (omega arith)))

-- each number from 1 on with the key stands in the row
pub in_row : (keys : List ℕ) (k v : ℕ) → 1 ≤ v → v ≤ length keys → get_or keys (v - 1) 0 ≡ k → has (numbers_with keys 1 k) v ≡ true
in_row keys k v some le is =
    let row = numbers_with keys 1 k in
    let place : 1 + (v - 1) ≡ v = omega arith in
    subst (λ (w : ℕ). has row w ≡ true) place
    (all_at (has row) keys 1 k (v - 1) (omega arith) is (all_self row row (has_at row)))

pub of_row : (keys : List ℕ) (k i : ℕ) → i < length (numbers_with keys 1 k)
    → (1 ≤ get_or (numbers_with keys 1 k) i 0) × (get_or (numbers_with keys 1 k) i 0 ≤ length keys)
    × (get_or keys (get_or (numbers_with keys 1 k) i 0 - 1) 0 ≡ k)
of_row keys k i lt =
    let key = each-number keys 1 k i 0 lt in
    (key.0, omega (arith, key.0, key.1), key.2)

module _ (system : SharedTaskSystem) (leaders : List ℕ) (within : All (IsSharedItemWithin (length leaders)) system.items)
    (many : length system.tasks ≡ length leaders)
    (are : AreLeaders (meet (makers system.items) (takers system.items)) (length leaders) leaders) where
  leader : ℕ → ℕ
  leader v = get_or leaders (v - 1) 0

  reads_is : (u w : ℕ) → 1 ≤ u → meet (makers system.items) (takers system.items) u w ≡ reads_from system u w
  reads_is u w some = meet_reads system.items u w some

  pub led : (u v : ℕ) → HasTask system u → HasTask system v → get_or leaders (u - 1) 0 ≡ get_or leaders (v - 1) 0 → HaveSameReaders system u v
  led u v one two e w =
      sym (reads_is u w one.0)
      ∙ (are.same u v one.0 (omega (arith, one.1, many)) two.0 (omega (arith, two.1, many))).0 e w ∙ reads_is v w two.0

  pub leads : (u v : ℕ) → HasTask system u → HasTask system v → HaveSameReaders system u v → get_or leaders (u - 1) 0 ≡ get_or leaders (v - 1) 0
  leads u v one two same =
      (are.same u v one.0 (omega (arith, one.1, many)) two.0 (omega (arith, two.1, many))).1
      (λ w. reads_is u w one.0 ∙ same w ∙ sym (reads_is v w two.0))

  -- ---- the uses of what a task makes

  pub use_reads : (v w : ℕ) → 1 ≤ v
      → has (map (slice_index (takers system.items)) (numbers_with (makers system.items) 0 v)) w ≡ reads_from system v w
  use_reads v w some =
      row_meets (takers system.items) (makers system.items) [] w v (omega (arith, makers_long system.items, takers_long system.items))
      ∙ meet_flip (makers system.items) (takers system.items) v w ∙ reads_is v w some

  -- ---- another task with the same readers

  module _ (v : ℕ) (task : HasTask system v) where
    other_of : 2 ≤ length (numbers_with leaders 1 (get_or leaders (v - 1) 0))
        → (w : ℕ) × (HasTask system w × ((w ≢ v) × HaveSameReaders system v w))
    other_of long =
        let l = get_or leaders (v - 1) 0 in
        let row = numbers_with leaders 1 l in
        let rises = numbers_rising leaders 1 l 0 (omega (arith, long)) in
        let one : 0 < length row = omega (arith, long) in
        let two : 1 < length row = omega (arith, long) in
        let first = of_row leaders l 0 one in
        let second = of_row leaders l 1 two in
        elim (cases_eq (get_or row 0 0) v) [
          | inl same ↦ (
              let next : HasTask system (get_or row 1 0) = (second.0, omega (arith, second.1, many)) in
              (get_or row 1 0, (next, ((λ e. omega (arith, e, same, rises)), led v (get_or row 1 0) task next (sym second.2))))
              )
          | inr other ↦ (
              let next : HasTask system (get_or row 0 0) = (first.0, omega (arith, first.1, many)) in
              (get_or row 0 0, (next, (other, led v (get_or row 0 0) task next (sym first.2))))
              )
        ]

    two_in : (w : ℕ) → HasTask system w → w ≢ v → HaveSameReaders system v w → 2 ≤ length (numbers_with leaders 1 (get_or leaders (v - 1) 0))
    two_in w other apart same =
        let l = get_or leaders (v - 1) 0 in
        let row = numbers_with leaders 1 l in
        let own = has_place row v (in_row leaders l v task.0 (omega (arith, task.1, many)) refl) in
        let their = has_place row w (in_row leaders l w other.0 (omega (arith, other.1, many)) (sym (leads v w task other same))) in
        elim (cases_eq own.0 their.0) [
          | inl one ↦ absurd (apart (sym their.1.1 ∙ ap (λ (i : ℕ). get_or row i 0) (sym one) ∙ own.1.1))
          | inr two ↦ omega (arith, two, own.1.0, their.1.0)
        ]

    -- ---- items that all of them read

    row_has : (u : ℕ) → HasTask system u → ((has (numbers_with leaders 1 (get_or leaders (v - 1) 0)) u ≡ true) ↔ HaveSameReaders system v u)
    row_has u other = (
      λ e. (
          let there = has_place (numbers_with leaders 1 (get_or leaders (v - 1) 0)) u e in
          let is = of_row leaders (get_or leaders (v - 1) 0) there.0 there.1.0 in
          led v u task other (sym is.2 ∙ ap (λ (z : ℕ). get_or leaders (z - 1) 0) there.1.1)
          ),
      λ same. in_row leaders (get_or leaders (v - 1) 0) u other.0 (omega (arith, other.1, many)) (sym (leads v u task other same)),
    )

    all_readers : IsReadByAll leaders system.items (length system.items) (get_or leaders (v - 1) 0)
        → (w : ℕ) → reads_from system v w ≡ true → ReadsWithAll system v
    all_readers is w reads = record {
      reader = w;
      reads = reads;
      place = is.place;
      inside = is.inside;
      several = is.several;
      just = λ u other. subst (λ (l : List ℕ). (has l u ≡ true) ↔ HaveSameReaders system v u) (sym is.just) (row_has u other);
    }

    read_by_all : ReadsWithAll system v → IsReadByAll leaders system.items (length system.items) (get_or leaders (v - 1) 0)
    read_by_all is =
        let x = shared_item_at system.items is.place in
        let l = get_or leaders (v - 1) 0 in
        let row = numbers_with leaders 1 l in
        let own = within is.place no_item is.inside in
        record {
          place = is.place;
          inside = is.inside;
          several = is.several;
          just = rising_same x.readers row own.rising (numbers_rising leaders 1 l) (λ z. same_bool (has x.readers z) (has row z)
              (λ e. (
              let there = has_place x.readers z e in
              let among = own.readers there.0 0 there.1.0 in
              let other : HasTask system z = (omega (arith, among.0, there.1.1), omega (arith, among.1, there.1.1, many)) in
              (row_has z other).1 ((is.just z other).0 e)
              ))
              (λ e. (
              let there = has_place row z e in
              let at = of_row leaders l there.0 there.1.0 in
              let other : HasTask system z = (omega (arith, at.0, there.1.1), omega (arith, at.1, there.1.1, many)) in
              (is.just z other).1 ((row_has z other).0 e)
              )));
        }

    -- ---- the whole

    pub tells : ((IsReadByAll leaders system.items (length system.items) (get_or leaders (v - 1) 0)
        × (1 ≤ length (numbers_with (makers system.items) 0 v)))
        ⊎ ((2 ≤ length (numbers_with leaders 1 (get_or leaders (v - 1) 0)))
        × HasTwo (map (slice_index (takers system.items)) (numbers_with (makers system.items) 0 v)))) ↔ NeedsJoin system v
    tells = (
      λ told. elim told [
        | inl by_item ↦ (
            let row = numbers_with (makers system.items) 0 v in
            let readers = map (slice_index (takers system.items)) row in
            let some : 0 < length readers = omega (arith, by_item.1, length-map row (slice_index (takers system.items))) in
            let reads : reads_from system v (get_or readers 0 0) ≡ true = sym (use_reads v (get_or readers 0 0) task.0) ∙ has_at readers 0 some in
            inr (all_readers by_item.0 (get_or readers 0 0) reads)
            )
        | inr by_pair ↦ (
            let there = other_of by_pair.0 in
            let two = by_pair.1 in
            inl (record {
              other = there.0;
              task = there.1.0;
              apart = there.1.1.0;
              same = there.1.1.1;
              first = two.first;
              second = two.second;
              order = two.order;
              first_reads = sym (use_reads v two.first task.0) ∙ two.first_in;
              second_reads = sym (use_reads v two.second task.0) ∙ two.second_in;
            })
            )
      ],
      λ needs. elim needs [
        | inl pair ↦ inr (
          two_in pair.other pair.task pair.apart pair.same,
          record {
            first = pair.first;
            second = pair.second;
            order = pair.order;
            first_in = use_reads v pair.first task.0 ∙ pair.first_reads;
            second_in = use_reads v pair.second task.0 ∙ pair.second_reads;
          },
        )
        | inr item ↦ (
            let row = numbers_with (makers system.items) 0 v in
            let there = has_place (map (slice_index (takers system.items)) row) item.reader (use_reads v item.reader task.0 ∙ item.reads) in
            inl (read_by_all item, omega (arith, there.1.0, length-map row (slice_index (takers system.items))))
            )
      ],
    )

-- ---- tasks with the same readers need it together

pub together : (system : SharedTaskSystem) (u v : ℕ) → HasTask system u → HaveSameReaders system u v → NeedsJoin system u → NeedsJoin system v
together system u v task same needs = elim needs [
  | inl pair ↦ elim (cases_eq pair.other v) [
    | inl is_v ↦ inl (record {
      other = u;
      task = task;
      apart = λ e. pair.apart (is_v ∙ sym e);
      same = λ w. sym (same w);
      first = pair.first;
      second = pair.second;
      order = pair.order;
      first_reads = sym (same pair.first) ∙ pair.first_reads;
      second_reads = sym (same pair.second) ∙ pair.second_reads;
    })
    | inr other ↦ inl (record {
      other = pair.other;
      task = pair.task;
      apart = other;
      same = λ w. sym (same w) ∙ pair.same w;
      first = pair.first;
      second = pair.second;
      order = pair.order;
      first_reads = sym (same pair.first) ∙ pair.first_reads;
      second_reads = sym (same pair.second) ∙ pair.second_reads;
    })
  ]
  | inr item ↦ inr (record {
    reader = item.reader;
    reads = sym (same item.reader) ∙ item.reads;
    place = item.place;
    inside = item.inside;
    several = item.several;
    just = λ w other. (
      λ e z. sym (same z) ∙ (item.just w other).0 e z,
      λ there. (item.just w other).1 (λ z. same z ∙ there z),
    );
  })
]

-- ---- places of leaders, from 0 on

module _ (supplies : ℕ → ℕ → Bool) (leaders : List ℕ) (are : AreLeaders supplies (length leaders) leaders) where
  pub index_low : (i : ℕ) → i < length leaders → (1 ≤ get_or leaders i 0) × (get_or leaders i 0 ≤ i + 1)
  index_low i lt =
      let place : i + 1 - 1 ≡ i = omega arith in
      let low = are.low (i + 1) (omega arith) (omega (arith, lt)) in
      let is = ap (λ (j : ℕ). get_or leaders j 0) place in
      (omega (arith, low.0, is), omega (arith, low.1, is))

  pub index_own : (i : ℕ) → i < length leaders → get_or leaders (get_or leaders i 0 - 1) 0 ≡ get_or leaders i 0
  index_own i lt =
      let place : i + 1 - 1 ≡ i = omega arith in
      subst (λ (j : ℕ). get_or leaders (get_or leaders j 0 - 1) 0 ≡ get_or leaders j 0) place (are.own (i + 1) (omega arith) (omega (arith, lt)))

  pub index_all : (i : ℕ) → get_or leaders i 0 ≤ length leaders
  index_all i = elim (cases_lt i (length leaders)) [
    | inl lt ↦ omega (arith, (index_low i lt).1, lt)
    | inr past ↦ omega (arith, get_or_past leaders i 0 past)
  ]

-- ---- what the code finds

module _ (system : SharedTaskSystem) (leaders : List ℕ) (within : All (IsSharedItemWithin (length leaders)) system.items)
    (many : length system.tasks ≡ length leaders)
    (are : AreLeaders (meet (makers system.items) (takers system.items)) (length leaders) leaders)
    (rows uses : List (List ℕ)) (released needs : List Bool)
    (rows_are : (k : ℕ) → k < length leaders + 1 → row_at rows k ≡ numbers_with leaders 1 k)
    (uses_are : (k : ℕ) → k < length leaders + 1 → row_at uses k ≡ numbers_with (makers system.items) 0 k)
    (released_are : (v : ℕ) → ((get_or released v false ≡ true) ↔ IsReadByAll leaders system.items (length system.items) v))
    (needs_are : (i : ℕ) → i < length leaders
    → ((get_or needs i false ≡ true) ↔ TellsNeed rows released uses (takers system.items) (get_or leaders i 0) (i + 1))) where
  pub needed_at : (i : ℕ) → i < length leaders → ((get_or needs i false ≡ true) ↔ NeedsJoin system (i + 1))
  needed_at i lt =
      let task : HasTask system (i + 1) = (omega arith, omega (arith, lt, many)) in
      let place : i + 1 - 1 ≡ i = omega arith in
      let l = get_or leaders i 0 in
      let leader_is : get_or leaders (i + 1 - 1) 0 ≡ l = ap (λ (j : ℕ). get_or leaders j 0) place in
      let law = tells system leaders within many are (i + 1) task in
      let row = rows_are l (omega (arith, index_all (meet (makers system.items) (takers system.items)) leaders are i)) in
      let used = uses_are (i + 1) (omega (arith, lt)) in (
        λ e. law.0 (elim ((needs_are i lt).0 e) [
          | inl by_item ↦ inl (
            subst (IsReadByAll leaders system.items (length system.items)) (sym leader_is) ((released_are l).0 by_item.0),
            subst (λ (r : List ℕ). 1 ≤ length r) used by_item.1,
          )
          | inr by_pair ↦ inr (
            subst (λ (z : ℕ). 2 ≤ length (numbers_with leaders 1 z)) (sym leader_is) (subst (λ (r : List ℕ). 2 ≤ length r) row by_pair.0),
            subst (λ (r : List ℕ). HasTwo (map (slice_index (takers system.items)) r)) used by_pair.1,
          )
        ]),
        λ need. (needs_are i lt).1 (elim (law.1 need) [
          | inl by_item ↦ inl (
            (released_are l).1 (subst (IsReadByAll leaders system.items (length system.items)) leader_is by_item.0),
            subst (λ (r : List ℕ). 1 ≤ length r) (sym used) by_item.1,
          )
          | inr by_pair ↦ inr (
            subst (λ (r : List ℕ). 2 ≤ length r) (sym row) (subst (λ (z : ℕ). 2 ≤ length (numbers_with leaders 1 z)) leader_is by_pair.0),
            subst (λ (r : List ℕ). HasTwo (map (slice_index (takers system.items)) r)) (sym used) by_pair.1,
          )
        ]),
      )

  -- a task needs a join where its leader does
  pub needs_alike : (i : ℕ) → i < length leaders → get_or needs (get_or leaders i 0 - 1) false ≡ get_or needs i false
  needs_alike i lt =
      let l = get_or leaders i 0 in
      let low = index_low (meet (makers system.items) (takers system.items)) leaders are i lt in
      let own = index_own (meet (makers system.items) (takers system.items)) leaders are i lt in
      let task : HasTask system (i + 1) = (omega arith, omega (arith, lt, many)) in
      let first : HasTask system l = (low.0, omega (arith, low.1, lt, many)) in
      let lt_first : l - 1 < length leaders = omega (arith, low.0, low.1, lt) in
      let place : i + 1 - 1 ≡ i = omega arith in
      let name : l - 1 + 1 ≡ l = omega (arith, low.0) in
      let same : HaveSameReaders system l (i + 1) =
      led system leaders within many are l (i + 1) first task (own ∙ sym (ap (λ (j : ℕ). get_or leaders j 0) place)) in
      same_bool (get_or needs (l - 1) false) (get_or needs i false)
      (λ e. (needed_at i lt).1 (together system l (i + 1) first same
      (subst (NeedsJoin system) name ((needed_at (l - 1) lt_first).0 e))))
      (λ e. (needed_at (l - 1) lt_first).1 (subst (NeedsJoin system) (sym name)
      (together system (i + 1) l task (λ w. sym (same w)) ((needed_at i lt).0 e))))

  pub joins_found : (joins : List ℕ) → AreNumbers leaders needs joins → AreJoins system joins
  joins_found joins numbers = record {
    len = omega (arith, numbers.len, many);
    needed = λ v task. (
        let lt : v - 1 < length joins = omega (arith, numbers.len, many, task.0, task.1) in
        let name : v - 1 + 1 ≡ v = omega (arith, task.0) in
        let law = numbers.needed (v - 1) lt in
        let need = needed_at (v - 1) (omega (arith, lt, numbers.len)) in
        (λ e. subst (NeedsJoin system) name (need.0 (law.0 e)), λ e. law.1 (need.1 (subst (NeedsJoin system) (sym name) e)))
        );
    same = λ u v one two some_u some_v. (
        let law = numbers.same (u - 1) (v - 1) (omega (arith, numbers.len, many, one.0, one.1)) (omega (arith, numbers.len, many, two.0, two.1))
        some_u some_v in (
          λ e. led system leaders within many are u v one two (law.0 e),
          λ same. law.1 (leads system leaders within many are u v one two same),
        )
        );
    counted = numbers.counted;
  }
