-- A search over links, one link and one task at a time.
use Rattle.std.proofs.Common.{◌≡◌, ◌≢◌, ◌⊎◌, ℕ, zero, suc, ◌+◌, ◌-◌, ◌<◌, ◌≤◌, Bool, true, false, cond, not, ◌&&◌, ◌||◌, eqb, eq-eqb, leb, inl, inr}
use Rattle.std.proofs.Common.{List, [], ◌∷◌, ◌++◌, length, take, get_or, set, refl, sym, ap, subst, ◌∙◌, arith}
use Rattle.std.specs.Prelude.{All}
use Rattle.std.proofs.Math.Bool.{or-true}
use Rattle.std.proofs.lemmas.Bool.{eqb-true, and_parts, or_cases, or_left, or_right, cases_eq, cases_lt, ne_eqb, le-leb, cases_Bool}
use Rattle.std.proofs.lemmas.List.{get_or-set_same, get_or-set_other, length-set, length_push, take_all, take-append-le, get_or-take, get_or_default}
use Rattle.std.proofs.lemmas.List.Folds.{list_any-append, list_any_at}
use Rattle.std.proofs.lemmas.List.Elements.{All-push}
use Rattle.std.proofs.lemmas.List.Sums.{sum_by-set}
use Rattle.lists.proofs.Bools.{or_false}
use Rattle.mp_system.specs.Memory.{stands_in}
use Rattle.mp_system.specs.Replay.{is_marked}
use Rattle.row_table.specs.Rows.{numbers_with}
use Rattle.graphs.specs.Graph.{IsAmong}
use Rattle.peak_bounds.specs.Judging.{IsLink, Reaches, one, more, IsReached, AreReached, leads, unmarked}
use Rattle.peak_bounds.proofs.Lists.{or_assoc, marked_within}
use Rattle.peak_bounds.proofs.Following.{found_at}
use Rattle.peak_bounds.proofs.Orders.{all_stands}

-- ---- marks, and what stands in a list

pub marked_set : (marks : List Bool) (u v : ℕ) → 1 ≤ u → u ≤ length marks → is_marked (set marks (u - 1) true) v ≡ (is_marked marks v || eqb u v)
marked_set marks u v low high = elim (cases_eq u v) [
  | inl same ↦ (
      let there : is_marked (set marks (u - 1) true) u ≡ true = rw (le-leb 1 u low, get_or-set_same marks (u - 1) true false (omega arith)) refl in
      ap (is_marked (set marks (u - 1) true)) (sym same) ∙ there ∙ sym (rw (eq-eqb u v same) (or-true (is_marked marks v))))
  | inr other ↦ marked_other marks u v low other ∙ sym (rw (ne_eqb u v other) (or_false (is_marked marks v)))
] where
  marked_other : (marks : List Bool) (u v : ℕ) → 1 ≤ u → u ≢ v → is_marked (set marks (u - 1) true) v ≡ is_marked marks v
  marked_other marks u zero low other = refl
  marked_other marks u (suc k) low other =
      ap (λ (b : Bool). leb 1 (suc k) && b) (get_or-set_other marks (u - 1) (suc k - 1) true false (omega arith))

-- what is read at a task's place
pub mark_read : (marks : List Bool) (v : ℕ) (b d : Bool) → 1 ≤ v → v ≤ length marks → get_or marks (v - 1) d ≡ b → is_marked marks v ≡ b
mark_read marks v b d low high e = rw (le-leb 1 v low) (get_or_default marks (v - 1) false d (omega (arith, low, high)) ∙ e)

pub stands_push : (xs : List ℕ) (v w : ℕ) → stands_in (xs ++ v ∷ []) w ≡ (stands_in xs w || eqb v w)
stands_push xs v w = list_any-append (λ u. eqb u w) xs (v ∷ []) ∙ ap (λ (b : Bool). stands_in xs w || b) (or_false (eqb v w))

pub stands_at : (xs : List ℕ) (k : ℕ) → k < length xs → stands_in xs (get_or xs k 0) ≡ true
stands_at xs k lt = list_any_at (λ u. eqb u (get_or xs k 0)) xs k 0 lt (eq-eqb (get_or xs k 0) (get_or xs k 0) refl)

pub place_in : (xs : List ℕ) (v : ℕ) → stands_in xs v ≡ true → (k : ℕ) × (k < length xs) × (get_or xs k 0 ≡ v)
place_in xs v e = (let found = found_at (λ u. eqb u v) xs 0 e in (found.0, found.1, eqb-true (get_or xs found.0 0) v found.2))

-- ---- the rows of a table

pub numbered : (keys : List ℕ) (first v i : ℕ) → i < length keys → get_or keys i 0 ≡ v → stands_in (numbers_with keys first v) (first + i) ≡ true
numbered [] first v i lt e = absurd (omega arith)
numbered (x ∷ keys) first v zero lt e = rw (eq-eqb x v e) (or_left (eqb first (first + 0)) _ (eq-eqb first (first + 0) (omega arith)))
numbered (x ∷ keys) first v (suc i) lt e =
    let later : stands_in (numbers_with keys (first + 1) v) (first + suc i) ≡ true =
    ap (stands_in (numbers_with keys (first + 1) v)) (let s : first + suc i ≡ first + 1 + i = omega arith in s) ∙ numbered keys (first + 1) v i (omega arith) e in
    elim (cases_eq x v) [
      | inl same ↦ rw (eq-eqb x v same) (or_right (eqb first (first + suc i)) _ later)
      | inr other ↦ rw (ne_eqb x v other) later
    ]

pub keyed : (keys : List ℕ) (first v k : ℕ) → stands_in (numbers_with keys first v) k ≡ true
    → (i : ℕ) × (i < length keys) × (get_or keys i 0 ≡ v) × (k ≡ first + i)
keyed [] first v k e = absurd cc
keyed (x ∷ keys) first v k e =
    let next = λ (later : stands_in (numbers_with keys (first + 1) v) k ≡ true). one_on x keys first v k (keyed keys (first + 1) v k later) in
    elim (cases_eq x v) [
      | inl same ↦ (
          let e' : (eqb first k || stands_in (numbers_with keys (first + 1) v) k) ≡ true = rw (eq-eqb x v same) at e in
          elim (or_cases (eqb first k) (stands_in (numbers_with keys (first + 1) v) k) e') [
            | inl here ↦ (0, omega arith, same, omega (arith, eqb-true first k here))
            | inr later ↦ next later
          ])
      | inr other ↦ next (let e' : stands_in (numbers_with keys (first + 1) v) k ≡ true = rw (ne_eqb x v other) at e in e')
    ]
  where
    one_on : (x : ℕ) (keys : List ℕ) (first v k : ℕ) → (i : ℕ) × (i < length keys) × (get_or keys i 0 ≡ v) × (k ≡ first + 1 + i)
        → (i : ℕ) × (i < suc (length keys)) × (get_or (x ∷ keys) i 0 ≡ v) × (k ≡ first + i)
    one_on x keys first v k found = (suc found.0, omega (arith, found.1), found.2, omega (arith, found.3))

-- ---- one place more

-- the links at these places have been followed
pub record IsSpread (n : ℕ) (far places : List ℕ) (first marks : List Bool) (start work : List ℕ) : Type 0 where
  pub len : length marks ≡ n
  pub tasks : All (IsAmong n) work
  pub begins : take (length start) work ≡ start
  pub marks_are : (v : ℕ) → 1 ≤ v → is_marked marks v ≡ (is_marked first v || leads far places v)
  pub work_is : (v : ℕ) → 1 ≤ v → stands_in work v ≡ (stands_in start v || (not (is_marked first v) && leads far places v))
  pub left : unmarked marks + length work ≡ unmarked first + length start

none_more : (s b : Bool) → s ≡ (s || (b && false))
none_more true b = refl
none_more false true = refl
none_more false false = refl

pub spread_none : (n : ℕ) (far : List ℕ) (first : List Bool) (start : List ℕ) → length first ≡ n → All (IsAmong n) start → IsSpread n far [] first first start start
spread_none n far first start len tasks = record {
  len = len;
  tasks = tasks;
  begins = take_all (length start) start (omega arith);
  marks_are = λ v some. sym (or_false (is_marked first v));
  work_is = λ v some. none_more (stands_in start v) (not (is_marked first v));
  left = refl;
}

leads_push : (far places : List ℕ) (k v : ℕ) → leads far (places ++ k ∷ []) v ≡ (leads far places v || eqb (get_or far k 0) v)
leads_push far places k v =
    list_any-append (λ i. eqb (get_or far i 0) v) places (k ∷ []) ∙ ap (λ (b : Bool). leads far places v || b) (or_false (eqb (get_or far k 0) v))

module _ (n : ℕ) (far places : List ℕ) (first marks : List Bool) (start work : List ℕ) (is : IsSpread n far places first marks start work) (k : ℕ) where
  -- what the next link leads to is none, or is marked
  module _ (why : (get_or far k 0 ≡ 0) ⊎ (is_marked marks (get_or far k 0) ≡ true)) where
    led : (v : ℕ) → 1 ≤ v → (eqb (get_or far k 0) v ≡ false) ⊎ ((is_marked first v || leads far places v) ≡ true)
    led v some = elim (cases_eq (get_or far k 0) v) [
      | inr other ↦ inl (ne_eqb (get_or far k 0) v other)
      | inl same ↦ elim why [
        | inl none ↦ absurd (omega (arith, some, same, none))
        | inr marked ↦ inr (sym (is.marks_are v some) ∙ ap (is_marked marks) (sym same) ∙ marked)
      ]
    ]

    keep_mark : (m f l e : Bool) → m ≡ (f || l) → (e ≡ false) ⊎ ((f || l) ≡ true) → m ≡ (f || (l || e))
    keep_mark m true l e is why = is
    keep_mark m false true e is why = is
    keep_mark m false false true is why = absurd (elim why [ inl here ↦ (let h : true ≡ false = here in cc) | inr here ↦ (let h : false ≡ true = here in cc) ])
    keep_mark m false false false is why = is

    keep_work : (w s f l e : Bool) → w ≡ (s || (not f && l)) → (e ≡ false) ⊎ ((f || l) ≡ true) → w ≡ (s || (not f && (l || e)))
    keep_work w s true l e is why = is
    keep_work w s false true e is why = is
    keep_work w s false false true is why = absurd (elim why [ inl here ↦ (let h : true ≡ false = here in cc) | inr here ↦ (let h : false ≡ true = here in cc) ])
    keep_work w s false false false is why = is

    pub spread_keep : IsSpread n far (places ++ k ∷ []) first marks start work
    spread_keep = record {
      len = is.len;
      tasks = is.tasks;
      begins = is.begins;
      marks_are = λ v some.
          keep_mark (is_marked marks v) (is_marked first v) (leads far places v) (eqb (get_or far k 0) v) (is.marks_are v some) (led v some)
          ∙ ap (λ (b : Bool). is_marked first v || b) (sym (leads_push far places k v));
      work_is = λ v some.
          keep_work (stands_in work v) (stands_in start v) (is_marked first v) (leads far places v) (eqb (get_or far k 0) v) (is.work_is v some) (led v some)
          ∙ ap (λ (b : Bool). stands_in start v || (not (is_marked first v) && b)) (sym (leads_push far places k v));
      left = is.left;
    }

  -- or it is marked now
  module _ (to : ℕ) (to_is : to ≡ get_or far k 0) (low : 1 ≤ to) (high : to ≤ n) (new : is_marked marks to ≡ false) where
    push_work : (s f l e : Bool) → (e ≡ false) ⊎ ((f || l) ≡ false) → ((s || (not f && l)) || e) ≡ (s || (not f && (l || e)))
    push_work true f l e why = refl
    push_work false true l true why = absurd (elim why [ inl here ↦ (let h : true ≡ false = here in cc) | inr here ↦ (let h : true ≡ false = here in cc) ])
    push_work false true l false why = refl
    push_work false false l e why = refl

    fresh : (v : ℕ) → 1 ≤ v → (eqb to v ≡ false) ⊎ ((is_marked first v || leads far places v) ≡ false)
    fresh v some = elim (cases_eq to v) [
      | inr other ↦ inl (ne_eqb to v other)
      | inl same ↦ inr (sym (is.marks_are v some) ∙ ap (is_marked marks) (sym same) ∙ new)
    ]

    leads_to : (v : ℕ) → leads far (places ++ k ∷ []) v ≡ (leads far places v || eqb to v)
    leads_to v = leads_push far places k v ∙ ap (λ (u : ℕ). leads far places v || eqb u v) (sym to_is)

    pub spread_push : IsSpread n far (places ++ k ∷ []) first (set marks (to - 1) true) start (work ++ to ∷ [])
    spread_push = record {
      len = length-set marks (to - 1) true ∙ is.len;
      tasks = All-push (IsAmong n) work to is.tasks (low, high);
      begins = take-append-le (length start) work (to ∷ []) begun ∙ is.begins;
      marks_are = λ v some.
          marked_set marks to v low (omega (arith, high, is.len))
          ∙ ap (λ (b : Bool). b || eqb to v) (is.marks_are v some)
          ∙ or_assoc (is_marked first v) (leads far places v) (eqb to v)
          ∙ ap (λ (b : Bool). is_marked first v || b) (sym (leads_to v));
      work_is = λ v some.
          stands_push work to v
          ∙ ap (λ (b : Bool). b || eqb to v) (is.work_is v some)
          ∙ push_work (stands_in start v) (is_marked first v) (leads far places v) (eqb to v) (fresh v some)
          ∙ ap (λ (b : Bool). stands_in start v || (not (is_marked first v) && b)) (sym (leads_to v));
      left = omega (arith, is.left, fewer, length_push work to);
    } where
      begun : length start ≤ length work
      begun = elim (cases_lt (length work) (length start)) [
        | inl short ↦ (let all : work ≡ start = sym (take_all (length start) work (omega (arith, short))) ∙ is.begins in absurd (omega (arith, short, ap (λ (l : List ℕ). length l) all)))
        | inr long ↦ long
      ]

      was : get_or marks (to - 1) false ≡ false
      was = (let e : (leb 1 to && get_or marks (to - 1) false) ≡ false = new in let e' : get_or marks (to - 1) false ≡ false = rw (le-leb 1 to low) at e in e')

      fewer : unmarked (set marks (to - 1) true) + 1 ≡ unmarked marks
      fewer =
          let one : ◌≡◌ {A = ℕ} (cond (not (get_or marks (to - 1) false)) 1 0) 1 = rw was refl in
          let at = sum_by-set (λ (m : Bool). cond {A = ℕ} (not m) 1 0) marks (to - 1) true false (omega (arith, low, high, is.len)) in
          omega (arith, one, at)

-- ---- one task more

-- the links from the first tasks of the work have been followed
pub record IsSearch (near far : List ℕ) (first : List Bool) (start : List ℕ) (marks : List Bool) (work : List ℕ) (next : ℕ) : Type 0 where
  pub len : length marks ≡ length first
  pub tasks : All (IsAmong (length first)) work
  pub within : next ≤ length work
  pub sound : (v : ℕ) → is_marked marks v ≡ true → (is_marked first v ≡ true) ⊎ IsReached near far start v
  pub found : (v : ℕ) → stands_in work v ≡ true → (stands_in start v ≡ true) ⊎ IsReached near far start v
  pub kept : (v : ℕ) → is_marked first v ≡ true → is_marked marks v ≡ true
  pub started : (v : ℕ) → stands_in start v ≡ true → stands_in work v ≡ true
  pub listed : (v : ℕ) → is_marked marks v ≡ true → stands_in work v ≡ true
  pub closed : (k : ℕ) → k < next → (v : ℕ) → IsLink near far (get_or work k 0) v → is_marked marks v ≡ true

pub search_none : (near far : List ℕ) (first : List Bool) (start : List ℕ) → All (IsAmong (length first)) start
    → ((v : ℕ) → is_marked first v ≡ true → stands_in start v ≡ true) → IsSearch near far first start first start 0
search_none near far first start tasks listed = record {
  len = refl;
  tasks = tasks;
  within = omega arith;
  sound = λ v e. inl e;
  found = λ v e. inl e;
  kept = λ v e. e;
  started = λ v e. e;
  listed = listed;
  closed = λ k lt. absurd (omega (arith, lt));
}

module _ (near far : List ℕ) (first : List Bool) (start : List ℕ) (marks : List Bool) (work : List ℕ) (next : ℕ)
    (is : IsSearch near far first start marks work next) (lt : next < length work) (same_len : length far ≡ length near) (row : List ℕ)
    (row_is : row ≡ numbers_with near 0 (get_or work next 0)) (later : List Bool) (more_work : List ℕ) (later_len : length later ≡ length first)
    (tasks : All (IsAmong (length first)) more_work) (begins : take (length work) more_work ≡ work)
    (marks_are : (v : ℕ) → 1 ≤ v → is_marked later v ≡ (is_marked marks v || leads far row v))
    (work_is : (v : ℕ) → 1 ≤ v → stands_in more_work v ≡ (stands_in work v || (not (is_marked marks v) && leads far row v))) where
  -- a place of the row is a link from this task
  link_at : (v : ℕ) → 1 ≤ v → leads far row v ≡ true → IsLink near far (get_or work next 0) v
  link_at v some e =
      let found = found_at (λ k. eqb (get_or far k 0) v) row 0 e in
      let there : stands_in (numbers_with near 0 (get_or work next 0)) (get_or row found.0 0) ≡ true =
      ap (λ (l : List ℕ). stands_in l (get_or row found.0 0)) (sym row_is) ∙ stands_at row found.0 found.1 in
      let key = keyed near 0 (get_or work next 0) (get_or row found.0 0) there in
      let place : get_or row found.0 0 ≡ key.0 = omega (arith, key.3) in
      record {
        place = key.0;
        within = key.1;
        near_is = key.2;
        far_is = ap (λ (k : ℕ). get_or far k 0) (sym place) ∙ eqb-true (get_or far (get_or row found.0 0) 0) v found.2;
        some = some;
      }

  reached : (v : ℕ) → 1 ≤ v → leads far row v ≡ true → IsReached near far start v
  reached v some e = elim (is.found (get_or work next 0) (stands_at work next lt)) [
    | inl from_start ↦ (get_or work next 0, from_start, one (link_at v some e))
    | inr path ↦ (path.0, path.1, more path.2 (link_at v some e))
  ]

  follows : (v : ℕ) → IsLink near far (get_or work next 0) v → leads far row v ≡ true
  follows v link =
      let there = numbered near 0 (get_or work next 0) link.place link.within link.near_is in
      let in_row : stands_in row link.place ≡ true =
      ap (λ (l : List ℕ). stands_in l link.place) row_is
      ∙ ap (stands_in (numbers_with near 0 (get_or work next 0))) (let e : link.place ≡ 0 + link.place = omega arith in e) ∙ there in
      let at = place_in row link.place in_row in
      list_any_at (λ k. eqb (get_or far k 0) v) row at.0 0 at.1
      (eq-eqb (get_or far (get_or row at.0 0) 0) v (ap (λ (k : ℕ). get_or far k 0) at.2 ∙ link.far_is))

  marked_low : (m : List Bool) (v : ℕ) → is_marked m v ≡ true → 1 ≤ v
  marked_low m v e = (marked_within m v e).0

  still : (v : ℕ) → is_marked marks v ≡ true → is_marked later v ≡ true
  still v e = marks_are v (marked_low marks v e) ∙ or_left (is_marked marks v) (leads far row v) e

  same_at : (k : ℕ) → k < length work → get_or more_work k 0 ≡ get_or work k 0
  same_at k short = sym (get_or-take (length work) more_work k 0 short) ∙ ap (λ (l : List ℕ). get_or l k 0) begins

  longer : length work ≤ length more_work
  longer = elim (cases_lt (length more_work) (length work)) [
    | inl short ↦ (let all : more_work ≡ work = sym (take_all (length work) more_work (omega (arith, short))) ∙ begins in absurd (omega (arith, short, ap (λ (l : List ℕ). length l) all)))
    | inr long ↦ long
  ]

  pub search_more : IsSearch near far first start later more_work (next + 1)
  search_more = record {
    len = later_len;
    tasks = tasks;
    within = omega (arith, lt, longer);
    sound = λ v e. (
        let low = marked_low later v e in
        elim (or_cases (is_marked marks v) (leads far row v) (sym (marks_are v low) ∙ e)) [
          | inl old ↦ is.sound v old
          | inr led ↦ inr (reached v low led)
        ]);
    found = λ v e. (
        let low = (all_stands (IsAmong (length first)) more_work tasks v e).0 in
        elim (or_cases (stands_in work v) (not (is_marked marks v) && leads far row v) (sym (work_is v low) ∙ e)) [
          | inl old ↦ is.found v old
          | inr new ↦ inr (reached v low (and_parts (not (is_marked marks v)) (leads far row v) new).1)
        ]);
    kept = λ v e. still v (is.kept v e);
    started = λ v e. (
        let there = is.started v e in
        let low = (all_stands (IsAmong (length first)) work is.tasks v there).0 in
        work_is v low ∙ or_left (stands_in work v) (not (is_marked marks v) && leads far row v) there);
    listed = λ v e. (
        let low = marked_low later v e in
        work_is v low ∙ elim (cases_Bool (is_marked marks v)) [
          | inl old ↦ or_left (stands_in work v) (not (is_marked marks v) && leads far row v) (is.listed v old)
          | inr new ↦ (
              let led : leads far row v ≡ true = elim (or_cases (is_marked marks v) (leads far row v) (sym (marks_are v low) ∙ e)) [
                | inl old ↦ absurd (let f : true ≡ false = sym old ∙ new in cc)
                | inr led ↦ led
              ] in
              or_right (stands_in work v) (not (is_marked marks v) && leads far row v) (rw (new, led) refl))
        ]);
    closed = λ k short v link. elim (cases_lt k next) [
      | inl before ↦ still v (is.closed k before v (subst (λ (u : ℕ). IsLink near far u v) (same_at k (omega (arith, before, lt))) link))
      | inr last ↦ (
          let at : k ≡ next = omega (arith, short, last) in
          let here = subst (λ (u : ℕ). IsLink near far u v) (ap (λ (i : ℕ). get_or more_work i 0) at ∙ same_at next lt) link in
          marks_are v link.some ∙ or_right (is_marked marks v) (leads far row v) (follows v here))
    ];
  }

module _ (near far : List ℕ) (first : List Bool) (start : List ℕ) (marks : List Bool) (work : List ℕ) (next : ℕ)
    (is : IsSearch near far first start marks work next) (whole : length work ≤ next) where
  linked : (u v : ℕ) → stands_in work u ≡ true → IsLink near far u v → is_marked marks v ≡ true
  linked u v there link =
      let at = place_in work u there in
      is.closed at.0 (omega (arith, at.1, whole)) v (subst (λ (w : ℕ). IsLink near far w v) (sym at.2) link)

  all_marked : (u v : ℕ) → stands_in work u ≡ true → Reaches near far u v → is_marked marks v ≡ true
  all_marked u v there (one link) = linked u v there link
  all_marked u v there (more {w} path link) = linked w v (is.listed w (all_marked u w there path)) link

  pub search_all : AreReached near far first start marks
  search_all = record {
    sound = is.sound;
    kept = is.kept;
    all = λ v path. all_marked path.0 v (is.started path.0 path.1) path.2;
  }
