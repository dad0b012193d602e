-- The queue of tasks that can be ordered, one task and one arc more at a time.
use Rattle.std.proofs.Common.{◌≡◌, ◌≢◌, ℕ, zero, suc, ◌+◌, ◌-◌, ◌<◌, ◌≤◌, Bool, true, false, cond, not, ◌&&◌, eqb, List, [], ◌∷◌, ◌++◌}
use Rattle.std.proofs.Common.{length, take, drop, get_or, set, map, refl, sym, ap, subst, ◌∙◌, arith, inl, inr, ◌⊎◌, eq-eqb, append_assoc}
use Rattle.std.specs.Prelude.{◌||◌}
use Rattle.std.specs.List.{count_by, sum, All}
use Rattle.std.proofs.lemmas.List.{length-set, length-append, length_push, get_or-set_same, get_or-set_other, take_more, take_all}
use Rattle.std.proofs.lemmas.List.{take-append-le, drop_more, take-append-drop, length-map, length-take-le, get_or_read, get_or-take}
use Rattle.std.proofs.Math.Seq.{get_or-append_seam}
use Rattle.std.proofs.lemmas.List.Elements.{All-push, All-nil}
use Rattle.std.proofs.lemmas.List.Folds.{list_any-append}
use Rattle.std.proofs.lemmas.List.Sums.{sum_by-cons, sum_by-append, sum_by_more, sum_by-take-le, sum_by-set, count_by-le-length}
use Rattle.std.proofs.lemmas.Bool.{cases_eq, cases_lt, ne_eqb, eqb-true, and_parts, or_parts, or_left, or_right, not-true}
use Rattle.std.proofs.lemmas.Bool.{false_from_ne_true, true_from_ne_false}
use Rattle.mp_system.specs.Memory.{stands_in}
use Rattle.row_table.specs.Rows.{numbers_with}
use Rattle.graphs.specs.declared.arc.Arc.{Arc}
use Rattle.graphs.specs.Graph.{IsAmong, IsArcWithin, IsSupplied, AreSupplied, CanBeOrdered, IsOrdering}
use Rattle.graphs.specs.Queue.{from_of, arc_at, is_wait, waits_of, heads_among, IsQueue, IsQueueTaken, IsPartTaken, IsArcRow, AreJudged}
use Rattle.graphs.proofs.Standing.{stands-left, stands-new, stands-cases, stands-take, place, push-split, count-none, count-some}

abbrev pub no_arc : Arc
no_arc = record { from = 0; to = 0; size = 0 }

-- ---- who waits for whom

abbrev wait : ℕ → List ℕ → ℕ → Arc → ℕ
wait n done v arc = cond (is_wait done v arc) 1 0

-- no task has run yet
pub wait-first : (v : ℕ) (arc : Arc) → arc.from ≢ 0 → is_wait [] v arc ≡ eqb arc.to v
wait-first v arc some = rw (ne_eqb arc.from 0 some) (and_yes (eqb arc.to v)) where
  and_yes : (b : Bool) → (b && true) ≡ b
  and_yes true = refl
  and_yes false = refl

pub wait-none : (done : List ℕ) (v : ℕ) (arc : Arc) → arc.from ≡ 0 → is_wait done v arc ≡ false
wait-none done v arc none = rw (eq-eqb arc.from 0 none) (and_no (eqb arc.to v)) where
  and_no : (b : Bool) → (b && false) ≡ false
  and_no true = refl
  and_no false = refl

-- where none of its arcs is waited for, a task is supplied
pub supplied : (arcs : List Arc) (done queue : List ℕ) (v : ℕ) → waits_of arcs done v ≡ 0
    → ((u : ℕ) → stands_in done u ≡ true → stands_in queue u ≡ true) → IsSupplied arcs queue v
supplied arcs done queue v none more i d lt to_v some =
    let arc = get_or arcs i d in
    let no : is_wait done v arc ≡ false = count-none (is_wait done v) arcs none i d lt in
    more arc.from (true_from_ne_false (stands_in done arc.from) (λ missing.
    let ne : eqb arc.from 0 ≡ false = ne_eqb arc.from 0 (λ e. absurd (omega (arith, some, e))) in
    let yes : is_wait done v arc ≡ true = rw (eq-eqb arc.to v to_v, ne, missing) refl in
    absurd (cc (sym yes ∙ no))))

-- where one is waited for, its supplier has not run
pub unsupplied : (arcs : List Arc) (done : List ℕ) (v : ℕ) → 1 ≤ waits_of arcs done v
    → (i : ℕ) × (i < length arcs) × ((get_or arcs i no_arc).to ≡ v)
    × (1 ≤ (get_or arcs i no_arc).from) × (stands_in done (get_or arcs i no_arc).from ≡ false)
unsupplied arcs done v some =
    let r = count-some (is_wait done v) no_arc arcs some in
    let arc = get_or arcs r.0 no_arc in
    let one = and_parts (eqb arc.to v) (not (eqb arc.from 0) && not (stands_in done arc.from)) r.2 in
    let two = and_parts (not (eqb arc.from 0)) (not (stands_in done arc.from)) one.1 in
    (r.0, r.1, eqb-true arc.to v one.0, positive arc.from two.0, not-true (stands_in done arc.from) two.1)
  where
    positive : (n : ℕ) → not (eqb n 0) ≡ true → 1 ≤ n
    positive zero e = absurd (cc (sym e))
    positive (suc n) e = omega arith

-- ---- one task more has run

pub stands-other : (done : List ℕ) (u v : ℕ) → v ≢ u → stands_in (done ++ u ∷ []) v ≡ stands_in done v
stands-other done u v ne =
    let other : eqb u v ≡ false = ne_eqb u v (λ e. ne (sym e)) in
    list_any-append (λ w. eqb w v) done (u ∷ []) ∙ rw other (or_no (stands_in done v))
  where
    or_no : (b : Bool) → (b || false) ≡ b
    or_no true = refl
    or_no false = refl

one-wait : (done : List ℕ) (u v : ℕ) (arc : Arc) → stands_in done u ≡ false → 1 ≤ u
    → cond {A = ℕ} (is_wait done v arc) 1 0
    ≡ cond {A = ℕ} (eqb arc.to v && eqb arc.from u) 1 0 + cond {A = ℕ} (is_wait (done ++ u ∷ []) v arc) 1 0
one-wait done u v arc none some = elim (cases_eq arc.from u) [
  | inl e ↦ (let missing : stands_in done arc.from ≡ false = ap (stands_in done) e ∙ none in
      let there : stands_in (done ++ u ∷ []) arc.from ≡ true = ap (stands_in (done ++ u ∷ [])) e ∙ stands-new done u in
      let ne : eqb arc.from 0 ≡ false = ne_eqb arc.from 0 (λ z. absurd (omega (arith, some, e, z))) in
      rw (missing, there, ne, eq-eqb arc.from u e) (here (eqb arc.to v)))
  | inr ne ↦ rw (stands-other done u arc.from ne, ne_eqb arc.from u ne)
      (there (eqb arc.to v) (not (eqb arc.from 0) && not (stands_in done arc.from)))
]
  where
    here : (b : Bool) → cond {A = ℕ} (b && true) 1 0 ≡ cond {A = ℕ} (b && true) 1 0 + cond {A = ℕ} (b && false) 1 0
    here true = omega arith
    here false = omega arith

    there : (b c : Bool) → cond {A = ℕ} (b && c) 1 0 ≡ cond {A = ℕ} (b && false) 1 0 + cond {A = ℕ} (b && c) 1 0
    there true c = omega arith
    there false c = omega arith

pub waits-split : (arcs : List Arc) (done : List ℕ) (u v : ℕ) → stands_in done u ≡ false → 1 ≤ u
    → waits_of arcs done v ≡ count_by (λ arc. eqb arc.to v && eqb arc.from u) arcs + waits_of arcs (done ++ u ∷ []) v
waits-split [] done u v none some = refl
waits-split (arc ∷ arcs) done u v none some =
    omega (
      arith,
      sum_by-cons (λ a. cond {A = ℕ} (is_wait done v a) 1 0) arc arcs,
      sum_by-cons (λ (a : Arc). cond {A = ℕ} (eqb a.to v && eqb a.from u) 1 0) arc arcs,
      sum_by-cons (λ a. cond {A = ℕ} (is_wait (done ++ u ∷ []) v a) 1 0) arc arcs,
      one-wait done u v arc none some,
      waits-split arcs done u v none some,
    )

-- ---- a queue with one task more

abbrev Each : List Arc → List ℕ → Type 0
Each arcs queue = (before rest : List ℕ) (v : ℕ) → queue ≡ before ++ v ∷ rest → IsSupplied arcs before v × (stands_in before v ≡ false)

each-push : (arcs : List Arc) (queue : List ℕ) (w : ℕ) → Each arcs queue
    → IsSupplied arcs queue w → stands_in queue w ≡ false → Each arcs (queue ++ w ∷ [])
each-push arcs queue w each sup new before rest v split = elim (push-split queue w before v rest split) [
  | inl last ↦ subst (λ (u : ℕ). IsSupplied arcs before u × (stands_in before u ≡ false)) last.1
      (subst (λ (xs : List ℕ). IsSupplied arcs xs w × (stands_in xs w ≡ false)) last.0 (sup, new))
  | inr more ↦ each before more.0 v more.1
]

-- ---- the first tasks

-- the tasks below v that wait for none
pub record IsFirst (n : ℕ) (arcs : List Arc) (waits queue : List ℕ) (v : ℕ) : Type 0 where
  pub within : All (λ u. (1 ≤ u) × (u < v)) queue
  pub each : Each arcs queue
  pub idle : (u : ℕ) → 1 ≤ u → u < v → get_or waits u 0 ≡ 0 → stands_in queue u ≡ true
  pub listed : (u : ℕ) → stands_in queue u ≡ true → get_or waits u 0 ≡ 0

pub first-none : (n : ℕ) (arcs : List Arc) (waits : List ℕ) → IsFirst n arcs waits [] 1
first-none n arcs waits = record {
  within = All-nil (λ u. (1 ≤ u) × (u < 1));
  each = λ before rest v split. absurd (nothing before v rest (ap length split));
  idle = λ u some lt e. absurd (omega (arith, some, lt));
  listed = λ u h. absurd cc;
}
  where
    nothing : (before : List ℕ) (v : ℕ) (rest : List ℕ) → 0 ≡ length (before ++ v ∷ rest) → ⊥
    nothing before v rest e = omega (arith, e, length-append before (v ∷ rest))

all-later : (v : ℕ) (xs : List ℕ) → All (λ u. (1 ≤ u) × (u < v)) xs → All (λ u. (1 ≤ u) × (u < v + 1)) xs
all-later v xs h i d lt = let k = h i d lt in (k.0, omega (arith, k.1))

absent : (v : ℕ) (xs : List ℕ) → All (λ u. (1 ≤ u) × (u < v)) xs → stands_in xs v ≡ false
absent v xs h = false_from_ne_true (stands_in xs v) none where
  none : stands_in xs v ≡ true → ⊥
  none there =
      let p = place xs v there in
      let at : get_or (p.before ++ v ∷ p.rest) (length p.before) 0 ≡ v = get_or-append_seam p.before v p.rest 0 in
      let k = h (length p.before) 0 (omega (arith, ap length p.is, length-append p.before (v ∷ p.rest))) in
      omega (arith, k.1, ap (λ (ys : List ℕ). get_or ys (length p.before) 0) p.is, at)

pub first-skip : (n : ℕ) (arcs : List Arc) (waits queue : List ℕ) (v : ℕ)
    → IsFirst n arcs waits queue v → get_or waits v 0 ≢ 0 → IsFirst n arcs waits queue (v + 1)
first-skip n arcs waits queue v h some = record {
  within = all-later v queue h.within;
  each = h.each;
  idle = λ u low lt e. elim (cases_eq u v) [
    | inl same ↦ absurd (some (ap (λ (w : ℕ). get_or waits w 0) (sym same) ∙ e))
    | inr other ↦ h.idle u low (omega (arith, lt, other)) e
  ];
  listed = h.listed;
}

pub first-push : (n : ℕ) (arcs : List Arc) (waits queue : List ℕ) (v : ℕ) → IsFirst n arcs waits queue v → get_or waits v 0 ≡ 0 → 1 ≤ v
    → get_or waits v 0 ≡ waits_of arcs [] v → IsFirst n arcs waits (queue ++ v ∷ []) (v + 1)
first-push n arcs waits queue v h none low are = record {
  within = All-push (λ u. (1 ≤ u) × (u < v + 1)) queue v (all-later v queue h.within) (low, omega arith);
  each = each-push arcs queue v h.each (supplied arcs [] queue v (sym are ∙ none) (λ u k. absurd cc)) (absent v queue h.within);
  idle = λ u some lt e. elim (cases_eq u v) [
    | inl same ↦ subst (λ (w : ℕ). stands_in (queue ++ v ∷ []) w ≡ true) (sym same) (stands-new queue v)
    | inr other ↦ stands-left queue (v ∷ []) u (h.idle u some (omega (arith, lt, other)) e)
  ];
  listed = λ u k. elim (stands-cases queue v u k) [
    | inl old ↦ h.listed u old
    | inr same ↦ ap (λ (w : ℕ). get_or waits w 0) (sym same) ∙ none
  ];
}

pub first-taken : (n : ℕ) (arcs : List Arc) (waits queue : List ℕ) (v : ℕ) → v ≡ n + 1 → IsFirst n arcs waits queue v → length waits ≡ n + 1
    → ((u : ℕ) → u ≤ n → get_or waits u 0 ≡ waits_of arcs [] u) → IsQueueTaken n arcs waits queue 0
first-taken n arcs waits queue v e h long are = record {
  queued = record {
    long = long;
    within = λ i d lt. let k = h.within i d lt in (k.0, omega (arith, k.1, e));
    each = h.each;
    idle = λ u among z. h.idle u among.0 (omega (arith, among.1, e)) z;
    listed = h.listed;
  };
  short = omega arith;
  waits_are = are;
}

-- ---- one arc more is taken

pub part-none : (n : ℕ) (arcs : List Arc) (waits queue row : List ℕ) (at : ℕ)
    → IsQueueTaken n arcs waits queue at → at < length queue → IsPartTaken n arcs waits queue at row 0
part-none n arcs waits queue row at h lt = record { queued = h.queued; short = lt; waits_are = λ v le. omega (arith, h.waits_are v le) }

module _ (n : ℕ) (arcs : List Arc) (waits queue : List ℕ) (at : ℕ) (row : List ℕ) (j : ℕ) (h : IsPartTaken n arcs waits queue at row j)
    (within : All (IsArcWithin n) arcs) (is_row : IsArcRow arcs row (get_or queue at 0)) (lt : j < length row) where
  u : ℕ
  u = get_or queue at 0

  k : ℕ
  k = get_or row j 0

  to : ℕ
  to = (arc_at arcs (get_or row j 0)).to

  done : List ℕ
  done = take at queue

  pub to-within : (arc_at arcs (get_or row j 0)).to ≤ n
  to-within = (within (get_or row j 0) no_arc (is_row.within j 0 lt)).to

  cut : queue ≡ take at queue ++ get_or queue at 0 ∷ drop (at + 1) queue
  cut = sym (take-append-drop at queue) ∙ ap (λ (xs : List ℕ). take at queue ++ xs) (drop_more queue at 0 h.short)

  new_u : stands_in (take at queue) (get_or queue at 0) ≡ false
  new_u = (h.queued.each (take at queue) (drop (at + 1) queue) (get_or queue at 0) cut).1

  some_u : 1 ≤ get_or queue at 0
  some_u = (h.queued.within at 0 h.short).0

  pub whole : (v : ℕ) → waits_of arcs (take at queue) v ≡ heads_among arcs row v + waits_of arcs (take (at + 1) queue) v
  whole v =
      waits-split arcs (take at queue) (get_or queue at 0) v new_u some_u
      ∙ (λ i. sym (is_row.heads v) i + waits_of arcs (sym (take_more queue at 0 h.short) i) v)

  more : (v : ℕ)
      → heads_among arcs (take (j + 1) row) v
      ≡ heads_among arcs (take j row) v + cond {A = ℕ} (eqb (arc_at arcs (get_or row j 0)).to v) 1 0
  more v = sum_by_more (λ (i : ℕ). cond {A = ℕ} (eqb (arc_at arcs i).to v) 1 0) row j 0 lt

  part : (v : ℕ) → heads_among arcs (take (j + 1) row) v ≤ heads_among arcs row v
  part v = sum_by-take-le (λ (i : ℕ). cond {A = ℕ} (eqb (arc_at arcs i).to v) 1 0) row (j + 1)

  own : (v : ℕ) → (arc_at arcs (get_or row j 0)).to ≡ v → cond {A = ℕ} (eqb (arc_at arcs (get_or row j 0)).to v) 1 0 ≡ 1
  own v e = rw (eq-eqb (arc_at arcs (get_or row j 0)).to v e) refl

  foreign : (v : ℕ) → (arc_at arcs (get_or row j 0)).to ≢ v → cond {A = ℕ} (eqb (arc_at arcs (get_or row j 0)).to v) 1 0 ≡ 0
  foreign v ne = rw (ne_eqb (arc_at arcs (get_or row j 0)).to v ne) refl

  -- the task waits for this arc
  pub waits-some : 1 ≤ get_or waits (arc_at arcs (get_or row j 0)).to 0
  waits-some =
      let t = (arc_at arcs (get_or row j 0)).to in
      omega (arith, h.waits_are t to-within, whole t, more t, part t, own t refl)

  module _ (w : ℕ) (w_is : w + 1 ≡ get_or waits (arc_at arcs (get_or row j 0)).to 0) where
    now : List ℕ
    now = set waits (arc_at arcs (get_or row j 0)).to w

    pub at_to : get_or (set waits (arc_at arcs (get_or row j 0)).to w) (arc_at arcs (get_or row j 0)).to 0 ≡ w
    at_to = get_or-set_same waits (arc_at arcs (get_or row j 0)).to w 0 (omega (arith, to-within, h.queued.long))

    at_other : (v : ℕ) → v ≢ (arc_at arcs (get_or row j 0)).to
        → get_or (set waits (arc_at arcs (get_or row j 0)).to w) v 0 ≡ get_or waits v 0
    at_other v ne = get_or-set_other waits (arc_at arcs (get_or row j 0)).to v w 0 ne

    still : (v : ℕ) → v ≤ n
        → get_or (set waits (arc_at arcs (get_or row j 0)).to w) v 0 + heads_among arcs (take (j + 1) row) v
        ≡ waits_of arcs (take at queue) v
    still v le = elim (cases_eq v (arc_at arcs (get_or row j 0)).to) [
      | inl e ↦
          (let here : get_or (set waits (arc_at arcs (get_or row j 0)).to w) v 0 ≡ w =
          ap (λ (x : ℕ). get_or (set waits (arc_at arcs (get_or row j 0)).to w) x 0) e ∙ at_to in
          let was : get_or waits v 0 ≡ w + 1 = ap (λ (x : ℕ). get_or waits x 0) e ∙ sym w_is in
          omega (arith, here, was, h.waits_are v le, more v, own v (sym e)))
      | inr ne ↦ omega (arith, at_other v ne, h.waits_are v le, more v, foreign v (λ e. ne (sym e)))
    ]

    unlisted : (v : ℕ) → stands_in queue v ≡ true → v ≢ (arc_at arcs (get_or row j 0)).to
    unlisted v there e = absurd (omega (arith, h.queued.listed v there, ap (λ (x : ℕ). get_or waits x 0) e, waits-some))

    listed : (v : ℕ) → stands_in queue v ≡ true → get_or (set waits (arc_at arcs (get_or row j 0)).to w) v 0 ≡ 0
    listed v there = at_other v (unlisted v there) ∙ h.queued.listed v there

    long : length (set waits (arc_at arcs (get_or row j 0)).to w) ≡ n + 1
    long = length-set waits (arc_at arcs (get_or row j 0)).to w ∙ h.queued.long

    pub part-keep : (((arc_at arcs (get_or row j 0)).to ≡ 0)
        ⊎ (get_or (set waits (arc_at arcs (get_or row j 0)).to w) (arc_at arcs (get_or row j 0)).to 0 ≢ 0))
        → IsPartTaken n arcs (set waits (arc_at arcs (get_or row j 0)).to w) queue at row (j + 1)
    part-keep why = record {
      queued = record {
        long = long;
        within = h.queued.within;
        each = h.queued.each;
        idle = λ v among none. elim (cases_eq v (arc_at arcs (get_or row j 0)).to) [
          | inl e ↦ absurd (elim why [
            | inl none_to ↦ omega (arith, among.0, e, none_to)
            | inr some ↦ some (sym (ap (λ (x : ℕ). get_or (set waits (arc_at arcs (get_or row j 0)).to w) x 0) e) ∙ none)
          ])
          | inr ne ↦ h.queued.idle v among (sym (at_other v ne) ∙ none)
        ];
        listed = listed;
      };
      short = h.short;
      waits_are = still;
    }

    pub part-push : 1 ≤ (arc_at arcs (get_or row j 0)).to
        → get_or (set waits (arc_at arcs (get_or row j 0)).to w) (arc_at arcs (get_or row j 0)).to 0 ≡ 0
        → IsPartTaken n arcs (set waits (arc_at arcs (get_or row j 0)).to w)
        (queue ++ (arc_at arcs (get_or row j 0)).to ∷ []) at row (j + 1)
    part-push some none =
        let t = (arc_at arcs (get_or row j 0)).to in
        let unwaited : waits_of arcs (take (at + 1) queue) t ≡ 0 =
        (let s = still t to-within in omega (arith, s, at_to, none, whole t, part t)) in
        let fresh : stands_in queue t ≡ false = false_from_ne_true (stands_in queue t) (λ there. unlisted t there refl) in
        record {
          queued = record {
            long = long;
            within = All-push (IsAmong n) queue t h.queued.within (some, to-within);
            each = each-push arcs queue t h.queued.each
                (supplied arcs (take (at + 1) queue) queue t unwaited (λ v there. stands-take (at + 1) queue v there)) fresh;
            idle = λ v among zero_now. elim (cases_eq v t) [
              | inl e ↦ subst (λ (x : ℕ). stands_in (queue ++ t ∷ []) x ≡ true) (sym e) (stands-new queue t)
              | inr ne ↦ stands-left queue (t ∷ []) v (h.queued.idle v among (sym (at_other v ne) ∙ zero_now))
            ];
            listed = λ v there. elim (stands-cases queue t v there) [
              | inl old ↦ listed v old
              | inr same ↦ ap (λ (x : ℕ). get_or (set waits t w) x 0) (sym same) ∙ none
            ];
          };
          short = omega (arith, h.short, length_push queue t);
          waits_are = λ v le. still v le
              ∙ ap (λ (xs : List ℕ). waits_of arcs xs v) (sym (take-append-le at queue (t ∷ []) (omega (arith, h.short))));
        }

    pub sum-set : sum (set waits (arc_at arcs (get_or row j 0)).to w) + 1 ≡ sum waits
    sum-set =
        let e = sum_by-set (λ (x : ℕ). x) waits (arc_at arcs (get_or row j 0)).to w 0 (omega (arith, to-within, h.queued.long)) in
        omega (arith, e, w_is)

-- the whole row is taken
pub part-all : (n : ℕ) (arcs : List Arc) (waits queue : List ℕ) (at : ℕ) (row : List ℕ) (j : ℕ) → IsPartTaken n arcs waits queue at row j
    → IsArcRow arcs row (get_or queue at 0) → length row ≤ j → IsQueueTaken n arcs waits queue (at + 1)
part-all n arcs waits queue at row j h is_row le =
    let u = get_or queue at 0 in
    let cut : queue ≡ take at queue ++ u ∷ drop (at + 1) queue =
    sym (take-append-drop at queue) ∙ ap (λ (xs : List ℕ). take at queue ++ xs) (drop_more queue at 0 h.short) in
    let new_u = (h.queued.each (take at queue) (drop (at + 1) queue) u cut).1 in
    let some_u = (h.queued.within at 0 h.short).0 in
    record {
      queued = h.queued;
      short = omega (arith, h.short);
      waits_are = λ v small.
          let split = waits-split arcs (take at queue) u v new_u some_u in
          let all : heads_among arcs (take j row) v ≡ heads_among arcs row v =
          ap (λ (xs : List ℕ). heads_among arcs xs v) (take_all j row le) in
          let next : waits_of arcs (take at queue ++ u ∷ []) v ≡ waits_of arcs (take (at + 1) queue) v =
          ap (λ (xs : List ℕ). waits_of arcs xs v) (sym (take_more queue at 0 h.short)) in
          omega (arith, h.waits_are v small, all, split, is_row.heads v, next);
    }

-- ---- a list that no task can follow

-- each task of which no arc is waited for stands in the list
abbrev pub IsClosed : ℕ → List Arc → List ℕ → Type 0
IsClosed n arcs list = (v : ℕ) → IsAmong n v → waits_of arcs list v ≡ 0 → stands_in list v ≡ true

module _ (n : ℕ) (arcs : List Arc) (closed_list : List ℕ) (closed : IsClosed n arcs closed_list) (within : All (IsArcWithin n) arcs)
    (list : List ℕ) (sup : AreSupplied arcs list) where
  -- whoever stands in a supplied list stands in a closed one
  served : (m : ℕ) (before rest : List ℕ) (v : ℕ) → length before < m
      → list ≡ before ++ v ∷ rest → IsAmong n v → stands_in closed_list v ≡ true
  served zero before rest v lt split among = absurd (omega arith)
  served (suc m) before rest v lt split among = elim (cases_lt 0 (waits_of arcs closed_list v)) [
    | inr none ↦ closed v among (omega (arith, none))
    | inl some ↦ (
        let r = unsupplied arcs closed_list v (omega (arith, some)) in
        let arc = get_or arcs r.0 no_arc in
        let stands : stands_in before arc.from ≡ true = sup.each before rest v split r.0 no_arc r.1 r.2 r.3 in
        let p = place before arc.from stands in
        let earlier : list ≡ p.before ++ arc.from ∷ (p.rest ++ v ∷ rest) =
        split ∙ ap (λ (xs : List ℕ). xs ++ v ∷ rest) p.is ∙ append_assoc p.before (arc.from ∷ p.rest) (v ∷ rest) in
        let there = served m p.before (p.rest ++ v ∷ rest) arc.from
        (omega (arith, lt, ap length p.is, length-append p.before (arc.from ∷ p.rest))) earlier (r.3, (within r.0 no_arc r.1).from) in
        absurd (cc (sym there ∙ r.4))
        )
  ]

-- whoever can be ordered stands in it
pub ordered-stands : (n : ℕ) (arcs : List Arc) (list : List ℕ) → IsClosed n arcs list
    → All (IsArcWithin n) arcs → (v : ℕ) → IsAmong n v → CanBeOrdered arcs v → stands_in list v ≡ true
ordered-stands n arcs list closed within v among ordered =
    let p = place ordered.list v ordered.stands in
    served n arcs list closed within ordered.list ordered.supplied (suc (length p.before)) p.before p.rest v (omega arith) p.is among

-- the whole queue is taken
pub judged : (n : ℕ) (arcs : List Arc) (waits queue : List ℕ) (at : ℕ)
    → IsQueueTaken n arcs waits queue at → length queue ≤ at → All (IsArcWithin n) arcs → AreJudged n arcs waits
judged n arcs waits queue at h le within =
    let are : (v : ℕ) → v ≤ n → get_or waits v 0 ≡ waits_of arcs queue v =
    λ v small. h.waits_are v small ∙ ap (λ (xs : List ℕ). waits_of arcs xs v) (take_all at queue le) in
    let closed : IsClosed n arcs queue = λ v among none. h.queued.idle v among (are v among.1 ∙ none) in
    record {
      long = h.queued.long;
      idle = λ v among none. record {
        list = queue;
        supplied = record { each = λ before rest u split. (h.queued.each before rest u split).0 };
        stands = h.queued.idle v among none;
      };
      waiting = λ v among some ordered. omega (arith, some, h.queued.listed v (ordered-stands n arcs queue closed within v among ordered));
    }

-- where all can be ordered, the queue is an ordering of them
counted-none : (xs : List ℕ) (v : ℕ) → stands_in xs v ≡ false → count_by (λ u. eqb u v) xs ≡ 0
counted-none [] v none = refl
counted-none (x ∷ xs) v none =
    let parts = or_parts (eqb x v) (stands_in xs v) none in
    let here : cond {A = ℕ} (eqb x v) 1 0 ≡ 0 = rw parts.0 refl in
    omega (arith, here, sum_by-cons (λ u. cond {A = ℕ} (eqb u v) 1 0) x xs, counted-none xs v parts.1)

stands-once : (list : List ℕ) (v : ℕ) → ((before rest : List ℕ) → list ≡ before ++ v ∷ rest → stands_in before v ≡ false)
    → stands_in list v ≡ true → count_by (λ u. eqb u v) list ≡ 1
stands-once list v new stands =
    let p = place list v stands in
    let first = counted-none p.before v (new p.before p.rest p.is) in
    let later = counted-none p.rest v (false_from_ne_true (stands_in p.rest v) (λ again.
    let q = place p.rest v again in
    let split : list ≡ (p.before ++ v ∷ q.before) ++ v ∷ q.rest =
    p.is ∙ ap (λ (xs : List ℕ). p.before ++ v ∷ xs) q.is ∙ sym (append_assoc p.before (v ∷ q.before) (v ∷ q.rest)) in
    let there : stands_in (p.before ++ v ∷ q.before) v ≡ true = list_any-append (λ u. eqb u v) p.before (v ∷ q.before)
    ∙ or_right (stands_in p.before v) (stands_in (v ∷ q.before) v) (or_left (eqb v v) (stands_in q.before v) (eq-eqb v v refl)) in
    cc (sym there ∙ new (p.before ++ v ∷ q.before) q.rest split))) in
    let one : cond {A = ℕ} (eqb v v) 1 0 ≡ 1 = rw (eq-eqb v v refl) refl in
    omega (
      arith,
      first,
      later,
      one,
      ap (count_by (λ u. eqb u v)) p.is,
      sum_by-append (λ u. cond {A = ℕ} (eqb u v) 1 0) p.before (v ∷ p.rest),
      sum_by-cons (λ u. cond {A = ℕ} (eqb u v) 1 0) v p.rest,
    )

pub queue-orders : (n : ℕ) (arcs : List Arc) (waits queue : List ℕ) → IsQueue n arcs waits queue → AreJudged n arcs waits
    → ((v : ℕ) → IsAmong n v → CanBeOrdered arcs v) → IsOrdering n arcs queue
queue-orders n arcs waits queue queued are ordered = record {
  once = λ v among.
      let idle : get_or waits v 0 ≡ 0 = elim (cases_lt 0 (get_or waits v 0)) [
        | inl some ↦ absurd (are.waiting v among (omega (arith, some)) (ordered v among))
        | inr none ↦ omega (arith, none)
      ] in
      stands-once queue v (λ before rest split. (queued.each before rest v split).1) (queued.idle v among idle);
  tasks = queued.within;
  supplied = record { each = λ before rest u split. (queued.each before rest u split).0 };
}

-- ---- the rows of arcs

module _ (u v : ℕ) (g : ℕ → Arc) where
  heads-row : (first : ℕ) (xs : List Arc) → ((i : ℕ) → i < length xs → g (first + i) ≡ get_or xs i (record { from = 0; to = 0; size = 0 }))
      → count_by (λ k. eqb (g k).to v) (numbers_with (map from_of xs) first u) ≡ count_by (λ (a : Arc). eqb a.to v && eqb a.from u) xs
  heads-row first [] agree = refl
  heads-row first (x ∷ xs) agree =
      let rest = heads-row (first + 1) xs
      (λ i lt. (let e : first + 1 + i ≡ first + suc i = omega arith in ap g e) ∙ agree (suc i) (omega arith)) in
      let here : g first ≡ x = (let e : first ≡ first + 0 = omega arith in ap g e) ∙ agree 0 (omega arith) in
      go (eqb x.from u) refl here rest
    where
      go : (b : Bool) → eqb x.from u ≡ b → g first ≡ x
          → count_by (λ k. eqb (g k).to v) (numbers_with (map from_of xs) (first + 1) u)
          ≡ count_by (λ (a : Arc). eqb a.to v && eqb a.from u) xs
          → count_by (λ k. eqb (g k).to v) (numbers_with (map from_of (x ∷ xs)) first u)
          ≡ count_by (λ (a : Arc). eqb a.to v && eqb a.from u) (x ∷ xs)
      go true e here rest =
          let c = sum_by-cons (λ (a : Arc). cond {A = ℕ} (eqb a.to v && eqb a.from u) 1 0) x xs in
          let d = sum_by-cons (λ k. cond {A = ℕ} (eqb (g k).to v) 1 0) first (numbers_with (map from_of xs) (first + 1) u) in
          let one : cond {A = ℕ} (eqb x.to v && eqb x.from u) 1 0 ≡ cond {A = ℕ} (eqb (g first).to v) 1 0 =
          rw (e, here) (yes (eqb x.to v)) in
          let list : numbers_with (map from_of (x ∷ xs)) first u ≡ first ∷ numbers_with (map from_of xs) (first + 1) u = rw e refl in
          ap (count_by (λ k. eqb (g k).to v)) list ∙ omega (arith, c, d, one, rest)
        where
          yes : (b : Bool) → cond {A = ℕ} (b && true) 1 0 ≡ cond {A = ℕ} b 1 0
          yes true = refl
          yes false = refl
      go false e here rest =
          let c = sum_by-cons (λ (a : Arc). cond {A = ℕ} (eqb a.to v && eqb a.from u) 1 0) x xs in
          let none : cond {A = ℕ} (eqb x.to v && eqb x.from u) 1 0 ≡ 0 = rw e (no (eqb x.to v)) in
          let list : numbers_with (map from_of (x ∷ xs)) first u ≡ numbers_with (map from_of xs) (first + 1) u = rw e refl in
          ap (count_by (λ k. eqb (g k).to v)) list ∙ omega (arith, c, none, rest)
        where
          no : (b : Bool) → cond {A = ℕ} (b && false) 1 0 ≡ 0
          no true = refl
          no false = refl

pub row-heads : (arcs : List Arc) (u v : ℕ)
    → heads_among arcs (numbers_with (map from_of arcs) 0 u) v ≡ count_by (λ (a : Arc). eqb a.to v && eqb a.from u) arcs
row-heads arcs u v = heads-row u v (arc_at arcs) 0 arcs (λ i lt. let e : 0 + i ≡ i = omega arith in ap (arc_at arcs) e)

pub row-is : (arcs : List Arc) (u : ℕ)
    → All (λ v. (0 ≤ v) × (v - 0 < length (map from_of arcs)) × (get_or (map from_of arcs) (v - 0) 0 ≡ u))
    (numbers_with (map from_of arcs) 0 u)
    → IsArcRow arcs (numbers_with (map from_of arcs) 0 u) u
row-is arcs u each = record {
  within = λ i d lt. (let e = each i d lt in omega (arith, e.1, length-map arcs from_of));
  heads = λ v. row-heads arcs u v;
}

-- ---- the waits from the start

module _ (n : ℕ) (arcs : List Arc) (waits : List ℕ) (i : ℕ) (lt : i < length arcs)
    (long : length waits ≡ n + 1) (within : All (IsArcWithin n) arcs)
    (are : (v : ℕ) → v ≤ n → get_or waits v 0 ≡ waits_of (take i arcs) [] v) where
  more-waits : (v : ℕ)
      → waits_of (take (i + 1) arcs) [] v ≡ waits_of (take i arcs) [] v + cond {A = ℕ} (is_wait [] v (get_or arcs i no_arc)) 1 0
  more-waits v = sum_by_more (λ a. cond {A = ℕ} (is_wait [] v a) 1 0) arcs i no_arc lt

  pub to-small : (get_or arcs i no_arc).to ≤ n
  to-small = (within i no_arc lt).to

  pub old-is : (old : ℕ) → old ≡ get_or waits (get_or arcs i no_arc).to old → old ≡ waits_of (take i arcs) [] (get_or arcs i no_arc).to
  old-is old read =
      get_or_read waits (get_or arcs i no_arc).to old (omega (arith, to-small, long)) read 0 ∙ are (get_or arcs i no_arc).to to-small

  pub waits-small : (v : ℕ) → waits_of (take i arcs) [] v ≤ i
  waits-small v = omega (arith, count_by-le-length (is_wait [] v) (take i arcs), length-take-le i arcs (omega arith))

  pub waits-yes : (old : ℕ) → (get_or arcs i no_arc).from ≢ 0 → old ≡ get_or waits (get_or arcs i no_arc).to old
      → (v : ℕ) → v ≤ n → get_or (set waits (get_or arcs i no_arc).to (old + 1)) v 0 ≡ waits_of (take (i + 1) arcs) [] v
  waits-yes old some read v le =
      let arc = get_or arcs i no_arc in
      elim (cases_eq v arc.to) [
        | inl e ↦ (let one : cond {A = ℕ} (is_wait [] v arc) 1 0 ≡ 1 = rw (wait-first v arc some, eq-eqb arc.to v (sym e)) refl in
            let now : get_or (set waits arc.to (old + 1)) v 0 ≡ old + 1 = ap (λ (x : ℕ). get_or (set waits arc.to (old + 1)) x 0) e
            ∙ get_or-set_same waits arc.to (old + 1) 0 (omega (arith, to-small, long)) in
            let was : old ≡ get_or waits v 0 =
            get_or_read waits arc.to old (omega (arith, to-small, long)) read 0 ∙ ap (λ (x : ℕ). get_or waits x 0) (sym e) in
            omega (arith, one, now, was, are v le, more-waits v))
        | inr ne ↦
            (let none : cond {A = ℕ} (is_wait [] v arc) 1 0 ≡ 0 = rw (wait-first v arc some, ne_eqb arc.to v (λ e. ne (sym e))) refl in
            omega (arith, none, get_or-set_other waits arc.to v (old + 1) 0 ne, are v le, more-waits v))
      ]

  pub waits-no : (get_or arcs i no_arc).from ≡ 0 → (v : ℕ) → v ≤ n → get_or waits v 0 ≡ waits_of (take (i + 1) arcs) [] v
  waits-no none v le =
      let no : cond {A = ℕ} (is_wait [] v (get_or arcs i no_arc)) 1 0 ≡ 0 = rw (wait-none [] v (get_or arcs i no_arc) none) refl in
      omega (arith, no, are v le, more-waits v)

-- ---- the row of the task that is taken

pub same-at : (xs ys : List ℕ) (at : ℕ) → take (at + 1) xs ≡ take (at + 1) ys → get_or xs at 0 ≡ get_or ys at 0
same-at xs ys at e =
    sym (get_or-take (at + 1) xs at 0 (omega arith)) ∙ ap (λ (zs : List ℕ). get_or zs at 0) e ∙ get_or-take (at + 1) ys at 0 (omega arith)
