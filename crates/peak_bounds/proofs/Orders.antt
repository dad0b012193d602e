-- What is done and what waits when a task of a traversal starts.
use Rattle.std.proofs.Common.{◌≡◌, ℕ, Bool, true, false, not, ◌&&◌, ◌||◌, eqb, eq-eqb, inl, inr, List, [], ◌∷◌, ◌++◌, append_assoc, Option, Some, None, refl, sym, ap, subst, ◌∙◌, arith}
use Rattle.std.specs.Prelude.{All}
use Rattle.std.specs.List.{list_all, list_any, count_by}
use Rattle.std.proofs.Math.Bool.{or-true}
use Rattle.std.proofs.lemmas.Bool.{eqb-true, and_parts, or_cases, cases_eq, ne_eqb, cases_Bool}
use Rattle.std.proofs.lemmas.List.Elements.{All-head, All-tail}
use Rattle.peak_bounds.specs.declared.uses.Use.{Use}
use Rattle.mp_system.specs.System.{is_named}
use Rattle.mp_system.specs.Memory.{stands_in, is_done_or}
use Rattle.shared_systems.specs.Shared.{SharedTaskSystem, HasTask}
use Rattle.shared_systems.specs.SharedMemory.{has_inputs}
use Rattle.shared_systems.specs.SharedTraversal.{IsSharedTraversal}
use Rattle.peak_bounds.specs.Moments.{is_made_for_use, is_used_by, is_there, uses_of, feeds, is_fed}
use Rattle.peak_bounds.proofs.UseSums.{inputs_same}
use Rattle.lists.proofs.Bools.{or_false}
use Rattle.peak_bounds.proofs.Lists.{neither, stands_in-head, stands_in-append, split_at, counted, Alone, alone}

-- ---- what an a_use between two tasks says

-- task u passes the test, and runs before task v, or v before u, wherever the later one has what it consumes
pub record Earlier (system : SharedTaskSystem) (test : ℕ → Bool) (v : ℕ) : Type 0 where
  pub task : ℕ
  pub passes : test task ≡ true
  pub first : (done : ℕ → Bool) → has_inputs system done v ≡ true → done task ≡ true

pub record Later (system : SharedTaskSystem) (test : ℕ → Bool) (v : ℕ) : Type 0 where
  pub task : ℕ
  pub passes : test task ≡ true
  pub first : (done : ℕ → Bool) → has_inputs system done task ≡ true → done v ≡ true

supplied_at : (named : Bool) (produced : Bool) → (not named || produced) ≡ true → named ≡ true → produced ≡ true
supplied_at true produced h e = h
supplied_at false produced h e = absurd cc

record EarlierIn (uses : List Use) (test : ℕ → Bool) (v : ℕ) : Type 0 where
  task : ℕ
  passes : test task ≡ true
  first : (done : ℕ → Bool) → list_all (λ a_use. not (is_used_by v a_use) || is_there done a_use) uses ≡ true → done task ≡ true

record LaterIn (uses : List Use) (test : ℕ → Bool) (v : ℕ) : Type 0 where
  task : ℕ
  passes : test task ≡ true
  first : (done : ℕ → Bool) → list_all (λ a_use. not (is_used_by task a_use) || is_there done a_use) uses ≡ true → done v ≡ true

producer_of : (from : Option ℕ) (test : ℕ → Bool) → is_done_or false test from ≡ true → (u : ℕ) × (from ≡ Some u) × (test u ≡ true)
producer_of None test e = absurd cc
producer_of (Some u) test e = (u, refl, e)

earlier_in : (uses : List Use) (test : ℕ → Bool) (v : ℕ) → list_any (λ a_use. is_used_by v a_use && is_done_or false test a_use.from) uses ≡ true → EarlierIn uses test v
earlier_in [] test v e = absurd cc
earlier_in (a_use ∷ uses) test v e = elim (or_cases (is_used_by v a_use && is_done_or false test a_use.from) (list_any (λ a_use. is_used_by v a_use && is_done_or false test a_use.from) uses) e) [
  | inl here ↦ (
      let parts = and_parts (is_used_by v a_use) (is_done_or false test a_use.from) here in
      let u = producer_of a_use.from test parts.1 in
      record {
        task = u.0;
        passes = u.2;
        first = λ done ready.
            let first = and_parts (not (is_used_by v a_use) || is_there done a_use) (list_all (λ a_use. not (is_used_by v a_use) || is_there done a_use) uses) ready in
            let produced = supplied_at (is_used_by v a_use) (is_there done a_use) first.0 parts.0 in
            ap (is_done_or true done) (sym u.1) ∙ produced;
      })
  | inr later ↦ (
      let found = earlier_in uses test v later in
      record {
        task = found.task;
        passes = found.passes;
        first = λ done ready. found.first done (and_parts (not (is_used_by v a_use) || is_there done a_use) (list_all (λ a_use. not (is_used_by v a_use) || is_there done a_use) uses) ready).1;
      })
]

later_in : (uses : List Use) (test : ℕ → Bool) (v : ℕ) → list_any (λ a_use. is_made_for_use v a_use && is_done_or false test a_use.to) uses ≡ true → LaterIn uses test v
later_in [] test v e = absurd cc
later_in (a_use ∷ uses) test v e = elim (or_cases (is_made_for_use v a_use && is_done_or false test a_use.to) (list_any (λ a_use. is_made_for_use v a_use && is_done_or false test a_use.to) uses) e) [
  | inl here ↦ (
      let parts = and_parts (is_made_for_use v a_use) (is_done_or false test a_use.to) here in
      let u = producer_of a_use.to test parts.1 in
      record {
        task = u.0;
        passes = u.2;
        first = λ done ready.
            let first = and_parts (not (is_used_by u.0 a_use) || is_there done a_use) (list_all (λ a_use. not (is_used_by u.0 a_use) || is_there done a_use) uses) ready in
            let input : is_used_by u.0 a_use ≡ true = ap (λ (o : Option ℕ). is_named o u.0) u.1 ∙ eq-eqb u.0 u.0 refl in
            let produced = supplied_at (is_used_by u.0 a_use) (is_there done a_use) first.0 input in
            from_named done a_use.from parts.0 produced;
      })
  | inr later ↦ (
      let found = later_in uses test v later in
      record {
        task = found.task;
        passes = found.passes;
        first = λ done ready. found.first done (and_parts (not (is_used_by found.task a_use) || is_there done a_use) (list_all (λ a_use. not (is_used_by found.task a_use) || is_there done a_use) uses) ready).1;
      })
] where
  from_named : (done : ℕ → Bool) (from : Option ℕ) → is_named from v ≡ true → is_done_or true done from ≡ true → done v ≡ true
  from_named done None e h = absurd cc
  from_named done (Some u) e h = ap done (sym (eqb-true u v e)) ∙ h

pub earlier : (system : SharedTaskSystem) (test : ℕ → Bool) (v : ℕ) → is_fed system test v ≡ true → Earlier system test v
earlier system test v e = (let found = earlier_in (uses_of system.items) test v e in record {
  task = found.task;
  passes = found.passes;
  first = λ done ready. found.first done (sym (inputs_same done v system.items) ∙ ready);
})

pub later : (system : SharedTaskSystem) (test : ℕ → Bool) (v : ℕ) → feeds system test v ≡ true → Later system test v
later system test v e = (let found = later_in (uses_of system.items) test v e in record {
  task = found.task;
  passes = found.passes;
  first = λ done ready. found.first done (sym (inputs_same done found.task system.items) ∙ ready);
})

-- ---- the tasks of a traversal

pub all_stands : (P : ℕ → Type 0) (xs : List ℕ) → All P xs → (v : ℕ) → stands_in xs v ≡ true → P v
all_stands P [] all v e = absurd cc
all_stands P (x ∷ xs) all v e = elim (cases_eq x v) [
  | inl same ↦ subst P same (All-head P x xs all)
  | inr other ↦ all_stands P xs (All-tail P x xs all) v (let e' : stands_in xs v ≡ true = rw (ne_eqb x v other) at e in e')
]

module _ (system : SharedTaskSystem) (order : List ℕ) (traversal : IsSharedTraversal system order) where
  pub stands : (v : ℕ) → HasTask system v → stands_in order v ≡ true
  stands v task = counted order v (omega (arith, traversal.once v task))

  pub task_stands : (v : ℕ) → stands_in order v ≡ true → HasTask system v
  task_stands v e = all_stands (HasTask system) order traversal.tasks v e

  pub split_stands : (before rest : List ℕ) (v : ℕ) → order ≡ before ++ v ∷ rest → stands_in order v ≡ true
  split_stands before rest v split = ap (λ (l : List ℕ). stands_in l v) split ∙ stands_in-append before (v ∷ rest) v ∙ rw (stands_in-head v rest) (or-true (stands_in before v))

  pub alone_at : (before rest : List ℕ) (v : ℕ) → order ≡ before ++ v ∷ rest → Alone before rest v
  alone_at before rest v split = alone before rest v (subst (λ (l : List ℕ). count_by (λ u. eqb u v) l ≡ 1) split (traversal.once v (task_stands v (split_stands before rest v split))))

  -- a task that has run had what it consumes, so what ran before it
  pub ran_before : (before rest : List ℕ) (u v : ℕ) → order ≡ before ++ rest → stands_in before u ≡ true
      → ((done : ℕ → Bool) → has_inputs system done u ≡ true → done v ≡ true) → stands_in before v ≡ true
  ran_before before rest u v split ran first =
      let at = split_at before u ran in
      let whole : order ≡ at.before ++ u ∷ (at.rest ++ rest) = split ∙ ap (λ (l : List ℕ). l ++ rest) at.split ∙ append_assoc at.before (u ∷ at.rest) rest in
      let early = first (stands_in at.before) (traversal.after_suppliers at.before (at.rest ++ rest) u whole) in
      ap (λ (l : List ℕ). stands_in l v) at.split ∙ stands_in-append at.before (u ∷ at.rest) v ∙ rw early refl

  -- ---- what waits

  module _ (waits base : ℕ → Bool) (why : (v : ℕ) → waits v ≡ true → (base v || is_fed system waits v) ≡ true) where
    pub none_waits : (before more rest : List ℕ) → order ≡ before ++ (more ++ rest) → ((u : ℕ) → stands_in before u ≡ true → waits u ≡ false)
        → ((u : ℕ) → stands_in more u ≡ true → base u ≡ false) → (u : ℕ) → stands_in (before ++ more) u ≡ true → waits u ≡ false
    none_waits before [] rest split old base_none u e = old u (sym (or_false (stands_in before u)) ∙ sym (stands_in-append before [] u) ∙ e)
    none_waits before (v ∷ more) rest split old base_none u e =
        none_waits (before ++ v ∷ []) more rest (split ∙ sym (append_assoc before (v ∷ []) (more ++ rest))) next (λ w f. base_none w (rw f (or-true (eqb v w)))) u (ap (λ (l : List ℕ). stands_in l u) (append_assoc before (v ∷ []) more) ∙ e) where
          here : waits v ≡ false
          here = elim (cases_Bool (waits v)) [
            | inl yet ↦ absurd (elim (or_cases (base v) (is_fed system waits v) (why v yet)) [
              | inl set ↦ (let f : true ≡ false = sym set ∙ base_none v (stands_in-head v more) in cc)
              | inr fed ↦ (
                  let by = earlier system waits v fed in
                  let ran = by.first (stands_in before) (traversal.after_suppliers before (more ++ rest) v split) in
                  let f : true ≡ false = sym by.passes ∙ old by.task ran in cc)
            ])
            | inr not_yet ↦ not_yet
          ]

          next : (w : ℕ) → stands_in (before ++ v ∷ []) w ≡ true → waits w ≡ false
          next w f = elim (or_cases (stands_in before w) (stands_in (v ∷ []) w) (sym (stands_in-append before (v ∷ []) w) ∙ f)) [
            | inl there ↦ old w there
            | inr last ↦ (let same : v ≡ w = eqb-true v w (sym (or_false (eqb v w)) ∙ last) in rw (← same) here)
          ]

  -- ---- what is done

  module _ (done base : ℕ → Bool) (t : ℕ) (t_stands : stands_in order t ≡ true) (tasks : (v : ℕ) → done v ≡ true → HasTask system v)
      (why : (v : ℕ) → done v ≡ true → (base v || feeds system (λ u. eqb u t || done u) v) ≡ true) where
    -- task v is not done, if none is that stands after it
    module _ (before : List ℕ) (v : ℕ) (xs : List ℕ) (split : order ≡ before ++ v ∷ xs) (t_late : stands_in xs t ≡ false)
        (later_none : (w : ℕ) → stands_in xs w ≡ true → done w ≡ false) (base_none : base v ≡ false) where
      apart : Alone before xs v
      apart = alone_at before xs v split

      -- no task that is ready once v has run stands before v, or is v
      clash : (w : ℕ) → stands_in order w ≡ true → (eqb w t || done w) ≡ true → ((d : ℕ → Bool) → has_inputs system d w ≡ true → d v ≡ true) → ⊥
      clash w in_order passes first = elim (or_cases (stands_in before w) (stands_in (v ∷ xs) w) (sym (stands_in-append before (v ∷ xs) w) ∙ ap (λ (l : List ℕ). stands_in l w) (sym split) ∙ in_order)) [
        | inl ahead ↦ (let f : true ≡ false = sym (ran_before before (v ∷ xs) w v split ahead first) ∙ apart.before in cc)
        | inr behind ↦ elim (cases_eq v w) [
          | inl same ↦ (
              let ready : has_inputs system (stands_in before) w ≡ true = rw (← same) (traversal.after_suppliers before xs v split) in
              let f : true ≡ false = sym (first (stands_in before) ready) ∙ apart.before in cc)
          | inr other ↦ (
              let late : stands_in xs w ≡ true = rw (ne_eqb v w other) at behind in
              elim (or_cases (eqb w t) (done w) passes) [
                | inl is_t ↦ (let f : true ≡ false = sym late ∙ ap (stands_in xs) (eqb-true w t is_t) ∙ t_late in cc)
                | inr is_done ↦ (let f : true ≡ false = sym is_done ∙ later_none w late in cc)
              ])
        ]
      ]

      in_order : (w : ℕ) → (eqb w t || done w) ≡ true → stands_in order w ≡ true
      in_order w passes = elim (or_cases (eqb w t) (done w) passes) [
        | inl is_t ↦ ap (stands_in order) (eqb-true w t is_t) ∙ t_stands
        | inr is_done ↦ stands w (tasks w is_done)
      ]

      not_done : done v ≡ false
      not_done = elim (cases_Bool (done v)) [
        | inl yet ↦ absurd (elim (or_cases (base v) (feeds system (λ w. eqb w t || done w) v) (why v yet)) [
          | inl set ↦ (let f : true ≡ false = sym set ∙ base_none in cc)
          | inr fed ↦ (
              let by = later system (λ w. eqb w t || done w) v fed in
              clash by.task (in_order by.task by.passes) by.passes by.first)
        ])
        | inr not_yet ↦ not_yet
      ]

    pub none_done : (before xs : List ℕ) → order ≡ before ++ xs → ((v : ℕ) (ys : List ℕ) → xs ≡ v ∷ ys → stands_in ys t ≡ false)
        → ((u : ℕ) → stands_in xs u ≡ true → base u ≡ false) → (u : ℕ) → stands_in xs u ≡ true → done u ≡ false
    none_done before [] split t_none base_none u e = absurd cc
    none_done before (v ∷ xs) split t_none base_none u e =
        let t_late = t_none v xs refl in
        let later_none = none_done (before ++ v ∷ []) xs (split ∙ sym (append_assoc before (v ∷ []) xs))
        (λ w ys is. (neither (eqb w t) (stands_in ys t) (ap (λ (l : List ℕ). stands_in l t) (sym is) ∙ t_late)).1)
        (λ w f. base_none w (rw f (or-true (eqb v w)))) in
        elim (cases_eq v u) [
          | inl same ↦ rw (← same) (not_done before v xs split t_late later_none (base_none v (stands_in-head v xs)))
          | inr other ↦ later_none u (let e' : stands_in xs u ≡ true = rw (ne_eqb v u other) at e in e')
        ]
