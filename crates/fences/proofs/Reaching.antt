-- Every moment of tasks is one of a run: the done tasks run one after the other, and then the running ones start.
use Rattle.std.proofs.Common.{◌≡◌, ℕ, Bool, true, false, cond, not, ◌&&◌, ◌||◌, eqb, eq-eqb, List, [], ◌∷◌, ◌++◌, append_assoc, refl, sym, ap, subst, ◌∙◌, arith, Option, Some, None, ⊎_elim}
use Rattle.std.proofs.Math.Path.{fun_ext}
use Rattle.std.specs.List.{list_all}
use Rattle.std.proofs.lemmas.List.{append-nil}
use Rattle.std.proofs.lemmas.Bool.{cases_Bool, eqb-true, and_parts}
use Rattle.mp_system.specs.declared.system.Item.{Item}
use Rattle.mp_system.specs.System.{TaskSystem, IsTask, is_input}
use Rattle.mp_system.specs.Memory.{is_done_or, is_produced, stands_in}
use Rattle.mp_system.specs.Traversal.{IsTraversal}
use Rattle.fences.specs.Moments.{Moment, IsMoment}
use Rattle.fences.specs.Runs.{Change, moment_after, moment_after_all, first_moment, IsRunFrom, IsRun}
use Rattle.fences.specs.Runs.Change.{starts, ends}
use Rattle.fences.proofs.Chains.{not_before}
use Rattle.fences.proofs.ChainAmounts.{pushed, stands_once}

-- ---- Booleans

or_none : (b : Bool) → (b || false) ≡ b
or_none true = refl
or_none false = refl

or_all : (b : Bool) → (b || true) ≡ true
or_all true = refl
or_all false = refl

and_none : (b : Bool) → (b && false) ≡ false
and_none true = refl
and_none false = refl

module _ (p : ℕ → Bool) (before : List ℕ) (v u : ℕ) where
  pushed_in : p v ≡ true → ((stands_in before u && p u) || eqb u v) ≡ (stands_in (before ++ v ∷ []) u && p u)
  pushed_in is =
      ⊎_elim
      (λ s. let here : p u ≡ true = ap p (eqb-true u v s) ∙ is in
      let later : stands_in (before ++ v ∷ []) u ≡ true = pushed before v u ∙ rw s (or_all (stands_in before u)) in
      rw (s, later, here) (or_all (stands_in before u && true)))
      (λ n. let later : stands_in (before ++ v ∷ []) u ≡ stands_in before u = pushed before v u ∙ rw n (or_none (stands_in before u)) in
      ap (λ (b : Bool). (stands_in before u && p u) || b) n ∙ or_none (stands_in before u && p u) ∙ ap (λ (b : Bool). b && p u) (sym later))
      (cases_Bool (eqb u v))

  pushed_out : p v ≡ false → (stands_in before u && p u) ≡ (stands_in (before ++ v ∷ []) u && p u)
  pushed_out is =
      ⊎_elim
      (λ s. let here : p u ≡ false = ap p (eqb-true u v s) ∙ is in
      rw here (and_none (stands_in before u) ∙ sym (and_none (stands_in (before ++ v ∷ []) u))))
      (λ n. let later : stands_in (before ++ v ∷ []) u ≡ stands_in before u = pushed before v u ∙ rw n (or_none (stands_in before u)) in
      rw later refl)
      (cases_Bool (eqb u v))

-- ---- what is ready in two states is ready where both hold

module _ (a b : ℕ → Bool) (v : ℕ) where
  both_done : (from : Option ℕ) → is_done_or true a from ≡ true → is_done_or true b from ≡ true → is_done_or true (λ u. a u && b u) from ≡ true
  both_done None h k = refl
  both_done (Some u) h k = rw (h, k) refl

  both_supplied : (input : Bool) (item : Item) → (not input || is_produced a item) ≡ true → (not input || is_produced b item) ≡ true → (not input || is_produced (λ u. a u && b u) item) ≡ true
  both_supplied false item h k = refl
  both_supplied true item h k = both_done item.from h k

  both_ready : (items : List Item) → list_all (λ item. not (is_input v item) || is_produced a item) items ≡ true → list_all (λ item. not (is_input v item) || is_produced b item) items ≡ true
      → list_all (λ item. not (is_input v item) || is_produced (λ u. a u && b u) item) items ≡ true
  both_ready [] h k = refl
  both_ready (item ∷ items) h k =
      let h' = and_parts (not (is_input v item) || is_produced a item) (list_all (λ i. not (is_input v i) || is_produced a i) items) h in
      let k' = and_parts (not (is_input v item) || is_produced b item) (list_all (λ i. not (is_input v i) || is_produced b i) items) k in
      rw (both_supplied (is_input v item) item h'.0 k'.0) (both_ready items h'.1 k'.1)

-- ---- the run

module _ (system : TaskSystem) (order : List ℕ) (is : IsTraversal system order) (moment : Moment) (stands : IsMoment system moment) where
  moment_of : (ℕ → Bool) → (ℕ → Bool) → Moment
  moment_of done running = record { done = done; running = running }

  -- the done tasks among those of a list are done, and nothing runs
  middle : List ℕ → Moment
  middle before = record { done = λ u. stands_in before u && moment.done u; running = λ _. false }

  -- the done tasks are done, and the running ones among those of a list run
  late : List ℕ → Moment
  late before = record { done = moment.done; running = λ u. stands_in before u && moment.running u }

  run_all : List ℕ → List Change
  run_all [] = []
  run_all (v ∷ rest) = cond (moment.done v) (starts v ∷ ends v ∷ run_all rest) (run_all rest)

  start_all : List ℕ → List Change
  start_all [] = []
  start_all (v ∷ rest) = cond (moment.running v) (starts v ∷ start_all rest) (start_all rest)

  nothing_left : (u v : ℕ) → ((false || eqb u v) && not (eqb u v)) ≡ false
  nothing_left u v = elim (eqb u v) as (λ b. ((false || b) && not b) ≡ false) [ true ↦ refl | false ↦ refl ]

  middle_next : (before : List ℕ) (v : ℕ) → moment.done v ≡ true → moment_after (moment_after (middle before) (starts v)) (ends v) ≡ middle (before ++ v ∷ [])
  unfolding middle moment_of
  middle_next before v done =
      ap (λ (d : ℕ → Bool). moment_of d (λ u. (false || eqb u v) && not (eqb u v))) (fun_ext (λ u. pushed_in moment.done before v u done))
      ∙ ap (moment_of (λ u. stands_in (before ++ v ∷ []) u && moment.done u)) (fun_ext (λ u. nothing_left u v))

  middle_same : (before : List ℕ) (v : ℕ) → moment.done v ≡ false → middle before ≡ middle (before ++ v ∷ [])
  unfolding middle moment_of
  middle_same before v not_done = ap (λ (d : ℕ → Bool). moment_of d (λ _. false)) (fun_ext (λ u. pushed_out moment.done before v u not_done))

  late_next : (before : List ℕ) (v : ℕ) → moment.running v ≡ true → moment_after (late before) (starts v) ≡ late (before ++ v ∷ [])
  unfolding late moment_of
  late_next before v runs = ap (moment_of moment.done) (fun_ext (λ u. pushed_in moment.running before v u runs))

  late_same : (before : List ℕ) (v : ℕ) → moment.running v ≡ false → late before ≡ late (before ++ v ∷ [])
  unfolding late moment_of
  late_same before v rests = ap (moment_of moment.done) (fun_ext (λ u. pushed_out moment.running before v u rests))

  -- from one moment on the changes can come, and lead to another
  record Leads (from to : Moment) (changes : List Change) : Type 0 where
    pub run : IsRunFrom system from changes
    pub end : moment_after_all from changes ≡ to

  start_leads : (before rest : List ℕ) → order ≡ before ++ rest → Leads (late before) (late order) (start_all rest)
  unfolding late start_all
  start_leads before [] split = record { run = tt; end = ap late (sym (append-nil before) ∙ sym split) }
  start_leads before (v ∷ rest) split =
      let next = start_leads (before ++ v ∷ []) rest (split ∙ sym (append_assoc before (v ∷ []) rest)) in
      ⊎_elim
      (λ runs. let after : Leads (moment_after (late before) (starts v)) (late order) (start_all rest) = rw (late_next before v runs) next in
      let fresh : (stands_in before v && moment.running v) ≡ false = rw (not_before system order is before rest v split) refl in
      let whole : Leads (late before) (late order) (starts v ∷ start_all rest) = record {
        run = (record { not_done = stands.once v runs; not_running = fresh; ready = stands.running_ready v runs }, after.run);
        end = after.end;
      } in
      rw runs whole)
      (λ rests. let whole : Leads (late before) (late order) (start_all rest) = rw (late_same before v rests) next in rw rests whole)
      (cases_Bool (moment.running v))

  run_leads : (before rest : List ℕ) → order ≡ before ++ rest → Leads (middle before) (middle order) (run_all rest)
  unfolding middle run_all
  run_leads before [] split = record { run = tt; end = ap middle (sym (append-nil before) ∙ sym split) }
  run_leads before (v ∷ rest) split =
      let next = run_leads (before ++ v ∷ []) rest (split ∙ sym (append_assoc before (v ∷ []) rest)) in
      ⊎_elim
      (λ done. let after : Leads (moment_after (moment_after (middle before) (starts v)) (ends v)) (middle order) (run_all rest) = rw (middle_next before v done) next in
      let fresh : (stands_in before v && moment.done v) ≡ false = rw (not_before system order is before rest v split) refl in
      let ready = both_ready (stands_in before) moment.done v system.items (is.after_suppliers before rest v split) (stands.done_ready v done) in
      let ending : (false || eqb v v) ≡ true = rw (eq-eqb v v refl) refl in
      let whole : Leads (middle before) (middle order) (starts v ∷ ends v ∷ run_all rest) = record {
        run = (record { not_done = fresh; not_running = refl; ready = ready }, (ending, after.run));
        end = after.end;
      } in
      rw done whole)
      (λ not_done. let whole : Leads (middle before) (middle order) (run_all rest) = rw (middle_same before v not_done) next in rw not_done whole)
      (cases_Bool (moment.done v))

  both_lead : (from between to : Moment) (first then : List Change) → Leads from between first → Leads between to then → Leads from to (first ++ then)
  both_lead from between to [] then a b = subst (λ (m : Moment). Leads m to then) (sym a.end) b
  both_lead from between to (change ∷ first) then a b =
      let rest = both_lead (moment_after from change) between to first then (record { run = a.run.1; end = a.end }) b in
      record { run = (a.run.0, rest.run); end = rest.end }

  module _ (done_tasks : (v : ℕ) → moment.done v ≡ true → IsTask system v) (running_tasks : (v : ℕ) → moment.running v ≡ true → IsTask system v) where
    all_stand : (p : ℕ → Bool) → ((v : ℕ) → p v ≡ true → IsTask system v) → (u : ℕ) → (stands_in order u && p u) ≡ p u
    all_stand p tasks u =
        ⊎_elim
        (λ e. let there : stands_in order u ≡ true = stands_once order u (omega (arith, is.once u (tasks u e))) in rw (there, e) refl)
        (λ n. rw n (and_none (stands_in order u)))
        (cases_Bool (p u))

    joined : middle order ≡ late []
    unfolding middle late moment_of
    joined = ap (λ (d : ℕ → Bool). moment_of d (λ _. false)) (fun_ext (all_stand moment.done done_tasks))

    ended : late order ≡ moment
    unfolding late moment_of
    ended = ap (moment_of moment.done) (fun_ext (all_stand moment.running running_tasks))

    pub reached : (changes : List Change) × IsRun system changes × (moment_after_all first_moment changes ≡ moment)
    unfolding middle
    reached =
        let first = run_leads [] order refl in
        let then : Leads (middle order) (late order) (start_all order) = subst (λ (m : Moment). Leads m (late order) (start_all order)) (sym joined) (start_leads [] order refl) in
        let whole = both_lead first_moment (middle order) (late order) (run_all order) (start_all order) first then in
        (run_all order ++ start_all order, whole.run, whole.end ∙ ended)
