-- The order passes the fences.
use Rattle.std.proofs.Common.{◌≡◌, ◌≢◌, ℕ, ◌+◌, ◌-◌, ◌<◌, ◌≤◌, Bool, true, false, None, not, ◌||◌, eqb, eq-eqb, List, [], ◌∷◌, ◌++◌, append_assoc, length, get_or, map, refl, sym, ap, subst, ◌∙◌, arith, ⊎_elim}
use Rattle.std.specs.Prelude.{All}
use Rattle.std.specs.List.{list_all}
use Rattle.std.proofs.lemmas.List.{get_or-map, length-map}
use Rattle.std.proofs.lemmas.List.Elements.{All-head, All-tail}
use Rattle.std.proofs.lemmas.List.Folds.{list_all-append}
use Rattle.std.proofs.lemmas.Bool.{cases_Bool, eqb-true, or_parts}
use Rattle.limits.specs.Limits.{most_positions}
use Rattle.mp_system.specs.declared.system.Item.{Item}
use Rattle.mp_system.specs.System.{TaskSystem, IsTask, is_input}
use Rattle.mp_system.specs.Memory.{is_produced, stands_in}
use Rattle.mp_system.specs.Traversal.{IsTraversal}
use Rattle.fences.specs.declared.fenced.Fence.{Fence}
use Rattle.fences.specs.declared.fenced.FenceTest.TheVariants as tests
use Rattle.fences.specs.JudgedFences.{AreFences, FenceFits, FencePasses, fence_at, fence_item, with_fences}
use Rattle.fences.proofs.Along.{stands_split}
use Rattle.fences.proofs.Chains.{task, not_before}
use Rattle.fences.proofs.FencedLists.{fence_is}
use Rattle.fencing.specs.declared.ledger.Taking.{Taking}
use Rattle.fencing.specs.Takings.{GoesForward, fence_of}

-- where a task stands once, what stands before it is the same
before_same : (v : ℕ) (a b before rest : List ℕ) → a ++ v ∷ b ≡ before ++ v ∷ rest → stands_in a v ≡ false → stands_in before v ≡ false → a ≡ before
before_same v [] b [] rest same none_a none_b = refl
before_same v [] b (x ∷ before) rest same none_a none_b =
    let head : v ≡ x = cc in
    absurd (let here : eqb x v ≡ true = eq-eqb x v (sym head) in let none = (or_parts (eqb x v) (stands_in before v) none_b).0 in cc)
before_same v (x ∷ a) b [] rest same none_a none_b =
    let head : x ≡ v = cc in
    absurd (let here : eqb x v ≡ true = eq-eqb x v head in let none = (or_parts (eqb x v) (stands_in a v) none_a).0 in cc)
before_same v (x ∷ a) b (y ∷ before) rest same none_a none_b =
    let head : x ≡ y = cc in
    let tail : a ++ v ∷ b ≡ before ++ v ∷ rest = cc in
    let rest_same : a ≡ before = before_same v a b before rest tail (or_parts (eqb x v) (stands_in a v) none_a).1 (or_parts (eqb y v) (stands_in before v) none_b).1 in
    cc

module _ (system : TaskSystem) (order : List ℕ) (is : IsTraversal system order) where
  module _ (before rest : List ℕ) (v : ℕ) (split : order ≡ before ++ v ∷ rest) where
    abbrev supplied : Item → Bool
    supplied item = not (is_input v item) || is_produced (stands_in before) item

    one_passed : (taking : Taking) → GoesForward order taking → supplied (fence_item (fence_of taking)) ≡ true
    one_passed taking goes =
        ⊎_elim
        (λ e.
        let same : taking.to ≡ v = eqb-true taking.to v e in
        let at : order ≡ goes.before ++ v ∷ goes.rest = goes.split ∙ ap (λ (w : ℕ). goes.before ++ w ∷ goes.rest) same in
        let befores : goes.before ≡ before =
        before_same v goes.before goes.rest before rest (sym at ∙ split) (not_before system order is goes.before goes.rest v at) (not_before system order is before rest v split) in
        let stands : stands_in before taking.from ≡ true = subst (λ (l : List ℕ). stands_in l taking.from ≡ true) befores goes.stands in
        rw (e, stands) refl)
        (λ n. rw n refl)
        (cases_Bool (eqb taking.to v))

    all_passed : (takings : List Taking) → All (GoesForward order) takings → list_all supplied (map fence_item (map fence_of takings)) ≡ true
    all_passed [] all = refl
    all_passed (taking ∷ takings) all =
        rw (one_passed taking (All-head (GoesForward order) taking takings all)) (all_passed takings (All-tail (GoesForward order) taking takings all))

  pub passes : (takings : List Taking) → All (GoesForward order) takings → IsTraversal (with_fences system (map fence_of takings)) order
  passes takings all = record {
    once = λ v v_task. is.once v v_task;
    tasks = λ i d lt. is.tasks i d lt;
    after_suppliers = λ before rest v split.
        (list_all-append (supplied before rest v split) system.items (map fence_item (map fence_of takings))
        ∙ rw (is.after_suppliers before rest v split, all_passed before rest v split takings all) refl);
  }

  -- ---- the fences are fences

  from_task : (taking : Taking) → GoesForward order taking → IsTask system taking.from
  from_task taking goes =
      let at = stands_split goes.before taking.from goes.stands in
      let whole : order ≡ at.0 ++ taking.from ∷ (at.1 ++ taking.to ∷ goes.rest) =
      goes.split ∙ ap (λ (l : List ℕ). l ++ taking.to ∷ goes.rest) at.2 ∙ append_assoc at.0 (taking.from ∷ at.1) (taking.to ∷ goes.rest) in
      task system order is at.0 (at.1 ++ taking.to ∷ goes.rest) taking.from whole

  pub to_task : (taking : Taking) → GoesForward order taking → IsTask system taking.to
  to_task taking goes = task system order is goes.before goes.rest taking.to goes.split

  apart : (taking : Taking) → GoesForward order taking → taking.from ≢ taking.to
  apart taking goes same =
      let none = not_before system order is goes.before goes.rest taking.to goes.split in
      let stands : stands_in goes.before taking.to ≡ true = subst (λ (w : ℕ). stands_in goes.before w ≡ true) same goes.stands in
      cc

  one_fits : (takings : List Taking) → All (GoesForward order) takings → (i : ℕ) → i < length takings → FenceFits system (map fence_of takings) (i + 1)
  one_fits takings all i lt test =
      let d : Taking = record { from = 0; to = 0; amount = 0; along = None } in
      let goes = all i d lt in
      let is_fence : fence_at (map fence_of takings) (i + 1) ≡ fence_of (get_or takings i d) =
      fence_is (map fence_of takings) i (fence_of d) (omega (arith, length-map takings fence_of)) ∙ get_or-map fence_of takings i d (fence_of d) lt in
      elim test as (λ t. FencePasses system (map fence_of takings) t (i + 1)) [
        | tests.Tasks ↦ subst (λ (f : Fence). IsTask system f.from × IsTask system f.to) (sym is_fence) (from_task (get_or takings i d) goes, to_task (get_or takings i d) goes)
        | tests.Apart ↦ subst (λ (f : Fence). f.from ≢ f.to) (sym is_fence) (apart (get_or takings i d) goes)
      ]

  pub are_fences : (takings : List Taking) → All (GoesForward order) takings → length system.items + length takings ≤ most_positions → AreFences system (map fence_of takings)
  are_fences takings all few = record {
    few = omega (arith, few, length-map takings fence_of);
    fit = λ place at. subst (FenceFits system (map fence_of takings)) (back place at.0) (one_fits takings all (place - 1) (omega (arith, at.1, at.0, length-map takings fence_of)));
  }
    where
      back : (place : ℕ) → 1 ≤ place → place - 1 + 1 ≡ place
      back place low = omega arith
