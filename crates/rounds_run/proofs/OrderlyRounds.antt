-- The rounds of a schedule have each supernode once, after its children.
use Rattle.std.proofs.Common.{◌≡◌, ℕ, zero, suc, ◌-◌, ◌*◌, ◌^◌, ◌<◌, ◌≤◌, inl, inr, Bool, true, eqb, List}
use Rattle.std.proofs.Common.{[], ◌∷◌, length, get_or, take, map, refl, sym, ap, subst, ◌∙◌, arith}
use Rattle.std.specs.List.{list_any, IsDistinct}
use Rattle.std.proofs.lemmas.Bool.{cases_lt, cases_Bool, both_ways, false_from_ne_true}
use Rattle.std.proofs.lemmas.List.{get_or_past, get_or-take, length-take, length-map, get_or-map}
use Rattle.std.proofs.lemmas.List.Folds.{list_any_at}
use Rattle.limits.specs.Limits.{most_order}
use Rattle.patterns.specs.Pattern.{has}
use Rattle.mp_system.specs.System.{IsTask, task_at}
use Rattle.trees.specs.declared.node.Node.{Node}
use Rattle.trees.specs.Tree.{task_of_node}
use Rattle.assembly_tree.specs.declared.assembly.Super.{Super}
use Rattle.assembly_tree.specs.Assembly.{AssemblyTree, IsAssembly, IsSuper, no_super, super_at}
use Rattle.mp_system.specs.Memory.{is_ready}
use Rattle.shared_systems.specs.SharedMemory.{has_inputs}
use Rattle.shared_systems.specs.OneReader.{shared_of}
use Rattle.shared_systems.proofs.SameSystems.{inputs_ready}
use Rattle.activation.specs.declared.events.Event.{Event}
use Rattle.activation.specs.Machine.{AllDone}
use Rattle.activation.specs.Schedule.{IsSchedule, first_moment}
use Rattle.rounds_run.specs.RowSystem.{row_node, row_system, row_order, row_setting}
use Rattle.rounds_run.specs.Rounds.{started_at, AreStarts}
use Rattle.rounds_run.specs.Holding.{in_rounds, AreOrderly}
use Rattle.rounds_run.proofs.RowTrees.{super_of_task, task_of_super, child_done, row_traversal}
use Rattle.rounds_run.proofs.Timely.{IsTimely, timely_end, all_started}

-- a list among others that passes a test
pub any_place : {X : Type 0} (p : X → Bool) (xs : List X) (d : X) → list_any p xs ≡ true
    → (i : ℕ) × (i < length xs) × (p (get_or xs i d) ≡ true)
any_place p [] d there = absurd (both_ways _ refl there)
any_place p (x ∷ xs) d there =
    elim (cases_Bool (p x)) [
      | inl t ↦ (zero, omega arith, t)
      | inr f ↦ (let rest = any_place p xs d (rw f at there) in (suc rest.0, omega (arith, rest.1), rest.2))
    ]

-- a round that has something is there
round_there : (rounds : List (List ℕ)) (k s : ℕ) → has (get_or rounds k []) s ≡ true → k < length rounds
round_there rounds k s there =
    elim (cases_lt k (length rounds)) [
      | inl lt ↦ lt
      | inr le ↦ absurd (both_ways _ refl (ap (λ z. has z s) (sym (get_or_past rounds k [] le)) ∙ there))
    ]

pub in_earlier : (rounds : List (List ℕ)) (j k s : ℕ) → j < k → has (get_or rounds j []) s ≡ true → in_rounds rounds k s ≡ true
in_earlier rounds j k s lt there =
    let inside = round_there rounds j s there in
    list_any_at (λ list. has list s) (take k rounds) j [] (omega (arith, length-take k rounds, inside, lt))
    (ap (λ z. has z s) (get_or-take k rounds j [] lt) ∙ there)

from_earlier : (rounds : List (List ℕ)) (k s : ℕ) → in_rounds rounds k s ≡ true → (j : ℕ) × (j < k) × (has (get_or rounds j []) s ≡ true)
from_earlier rounds k s there =
    let place = any_place (λ list. has list s) (take k rounds) [] there in
    let lt : place.0 < k = omega (arith, place.1, length-take k rounds) in
    (place.0, lt, ap (λ z. has z s) (sym (get_or-take k rounds place.0 [] lt)) ∙ place.2)

-- supernode t is a child of s
abbrev IsChildOf : List Super → ℕ → ℕ → Type 0
IsChildOf supers t s = IsSuper supers t × ((super_at supers t).parent ≡ s)

unit_time : (assembly : AssemblyTree) → IsAssembly assembly → (t : ℕ) → IsTask (row_system assembly.supers) t
    → (task_at (row_system assembly.supers) t).time ≡ 1
unit_time assembly is t task =
    let super = super_of_task assembly is t task in
    let lt : t - 1 < length assembly.supers = omega (arith, super.0, super.1) in
    let long = length-map assembly.supers row_node in
    ap (λ x. x.time) (get_or-map task_of_node (map row_node assembly.supers) (t - 1) (row_node no_super) _ (omega (arith, lt, long)))
    ∙ ap (λ (x : Node). x.time) (get_or-map row_node assembly.supers (t - 1) no_super (row_node no_super) lt)

-- a task that has its inputs is ready
is_ready_row : (assembly : AssemblyTree) (done : ℕ → Bool) (s : ℕ) → has_inputs (shared_of (row_system assembly.supers)) done s ≡ true
    → is_ready (row_system assembly.supers) done s ≡ true
is_ready_row assembly done s ready = sym (inputs_ready (row_system assembly.supers) done s) ∙ ready

module _ (assembly : AssemblyTree) (is : IsAssembly assembly) (bound workers : ℕ) (events : List Event) (rounds : List (List ℕ))
    (schedule : IsSchedule (row_setting assembly.supers bound workers) (row_order assembly.supers)
    (first_moment (row_setting assembly.supers bound workers)) events)
    (starts : AreStarts events rounds) where
  end_is : (end : _) × IsTimely (row_setting assembly.supers bound workers) (IsChildOf assembly.supers) events end
      × AllDone (row_setting assembly.supers bound workers) end.state
  end_is =
      timely_end (row_setting assembly.supers bound workers) (IsChildOf assembly.supers) (unit_time assembly is)
      (row_traversal assembly is).tasks
      (λ done s t ready task child. child_done assembly is done s t (is_ready_row assembly done s ready) child.0 child.1
      (super_of_task assembly is s task))
      (row_order assembly.supers) events schedule

  -- what stands in a round started at its moment, and the other way round
  started : (k s : ℕ) → has (get_or rounds k []) s ≡ true → has (started_at k events) s ≡ true
  started k s there = ap (λ z. has z s) (sym (starts.each k)) ∙ there

  in_round : (k s : ℕ) → has (started_at k events) s ≡ true → has (get_or rounds k []) s ≡ true
  in_round k s there = ap (λ z. has z s) (starts.each k) ∙ there

  pub rounds_orderly : AreOrderly assembly.supers rounds
  rounds_orderly =
      let ok = end_is.1 in
      record {
        within = λ k s there. super_of_task assembly is s (ok.tasks k s (started k s there));
        all = λ s super. (
            let start = all_started (row_setting assembly.supers bound workers) (IsChildOf assembly.supers) (unit_time assembly is)
            (row_traversal assembly is).tasks
            (λ done s t ready task child. child_done assembly is done s t (is_ready_row assembly done s ready) child.0 child.1
            (super_of_task assembly is s task))
            events end_is.0 ok end_is.2 s (task_of_super assembly is s super) in
            let there = in_round start.0 s start.1 in
            list_any_at (λ list. has list s) rounds start.0 [] (round_there rounds start.0 s there) there
            );
        once = λ k. subst (IsDistinct eqb) (sym (starts.each k)) (ok.once k);
        apart = λ k s there. false_from_ne_true _ (λ before. (
            let early = from_earlier rounds k s before in
            let same = ok.apart early.0 k s (started early.0 s early.2) (started k s there) in
            omega (arith, early.1, same)
            ));
        children = λ k s c there child up. (
            let early = ok.supplied k s c (started k s there) (child, up) in
            in_earlier rounds early.0 k c early.1 (in_round early.0 c early.2)
            );
      }

  -- there are no more than events, and one
  pub rounds_few : length events ≤ 3 * most_order → length rounds < 2 ^ 32
  rounds_few few = omega (arith, starts.many, end_is.1.counted, few)
