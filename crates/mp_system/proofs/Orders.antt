-- A replay of a whole order, one task after the other.
use Rattle.std.proofs.Common.{◌≡◌, ℕ, ◌+◌, ◌<◌, ◌≤◌, max, Bool, false, ◌||◌, eqb, List, [], ◌∷◌, ◌++◌}
use Rattle.std.proofs.Common.{length, get_or, take, drop, refl, sym, ap, ◌∙◌, arith, Some, None}
use Rattle.std.proofs.Math.Path.{fun_ext}
use Rattle.std.proofs.lemmas.List.{drop_more, take_more, take_all, drop_all, length-take-le}
use Rattle.std.proofs.lemmas.Bool.{lt-ltb, le-ltb}
use Rattle.mp_system.specs.declared.system.OrderKind.{OrderKind}
use Rattle.mp_system.specs.declared.system.OrderKind.TheVariants.{Missing}
use Rattle.mp_system.specs.System.{TaskSystem}
use Rattle.mp_system.specs.Memory.{stands_in, state_memory, running_memory, peak_from, peak_of}
use Rattle.mp_system.specs.Traversal.{IsTraversal, fault_of, first_fault, first_fault_after}
use Rattle.mp_system.specs.Step.{AddsTask}
use Rattle.mp_system.specs.Replay.{ReplayState, has_run}
use Rattle.mp_system.proofs.Present.{state_memory_same}
use Rattle.mp_system.proofs.Legal.{stands_in-push, traversal-from_none, none-from_traversal}
use Rattle.mp_system.proofs.Peaks.{peak_from-ge}

-- the first i tasks have run; what is left gives the fault, and with the peak so far the peak
pub record Reaches (system : TaskSystem) (order : List ℕ) (i peak : ℕ) (state : ReplayState) : Type 0 where
  pub system_is : state.system ≡ system
  pub ran : (v : ℕ) → has_run state v ≡ stands_in (take i order) v
  pub fault : first_fault_after system (take i order) (drop i order) ≡ first_fault system order
  pub whole : max peak (peak_from system (take i order) (drop i order)) ≡ peak_of system order
  pub least : state_memory system (has_run state) ≤ peak

pub reaches-start : (system : TaskSystem) (order : List ℕ) (state : ReplayState) (memory : ℕ)
    → state.system ≡ system → ((v : ℕ) → has_run state v ≡ false)
    → memory ≡ state_memory state.system (has_run state) → Reaches system order 0 memory state
reaches-start system order state memory system_same none memory_is =
    let same : state_memory system (has_run state) ≡ state_memory system (stands_in []) =
    state_memory_same system (has_run state) (stands_in []) none in
    let here = memory_is ∙ ap (λ (s : TaskSystem). state_memory s (has_run state)) system_same in
    record {
      system_is = system_same;
      ran = none;
      fault = refl;
      whole = omega (arith, peak_from-ge system [] order, same, here);
      least = omega arith;
    }

-- ---- one more task

module _ (system : TaskSystem) (order : List ℕ) (i peak v : ℕ) (state : ReplayState)
    (reaches : Reaches system order i peak state) (lt : i < length order) (v_is : v ≡ get_or order i 0) where
  tests : has_run state ≡ stands_in (take i order)
  tests = fun_ext reaches.ran

  rest_is : drop i order ≡ v ∷ drop (i + 1) order
  rest_is = drop_more order i 0 lt ∙ ap (λ (w : ℕ). w ∷ drop (i + 1) order) (sym v_is)

  before_is : take i order ++ v ∷ [] ≡ take (i + 1) order
  before_is = ap (λ (w : ℕ). take i order ++ w ∷ []) v_is ∙ sym (take_more order i 0 lt)

  pub fault-here : (kind : OrderKind) → fault_of system (has_run state) v ≡ Some kind → first_fault system order ≡ Some (i + 1, kind)
  fault-here kind fault =
      let here : fault_of system (stands_in (take i order)) v ≡ Some kind =
      ap (λ (done : ℕ → Bool). fault_of system done v) (sym tests) ∙ fault in
      sym reaches.fault ∙ ap (first_fault_after system (take i order)) rest_is
      ∙ rw here (ap (λ (n : ℕ). Some (n + 1, kind)) (length-take-le i order (omega arith)))

  pub reaches-next : (later : ReplayState) (running memory : ℕ)
      → fault_of system (has_run state) v ≡ None → running ≡ running_memory system (has_run state) v
      → later.system ≡ state.system → AddsTask (has_run state) v (has_run later)
      → memory ≡ state_memory later.system (has_run later) → Reaches system order (i + 1) (max (max peak running) memory) later
  reaches-next later running memory none running_is system_same adds memory_here =
      let later_system : later.system ≡ system = system_same ∙ reaches.system_is in
      let memory_is : memory ≡ state_memory system (has_run later) =
      memory_here ∙ ap (λ (s : TaskSystem). state_memory s (has_run later)) later_system in
      let here : fault_of system (stands_in (take i order)) v ≡ None =
      ap (λ (done : ℕ → Bool). fault_of system done v) (sym tests) ∙ none in
      let ran_later : (u : ℕ) → has_run later u ≡ stands_in (take (i + 1) order) u =
      λ u. adds u ∙ ap (λ (b : Bool). b || eqb u v) (reaches.ran u)
      ∙ sym (stands_in-push (take i order) v u) ∙ ap (λ (l : List ℕ). stands_in l u) before_is in
      let skip : first_fault_after system (take i order) (drop i order)
      ≡ first_fault_after system (take (i + 1) order) (drop (i + 1) order) = ap (first_fault_after system (take i order)) rest_is
      ∙ rw here (ap (λ (l : List ℕ). first_fault_after system l (drop (i + 1) order)) before_is) in
      let peaks : peak_from system (take i order) (drop i order) ≡ max (state_memory system (stands_in (take i order)))
      (max (running_memory system (stands_in (take i order)) v) (peak_from system (take (i + 1) order) (drop (i + 1) order))) =
      ap (peak_from system (take i order)) rest_is ∙ ap (λ (l : List ℕ). max (state_memory system (stands_in (take i order)))
      (max (running_memory system (stands_in (take i order)) v) (peak_from system l (drop (i + 1) order)))) before_is in
      let state_is : state_memory system (has_run state) ≡ state_memory system (stands_in (take i order)) =
      ap (state_memory system) tests in
      let later_is : state_memory system (has_run later) ≡ state_memory system (stands_in (take (i + 1) order)) =
      state_memory_same system (has_run later) (stands_in (take (i + 1) order)) ran_later in
      record {
        system_is = later_system;
        ran = ran_later;
        fault = sym skip ∙ reaches.fault;
        whole = omega (
          arith,
          reaches.whole,
          reaches.least,
          state_is,
          later_is,
          memory_is,
          peaks,
          running_is,
          peak_from-ge system (take (i + 1) order) (drop (i + 1) order),
        );
        least = omega arith;
      }

-- ---- the end

module _ (system : TaskSystem) (order : List ℕ) (i peak : ℕ) (state : ReplayState)
    (reaches : Reaches system order i peak state) (le : length order ≤ i) where
  fault_end : first_fault_after system order [] ≡ first_fault system order
  fault_end = sym (ap (λ (l : List ℕ). first_fault_after system l []) (take_all i order le))
      ∙ sym (ap (first_fault_after system (take i order)) (drop_all i order le)) ∙ reaches.fault

  pub fault-missing : length order < length system.tasks → first_fault system order ≡ Some (length order + 1, Missing)
  fault-missing few = sym fault_end ∙ rw (lt-ltb (length order) (length system.tasks) few)

  pub traversal-end : length system.tasks ≤ length order → IsTraversal system order
  traversal-end enough = traversal-from_none system order (sym fault_end ∙ rw (le-ltb (length order) (length system.tasks) enough))

  pub peak-end : peak ≡ peak_of system order
  peak-end =
      let state_is : state_memory system (has_run state) ≡ state_memory system (stands_in (take i order)) =
      ap (state_memory system) (fun_ext reaches.ran) in
      omega (arith, reaches.whole, reaches.least, state_is, ap (peak_from system (take i order)) (drop_all i order le))

-- an order with a fault is no traversal
pub fault-no_traversal : (system : TaskSystem) (order : List ℕ) (fault : ℕ × OrderKind)
    → first_fault system order ≡ Some fault → ¬ IsTraversal system order
fault-no_traversal system order fault some traversal =
    (let none = none-from_traversal system order traversal in let clash : Some fault ≡ None = sym some ∙ none in cc)
