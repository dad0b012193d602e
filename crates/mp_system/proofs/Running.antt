-- What a replay keeps at its start, and when one more task has run.
use Rattle.std.proofs.Common.{◌≡◌, ◌≢◌, ℕ, zero, suc, ◌+◌, ◌-◌, ◌^◌, ◌≤◌, Bool, true, false, ◌&&◌, eq-eqb, leb, List}
use Rattle.std.proofs.Common.{length, get_or, set, replicate, refl, sym, ap, subst, ◌∙◌, arith, None, inl, inr}
use Rattle.std.proofs.lemmas.List.{get_or-set_same, get_or-set_other, length-set, length-replicate, get_or_read}
use Rattle.std.proofs.lemmas.List.Sums.{get_or-le-sum_by}
use Rattle.std.proofs.lemmas.Bool.{cases_eq, ne_eqb, true≢false, le-leb}
use Rattle.std.proofs.Math.Bool.{and-false, or-true}
use Rattle.mp_system.specs.declared.system.Task.{Task}
use Rattle.mp_system.specs.System.{TaskSystem, IsSystem, IsTask, size_where, extra_size, is_output, inputs_of, outputs_of}
use Rattle.mp_system.specs.Memory.{is_present, is_ready, state_memory, running_memory}
use Rattle.mp_system.specs.Step.{AddsTask, CanRun}
use Rattle.mp_system.specs.Traversal.{fault_of}
use Rattle.mp_system.specs.Replay.{ReplayState, is_marked}
use Rattle.mp_system.specs.ReplayTables.{AreOutputs, AreInputs, IsReplay}
use Rattle.mp_system.proofs.Present.{state_step, later_suppliers, state_memory_same}
use Rattle.lists.proofs.Bools.{or_false}
use Rattle.mp_system.proofs.Sums.{size_where-le}
use Rattle.mp_system.proofs.Legal.{true-is_task}

-- ---- the start

unmarked : (n i : ℕ) → get_or (replicate n false) i false ≡ false
unmarked zero i = refl
unmarked (suc n) zero = refl
unmarked (suc n) (suc i) = unmarked n i

module _ (marks : List Bool) (n : ℕ) (marks_are : marks ≡ replicate n false) where
  pub is_marked-none : (v : ℕ) → is_marked marks v ≡ false
  is_marked-none v =
      ap (λ (b : Bool). leb 1 v && b) (ap (λ (l : List Bool). get_or l (v - 1) false) marks_are ∙ unmarked n (v - 1)) ∙ and-false (leb 1 v)

  pub begins : (system : TaskSystem) (outputs : List ℕ) (inputs : List (List ℕ)) (memory : ℕ)
      → n ≡ length system.tasks → AreOutputs system outputs → AreInputs system inputs
      → memory ≡ size_where (is_present (λ _. false)) system.items → IsReplay system marks outputs inputs memory
  begins system outputs inputs memory len are_outputs are_inputs memory_here = record {
    len = ap length marks_are ∙ length-replicate n false ∙ len;
    outputs_are = are_outputs;
    inputs_are = are_inputs;
    memory_is = memory_here ∙ sym (state_memory_same system (is_marked marks) (λ _. false) is_marked-none);
    suppliers = λ v ran. absurd (true≢false (sym ran ∙ is_marked-none v));
  }

-- ---- one more task

is_marked-kept : (marks : List Bool) (v u : ℕ) → 1 ≤ v → u ≢ v → is_marked (set marks (v - 1) true) u ≡ is_marked marks u
is_marked-kept marks v zero low other = refl
is_marked-kept marks v (suc k) low other =
    ap (λ (b : Bool). leb 1 (suc k) && b) (get_or-set_other marks (v - 1) (suc k - 1) true false (omega arith))

is_marked-set : (marks : List Bool) (v : ℕ) → 1 ≤ v → v ≤ length marks → AddsTask (is_marked marks) v (is_marked (set marks (v - 1) true))
is_marked-set marks v low high u = elim (cases_eq u v) [
  | inl same ↦ (
      let there : is_marked (set marks (v - 1) true) v ≡ true =
      rw (le-leb 1 v low, get_or-set_same marks (v - 1) true false (omega arith)) in
      ap (is_marked (set marks (v - 1) true)) same ∙ there ∙ sym (rw (eq-eqb u v same) (or-true (is_marked marks u)))
      )
  | inr other ↦ is_marked-kept marks v u low other ∙ sym (rw (ne_eqb u v other) (or_false (is_marked marks u)))
]

-- a replay of its own system is one of the system that the caller gives
module _ (system own : TaskSystem) (state : ReplayState) (marks : List Bool)
    (same : system ≡ state.system) (is : record { system = own; ran = marks } ≡ state) where
  own_is : own ≡ system
  own_is = ap (λ (s : ReplayState). s.system) is ∙ sym same

  pub stands-given : (ran : List Bool) (outputs : List ℕ) (inputs : List (List ℕ)) (memory : ℕ)
      → IsReplay own ran outputs inputs memory → IsReplay system ran outputs inputs memory
  stands-given ran outputs inputs memory stands = subst (λ (s : TaskSystem). IsReplay s ran outputs inputs memory) own_is stands

  pub stands-own : (ran : List Bool) (outputs : List ℕ) (inputs : List (List ℕ)) (memory : ℕ)
      → IsReplay system ran outputs inputs memory → IsReplay own ran outputs inputs memory
  stands-own ran outputs inputs memory stands = subst (λ (s : TaskSystem). IsReplay s ran outputs inputs memory) (sym own_is) stands

module _ (system : TaskSystem) (ran : List Bool) (outputs : List ℕ)
    (inputs : List (List ℕ)) (memory : ℕ) (stands : IsReplay system ran outputs inputs memory)
    (v : ℕ) (task : IsTask system v) (produced : ℕ) (produced_read : produced ≡ get_or outputs (v - 1) produced) where
  produced_is : produced ≡ outputs_of system v
  produced_is =
      get_or_read outputs (v - 1) produced (omega (arith, stands.outputs_are.len)) produced_read 0 ∙ stands.outputs_are.sums v task

  -- no number of a step is large
  pub step-fits : (tasks : List Task) → tasks ≡ system.tasks → IsSystem system
      → memory + ((get_or tasks (v - 1) (record { extra = 0; share = 0; time = 0 })).extra + produced) ≤ 2 ^ 62
  step-fits tasks same within =
      let extra_is = ap (λ (l : List Task). (get_or l (v - 1) (record { extra = 0; share = 0; time = 0 })).extra) same in
      let extra = get_or-le-sum_by extra_size system.tasks (v - 1) (record { extra = 0; share = 0; time = 0 }) (omega arith) in
      omega (
        arith,
        within.total,
        stands.memory_is,
        produced_is,
        extra_is,
        extra,
        size_where-le (is_present (is_marked ran)) system.items,
        size_where-le (is_output v) system.items,
      )

  pub running-is : (tasks : List Task) → tasks ≡ system.tasks
      → memory + ((get_or tasks (v - 1) (record { extra = 0; share = 0; time = 0 })).extra
      + produced - (get_or tasks (v - 1) (record { extra = 0; share = 0; time = 0 })).share)
      ≡ running_memory system (is_marked ran) v
  running-is tasks same = rw same (omega (arith, stands.memory_is, produced_is))

  -- the task was not marked, the marks show that it is ready, and its inputs were summed up
  module _ (mark : Bool) (mark_read : mark ≡ get_or ran (v - 1) mark) (off : mark ≡ false)
      (marks : List Bool) (same : marks ≡ ran) (ready : is_ready system (is_marked marks) v ≡ true)
      (consumed : ℕ) (consumed_is : consumed ≡ inputs_of system v) where
    can_run : CanRun system (is_marked ran) v
    can_run = record {
      fresh = ap (λ (b : Bool). leb 1 v && b) (sym (get_or_read ran (v - 1) mark (omega (arith, stands.len)) mark_read false) ∙ off)
          ∙ and-false (leb 1 v);
      ready = ap (λ (l : List Bool). is_ready system (is_marked l) v) (sym same) ∙ ready;
      suppliers = stands.suppliers;
    }

    pub no-fault : fault_of system (is_marked ran) v ≡ None
    no-fault = rw (true-is_task system v task, can_run.fresh, can_run.ready)

    adds : AddsTask (is_marked ran) v (is_marked (set ran (v - 1) true))
    adds = is_marked-set ran v task.0 (omega (arith, stands.len))

    step : state_memory system (is_marked (set ran (v - 1) true)) + consumed ≡ memory + produced
    step = omega (
      arith,
      state_step system (is_marked ran) (is_marked (set ran (v - 1) true)) v can_run adds,
      produced_is,
      consumed_is,
      stands.memory_is,
    )

    pub consumed-le : consumed ≤ memory + produced
    consumed-le = omega (arith, step)

    pub after-step : IsReplay system (set ran (v - 1) true) outputs inputs (memory + produced - consumed)
    after-step = record {
      len = length-set ran (v - 1) true ∙ stands.len;
      outputs_are = stands.outputs_are;
      inputs_are = stands.inputs_are;
      memory_is = omega (arith, step);
      suppliers = later_suppliers system (is_marked ran) (is_marked (set ran (v - 1) true)) v can_run adds;
    }
