use Rattle.std.proofs.Common.{ℕ, ◌≡◌, ◌+◌, ◌<◌, ◌≤◌, ◌⊎◌, length, arith, inl, inr, subst, sym, refl, Some}
use Rattle.lists.proofs.Orders.{lt_or_le}
use Rattle.peak_bounds.specs.Evidence.{memory_at_start, memory_of_task}
use Rattle.limits.specs.Limits.{most_total}
use Rattle.shared_systems.specs.Shared.{SharedTaskSystem, HasTask}
use Rattle.bound_search.specs.declared.needs.Most.{Most}
use Rattle.bound_search.specs.Needs.{IsNeeded, IsMostOf}
use Rattle.bound_search.proofs.needs.most_needed.Goals as goal
use Rattle.bound_search.proofs.needs.most_needed.Goals.{then-memory-most, else-memory-most}

module _ (system : SharedTaskSystem) (i : ℕ) (most : Most) (is : IsMostOf system i most) (inside : i < length system.tasks) (memory : ℕ)
    (memory_is : memory ≡ memory_of_task system (i + 1)) where
  up_to : (top : ℕ) → most.memory ≤ top → memory ≤ top → (t : ℕ) → 1 ≤ t → t ≤ i + 1 → memory_of_task system t ≤ top
  up_to top high here t some le = elim (lt_or_le i t) [
    | inl last ↦ (let same : t ≡ i + 1 = omega arith in rw same (omega (arith, memory_is)))
    | inr earlier ↦ omega (arith, is.tasks t some earlier)
  ]

  taken : memory ≤ most_total → most.memory < memory → IsMostOf system (i + 1) (record { task = Some (i + 1); memory = memory })
  taken within more = record {
    needed = ((omega arith, omega arith), memory_is);
    within = within;
    start = omega (arith, is.start);
    tasks = up_to memory (omega arith) (omega arith);
  }

  kept : memory ≤ most.memory → IsMostOf system (i + 1) most
  kept less = record { needed = is.needed; within = is.within; start = is.start; tasks = up_to most.memory (omega arith) less }

pub loop-i-preserved : goal.loop-i-preserved
loop-i-preserved c =
    let inside : c.loop-i.i < length c.args.system.now.tasks = rw (sym c.tasks-count.ensures.value) (omega arith) in
    elim c.if-memory-most.branch [
      | then-memory-most w ↦ (
          let next = taken c.args.system.now c.loop-i.i c.loop-i.most c.loop-i.invariant inside c.memory_of-memory.result
          c.memory_of-memory.ensures.memory c.memory_of-memory.ensures.within w.if-memory-most.true in
          subst (IsMostOf c.args.system.now (c.loop-i.i + 1)) (sym w.most-is) next)
      | else-memory-most w ↦ (
          let next = kept c.args.system.now c.loop-i.i c.loop-i.most c.loop-i.invariant inside c.memory_of-memory.result
          c.memory_of-memory.ensures.memory w.if-memory-most.false in
          subst (IsMostOf c.args.system.now (c.loop-i.i + 1)) (sym w.most-is) next)
    ]
