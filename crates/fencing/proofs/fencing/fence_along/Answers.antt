use Rattle.std.proofs.Common.{◌≡◌, ◌+◌, ◌≤◌, List, [], ◌∷◌, refl, map, length, ap, ◌∙◌, arith}
use Rattle.std.proofs.lemmas.List.{length-map}
use Rattle.std.proofs.lemmas.Result.{err_from_is_err_and}
use Rattle.std.proofs.lemmas.List.Sums.{length-filter}
use Rattle.limits.specs.Limits.{most_positions}
use Rattle.mp_system.specs.declared.system.Item.{Item}
use Rattle.fences.specs.declared.fenced.Fence.{Fence}
use Rattle.fencing.specs.declared.ledger.Taking.{Taking}
use Rattle.fences.specs.JudgedFences.{with_fences}
use Rattle.fences.specs.Workers.{relieved}
use Rattle.fencing.specs.Takings.{fence_of, fences_left, is_fence}
use Rattle.fencing.proofs.Certifying.{certify, few_fences, needy, order_passes}
use Rattle.fencing.proofs.Fitting.{taken_within}
use Rattle.fencing.proofs.Relieved.{as_many_tasks, by_order, keeps_limits, taken_least_all, traversal_in, traversal_of}
use Rattle.fencing.proofs.fencing.fence_along.Goals as goal

-- there are as many fences as takings that are fences
long : (fences : List Fence) (read takings : List Taking) → fences ≡ map fence_of (fences_left read) → read ≡ takings → length fences ≡ length (fences_left takings)
long fences read takings is same =
    ap (length {A = Fence}) is ∙ length-map (fences_left read) fence_of ∙ ap (λ (l : List Taking). length (fences_left l)) same

empty : (fences : List Fence) → length fences ≡ 0 → fences ≡ []
empty [] none = refl
empty (fence ∷ fences) none = absurd (omega arith)

pub returns-in_err-replay-clause-refused : goal.returns-in_err-replay-clause-refused
returns-in_err-replay-clause-refused c =
    let refusal = c.in_err-replay.field-0.0 in
    let told = err_from_is_err_and c.from_residual.result c.from_residual.ensures.1 in
    rw (told.1, told.2) (by_order c.args.room c.args.system.now c.args.order.now c.args.bound refusal c.in_err-replay.ensures.fault)

pub returns-then-peak-bound-clause-refused : goal.returns-then-peak-bound-clause-refused
returns-then-peak-bound-clause-refused c =
    (traversal_in c.args.room c.args.system.now c.args.order.now c.in_ok-replay.ensures.peak.0, c.in_ok-peak.ensures, omega (arith, c.if-peak-bound.true))

pub returns-then-items-len-clause-refused : goal.returns-then-items-len-clause-refused
returns-then-items-len-clause-refused c =
    let system = c.args.system.now in
    let lighter = relieved c.args.room system in
    let traversal = traversal_in c.args.room system c.args.order.now c.in_ok-replay.ensures.peak.0 in
    let takings = c.in_ok-takings.takings.items in (
      traversal,
      omega (arith, c.in_ok-peak.ensures, c.if-peak-bound.false),
      omega (
        arith,
        c.if-items-len.true,
        c.len.ensures,
        c.in_ok-fences.fences.ok,
        ap (length {A = Item}) c.items.ensures.value,
        long c.in_ok-fences.fences.items c.deref.result.now takings c.in_ok-fences.ensures c.deref.ensures.value,
        few_fences lighter (keeps_limits c.args.room system c.keeps.ensures) c.args.order.now traversal c.args.bound takings c.in_ok-takings.ensures,
      ),
    )

pub amounts_of-requires-clause-carried : goal.amounts_of-requires-clause-carried
amounts_of-requires-clause-carried c = rw (c.deref-2.ensures.value, c.items-2.ensures.value) c.in_ok-takings.ensures.carried

pub amounts_of-requires-clause-fits : goal.amounts_of-requires-clause-fits
amounts_of-requires-clause-fits c =
    let system = c.args.system.now in
    let lighter = relieved c.args.room system in
    let limits = keeps_limits c.args.room system c.keeps.ensures in
    let traversal = traversal_in c.args.room system c.args.order.now c.in_ok-replay.ensures.peak.0 in
    rw (c.deref-2.ensures.value, c.items-2.ensures.value)
    (omega (arith, taken_within lighter limits c.args.order.now traversal c.args.bound c.in_ok-takings.takings.items c.in_ok-takings.ensures, limits.total))

pub returns-clause-certified : goal.returns-clause-certified
returns-clause-certified c =
    let system = c.args.system.now in
    let lighter = relieved c.args.room system in
    let traversal = traversal_in c.args.room system c.args.order.now c.in_ok-replay.ensures.peak.0 in
    let takings = c.in_ok-takings.takings.items in
    let few : length system.items + length (fences_left takings) ≤ most_positions = omega (
      arith,
      c.if-items-len.false,
      c.len.ensures,
      c.in_ok-fences.fences.ok,
      ap (length {A = Item}) c.items.ensures.value,
      long c.in_ok-fences.fences.items c.deref.result.now takings c.in_ok-fences.ensures c.deref.ensures.value,
    ) in
    rw (c.in_ok-fences.ensures, c.in_ok-amounts.ensures, c.deref.ensures.value, c.deref-2.ensures.value, c.items-2.ensures.value)
    (certify lighter (keeps_limits c.args.room system c.keeps.ensures) c.args.order.now traversal c.args.bound takings c.in_ok-takings.ensures few)

pub returns-clause-passed : goal.returns-clause-passed
returns-clause-passed c =
    let system = c.args.system.now in
    let takings = c.in_ok-takings.takings.items in
    let traversal = traversal_in c.args.room system c.args.order.now c.in_ok-replay.ensures.peak.0 in
    rw (c.in_ok-fences.ensures, c.deref.ensures.value)
    (traversal_of c.args.room (with_fences system (map fence_of (fences_left takings))) c.args.order.now
    (order_passes (relieved c.args.room system) (keeps_limits c.args.room system c.keeps.ensures) c.args.order.now traversal c.args.bound takings c.in_ok-takings.ensures))

pub returns-clause-few : goal.returns-clause-few
returns-clause-few c =
    let system = c.args.system.now in
    let takings = c.in_ok-takings.takings.items in
    let traversal = traversal_in c.args.room system c.args.order.now c.in_ok-replay.ensures.peak.0 in
    omega (
      arith,
      long c.in_ok-fences.fences.items c.deref.result.now takings c.in_ok-fences.ensures c.deref.ensures.value,
      as_many_tasks c.args.room system,
      few_fences (relieved c.args.room system) (keeps_limits c.args.room system c.keeps.ensures) c.args.order.now traversal c.args.bound takings c.in_ok-takings.ensures,
    )

pub returns-clause-needy : goal.returns-clause-needy
returns-clause-needy c =
    let system = c.args.system.now in
    let takings = c.in_ok-takings.takings.items in
    let traversal = traversal_in c.args.room system c.args.order.now c.in_ok-replay.ensures.peak.0 in
    rw (c.in_ok-fences.ensures, c.deref.ensures.value)
    (needy (relieved c.args.room system) (keeps_limits c.args.room system c.keeps.ensures) c.args.order.now traversal c.args.bound takings c.in_ok-takings.ensures)

pub returns-clause-none : goal.returns-clause-none
returns-clause-none c = λ enough.
    let takings = c.in_ok-takings.takings.items in
    empty c.in_ok-fences.fences.items
    (omega (
      arith,
      long c.in_ok-fences.fences.items c.deref.result.now takings c.in_ok-fences.ensures c.deref.ensures.value,
      length-filter is_fence takings,
      c.in_ok-takings.ensures.none (omega (arith, enough, taken_least_all c.args.room c.args.system.now c.keeps.ensures)),
    ))
