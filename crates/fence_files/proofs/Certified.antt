-- A certificate for a system is one that a fence file can state.
use Rattle.std.proofs.Common.{◌≡◌, ◌∙◌, ◌+◌, ◌*◌, ◌-◌, ◌^◌, ◌<◌, ◌≤◌, ℕ, Bool, true, false, cond, List, [], ◌∷◌, ◌++◌, All}
use Rattle.std.proofs.Common.{length, map, count_by, get_or, sym, ap, subst, arith}
use Rattle.std.proofs.lemmas.List.{length-map, length-append}
use Rattle.std.proofs.lemmas.List.Elements.{All-cons, All-from_get_or, All-nil}
use Rattle.std.proofs.Math.Nat.{mul-le-mul_left, mul_comm}
use Rattle.limits.specs.Limits.{most_positions, most_tasks}
use Rattle.lists.specs.Numbers.{Each}
use Rattle.mp_system.specs.System.{TaskSystem}
use Rattle.shared_systems.specs.Shared.{SharedTaskSystem, SharedItem}
use Rattle.shared_systems.specs.Bounds.{IsSharedSystem}
use Rattle.shared_systems.specs.Collected.{collected, is_shared, next_from}
use Rattle.shared_systems.proofs.Collectors.{more_shared}
use Rattle.fences.specs.declared.fenced.Fence.{Fence}
use Rattle.fences.specs.declared.fenced.FenceTest.TheVariants.{Tasks}
use Rattle.fences.specs.declared.judged.AmountTest.TheVariants.{Limit}
use Rattle.fences.specs.declared.certificate.Workers.{Workers}
use Rattle.fences.specs.declared.certificate.Workers.TheVariants as workers
use Rattle.fences.specs.Judged.{AreAccepted}
use Rattle.fences.specs.JudgedFences.{AreFences, fence_at, fence_item, with_fences}
use Rattle.fences.specs.Workers.{relieved, relieved_task}
use Rattle.fences.specs.Certificates.{Certificate, Certifies, join_places_from, reserve_of, room_of}
use Rattle.fence_files.specs.FenceFile.{most_number}
use Rattle.fence_files.specs.Printed.{AreCounted, AreWorkersWithin, IsFenceWithin, IsPlace, IsPrintable, IsWord}

-- ---- the workers

workers_within : (told : Workers) (bound : ℕ) → AreCounted told → reserve_of told ≤ bound → IsWord bound → AreWorkersWithin told
workers_within workers.Any bound counted reserve word = tt
workers_within (workers.AtMost count room) bound counted reserve word =
    let more = mul-le-mul_left room counted.0 in
    (counted.0, counted.1, omega (arith, more, mul_comm room count, reserve, word))

-- ---- the joins

join_count : (place : ℕ) (items : List SharedItem) → length (join_places_from place items) ≡ count_by is_shared items
join_count place [] = omega arith
join_count place (x ∷ items) =
    let rest = join_count (place + 1) items in
    let one : length (cond (is_shared x) (place ∷ []) [] ++ join_places_from (place + 1) items) ≡ next_from 0 x + count_by is_shared items =
    elim (is_shared x) as
    (λ b. length (cond b (place ∷ []) [] ++ join_places_from (place + 1) items) ≡ cond b (0 + 1) 0 + count_by is_shared items) [
      | true ↦ omega (arith, rest)
      | false ↦ omega (arith, rest)
    ] in
    omega (arith, one, more_shared 0 x items)

places_within : (place : ℕ) (items : List SharedItem) → 1 ≤ place → place + length items ≤ most_number
    → All IsPlace (join_places_from place items)
places_within place [] low high = All-nil IsPlace
places_within place (x ∷ items) low high =
    let rest = places_within (place + 1) items (omega arith) (omega (arith, high)) in
    elim (is_shared x) as (λ b. All IsPlace (cond b (place ∷ []) [] ++ join_places_from (place + 1) items)) [
      | true ↦ All-cons IsPlace place (join_places_from (place + 1) items) (low, omega (arith, high)) rest
      | false ↦ rest
    ]

-- ---- the fences and the amounts

module _ (system : TaskSystem) (fences : List Fence) (amounts : List ℕ) where
  fences_within : length system.tasks ≤ most_number → AreFences system fences → All IsFenceWithin fences
  fences_within few are =
      All-from_get_or IsFenceWithin fences (record { from = 0; to = 0 })
      (λ i lt.
      let both = are.fit (i + 1) (omega arith, omega (arith, lt)) Tasks in
      let place : i + 1 - 1 ≡ i = omega arith in
      subst (λ (k : ℕ). IsFenceWithin (get_or fences k (record { from = 0; to = 0 }))) place
      (omega (arith, both.0.1, few), omega (arith, both.1.1, few)))

  amounts_within : AreAccepted system amounts → All IsWord amounts
  amounts_within are =
      All-from_get_or IsWord amounts 0
      (λ i lt.
      let limit = are.fit (i + 1) (omega arith, omega (arith, lt, are.long)) Limit in
      let place : i + 1 - 1 ≡ i = omega arith in
      subst (λ (k : ℕ). IsWord (get_or amounts k 0)) place (omega (arith, limit)))

-- ---- all of it

module _ (system : SharedTaskSystem) (certificate : Certificate) (is : IsSharedSystem system) (certifies : Certifies system certificate)
    (tasks : length (collected system).tasks ≡ length system.tasks + count_by is_shared system.items) where
  abbrev told : TaskSystem
  told = relieved (room_of certificate.workers) (collected system)

  few_tasks : length told.tasks ≤ most_tasks
  few_tasks =
      omega (arith, length-map (collected system).tasks (relieved_task (room_of certificate.workers)), certifies.for_tasks.has_joins.room.tasks)

  few_amounts : length certificate.amounts ≤ most_positions
  few_amounts =
      omega (
        arith,
        certifies.certify.accepted.long,
        length-append told.items (map fence_item certificate.fences),
        length-map certificate.fences fence_item,
        certifies.certify.leave.are_fences.few,
      )

  few_joins : length certificate.joins ≤ most_tasks
  few_joins =
      omega (
        arith,
        ap (λ (places : List ℕ). length places) certifies.for_tasks.has_joins.joins,
        join_count 1 system.items,
        tasks,
        certifies.for_tasks.has_joins.room.tasks,
      )

  pub printable : IsWord certificate.bound → AreCounted certificate.workers → IsPrintable certificate
  printable word counted = record {
    bound = word;
    workers = workers_within certificate.workers certificate.bound counted certifies.for_tasks.reserve word;
    joins = (
      few_joins,
      subst (λ (places : List ℕ). All IsPlace places) (sym certifies.for_tasks.has_joins.joins)
          (places_within 1 system.items (omega arith) (omega (arith, is.few_items))),
    );
    fences = (
      omega (arith, certifies.certify.leave.are_fences.few),
      fences_within told certificate.fences certificate.amounts
          (omega (arith, few_tasks)) certifies.certify.leave.are_fences,
    );
    amounts = (few_amounts, amounts_within (with_fences told certificate.fences) certificate.fences certificate.amounts certifies.certify.accepted);
  }
