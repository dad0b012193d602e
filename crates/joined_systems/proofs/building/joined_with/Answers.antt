use Rattle.std.proofs.Common.{ℕ, get_or, length, List, sym, ap, subst, ◌∙◌, arith}
use Rattle.std.proofs.lemmas.List.{get_or_default}
use Rattle.std.specs.List.{sum_by}
use Rattle.mp_system.specs.declared.system.Task.{Task}
use Rattle.mp_system.specs.System.{extra_size}
use Rattle.shared_systems.specs.Shared.{SharedTaskSystem}
use Rattle.shared_systems.specs.Bounds.{IsSharedSystem, reader_count, shared_size}
use Rattle.shared_systems.specs.Judged.{IsPlainShared, IsSharedFault}
use Rattle.joined_systems.specs.Few.{IsFew}
use Rattle.joined_systems.specs.Joined.{joined}
use Rattle.joined_systems.proofs.JoinNumbers.{join-le}
use Rattle.joined_systems.proofs.PlainJoins.{system_of, system_is, plain, few, extras_small, sizes_small, uses_small, refused}
use Rattle.joined_systems.proofs.building.joined_with.Goals as goal

pub group-requires-clause-below : goal.group-requires-clause-below
group-requires-clause-below c = λ k d lt.
    omega (arith, get_or_default c.args.joins.now k d 0 lt, join-le c.args.joins.now k, c.count_of-count.ensures)

pub is_few-requires-clause-extras : goal.is_few-requires-clause-extras
is_few-requires-clause-extras c =
    let same = system_is c.args.system.now c.args.joins.now c.keeps.ensures c.requires.len c.in_ok-tasks.tasks.items c.in_ok-items.items c.tasks.result.now
    c.items.result.now c.items-2.result.now c.deref.result.now c.count_of-count.result c.tasks.ensures.value c.items.ensures.value
    c.items-2.ensures.value c.in_ok-items.ensures c.in_ok-tasks.ensures c.count_of-count.ensures
    (ap (λ (l : List ℕ). length l) c.deref.ensures.value ∙ c.in_ok-shares.ensures.len)
    (λ k. ap (λ (l : List ℕ). get_or l k 0) c.deref.ensures.value ∙ c.in_ok-shares.ensures.shares k) in
    let there = ap (λ (l : List Task). system_of l c.in_ok-items.items) c.deref-2.ensures.value ∙ same in
    omega (
      arith,
      ap (λ (s : SharedTaskSystem). sum_by extra_size s.tasks) there,
      extras_small c.args.system.now c.args.joins.now c.keeps.ensures c.requires.len,
    )

pub is_few-requires-clause-sizes : goal.is_few-requires-clause-sizes
is_few-requires-clause-sizes c =
    let same = system_is c.args.system.now c.args.joins.now c.keeps.ensures c.requires.len c.in_ok-tasks.tasks.items c.in_ok-items.items c.tasks.result.now
    c.items.result.now c.items-2.result.now c.deref.result.now c.count_of-count.result c.tasks.ensures.value c.items.ensures.value
    c.items-2.ensures.value c.in_ok-items.ensures c.in_ok-tasks.ensures c.count_of-count.ensures
    (ap (λ (l : List ℕ). length l) c.deref.ensures.value ∙ c.in_ok-shares.ensures.len)
    (λ k. ap (λ (l : List ℕ). get_or l k 0) c.deref.ensures.value ∙ c.in_ok-shares.ensures.shares k) in
    omega (
      arith,
      ap (λ (s : SharedTaskSystem). sum_by shared_size s.items) same,
      sizes_small c.args.system.now c.args.joins.now c.keeps.ensures c.requires.len,
    )

pub is_few-requires-clause-uses : goal.is_few-requires-clause-uses
is_few-requires-clause-uses c =
    let same = system_is c.args.system.now c.args.joins.now c.keeps.ensures c.requires.len c.in_ok-tasks.tasks.items c.in_ok-items.items c.tasks.result.now
    c.items.result.now c.items-2.result.now c.deref.result.now c.count_of-count.result c.tasks.ensures.value c.items.ensures.value
    c.items-2.ensures.value c.in_ok-items.ensures c.in_ok-tasks.ensures c.count_of-count.ensures
    (ap (λ (l : List ℕ). length l) c.deref.ensures.value ∙ c.in_ok-shares.ensures.len)
    (λ k. ap (λ (l : List ℕ). get_or l k 0) c.deref.ensures.value ∙ c.in_ok-shares.ensures.shares k) in
    omega (
      arith,
      ap (λ (s : SharedTaskSystem). sum_by reader_count s.items) same,
      uses_small c.args.system.now c.args.joins.now c.keeps.ensures c.requires.len,
    )

pub returns-then-not-is_few : goal.returns-then-not-is_few
returns-then-not-is_few c = λ within. (
    let same = system_is c.args.system.now c.args.joins.now c.keeps.ensures c.requires.len c.in_ok-tasks.tasks.items c.in_ok-items.items c.tasks.result.now
    c.items.result.now c.items-2.result.now c.deref.result.now c.count_of-count.result c.tasks.ensures.value c.items.ensures.value
    c.items-2.ensures.value c.in_ok-items.ensures c.in_ok-tasks.ensures c.count_of-count.ensures
    (ap (λ (l : List ℕ). length l) c.deref.ensures.value ∙ c.in_ok-shares.ensures.len)
    (λ k. ap (λ (l : List ℕ). get_or l k 0) c.deref.ensures.value ∙ c.in_ok-shares.ensures.shares k) in
    let there = ap (λ (l : List Task). system_of l c.in_ok-items.items) c.deref-2.ensures.value ∙ same in
    let fits = c.is_few.ensures.1
    (subst IsFew (sym there) (few c.args.system.now c.args.joins.now c.keeps.ensures c.requires.len within)) in
    let not = c.if-not-is_few.true in
    cc (fits, not)
    )

pub shared_system_of-requires : goal.shared_system_of-requires
shared_system_of-requires c =
    let same = system_is c.args.system.now c.args.joins.now c.keeps.ensures c.requires.len c.in_ok-tasks.tasks.items c.in_ok-items.items c.tasks.result.now
    c.items.result.now c.items-2.result.now c.deref.result.now c.count_of-count.result c.tasks.ensures.value c.items.ensures.value
    c.items-2.ensures.value c.in_ok-items.ensures c.in_ok-tasks.ensures c.count_of-count.ensures
    (ap (λ (l : List ℕ). length l) c.deref.ensures.value ∙ c.in_ok-shares.ensures.len)
    (λ k. ap (λ (l : List ℕ). get_or l k 0) c.deref.ensures.value ∙ c.in_ok-shares.ensures.shares k) in
    let there = ap (λ (l : List Task). system_of l c.in_ok-items.items) c.deref-2.ensures.value ∙ same in
    subst IsPlainShared (sym same) (plain c.args.system.now c.args.joins.now c.keeps.ensures c.requires.len
    (subst IsFew there (c.is_few.ensures.0 c.if-not-is_few.false)))

pub returns-in-Ok : goal.returns-in-Ok
returns-in-Ok c =
    let same = system_is c.args.system.now c.args.joins.now c.keeps.ensures c.requires.len c.in_ok-tasks.tasks.items c.in_ok-items.items c.tasks.result.now
    c.items.result.now c.items-2.result.now c.deref.result.now c.count_of-count.result c.tasks.ensures.value c.items.ensures.value
    c.items-2.ensures.value c.in_ok-items.ensures c.in_ok-tasks.ensures c.count_of-count.ensures
    (ap (λ (l : List ℕ). length l) c.deref.ensures.value ∙ c.in_ok-shares.ensures.len)
    (λ k. ap (λ (l : List ℕ). get_or l k 0) c.deref.ensures.value ∙ c.in_ok-shares.ensures.shares k) in
    (c.in-Ok.ensures.system ∙ same, subst IsSharedSystem same c.in-Ok.ensures.within)

pub returns-in-Err-Cycle : goal.returns-in-Err-Cycle
returns-in-Err-Cycle c = λ within. (
    let same = system_is c.args.system.now c.args.joins.now c.keeps.ensures c.requires.len c.in_ok-tasks.tasks.items c.in_ok-items.items c.tasks.result.now
    c.items.result.now c.items-2.result.now c.deref.result.now c.count_of-count.result c.tasks.ensures.value c.items.ensures.value
    c.items-2.ensures.value c.in_ok-items.ensures c.in_ok-tasks.ensures c.count_of-count.ensures
    (ap (λ (l : List ℕ). length l) c.deref.ensures.value ∙ c.in_ok-shares.ensures.len)
    (λ k. ap (λ (l : List ℕ). get_or l k 0) c.deref.ensures.value ∙ c.in_ok-shares.ensures.shares k) in
    refused (joined c.args.joins.now c.args.system.now) c.in-Err-Cycle.field-0 (λ e. (let is = c.in-Err-Cycle.field-0-is in cc (e, is)))
    (subst (λ (s : SharedTaskSystem). IsSharedFault s c.in-Err-Cycle.field-0) same c.in-Err-Cycle.ensures.refused) within
    )

pub returns-in-Err-Share : goal.returns-in-Err-Share
returns-in-Err-Share c = λ within. (
    let same = system_is c.args.system.now c.args.joins.now c.keeps.ensures c.requires.len c.in_ok-tasks.tasks.items c.in_ok-items.items c.tasks.result.now
    c.items.result.now c.items-2.result.now c.deref.result.now c.count_of-count.result c.tasks.ensures.value c.items.ensures.value
    c.items-2.ensures.value c.in_ok-items.ensures c.in_ok-tasks.ensures c.count_of-count.ensures
    (ap (λ (l : List ℕ). length l) c.deref.ensures.value ∙ c.in_ok-shares.ensures.len)
    (λ k. ap (λ (l : List ℕ). get_or l k 0) c.deref.ensures.value ∙ c.in_ok-shares.ensures.shares k) in
    refused (joined c.args.joins.now c.args.system.now) c.in-Err-Share.field-0 (λ e. (let is = c.in-Err-Share.field-0-is in cc (e, is)))
    (subst (λ (s : SharedTaskSystem). IsSharedFault s c.in-Err-Share.field-0) same c.in-Err-Share.ensures.refused) within
    )
