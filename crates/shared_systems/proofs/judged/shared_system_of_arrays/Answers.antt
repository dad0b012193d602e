use Rattle.std.proofs.Common.{List, length, ap, ◌∙◌, arith}
use Rattle.std.specs.List.{sum_by}
use Rattle.mp_system.specs.declared.system.Task.{Task}
use Rattle.mp_system.specs.System.{extra_size}
use Rattle.shared_systems.specs.Shared.{SharedItem}
use Rattle.shared_systems.proofs.GivenSystems.{length-given, tasks_within, plain_from, total_at, refused_from}
use Rattle.shared_systems.proofs.judged.shared_system_of_arrays.Goals as goal

pub extras_of-requires-clause-within : goal.extras_of-requires-clause-within
extras_of-requires-clause-within c =
    rw (c.deref.ensures.value, c.in_ok-all.ensures) (tasks_within c.args.tasks.now c.in_ok-made.ensures.plain.tasks_pass)

pub sizes_of-requires-clause-few : goal.sizes_of-requires-clause-few
sizes_of-requires-clause-few c =
    omega (
      arith,
      ap (λ (l : List SharedItem). length l) c.in_ok-made.ensures.items,
      length-given c.args.items.now c.args.readers.now,
      c.in_ok-made.ensures.plain.few.1,
    )

pub returns-then-extras_of-sizes_of-gt-MOST_TOTAL-clause-refused : goal.returns-then-extras_of-sizes_of-gt-MOST_TOTAL-clause-refused
returns-then-extras_of-sizes_of-gt-MOST_TOTAL-clause-refused c =
    let plain = c.in_ok-made.ensures.plain in
    let extras = c.extras_of.ensures.value ∙ ap (λ (l : List Task). sum_by extra_size l) c.deref.ensures.value in
    let total = total_at c.args.tasks.now c.args.items.now c.args.readers.now plain c.in_ok-all.all.items
    c.in_ok-made.made c.extras_of.result c.sizes_of.result c.in_ok-all.ensures c.in_ok-made.ensures.items
    extras c.sizes_of.ensures.value in
    (plain, omega (arith, c.if-extras_of-sizes_of-gt-MOST_TOTAL.true, total))

pub shared_system_of-requires : goal.shared_system_of-requires
shared_system_of-requires c =
    let plain = c.in_ok-made.ensures.plain in
    let extras = c.extras_of.ensures.value ∙ ap (λ (l : List Task). sum_by extra_size l) c.deref.ensures.value in
    let total = total_at c.args.tasks.now c.args.items.now c.args.readers.now plain c.in_ok-all.all.items
    c.in_ok-made.made c.extras_of.result c.sizes_of.result c.in_ok-all.ensures c.in_ok-made.ensures.items
    extras c.sizes_of.ensures.value in
    plain_from c.args.tasks.now c.args.items.now c.args.readers.now plain
    c.in_ok-all.all.items c.in_ok-made.made c.in_ok-all.ensures c.in_ok-made.ensures.items
    (omega (arith, c.if-extras_of-sizes_of-gt-MOST_TOTAL.false, total))

pub returns-in-Err-clause-refused : goal.returns-in-Err-clause-refused
returns-in-Err-clause-refused c =
    let plain = c.in_ok-made.ensures.plain in
    let extras = c.extras_of.ensures.value ∙ ap (λ (l : List Task). sum_by extra_size l) c.deref.ensures.value in
    let total = total_at c.args.tasks.now c.args.items.now c.args.readers.now plain c.in_ok-all.all.items
    c.in_ok-made.made c.extras_of.result c.sizes_of.result c.in_ok-all.ensures c.in_ok-made.ensures.items
    extras c.sizes_of.ensures.value in
    rw c.refusal_of.ensures
    (refused_from c.args.tasks.now c.args.items.now c.args.readers.now plain c.in_ok-all.all.items
    c.in_ok-made.made c.in-Err.fault c.in_ok-all.ensures c.in_ok-made.ensures.items
    (omega (arith, c.if-extras_of-sizes_of-gt-MOST_TOTAL.false, total)) c.in-Err.ensures.refused)
