use Rattle.std.proofs.Common.{◌+◌, ◌-◌, ◌/◌, length, None, Ok, subst, arith}
use Rattle.std.specs.Prelude.{IfOk}
use Rattle.std.proofs.lemmas.Result.{IfOk-weaker}
use Rattle.peak_bounds.specs.Judged.{IsFirstFound}
use Rattle.peak_bounds.proofs.Parts.{few, joined, covers}
use Rattle.peak_bounds.proofs.chunks.judge_parts.Goals as goal

pub found_in_chunks-requires-clause-few : goal.found_in_chunks-requires-clause-few
found_in_chunks-requires-clause-few g c κs within =
    omega (arith, few c.args.system.now c.args.set.now c.args.bound c.requires.formed, c.keeps.ensures.few_tasks)

pub returns : goal.returns
returns g c =
    let set = c.args.set.now in
    let size = (length c.blockers.result.now - 1) / c.args.workers + 1 in
    let covered = covers (length set.blockers) size (length c.in_ok-found.found.items) (omega arith) c.in_ok-found.ensures.len in
    IfOk-weaker c.first_found.result _ _ (joined c.args.system.now set c.args.bound size c.in_ok-found.found.items c.in_ok-found.ensures.each (Ok None) covered)
    (subst (λ l. IfOk c.first_found.result (IsFirstFound l)) c.deref.ensures.value c.first_found.ensures)
