use Rattle.std.proofs.Common.{refl, sym, ap, subst}
use Rattle.mp_text.specs.declared.layout.Layout.TheVariants.{Commented}
use Rattle.mp_text.specs.Ahead.{rows_of_bytes}
use Rattle.bounded_plans.specs.BoundedPlan.{IsBoundedPlan}
use Rattle.bounded_plan_files.specs.BoundedPlanFile.{stated, plan_stated}
use Rattle.bounded_plan_files.proofs.FormLemmas.{reads-is_plan}
use Rattle.bounded_plan_files.proofs.reader.read_bounded_plan.Goals as goal

pub read_with-requires : goal.read_with-requires
unfolding stated
read_with-requires c = c.new.ensures

pub into_plan-requires : goal.into_plan-requires
into_plan-requires c =
    let read = c.in_ok-reader.ensures.read in
    let is = reads-is_plan c.args.bytes.now (plan_stated (stated (rows_of_bytes Commented c.args.bytes.now)))
    (record { form = read.0; stated = refl }) in
    subst IsBoundedPlan (sym (ap plan_stated read.1)) is
