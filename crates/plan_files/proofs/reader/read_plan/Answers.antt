use Rattle.std.proofs.Common.{refl, sym, ap, subst, ◌∙◌}
use Rattle.mp_text.specs.declared.layout.Layout.TheVariants.{Commented}
use Rattle.mp_text.specs.Ahead.{rows_of_bytes}
use Rattle.plans.specs.Plan.{IsPlan}
use Rattle.plan_files.specs.PlanFile.{stated, plan_stated}
use Rattle.plan_files.proofs.FormLemmas.{reads-is_plan}
use Rattle.plan_files.proofs.reader.read_plan.Goals as goal

pub read_with-requires : goal.read_with-requires
unfolding stated
read_with-requires c = c.in_ok-new.ensures

pub new-requires-2 : goal.new-requires-2
new-requires-2 c =
    let read = c.in_ok-reader.ensures.read in
    let is = reads-is_plan c.args.bytes.now (plan_stated (stated (rows_of_bytes Commented c.args.bytes.now)))
    (record { form = read.0; stated = refl }) in
    rw c.into_vertices.ensures (subst IsPlan (sym (ap plan_stated (c.reader.view_is ∙ read.1))) is)
