use Rattle.plan_files.specs.PlanFile.{ReadsPlan, RefusesPlan}
use Rattle.bounded_plan_files.specs.BoundedPlanFile.{ReadsBoundedPlan, RefusesBoundedPlan}
use Rattle.plan_orders.specs.PlanOrder.{form_of}
use Rattle.plan_orders.proofs.OrderLemmas.{IsFormat, read_or_refused, not_both, one_order, one_refusal}
use Rattle.plan_orders.proofs.laws.exactly_one.Goals as goal

pub returns : goal.returns
returns c =
    let plans : IsFormat ReadsPlan RefusesPlan = record {
      some = c.exactly_one.ensures.some;
      not_both = c.exactly_one.ensures.not_both;
      one_plan = c.exactly_one.ensures.one_plan;
      one_refusal = c.exactly_one.ensures.one_refusal;
    } in
    let bounded : IsFormat ReadsBoundedPlan RefusesBoundedPlan = record {
      some = c.exactly_one-2.ensures.some;
      not_both = c.exactly_one-2.ensures.not_both;
      one_plan = c.exactly_one-2.ensures.one_plan;
      one_refusal = c.exactly_one-2.ensures.one_refusal;
    } in
    record {
      some = λ text. read_or_refused plans bounded (form_of text) text;
      not_both = λ text. not_both plans bounded (form_of text) text;
      one_order = λ text. one_order plans bounded (form_of text) text;
      one_refusal = λ text. one_refusal plans bounded (form_of text) text;
    }
