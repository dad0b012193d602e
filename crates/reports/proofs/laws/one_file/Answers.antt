use Rattle.reports.proofs.OneFile.{Formats, not_both, one_refusal}
use Rattle.reports.proofs.laws.one_file.Goals as goal

pub returns : goal.returns
returns c =
    let formats : Formats = record {
      trees = record { not_both = c.exactly_one.ensures.not_both; one_refusal = c.exactly_one.ensures.one_refusal };
      workflows = record { not_both = c.exactly_one-2.ensures.not_both; one_refusal = c.exactly_one-2.ensures.one_refusal };
      shared_graphs = record { not_both = c.exactly_one-5.ensures.not_both; one_refusal = c.exactly_one-5.ensures.one_refusal };
      matrices = record { not_both = c.exactly_one-3.ensures.not_both; one_refusal = c.exactly_one-3.ensures.one_refusal };
      orders = record { not_both = c.exactly_one_order.ensures.not_both; one_refusal = c.exactly_one_order.ensures.one_refusal };
      perms = λ n. record { not_both = c.exactly_one_perm.ensures.not_both n; one_refusal = c.exactly_one_perm.ensures.one_refusal n };
      inverses = λ n. record {
        not_both = c.exactly_one_inverse.ensures.not_both n;
        one_refusal = c.exactly_one_inverse.ensures.one_refusal n;
      };
      plans = record { not_both = c.exactly_one-4.ensures.not_both; one_refusal = c.exactly_one-4.ensures.one_refusal };
      bounded_plans = record { not_both = c.exactly_one-6.ensures.not_both; one_refusal = c.exactly_one-6.ensures.one_refusal };
      planned_orders = record { not_both = c.exactly_one-7.ensures.not_both; one_refusal = c.exactly_one-7.ensures.one_refusal };
      fences = record { not_both = c.exactly_one-8.ensures.not_both; one_refusal = c.exactly_one-8.ensures.one_refusal };
      patterns = c.exactly_one-3.ensures.one_pattern;
      one_plan = c.exactly_one-4.ensures.one_plan;
      systems = c.one_input.ensures.tasks;
    } in
    record { not_both = not_both formats; one_refusal = one_refusal formats }
