use Rattle.reports.proofs.UpgradeLemmas.{Kinds, one_upgrade, upgraded_file}
use Rattle.reports.proofs.laws.one_upgrade.Goals as goal

pub returns : goal.returns
returns c =
    let kinds : Kinds = record {
      trees = record {
        one = c.exactly_one.ensures.one_tree;
        kept = c.read_is_tree.ensures;
        printed = c.printed_tree.ensures.text_2;
        short = c.printed_length.ensures.text_2;
      };
      workflows = record {
        one = c.exactly_one-2.ensures.one_workflow;
        kept = c.read_law.ensures;
        printed = c.printed_workflow.ensures.text_2;
        short = c.printed_length-2.ensures.text_2;
      };
      graphs = record {
        one = c.exactly_one-3.ensures.one_graph;
        kept = c.read_law-2.ensures;
        printed = c.printed_law.ensures;
        short = c.printed_length-3.ensures;
      };
      plans = record {
        one = c.exactly_one-4.ensures.one_plan;
        kept = c.read_law-3.ensures;
        printed = c.printed_plan.ensures.text_2;
        short = c.printed_length-4.ensures.text_2;
      };
      perms = c.exactly_one_perm.ensures.one_order;
      perm = c.read_is_perm.ensures;
    } in
    record { one = one_upgrade kinds; file = upgraded_file kinds }
