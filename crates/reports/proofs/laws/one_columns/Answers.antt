use Rattle.reports.proofs.ColumnLemmas.{ColumnParts, ColumnLaws, columns_once, columns_say}
use Rattle.reports.proofs.laws.one_columns.Goals as goal

pub returns-clause-one : goal.returns-clause-one
returns-clause-one c =
    let parts : ColumnParts = record {
      fronts = record {
        matrices = c.one_input.ensures.matrix;
        orders = c.one_analysis.ensures.order;
        supernodes = c.one_analysis.ensures.supernodes;
      };
      files = record { orders = c.exactly_one_order.ensures.one_order; plans = c.exactly_one.ensures.one_order };
      trees = c.one_analysis.ensures.tree;
      merged = c.amalgamation_is_assembly.ensures;
      front_orders = c.front_orders.ensures;
      fault = c.traversal_law.ensures.fault;
    } in
    columns_once parts

pub returns-clause-said : goal.returns-clause-said
returns-clause-said c =
    let laws : ColumnLaws = record {
      matrices = c.one_input.ensures.matrix;
      perms = c.read_is_perm.ensures;
      inverses = c.inverse_is_perm.ensures.perm;
      adjacency = c.pattern_of_rows.ensures.pattern;
      within = c.pattern_of_rows.ensures.within;
      topological = c.columns_of_fronts.ensures;
      same_fill = c.topological_orders.ensures.columns;
      same_fronts = c.same_fronts.ensures;
      in_postorder = c.fronts_in_postorder.ensures.own;
      reads = c.printed_perm.ensures.reads;
      short = c.printed_perm.ensures.short;
    } in
    columns_say laws
