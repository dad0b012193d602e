use Rattle.std.proofs.Common.{map, refl, rules, subst}
use Rattle.symbolic.specs.declared.options.FrontOptions.{FrontOptions}
use Rattle.equivalent_orders.specs.Arrays.{number_from}
use Rattle.c_calls.specs.Fronts.{HaveFronts}
use Rattle.c_calls.proofs.fronts.fronts_of_arrays.Goals as goal

pub returns-then-room-needed-clause-refused : goal.returns-then-room-needed-clause-refused
returns-then-room-needed-clause-refused c =
    let rows = c.in_ok-pattern.pattern in
    let order = c.in_ok-order.order in
    let made = c.in_ok-made.made in record {
      nodes = made.tree;
      fronts = made.of_columns.items;
      are_fronts = record {
        columns = map (number_from c.args.base) made.perm;
        analysed = record {
          rows = rows;
          order = order;
          perm = made.perm;
          is_matrix = record {
            columns = c.in_ok-pattern.ensures.columns;
            pattern = c.in_ok-pattern.ensures.pattern;
            order_is = c.in_ok-order.ensures.order;
            perm = c.in_ok-order.ensures.perm;
          };
          have_fronts = subst (λ (options : FrontOptions). HaveFronts options rows order made.perm made.tree made.of_columns.items)
              c.in_ok-options.ensures.options c.in_ok-made.ensures.fronts;
          columns_are = refl;
        };
      };
      needed_is = search rules;
      less = search rules;
      few = search rules;
    }
