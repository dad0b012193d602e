use Rattle.std.proofs.Common.{refl}
use Rattle.reports.proofs.FrontLemmas.{FrontParts, one_list_of_rows}
use Rattle.reports.proofs.laws.one_list_of_rows.Goals as goal

pub returns : goal.returns
returns c = λ m bound other workers more texts printed again one two.
    let parts : FrontParts = record {
      matrices = c.one_input.ensures.matrix;
      orders = c.one_analysis.ensures.order;
      supernodes = c.one_analysis.ensures.supernodes;
    } in
    one_list_of_rows parts m.ordering texts m refl bound other workers more printed again one two
