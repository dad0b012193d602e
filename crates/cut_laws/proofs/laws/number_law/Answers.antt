use Rattle.cut_laws.proofs.Plans.{names_are_numbers, order_is_traversal}
use Rattle.cut_laws.proofs.laws.number_law.Goals as goal

pub returns : goal.returns
returns c = record { numbers = names_are_numbers; order = order_is_traversal }
