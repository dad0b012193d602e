use Rattle.std.proofs.Common.{ℕ, ◌++◌, map, ap, ◌∙◌}
use Rattle.activation.specs.Schedule.{task_entry}
use Rattle.activation.specs.Consumers.{edge}
use Rattle.activation.proofs.Numbers.{number_at}
use Rattle.activation.proofs.consumers.push_edges.Goals as goal

pub returns-in_ok-push_edges_from : goal.returns-in_ok-push_edges_from
returns-in_ok-push_edges_from c =
    let place = task_entry c.args.places.now in
    let number = c.requires.producer c.in-Some.producer c.in-Some.is in
    rw c.in-Some.is
    (c.in_ok-push_edges_from.ensures
    ∙ ap (λ (n : ℕ). c.args.edges.now.items ++ map (λ r. edge n (place r)) c.args.readers.now)
    (number_at c.args.places.now c.in-Some.producer number.0))
