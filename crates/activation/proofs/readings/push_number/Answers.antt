use Rattle.std.proofs.Common.{ℕ, length, get_or, ap}
use Rattle.std.proofs.lemmas.List.Elements.{All-get_or}
use Rattle.activation.specs.Running.{IsNumber}
use Rattle.activation.specs.Schedule.{task_entry}
use Rattle.activation.specs.Consumers.{edge}
use Rattle.activation.proofs.Numbers.{number_at}
use Rattle.activation.proofs.Ends.{edges_pushed}
use Rattle.activation.proofs.readings.push_number.Goals as goal

pub loop-reader-preserved : goal.loop-reader-preserved
loop-reader-preserved c =
    let readers = c.args.readers.now in
    let i = c.loop-reader.reader-index in
    let places = c.args.places.now in
    let number = All-get_or (λ t. IsNumber t (length places)) readers i 0 c.loop-reader-test.true c.requires in
    edges_pushed (λ r. edge (task_entry places r) c.args.number) c.args.edges.now.items c.loop-reader.edges.items
    c.push.new.self.items readers i _ c.loop-reader-test.true c.loop-reader.invariant c.in_ok-push.ensures.items
    (ap (λ (n : ℕ). edge n c.args.number) (number_at places (get_or readers i 0) number.0))
