use Rattle.graphs.proofs.QueueLemmas.{queue-orders}
use Rattle.graphs.proofs.queue.ordered_tasks.Goals as goal

pub returns : goal.returns
returns c =
    let o = c.in_ok-ordering in
    queue-orders c.args.count c.args.arcs.now o.ordering.waits.items o.ordering.queue.items o.ensures.queued o.ensures.judged c.requires.ordered
