use Rattle.std.proofs.Common.{length}
use Rattle.shared_graph_files.specs.Reader.{IsTaking}
use Rattle.shared_graph_files.proofs.lines.take_readers.Given as goal

abbrev pub decreases-loop-word : goal.decreases-loop-word
decreases-loop-word l = length l.words

abbrev pub invariant-loop-word : goal.invariant-loop-word
invariant-loop-word l = IsTaking l.count l.from l.initial.words l.words l.fit l.last l.initial.items l.items
