use Rattle.std.proofs.Common.{◌≡◌, map, take}
use Rattle.spill_plan.specs.Spans.{span_of}
use Rattle.spill_plan.proofs.span.spans_of.Given as goal

abbrev pub invariant-loop-item : goal.invariant-loop-item
invariant-loop-item l = l.spans.items ≡ map (span_of l.order) (take l.item-index l.items)
