use Rattle.std.proofs.Common.{take}
use Rattle.serde.specs.Event.{WritesEach}
use Rattle.serde_json.specs.Events.{SendsValue}
use Rattle.bounded_plan_files.specs.JsonValues.{blocker_value}
use Rattle.bounded_plan_files.proofs.json_text.send_blockers.Given as goal

abbrev pub invariant-loop-blocker : goal.invariant-loop-blocker
invariant-loop-blocker g l =
    WritesEach (λ blocker. SendsValue (blocker_value blocker)) (take l.blocker-index l.blockers)
    (g.S.Serializer.written l.initial.out) (g.S.Serializer.written l.out)
