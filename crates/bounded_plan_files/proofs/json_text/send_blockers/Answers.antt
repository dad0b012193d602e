use Rattle.std.proofs.Common.{rules, refl}
use Rattle.std.proofs.lemmas.Result.{on_ok_weaker}
use Rattle.serde.proofs.Events.{WritesEach-more, WritesSeq-ends}
use Rattle.serde_json.specs.Events.{SendsValue}
use Rattle.bounded_plan_files.specs.JsonValues.{blocker_value}
use Rattle.bounded_plan_files.proofs.json_text.send_blockers.Goals as goal

pub loop-blocker-preserved : goal.loop-blocker-preserved
loop-blocker-preserved g c =
    WritesEach-more (λ blocker. SendsValue (blocker_value blocker)) _ _ _ _ _ _ c.loop-blocker-test.true
    (search rules) c.loop-blocker.invariant c.in_ok-send_blocker.ensures

pub returns : goal.returns
returns g c =
    on_ok_weaker c.end_seq.result
    (WritesSeq-ends (λ blocker. SendsValue (blocker_value blocker)) c.args.blockers.now _ _ _ _ _ _ _ refl
    (search rules) c.loop-blocker-test.false c.in_ok-begin_seq.ensures c.loop-blocker.invariant) c.end_seq.ensures
