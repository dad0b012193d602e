use Rattle.std.proofs.Common.{◌≡◌, ◌∙◌, ◌&&◌}
use Rattle.shared_graph_files.specs.Reader.{is_next}
use Rattle.shared_graph_files.proofs.TakenReaders.{no_number, taken_next, left_out, all_taken}
use Rattle.shared_graph_files.proofs.lines.take_readers.Goals.{then-fit, else-fit}
use Rattle.shared_graph_files.proofs.lines.take_readers.Goals as goal

pub returns-in_default-number : goal.returns-in_default-number
returns-in_default-number c =
    let l = c.loop-word in
    no_number c.args.count c.args.from c.args.words l.words c.next.new.self c.in-Some.word.now l.fit l.last c.args.items.now l.items
    l.invariant c.in-Some.ensures.steps c.in_default-number.ensures

pub loop-word-preserved-in_ok-push_reader : goal.loop-word-preserved-in_ok-push_reader
loop-word-preserved-in_ok-push_reader c =
    let l = c.loop-word in
    let reader = c.in-Some-number.reader in
    let next : c.if-fit.fit ≡ (l.fit && is_next c.args.count c.args.from l.last reader) =
    elim c.if-fit.branch [
      | then-fit w ↦ rw w.if-fit.true (w.fit-is ∙ w.is_next-fit.ensures)
      | else-fit w ↦ rw w.if-fit.false (w.fit-is ∙ w.if-fit.false)
    ] in
    taken_next c.args.count c.args.from c.args.words l.words c.next.new.self c.in-Some.word.now l.fit l.last c.args.items.now l.items
    l.invariant c.in-Some.ensures.steps reader c.in-Some-number.ensures c.if-fit.fit next _ c.in_ok-push_reader.ensures.ok

pub loop-word-preserved : goal.loop-word-preserved
loop-word-preserved c =
    let l = c.loop-word in
    let reader = c.in-Some-number.reader in
    let next : c.if-fit.fit ≡ (l.fit && is_next c.args.count c.args.from l.last reader) =
    elim c.if-fit.branch [
      | then-fit w ↦ rw w.if-fit.true (w.fit-is ∙ w.is_next-fit.ensures)
      | else-fit w ↦ rw w.if-fit.false (w.fit-is ∙ w.if-fit.false)
    ] in
    left_out c.args.count c.args.from c.args.words l.words c.next.new.self c.in-Some.word.now l.fit l.last c.args.items.now l.items
    l.invariant c.in-Some.ensures.steps reader c.in-Some-number.ensures c.if-fit.fit next c.if-fit-2.false

pub returns : goal.returns
returns c =
    let l = c.loop-word in
    all_taken c.args.count c.args.from c.args.words l.words l.fit l.last c.args.items.now l.items l.invariant c.in_default.ensures.steps.0
