use Rattle.std.proofs.Common.{refl}
use Rattle.std.proofs.lemmas.Bool.{le-leb, lt-leb}
use Rattle.shared_graph_files.proofs.ItemLines.{no_size, no_from, no_readers, item_taken}
use Rattle.shared_graph_files.proofs.lines.take_item.Goals as goal

pub returns-in_default : goal.returns-in_default
returns-in_default c = rw (← c.tokens-words.ensures) (no_size c.tokens-words.result c.in_default.ensures.number)

pub returns-in_default-next_number : goal.returns-in_default-next_number
returns-in_default-next_number c =
    rw (← c.tokens-words.ensures)
    (no_from c.tokens-words.result c.next_number.new.self c.next_number.ensures.rest c.in_default-next_number.ensures.number)

pub returns-then-from-count : goal.returns-then-from-count
returns-then-from-count c =
    rw (← c.tokens-words.ensures)
    (item_taken c.args.count c.tokens-words.result c.next_number.new.self c.next_number-2.new.self c.in-Some.size
    c.in-Some-next_number.from c.in-Some-2.fit c.in-Some-2.fit c.args.items.now c.take_readers.new.items c.next_number.ensures.rest
    c.next_number-2.ensures.rest c.in-Some.ensures.number c.in-Some-next_number.ensures.number (rw c.in-Some-2.is at c.in_ok-fit.ensures)
    (rw (le-leb c.in-Some-next_number.from c.args.count c.if-from-count.true) refl))

pub returns-else-from-count : goal.returns-else-from-count
returns-else-from-count c =
    rw (← c.tokens-words.ensures)
    (item_taken c.args.count c.tokens-words.result c.next_number.new.self c.next_number-2.new.self c.in-Some.size
    c.in-Some-next_number.from c.in-Some-2.fit _ c.args.items.now c.take_readers.new.items c.next_number.ensures.rest
    c.next_number-2.ensures.rest c.in-Some.ensures.number c.in-Some-next_number.ensures.number (rw c.in-Some-2.is at c.in_ok-fit.ensures)
    (rw (lt-leb c.in-Some-next_number.from c.args.count c.if-from-count.false) refl))

pub returns-in-None : goal.returns-in-None
returns-in-None c =
    rw (← c.tokens-words.ensures)
    (no_readers c.tokens-words.result c.next_number.new.self c.next_number-2.new.self c.next_number.ensures.rest
    c.next_number-2.ensures.rest (rw c.in-None.is at c.in_ok-fit.ensures))
