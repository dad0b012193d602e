use Rattle.std.proofs.Common.{◌-◌, length, take, drop, arith, rules, sym, ap, ◌∙◌}
use Rattle.std.proofs.lemmas.List.{at_drop_all, take_all, length-drop, take-append-drop}
use Rattle.mp_text.specs.Text.{number_from}
use Rattle.mp_text.proofs.TextLemmas.{number_of-empty, number_of-filled, number_from-nil}
use Rattle.mp_text.proofs.numbers.number.Goals as goal

pub returns-then-is_empty : goal.returns-then-is_empty
returns-then-is_empty c = sym (number_of-empty _ (search (rules, c.if-is_empty.true)))

pub loop-byte-init : goal.loop-byte-init
loop-byte-init c =
    let token = c.args.token.now in
    let len = c.leading_number-leading.result.1 in
    let whole = take_all (length token - len) (drop len token) (omega (arith, length-drop len token)) in
    record {
      fits = omega arith;
      rest = ap (number_from c.leading_number-leading.result.0) whole
          ∙ sym (c.leading_number-leading.ensures.spells (drop len token)) ∙ ap (number_from 0) (take-append-drop len token)
          ∙ sym (number_of-filled token (search (rules, c.if-is_empty.false)));
    }

pub returns : goal.returns
returns c =
    let items =
    take (length c.args.token.now - c.leading_number-leading.result.1) (drop c.leading_number-leading.result.1 c.args.token.now) in
    sym (number_from-nil c.loop-byte.value c.loop-byte.invariant.fits)
    ∙ sym (at_drop_all (number_from c.loop-byte.value) items c.loop-byte.byte-index (omega arith)) ∙ c.loop-byte.invariant.rest
