use Rattle.std.proofs.Common.{◌∙◌, take, arith, length-set}
use Rattle.std.proofs.lemmas.List.{take_more_set, length-take-le, length-replicate, take_all}
use Rattle.mp_text.proofs.CursorLemmas.{Goes, goes-first, goes-next, goes-stops, goes-ends, goes-on}
use Rattle.mp_text.proofs.token_scan.Tokens.numbers.Goals as goal

pub loop-i-init : goal.loop-i-init
loop-i-init g c = record { goes = goes-first c.args.self; long = length-replicate g.row.N 0 }

pub returns-in_err-values : goal.returns-in_err-values
returns-in_err-values g c =
    let at = c.loop-i.invariant in
    let within = length-take-le c.loop-i.i c.loop-i.values (omega (arith, at.long)) in
    rw c.from_residual.ensures (record {
      some = tt;
      none = goes-stops c.args.self c.loop-i.self
          (take c.loop-i.i c.loop-i.values) g.row.N at.goes c.in_err-values.ensures.number (omega (arith, within));
    })

pub loop-i-preserved : goal.loop-i-preserved
loop-i-preserved g c =
    let at = c.loop-i.invariant in
    let n = c.in_ok-values.field-0 in
    record {
      goes = rw (c.in_ok-values.ensures.rest, take_more_set c.loop-i.values c.loop-i.i n (omega (arith, at.long)))
          (goes-next c.args.self c.loop-i.self (take c.loop-i.i c.loop-i.values) n at.goes c.in_ok-values.ensures.number);
      long = length-set c.loop-i.values c.loop-i.i n ∙ at.long;
    }

pub returns-in-Some : goal.returns-in-Some
returns-in-Some g c =
    let at = c.loop-i.invariant in
    let goes : Goes c.args.self c.loop-i.values c.loop-i.self =
    rw (take_all c.loop-i.i c.loop-i.values (omega (arith, at.long))) at at.goes in
    let left = c.in-Some.ensures.steps in
    record { some = tt; none = goes-on c.args.self c.next.new.self c.in-Some.field-0.now c.loop-i.values g.row.N (rw left at goes) at.long }

pub returns-in-None : goal.returns-in-None
returns-in-None g c =
    let at = c.loop-i.invariant in
    let goes : Goes c.args.self c.loop-i.values c.loop-i.self =
    rw (take_all c.loop-i.i c.loop-i.values (omega (arith, at.long))) at at.goes in
    let left = c.in-None.ensures.steps.0 in
    record { some = (goes-ends c.args.self c.loop-i.values (rw left at goes), at.long); none = tt }
