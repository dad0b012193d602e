use Rattle.judging.proofs.PageLemmas.{token_more, tokens_more}
use Rattle.judging.proofs.page.print_list.Goals as goal

pub loop-number-preserved : goal.loop-number-preserved
loop-number-preserved c =
    let numbers = c.args.numbers.now in
    let i = c.loop-number.number-index in
    record {
      text = token_more numbers i c.loop-number-test.true c.from.result c.from.ensures c.args.report.now c.loop-number.report c.num.new.self
          c.loop-number.invariant.text c.in_ok-num.ensures.ok;
      tokens =
          tokens_more numbers i c.loop-number-test.true c.from.result c.from.ensures c.loop-number.invariant.tokens c.num.ensures.token;
    }
