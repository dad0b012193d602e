use Rattle.std.proofs.Common.{◌≡◌, ◌∙◌, List, ℕ, [], ◌∷◌, ◌++◌, map, take, ap, arith}
use Rattle.std.proofs.lemmas.List.{take_all}
use Rattle.std.proofs.lemmas.Result.{err_from_is_err_and, on_ok_weaker, on_err_weaker}
use Rattle.mp_text.specs.Report.{token_text, with_tokens}
use Rattle.mp_text.proofs.ReportLemmas.{text-more, tokens-more, with_tokens-line, stopped}
use Rattle.mp_text.proofs.reports.Report.put_line.Goals as goal

pub loop-token-preserved : goal.loop-token-preserved
loop-token-preserved c =
    let at = c.loop-token.invariant in
    record {
      text = text-more c.args.tokens.now c.loop-token.token-index _
          (omega arith) c.args.self.now c.loop-token.self c.put.new.self at.text c.in_ok-put.ensures.ok;
      are = tokens-more c.args.tokens.now c.loop-token.token-index _ (omega arith) at.are c.in_ok-put.ensures.token;
    }

pub returns-in_err-put : goal.returns-in_err-put
returns-in_err-put c =
    let given = err_from_is_err_and c.from_residual.result c.from_residual.ensures.1 in
    rw (given.1) (record {
      ok = tt;
      err = stopped c.args.self.now c.put.new.self (map token_text (take c.loop-token.token-index c.args.tokens.now))
          (c.in_err-put.ensures.err ∙ c.loop-token.invariant.text);
    })

pub returns : goal.returns
returns c =
    let old = c.args.self.now in
    let texts = map token_text c.args.tokens.now in
    let all = take_all c.loop-token.token-index c.args.tokens.now c.loop-token-test.false in
    let text : c.loop-token.self ≡ with_tokens old texts = rw all at c.loop-token.invariant.text in
    let are = rw all at c.loop-token.invariant.are in
    record {
      ok = on_ok_weaker c.end_line.result
          (λ ended. ended ∙ ap (λ (t : List ℕ). t ++ 10 ∷ []) text ∙ with_tokens-line old texts c.requires.start are)
          c.end_line.ensures.ok;
      err = on_err_weaker c.end_line.result (λ same. stopped old c.end_line.new.self texts (same ∙ text)) c.end_line.ensures.err;
    }
