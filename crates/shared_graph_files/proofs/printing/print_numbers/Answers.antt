use Rattle.std.proofs.Common.{◌≡◌, ◌∙◌, ◌++◌, ◌∷◌, [], List, ℕ, ap, sym, subst, take, map, decimal}
use Rattle.std.specs.Bool.{IsTrue}
use Rattle.std.specs.List.{list_all}
use Rattle.std.proofs.lemmas.List.{take_all}
use Rattle.std.proofs.lemmas.Result.{err_from_is_err_and, on_ok_weaker, on_err_weaker}
use Rattle.mp_text.specs.Report.{is_line_start, is_token, with_tokens}
use Rattle.mp_text.proofs.ReportLemmas.{stopped}
use Rattle.shared_graph_files.proofs.PrintedTexts.{numbers_up_to, token_more, tokens_more}
use Rattle.shared_graph_files.proofs.printing.print_numbers.Goals as goal

pub returns-in_err-num-3-clause-err : goal.returns-in_err-num-3-clause-err
returns-in_err-num-3-clause-err c =
    let given = err_from_is_err_and c.from_residual-in_err-num-3.result c.from_residual-in_err-num-3.ensures.1 in
    rw (given.1)
    (stopped c.args.report.now c.num-in-loop-reader.new.self
    (numbers_up_to c.args.size c.args.from c.args.readers.now c.loop-reader.reader-index)
    (c.in_err-num-3.ensures.err ∙ c.loop-reader.invariant.text))

pub loop-reader-preserved : goal.loop-reader-preserved
loop-reader-preserved c =
    let readers = c.args.readers.now in
    let i = c.loop-reader.reader-index in
    record {
      text = token_more c.args.size c.args.from readers i c.loop-reader-test.true c.from-in-loop-reader.result c.from-in-loop-reader.ensures
          c.args.report.now c.loop-reader.report c.num-in-loop-reader.new.self c.loop-reader.invariant.text c.in_ok-num-3.ensures.ok;
      are = tokens_more c.args.size c.args.from readers i c.loop-reader-test.true c.from-in-loop-reader.result
          c.from-in-loop-reader.ensures c.loop-reader.invariant.are c.num-in-loop-reader.ensures.token;
    }

pub returns : goal.returns
returns c =
    let old = c.args.report.now in
    let numbers = map decimal (c.args.size ∷ c.args.from ∷ c.args.readers.now) in
    let all : take c.loop-reader.reader-index c.args.readers.now ≡ c.args.readers.now =
    take_all c.loop-reader.reader-index c.args.readers.now c.loop-reader-test.false in
    let whole : numbers_up_to c.args.size c.args.from c.args.readers.now c.loop-reader.reader-index ≡ numbers =
    ap (λ (ns : List ℕ). map decimal (c.args.size ∷ c.args.from ∷ ns)) all in
    let are = ap (list_all is_token) (sym whole) ∙ c.loop-reader.invariant.are in
    let text = c.loop-reader.invariant.text ∙ ap (with_tokens old) whole in
    let printed = ap (λ (t : List ℕ). t ++ 10 ∷ []) text ∙ c.printed_line.ensures.line old numbers c.requires are in
    record {
      ok = on_ok_weaker c.end_line.result (λ ended. ended ∙ printed) c.end_line.ensures.ok;
      start = on_ok_weaker c.end_line.result
          (λ ended. subst (λ (t : List ℕ). IsTrue (is_line_start t)) (sym (ended ∙ printed)) (c.printed_line.ensures.start old numbers))
          c.end_line.ensures.ok;
      err = on_err_weaker c.end_line.result (λ same. stopped old c.end_line.new.self numbers (same ∙ text)) c.end_line.ensures.err;
    }
