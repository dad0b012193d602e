use Rattle.std.proofs.Common.{◌≡◌, ◌∙◌, map, string_bytes, Some, sym, ap, subst, option_map}
use Rattle.requests.specs.Request.{Request, IsInRange, files_of}
use Rattle.requests.specs.Words.{request_of}
use Rattle.requests.specs.RequestViews.{request_view}
use Rattle.judging.specs.Told.{AreQuiet}
use Rattle.judging.specs.Pages.{answer_of}
use Rattle.judging.proofs.StepLemmas.{quiet_has_not_failed}
use Rattle.reports.proofs.RunLemmas.{reported, was_refused, answers, is_cut, says}
use Rattle.reports.proofs.run.run_words.Goals as goal

pub returns-in-Err-ReadFault-clause-complete : goal.returns-in-Err-ReadFault-clause-complete
returns-in-Err-ReadFault-clause-complete g c = λ request has quiet _.
    let mine = request_view c.in-Ok-Some.request in
    let has_mine : request_of (map (λ w. string_bytes w) c.args.words.now) ≡ Some mine =
    sym c.in-Ok-Some.ensures.value ∙ ap (option_map request_view) c.in-Ok-Some.field-0-is in
    let same : request ≡ mine = cc (sym has ∙ has_mine) in
    absurd (quiet_has_not_failed (g.F.Files.bytes_of c.args.files.now)
    (g.F.Files.faults_of c.args.files.now) (g.F.Files.faults_of c.report.new.files) (files_of mine)
    (subst (λ (r : Request). AreQuiet (g.F.Files.faults_of c.args.files.now) (g.F.Files.faults_of c.report.new.files) (files_of r))
    same quiet)
    (rw c.in-Err-ReadFault.field-0-is at c.in-Err-ReadFault.ensures.told))

pub returns-in-Ok-clause-answered : goal.returns-in-Ok-clause-answered
returns-in-Ok-clause-answered g c = λ has_text.
    let told = g.F.Files.bytes_of c.args.files.now in
    let old = g.S.Sink.written c.args.sink.now in
    let mine = request_view c.in-Ok-Some.request in
    let has_mine : request_of (map (λ w. string_bytes w) c.args.words.now) ≡ Some mine =
    sym c.in-Ok-Some.ensures.value ∙ ap (option_map request_view) c.in-Ok-Some.field-0-is in
    let answer = answer_of c.in-Ok.page in
    let answering = reported told mine answer c.in-Ok.ensures.told in
    let whole = c.written.ensures.whole has_text in
    (mine, has_mine, answers told mine answer answering c.written.result old (g.S.Sink.written c.written.new.sink) whole.0 whole.1)

pub returns-in-Ok-clause-proper_prefix : goal.returns-in-Ok-clause-proper_prefix
returns-in-Ok-clause-proper_prefix g c = λ fault.
    let told = g.F.Files.bytes_of c.args.files.now in
    let old = g.S.Sink.written c.args.sink.now in
    let mine = request_view c.in-Ok-Some.request in
    let has_mine : request_of (map (λ w. string_bytes w) c.args.words.now) ≡ Some mine =
    sym c.in-Ok-Some.ensures.value ∙ ap (option_map request_view) c.in-Ok-Some.field-0-is in
    let answer = answer_of c.in-Ok.page in
    let answering = reported told mine answer c.in-Ok.ensures.told in
    (mine, has_mine, is_cut told mine answer answering old (g.S.Sink.written c.written.new.sink) (c.written.ensures.proper_prefix fault).1)

pub returns-in-Err-Refused-clause-answered : goal.returns-in-Err-Refused-clause-answered
returns-in-Err-Refused-clause-answered g c = λ has_text.
    let told = g.F.Files.bytes_of c.args.files.now in
    let old = g.S.Sink.written c.args.sink.now in
    let mine = request_view c.in-Ok-Some.request in
    let has_mine : request_of (map (λ w. string_bytes w) c.args.words.now) ≡ Some mine =
    sym c.in-Ok-Some.ensures.value ∙ ap (option_map request_view) c.in-Ok-Some.field-0-is in
    let answer = answer_of c.in-Err-Refused.page in
    let answering = was_refused told mine answer (rw c.in-Err-Refused.field-0-is at c.in-Err-Refused.ensures.told) in
    let whole = c.written-in-Err-Refused.ensures.whole has_text in (
      mine,
      has_mine,
      answers told mine answer answering c.written-in-Err-Refused.result old
          (g.S.Sink.written c.written-in-Err-Refused.new.sink) whole.0 whole.1,
    )

pub returns-in-Err-Refused-clause-proper_prefix : goal.returns-in-Err-Refused-clause-proper_prefix
returns-in-Err-Refused-clause-proper_prefix g c = λ fault.
    let told = g.F.Files.bytes_of c.args.files.now in
    let old = g.S.Sink.written c.args.sink.now in
    let mine = request_view c.in-Ok-Some.request in
    let has_mine : request_of (map (λ w. string_bytes w) c.args.words.now) ≡ Some mine =
    sym c.in-Ok-Some.ensures.value ∙ ap (option_map request_view) c.in-Ok-Some.field-0-is in
    let answer = answer_of c.in-Err-Refused.page in
    let answering = was_refused told mine answer (rw c.in-Err-Refused.field-0-is at c.in-Err-Refused.ensures.told) in (
      mine,
      has_mine,
      is_cut told mine answer answering old (g.S.Sink.written c.written-in-Err-Refused.new.sink)
          (c.written-in-Err-Refused.ensures.proper_prefix fault).1,
    )

pub returns-in-Ok-clause-says : goal.returns-in-Ok-clause-says
returns-in-Ok-clause-says g c = λ has_text request has texts are.
    let told = g.F.Files.bytes_of c.args.files.now in
    let mine = request_view c.in-Ok-Some.request in
    let has_mine : request_of (map (λ w. string_bytes w) c.args.words.now) ≡ Some mine =
    sym c.in-Ok-Some.ensures.value ∙ ap (option_map request_view) c.in-Ok-Some.field-0-is in
    let answer = answer_of c.in-Ok.page in
    let answering = reported told mine answer c.in-Ok.ensures.told in
    let whole = c.written.ensures.whole has_text in
    let range : IsInRange mine = rw c.in-Ok-Some.field-0-is at c.in-Ok-Some.ensures.range in (
      answer.text,
      says told mine answer answering c.what_answers_say.ensures range request
          (cc (sym has_mine ∙ has)) texts are c.written.result whole.0,
      whole.1,
    )

pub returns-in-Err-Refused-clause-says : goal.returns-in-Err-Refused-clause-says
returns-in-Err-Refused-clause-says g c = λ has_text request has texts are.
    let told = g.F.Files.bytes_of c.args.files.now in
    let mine = request_view c.in-Ok-Some.request in
    let has_mine : request_of (map (λ w. string_bytes w) c.args.words.now) ≡ Some mine =
    sym c.in-Ok-Some.ensures.value ∙ ap (option_map request_view) c.in-Ok-Some.field-0-is in
    let answer = answer_of c.in-Err-Refused.page in
    let answering = was_refused told mine answer (rw c.in-Err-Refused.field-0-is at c.in-Err-Refused.ensures.told) in
    let whole = c.written-in-Err-Refused.ensures.whole has_text in
    let range : IsInRange mine = rw c.in-Ok-Some.field-0-is at c.in-Ok-Some.ensures.range in (
      answer.text,
      says told mine answer answering c.what_answers_say.ensures range request
          (cc (sym has_mine ∙ has)) texts are c.written-in-Err-Refused.result whole.0,
      whole.1,
    )
