use Rattle.std.proofs.Common.{◌≡◌, ◌∙◌, ◌<◌, ◌++◌, ◌∷◌, [], List, ℕ, ap, sym, subst, take, length}
use Rattle.std.specs.Bool.{IsTrue}
use Rattle.std.specs.List.{list_all}
use Rattle.std.proofs.lemmas.List.{take_all}
use Rattle.std.proofs.lemmas.Result.{on_ok_weaker}
use Rattle.hill_valley.specs.declared.steps.Step.{Step}
use Rattle.mp_text.specs.Report.{is_line_start, is_token, with_tokens}
use Rattle.reports.specs.Segments.{side_line}
use Rattle.reports.proofs.StairPages.{step_printed, step_tokens_are}
use Rattle.reports.proofs.commands.segments.print_side.Goals as goal

pub loop-step-preserved : goal.loop-step-preserved
loop-step-preserved c =
    let number = c.args.number in
    let direction = c.args.direction.now in
    let start = c.args.start in
    let steps = c.args.steps.now in
    let i = c.loop-step.step-index in
    let within : i < length steps = c.loop-step-test.true in
    record {
      text = step_printed number direction start steps i _ within c.args.report.now
          c.loop-step.report c.num-in-loop-step.new.self c.num-in-loop-step-2.new.self
          c.loop-step.invariant.text c.in_ok-num-3.ensures.ok c.in_ok-num-4.ensures.ok;
      are = step_tokens_are number direction start steps i _ within
          c.loop-step.invariant.are c.in_ok-num-3.ensures.token c.in_ok-num-4.ensures.token;
    }

pub returns : goal.returns
returns c =
    let old = c.args.report.now in
    let steps = c.args.steps.now in
    let line = λ (some : List Step). side_line c.args.number c.args.direction.now c.args.start some in
    let all : take c.loop-step.step-index steps ≡ steps = take_all c.loop-step.step-index steps c.loop-step-test.false in
    let are = ap (λ (some : List Step). list_all is_token (line some)) (sym all) ∙ c.loop-step.invariant.are in
    let text = c.loop-step.invariant.text ∙ ap (λ (some : List Step). with_tokens old (line some)) all in
    let printed = ap (λ (t : List ℕ). t ++ 10 ∷ []) text ∙ c.printed_line.ensures.line old (line steps) c.requires.start are in
    record {
      start = on_ok_weaker c.end_line.result
          (λ ended. subst (λ (t : List ℕ). IsTrue (is_line_start t)) (sym (ended ∙ printed))
          (c.printed_line.ensures.start old (line steps))) c.end_line.ensures.ok;
      text = on_ok_weaker c.end_line.result (λ ended. ended ∙ printed) c.end_line.ensures.ok;
    }
