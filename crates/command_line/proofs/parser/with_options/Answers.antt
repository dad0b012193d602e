use Rattle.std.proofs.Common.{rules, ◌∙◌, ◌≡◌, ap, ap₂, sym, false, ◌||◌, get_or, take, fold, [], ◌∷◌}
use Rattle.std.specs.Borrow.{Bor}
use Rattle.std.proofs.Math.Bool.{or-false}
use Rattle.std.proofs.lemmas.List.Sums.{fold-append}
use Rattle.clap.specs.Walk.{rule_of}
use Rattle.clap.specs.Simple.{with_rule}
use Rattle.clap.specs.Words.{app_of}
use Rattle.command_line.specs.Words.{Text}
use Rattle.command_line.specs.Table.{rule_for, with_option}
use Rattle.command_line.specs.Views.{texts}
use Rattle.command_line.proofs.TableLemmas.{map_more}
use Rattle.command_line.proofs.parser.with_options.Goals as goal

pub loop-option-preserved : goal.loop-option-preserved
loop-option-preserved c =
    let names = c.args.names.now in
    let i = c.loop-option.option-index in
    let none : Bor Text = record { ref_ptr = (0, 0); now = [] } in
    let local : c.long.result.global ≡ false = search rules in
    let rule_is : rule_of c.long.result ≡ rule_for (get_or names i none).now = search rules in
    let adds = c.in_ok-command.ensures in
    let more = map_more (λ (s : Bor Text). s.now) names i none c.loop-option-test.true in
    record {
      app = adds.shape local ∙ ap₂ with_rule c.loop-option.invariant.app rule_is
          ∙ sym (ap (fold with_option (app_of c.args.command)) more
          ∙ fold-append with_option (app_of c.args.command) (texts (take i names)) ((get_or names i none).now ∷ []));
      local = adds.globals ∙ ap₂ (λ a b. a || b) c.loop-option.invariant.local local ∙ or-false _;
    }
