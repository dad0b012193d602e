use Rattle.std.proofs.Common.{[], ◌∷◌, sym, inr}
use Rattle.requests.specs.Request.{upgrade}
use Rattle.reports.specs.Upgrade.{upgrade_again}
use Rattle.reports.proofs.UpgradeLemmas.{printed_again}
use Rattle.reports.proofs.laws.upgraded_again.Goals as goal

pub returns-clause-same : goal.returns-clause-same
returns-clause-same c = λ u texts name answer is done.
    inr (printed_again u texts name answer done (c.what_answers_say.ensures (upgrade u) texts answer tt is done))

pub returns-clause-only : goal.returns-clause-only
returns-clause-only c = λ u texts name one two is done other.
    let again = upgrade (upgrade_again u name) in
    let same = inr (printed_again u texts name one done (c.what_answers_say.ensures (upgrade u) texts one tt is done)) in
    sym (c.one_answer.ensures again (one.text ∷ []) one two tt tt same other)
