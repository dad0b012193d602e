use Rattle.std.proofs.Common.{sym, subst, ◌∙◌}
use Rattle.state_search.specs.Kept.{KeptStates, IsKept, IsNew}
use Rattle.state_search.proofs.FoundRows.{found, not_found}
use Rattle.state_search.proofs.states.States.has.Goals as goal

pub returns-clause-kept : goal.returns-clause-kept
returns-clause-kept c = λ e.
    subst (λ (s : KeptStates). IsKept s.rows c.args.marks.now) (c.self.view_is)
    (found (λ v. v.items) c.args.marks.now c.self.inside.seen.keys (sym c.contains.ensures ∙ e))

pub returns-clause-new : goal.returns-clause-new
returns-clause-new c = λ e.
    subst (λ (s : KeptStates). IsNew s.rows c.args.marks.now) (c.self.view_is)
    (not_found (λ v. v.items) c.args.marks.now c.self.inside.seen.keys (sym c.contains.ensures ∙ e))
