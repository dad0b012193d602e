use Rattle.std.proofs.Common.{◌++◌, ◌∷◌, [], sym, ap, subst, ◌∙◌}
use Rattle.state_search.specs.Kept.{KeptStates, IsNew}
use Rattle.state_search.proofs.FoundRows.{pushed_rows}
use Rattle.state_search.proofs.states.States.push.Goals as goal

pub returns-clause-rows : goal.returns-clause-rows
returns-clause-rows c =
    let new = subst (λ (s : KeptStates). IsNew s.rows c.args.marks.now) (sym c.self.view_is) c.requires in
    pushed_rows (λ v. v.items) c.args.marks.now c.self.inside.seen.keys c.insert.new.self.keys c.in_ok-row.row
    c.in_ok-row.ensures.items new c.in_ok-insert.ensures.keys
    ∙ ap (λ (s : KeptStates). s.rows ++ c.args.marks.now ∷ []) c.self.view_is
