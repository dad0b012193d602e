use Rattle.std.proofs.Common.{◌≡◌, ◌≤◌, false, Bool, List, length, ◌∙◌, subst}
use Rattle.std.specs.Prelude.{IfOk}
use Rattle.state_search.specs.States.{state_at}
use Rattle.state_search.specs.Kept.{IsFollowed}
use Rattle.state_search.proofs.search.expand.Goals as goal

pub returns-clause-followed : goal.returns-clause-followed
returns-clause-followed c =
    let new = c.expand_marks.new.search.states.rows in
    let same : c.deref_mut.result.now ≡ state_at c.args.search.now.states.rows c.args.place =
    c.deref_mut.ensures.value ∙ c.in_ok-marks.ensures.items ∙ c.marks.ensures in
    subst (λ (m : List Bool). IfOk c.expand_marks.result (λ is_start. is_start ≡ false → length new ≤ c.args.most
    → IsFollowed c.args.system.now c.args.bound new m)) same c.expand_marks.ensures.followed
