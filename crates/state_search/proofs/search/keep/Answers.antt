use Rattle.state_search.proofs.Keeping.{looked_more}
use Rattle.state_search.proofs.Answered.{on_ok_both}
use Rattle.state_search.proofs.search.keep.Goals as goal

pub returns-clause-looked : goal.returns-clause-looked
returns-clause-looked c = on_ok_both c.push-2.result
    (λ rows links system bound was by.
    looked_more system bound c.args.search.now.states c.push-2.new.self c.args.link c.args.marks.now rows links was by
    (c.has.ensures.new c.if-has.false))
    c.push-2.ensures.rows c.push-2.ensures.links
