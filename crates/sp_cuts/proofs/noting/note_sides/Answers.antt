use Rattle.sp_cuts.proofs.Noted.{all_counted, all_put}
use Rattle.sp_cuts.proofs.noting.note_sides.Goals as goal

pub returns-clause-front : goal.returns-clause-front
returns-clause-front c = all_counted c.args.read _ c.args.part.now.initial _ c.if-not-read.false c.in_ok-front.ensures.count

pub returns-clause-back : goal.returns-clause-back
returns-clause-back c = all_counted c.args.read _ c.args.part.now.fin _ c.if-not-read.false c.in_ok-back.ensures.count

pub returns-clause-gone : goal.returns-clause-gone
returns-clause-gone c = all_put c.args.read c.args.part.now.initial c.args.part.now.fin
    _ _ _ _ _ c.if-not-read.false c.in_ok-front.ensures.gone c.in_ok-back.ensures.gone
