use Rattle.std.proofs.Common.{refl}
use Rattle.std.proofs.lemmas.Result.{on_ok_weaker}
use Rattle.peak_bounds.proofs.Links.{later_sound, later_all}
use Rattle.peak_bounds.proofs.marks.mark_later.Goals as goal

pub returns-clause-sound : goal.returns-clause-sound
returns-clause-sound c = on_ok_weaker c.spread.result
    (λ reached. later_sound c.args.system.now c.keeps.ensures c.args.uses.now c.requires.uses c.args.marks.now c.spread.new.marks c.args.work.now.items
    c.deref.result.now c.deref-2.result.now c.args.work.now.items c.args.marks.now c.requires.tasks refl refl c.deref.ensures.value c.deref-2.ensures.value reached)
    c.spread.ensures

pub returns-clause-all : goal.returns-clause-all
returns-clause-all c = on_ok_weaker c.spread.result
    (λ reached. later_all c.args.system.now c.keeps.ensures c.args.uses.now c.requires.uses c.args.marks.now c.spread.new.marks c.args.work.now.items
    c.deref.result.now c.deref-2.result.now c.args.work.now.items c.args.marks.now c.requires.tasks refl refl c.deref.ensures.value c.deref-2.ensures.value reached)
    c.spread.ensures
