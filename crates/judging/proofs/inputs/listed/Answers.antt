use Rattle.std.proofs.Common.{◌∙◌, arith}
use Rattle.std.proofs.lemmas.List.{take_all}
use Rattle.judging.proofs.inputs.listed.Goals as goal

pub returns : goal.returns
returns c = c.loop-place.invariant ∙ take_all c.loop-place.place c.args.perm.now (omega (arith, c.len-place-end.ensures.value))
