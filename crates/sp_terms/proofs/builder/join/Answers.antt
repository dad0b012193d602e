use Rattle.sp_terms.proofs.BuilderLemmas.{par_is, rest_light}
use Rattle.sp_terms.proofs.builder.join.Goals as goal

pub sums-all-requires-clause-initial : goal.sums-all-requires-clause-initial
sums-all-requires-clause-initial c =
    (rest_light c.args.ends.now.items c.deref.result.now _ c.deref.ensures.value (c.requires.initial, c.requires.fin)).0

pub sums-all-requires-clause-fin : goal.sums-all-requires-clause-fin
sums-all-requires-clause-fin c =
    (rest_light c.args.ends.now.items c.deref.result.now _ c.deref.ensures.value (c.requires.initial, c.requires.fin)).1

pub returns : goal.returns
returns c = par_is c.args.ends.now.items c.deref.result.now _ c.args.parts _ _ _ c.len.ensures c.args.ends.now.ok.0
    c.requires.some c.requires.long c.deref.ensures.value c.truncate.ensures.items c.sums-all.ensures
