use Rattle.sp_terms.proofs.BuilderLemmas.{series_is}
use Rattle.sp_terms.proofs.builder.join_two.Goals as goal

pub returns : goal.returns
returns c = series_is c.args.ends.now.items _ _ _ _ _ c.requires c.len-last.ensures
    c.args.ends.now.ok.0 c.truncate.ensures.items c.index.ensures c.index-2.ensures
