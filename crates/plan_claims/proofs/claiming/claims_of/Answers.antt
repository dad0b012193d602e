use Rattle.sp_terms.specs.Values.{term_of}
use Rattle.plan_claims.proofs.Whole.{whole_shows}
use Rattle.plan_claims.proofs.claiming.claims_of.Goals as goal

pub want_whole-root-requires : goal.want_whole-root-requires
want_whole-root-requires c = record { part = (c.requires.part.0, c.requires.part.1) }

pub claims_from-requires : goal.claims_from-requires
claims_from-requires c = record {
  notes = c.requires.notes;
  root = whole_shows c.below.ensures (term_of c.args.terms.now) _ c.want_whole-root.result c.requires.part.2
      (c.want_whole-root.ensures.shows _ c.requires.part.1);
}
