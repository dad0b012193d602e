use Rattle.std.proofs.Common.{◌∷◌, ◌++◌, sym, subst}
use Rattle.sp_reduce.specs.Reductions.{ReducesTo, ends_of}
use Rattle.sp_reduce.specs.Work.{AreLinksRanked, LinksValue, pairs_of}
use Rattle.sp_reduce.proofs.Adding.{ranked-more}
use Rattle.sp_reduce.proofs.Planted.{leads-new, leads-twin}
use Rattle.sp_reduce.proofs.building.add_arc.Goals as goal

pub add-requires-clause-ranked : goal.add-requires-clause-ranked
add-requires-clause-ranked c = (
  c.requires.ranked.0,
  ranked-more c.requires.ranked.0 c.args.links.now.list c.args.arc.from c.args.arc.to c.requires.ranked.1.1 c.requires.ranked.1.0,
)

pub returns-in_ok-add-in-None-clause-ranked : goal.returns-in_ok-add-in-None-clause-ranked
returns-in_ok-add-in-None-clause-ranked c = λ rank rises ranked.
    subst (λ (links : LinksValue). AreLinksRanked rank links.list) (sym c.in_ok-add-in-None.ensures)
    (ranked-more rank c.args.links.now.list c.args.arc.from c.args.arc.to ranked rises)

pub returns-in-Some-clause-row : goal.returns-in-Some-clause-row
returns-in-Some-clause-row c =
    λ rest. leads-twin c.args.links.now.list c.args.arc.from c.args.arc.to rest c.in-Some.field-0 c.in-Some.ensures

pub returns-in_ok-add-in-None-clause-row : goal.returns-in_ok-add-in-None-clause-row
returns-in_ok-add-in-None-clause-row c = λ rest.
    subst (λ (links : LinksValue). ReducesTo (pairs_of c.args.links.now.list ++ ends_of c.args.arc ∷ rest) (pairs_of links.list ++ rest))
    (sym c.in_ok-add-in-None.ensures)
    (leads-new c.args.links.now.list c.args.arc.from c.args.arc.to rest)
