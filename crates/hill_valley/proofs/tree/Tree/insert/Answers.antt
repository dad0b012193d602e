use Rattle.std.proofs.Common.{◌≡◌, sym, ◌∙◌, ap}
use Rattle.side_laws.specs.Merging.{insert_segment}
use Rattle.hill_valley.specs.Ropes.{list_of}
use Rattle.hill_valley.specs.Side.{profile, numbers, IsSide}
use Rattle.hill_valley.specs.Descents.{segs_of}
use Rattle.hill_valley.proofs.Kept.{ropes_kept}
use Rattle.hill_valley.proofs.Inserting.{own_fits, Put, runs_after, profile_put, ropes_after, side_after}
use Rattle.hill_valley.proofs.tree.Tree.insert.Goals as goal

put : (c : goal.In_ok-insert)
    → Put c.args.ropes.now c.joined.new.ropes c.args.before c.args.seg.up (c.args.seg.net, list_of c.args.ropes.now c.args.seg.tasks)
    c.in_ok-descent.descent c.args.self.now c.self.inside.segments.entries c.insert.new.self.entries
put c = record {
  same = c.self.view_is;
  kept = c.joined.ensures.kept;
  sorted = c.in_ok-insert.ensures.was_ordered;
  ropes = c.requires.ropes;
  value = rw (← (c.copied-own.ensures ∙ c.get.ensures.value)) c.in_ok-descent.ensures.value;
  entries = c.in_ok-insert.ensures.entries;
}

put_profile : (c : goal.In_ok-insert)
    → profile (segs_of c.insert.new.self.entries) ≡ insert_segment (numbers c.args.seg) (profile c.args.self.now)
put_profile c = profile_put c.args.ropes.now c.joined.new.ropes c.args.before c.args.seg c.args.self.now
    (segs_of c.insert.new.self.entries) (runs_after _ _ _ _ _ _ _ _ _ (put c))

old_side : (c : goal.In_ok-insert) → IsSide (profile c.args.self.now)
old_side c = rw c.self.view_is at c.self.invariant

pub joined-requires-clause-own : goal.joined-requires-clause-own
joined-requires-clause-own c =
    let v = sym c.self.view_is in
    let f = own_fits c.args.ropes.now c.args.seg.up c.args.seg.net c.self.inside.segments.entries
    (rw c.self.view_is c.requires.ropes) (rw c.self.view_is c.requires.net) in
    rw (c.copied-own.ensures, c.get.ensures.value) f

pub returns-in_err-descent-clause-ropes : goal.returns-in_err-descent-clause-ropes
returns-in_err-descent-clause-ropes c = ropes_kept _ _ _ c.requires.ropes c.joined.ensures.kept

pub returns-in_err-insert-clause-ropes : goal.returns-in_err-insert-clause-ropes
returns-in_err-insert-clause-ropes c =
    let e = ap segs_of c.in_err-insert.ensures.err ∙ c.self.view_is in
    rw e (ropes_kept _ _ _ c.requires.ropes c.joined.ensures.kept)

pub invariant_of-self-2 : goal.invariant_of-self-2
invariant_of-self-2 c =
    side_after _ _ _ (put_profile c) (old_side c) c.inserting.ensures.net c.inserting.ensures.rising c.requires.up c.requires.net

pub returns-clause-segments : goal.returns-clause-segments
returns-clause-segments c = runs_after _ _ _ _ _ _ _ _ _ (put c)

pub returns-clause-ropes : goal.returns-clause-ropes
returns-clause-ropes c = ropes_after _ _ _ _ _ _ _ _ _ (put c) c.in_ok-descent.ensures.rope
