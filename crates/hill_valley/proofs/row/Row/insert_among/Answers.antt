use Rattle.std.proofs.Common.{arith}
use Rattle.hill_valley.proofs.Kept.{ropes_kept}
use Rattle.hill_valley.proofs.Inserting.{profile_put, side_after}
use Rattle.hill_valley.proofs.InRow.{there_rope, there_net, there_within, there_runs, ropes_there, gap_runs}
use Rattle.hill_valley.proofs.row.Row.insert_among.Goals as goal

pub joined-requires-clause-own : goal.joined-requires-clause-own
joined-requires-clause-own c =
    there_rope c.args.ropes.now c.args.seg.up c.place_of-at.result c.args.self.now c.in-Some.own
    (rw c.self.view_is at c.in-Some.ensures.own) c.requires.ropes

pub joined-requires-clause-net : goal.joined-requires-clause-net
joined-requires-clause-net c =
    let own = there_net c.args.seg.up c.place_of-at.result c.args.self.now c.in-Some.own (rw c.self.view_is at c.in-Some.ensures.own) in
    let room = c.requires.net in
    omega arith

pub returns-in_err-whole-in-Some-clause-ropes : goal.returns-in_err-whole-in-Some-clause-ropes
returns-in_err-whole-in-Some-clause-ropes c = ropes_kept _ _ _ c.requires.ropes c.joined.ensures.kept

pub index_mut-requires : goal.index_mut-requires
index_mut-requires c =
    let within = there_within c.args.seg.up c.place_of-at.result c.self.inside.segments.items c.in-Some.own c.in-Some.ensures.own in
    let long = c.self.inside.segments.ok.0 in
    omega arith

pub invariant_of-self : goal.invariant_of-self
invariant_of-self c =
    let runs = there_runs c.args.ropes.now c.joined.new.ropes c.joined.ensures.kept c.args.before
    c.args.seg c.in-Some.own c.in_ok-whole-in-Some.whole c.in_ok-whole-in-Some.ensures.run
    c.place_of-at.result c.self.inside.segments.items c.args.self.now c.self.view_is c.in-Some.ensures.own c.requires.ropes in
    side_after _ _ _ (profile_put c.args.ropes.now c.joined.new.ropes c.args.before c.args.seg c.args.self.now _ runs)
    (rw c.self.view_is at c.self.invariant) c.inserting.ensures.net c.inserting.ensures.rising c.requires.up c.requires.net

pub invariant_of-self-in-Continue-branch-2 : goal.invariant_of-self-in-Continue-branch-2
invariant_of-self-in-Continue-branch-2 c =
    let runs = gap_runs c.args.ropes.now c.args.before c.args.seg c.place_of-at.result
    c.self.inside.segments.items c.args.self.now c.insert.new.self.items c.self.view_is c.in-None.ensures.own
    c.in_ok-insert-in-None.ensures.items in
    side_after _ _ _ (profile_put c.args.ropes.now c.args.ropes.now c.args.before c.args.seg c.args.self.now _ runs)
    (rw c.self.view_is at c.self.invariant) c.inserting.ensures.net c.inserting.ensures.rising c.requires.up c.requires.net

pub returns-in_ok-whole-in-Some-clause-segments : goal.returns-in_ok-whole-in-Some-clause-segments
returns-in_ok-whole-in-Some-clause-segments c =
    there_runs c.args.ropes.now c.joined.new.ropes c.joined.ensures.kept c.args.before
    c.args.seg c.in-Some.own c.in_ok-whole-in-Some.whole c.in_ok-whole-in-Some.ensures.run
    c.place_of-at.result c.self.inside.segments.items c.args.self.now c.self.view_is c.in-Some.ensures.own c.requires.ropes

pub returns-in_ok-whole-in-Some-clause-ropes : goal.returns-in_ok-whole-in-Some-clause-ropes
returns-in_ok-whole-in-Some-clause-ropes c =
    ropes_there c.joined.new.ropes c.in_ok-whole-in-Some.whole c.place_of-at.result c.self.inside.segments.items
    (ropes_kept _ _ _ (rw c.self.view_is c.requires.ropes) c.joined.ensures.kept) c.in_ok-whole-in-Some.ensures.rope

pub returns-in_ok-insert-in-None-clause-segments : goal.returns-in_ok-insert-in-None-clause-segments
returns-in_ok-insert-in-None-clause-segments c =
    gap_runs c.args.ropes.now c.args.before c.args.seg c.place_of-at.result c.self.inside.segments.items
    c.args.self.now c.insert.new.self.items c.self.view_is c.in-None.ensures.own
    c.in_ok-insert-in-None.ensures.items
