use Rattle.std.proofs.Common.{◌≡◌, refl, [], length, get_or, ap, sym, subst, ◌∙◌, arith}
use Rattle.patterns.specs.Pattern.{has, is_joined}
use Rattle.ordering.specs.Fill.{renumbered}
use Rattle.rounds_run.specs.Holding.{Factor, IsJob, IsHeld, AreHandedBack, AreJobsOf, in_rounds, or_in}
use Rattle.rounds_run.proofs.RunLemmas.{round_is, round_due, held_next, all_made, made_of}
use Rattle.rounds_run.proofs.running.run_rounds.Goals as goal
use Rattle.rounds_run.proofs.running.run_rounds.Goals.{In_ok-jobs}

round_at : (g : _) (c : In_ok-jobs g) → c.as_slice-round.result.now ≡ get_or c.args.rounds.now c.loop-list.list-index []
round_at g c =
    round_is c.args.rounds.now c.loop-list.list-index c.list-item.result c.as_slice-round.result.now c.loop-list-test.true c.list-item.is
    c.as_slice-round.ensures

jobs_are : (g : _) (c : In_ok-jobs g)
    → AreJobsOf (record {
      joined = renumbered (is_joined c.args.pattern.now) c.args.perm.now;
      order = length c.args.perm.now;
      supers = c.args.supers.now;
    })
    c.as_slice-round.result.now c.in_ok-jobs.jobs.items
jobs_are g c =
    let f : Factor = record {
      joined = renumbered (is_joined c.args.pattern.now) c.args.perm.now;
      order = length c.args.perm.now;
      supers = c.args.supers.now;
    } in
    c.in_ok-jobs.ensures.jobs f (in_rounds c.args.rounds.now c.loop-list.list-index) c.requires.supers refl
    (round_due c.args.supers.now c.args.rounds.now c.loop-list.list-index c.as_slice-round.result.now c.requires.rounds (round_at g c))
    c.loop-list.invariant

held_then : (g : _) (c : In_ok-jobs g)
    → IsHeld (record {
      joined = renumbered (is_joined c.args.pattern.now) c.args.perm.now;
      order = length c.args.perm.now;
      supers = c.args.supers.now;
    })
    (or_in (in_rounds c.args.rounds.now c.loop-list.list-index) c.as_slice-round.result.now)
    (in_rounds c.args.rounds.now c.loop-list.list-index) c.jobs.new.self
held_then g c =
    let f : Factor = record {
      joined = renumbered (is_joined c.args.pattern.now) c.args.perm.now;
      order = length c.args.perm.now;
      supers = c.args.supers.now;
    } in
    c.in_ok-jobs.ensures.held f (in_rounds c.args.rounds.now c.loop-list.list-index) refl c.loop-list.invariant

pub make_round-requires-clause-jobs : goal.make_round-requires-clause-jobs
make_round-requires-clause-jobs g c = λ κs lives k d lt.
    let are = jobs_are g (goal.at.make_round-requires-clause-jobs g c).In_ok-jobs in
    let joined = renumbered (is_joined c.args.pattern.now) c.args.perm.now in
    let same = c.deref-in-loop-list-2.ensures.value in
    subst (λ z. IsJob joined (length c.args.perm.now) (get_or z k d)) (sym same)
    (are.1 k d (omega (arith, lt, ap length same, are.0))).ready

pub keep_all-requires-clause-within : goal.keep_all-requires-clause-within
keep_all-requires-clause-within g c = λ s there.
    let before = (goal.at.keep_all-requires-clause-within g c).In_ok-jobs in
    c.requires.rounds.within c.loop-list.list-index s (ap (λ z. has z s) (sym (round_at g before)) ∙ there)

pub keep_all-requires-clause-long : goal.keep_all-requires-clause-long
keep_all-requires-clause-long g c =
    let held = held_then g (goal.at.keep_all-requires-clause-long g c).In_ok-jobs in
    (held.rows_long, held.inboxes_long)

pub keep_all-requires-clause-made : goal.keep_all-requires-clause-made
keep_all-requires-clause-made g c =
    let are = jobs_are g (goal.at.keep_all-requires-clause-made g c).In_ok-jobs in
    c.in_ok-made.ensures.0 ∙ ap length c.deref-in-loop-list-2.ensures.value ∙ are.0

pub loop-list-preserved : goal.loop-list-preserved
loop-list-preserved g c =
    let before = (goal.at.loop-list-preserved g c).In_ok-jobs in
    let f : Factor = record {
      joined = renumbered (is_joined c.args.pattern.now) c.args.perm.now;
      order = length c.args.perm.now;
      supers = c.args.supers.now;
    } in
    let round = c.as_slice-round.result.now in
    let ran = in_rounds c.args.rounds.now c.loop-list.list-index in
    let back = subst (λ z. AreHandedBack f.joined f.order z c.in_ok-made.made.items) c.deref-in-loop-list-2.ensures.value c.in_ok-made.ensures in
    let made = made_of f round c.in_ok-jobs.jobs.items c.in_ok-made.made.items (jobs_are g before) back in
    held_next f c.args.rounds.now c.loop-list.list-index round c.keep_all.new.self c.loop-list-test.true (round_at g before)
    (c.in_ok-keep_all.ensures f ran refl made (held_then g before))

pub returns-clause-rows : goal.returns-clause-rows
returns-clause-rows g c =
    all_made (record {
      joined = renumbered (is_joined c.args.pattern.now) c.args.perm.now;
      order = length c.args.perm.now;
      supers = c.args.supers.now;
    })
    c.args.rounds.now c.loop-list.list-index c.loop-list.held c.requires.rounds c.loop-list-test.false c.loop-list.invariant
