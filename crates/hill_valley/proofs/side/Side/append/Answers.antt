use Rattle.std.proofs.Common.{◌≡◌, List, arith, sym, ◌∙◌, ap, max, OnOk}
use Rattle.std.proofs.lemmas.Result.{on_ok_weaker}
use Rattle.side_laws.specs.Segments.{lowest, top, last_up}
use Rattle.side_laws.specs.Appending.{append_segment}
use Rattle.hill_valley.specs.Side.{profile, runs_of, run_profile, tasks_of, append_run, Run}
use Rattle.hill_valley.specs.Ropes.{list_of}
use Rattle.hill_valley.proofs.Inserting.{run}
use Rattle.hill_valley.proofs.Last.{append_is, last_within}
use Rattle.hill_valley.proofs.Profiles.{profile_runs, profile_append, tasks_append}
use Rattle.hill_valley.proofs.side.Side.append.Goals as goal

pub insert-requires-clause-up : goal.insert-requires-clause-up
insert-requires-clause-up c =
    let l = last_within _ c.keeps.ensures.1 in
    let e = c.last_up.ensures.value in
    let m = c.max.ensures in
    let u = c.requires.up in
    omega arith

-- the run, and the runs before and after it
abbrev added : goal.After-insert → Run
added c = run c.args.up (c.args.down, list_of c.args.ropes.now c.args.tasks)

abbrev before : goal.After-insert → List Run
before c = runs_of c.args.ropes.now c.args.self.now

abbrev after : goal.After-insert → List Run
after c = runs_of c.insert.new.ropes c.insert.new.self

told : (c : goal.After-insert) → OnOk c.insert.result (after c ≡ append_run (added c) (before c))
told c =
    let h = profile_runs c.args.ropes.now c.args.self.now in
    let e = append_is (added c) (before c) (rw h c.keeps.ensures.2) in
    let m : max (last_up (run_profile (before c))) c.args.up ≡ c.max.result =
    ap (λ l. max (last_up l) c.args.up) h ∙ ap (λ n. max n c.args.up) (sym c.last_up.ensures.value) ∙ sym c.max.ensures in
    rw (e, m) c.insert.ensures.segments

appended : (c : goal.After-insert)
    → OnOk c.insert.result (profile c.insert.new.self ≡ append_segment c.args.up c.args.down (profile c.args.self.now))
appended c = on_ok_weaker c.insert.result
    (λ e. sym (profile_runs c.insert.new.ropes c.insert.new.self) ∙ ap run_profile e ∙ profile_append (added c) (before c)
    ∙ ap (append_segment c.args.up c.args.down) (profile_runs c.args.ropes.now c.args.self.now))
    (told c)

pub returns-clause-segments : goal.returns-clause-segments
returns-clause-segments c = told c

pub returns-clause-tasks : goal.returns-clause-tasks
returns-clause-tasks c = on_ok_weaker c.insert.result (λ e. ap tasks_of e ∙ tasks_append (added c) (before c)) (told c)

pub returns-clause-lowest : goal.returns-clause-lowest
returns-clause-lowest c = on_ok_weaker c.insert.result
    (λ e limit level room. ap (lowest limit level) e
    ∙ c.appending.ensures.lowest limit level c.args.up c.args.down (profile c.args.self.now) room) (appended c)

pub returns-clause-top : goal.returns-clause-top
returns-clause-top c = on_ok_weaker c.insert.result
    (λ e level room. ap (top level) e ∙ c.appending.ensures.top level c.args.up c.args.down (profile c.args.self.now) room) (appended c)
