use Rattle.std.proofs.Common.{◌≡◌, ℕ, ◌+◌, ◌*◌, ◌<◌, ◌≤◌, refl, List, [], ◌∷◌, ◌++◌, length, get_or, take, sym, ap, subst, ◌∙◌, arith}
use Rattle.std.specs.Vec.Iter.{into_iter_items}
use Rattle.std.proofs.Math.Seq.{get_or-append_seam}
use Rattle.std.proofs.lemmas.Grind.{div_ceil_times}
use Rattle.std.proofs.lemmas.List.{append_assoc, length-append, length_push, take_all}
use Rattle.patterns.specs.Pattern.{is_joined}
use Rattle.ordering.specs.Fill.{renumbered}
use Rattle.rounds_run.specs.declared.front.Job.{Job}
use Rattle.rounds_run.specs.declared.front.Made.{Made}
use Rattle.rounds_run.specs.Holding.{AreHandedBack}
use Rattle.rounds_run.proofs.CrewLemmas.{none_back, crew_at, crew_back}
use Rattle.rounds_run.proofs.crews.make_side_by_side.Goals as goal

pub loop-crew-init : goal.loop-crew-init
loop-crew-init g c = record {
  all = refl;
  back = none_back (renumbered (is_joined c.args.pattern.now) c.args.perm.now) (length c.args.perm.now) c.args.jobs.now
      c.in_ok-made.made.items (0 * c.args.size) (omega arith) c.in_ok-made.ensures.items;
}

pub loop-crew-preserved : goal.loop-crew-preserved
loop-crew-preserved g c =
    let joined = renumbered (is_joined c.args.pattern.now) c.args.perm.now in
    let n = length c.args.perm.now in
    let jobs = c.args.jobs.now in
    let size = c.args.size in
    let yielded = c.loop-crew.yielded in
    let k = length yielded in
    let crews = c.in_ok-crews.crews.items in
    let crew = c.in-Some.crew in
    let left = into_iter_items c.next.new.self in
    let step : into_iter_items c.loop-crew.crew-iterator ≡ crew ∷ left = c.in-Some.ensures.steps.0 in
    let all : yielded ++ (crew ∷ left) ≡ into_iter_items c.into_iter-crew-iterator.result =
    ap (λ z. yielded ++ z) (sym step) ∙ c.loop-crew.invariant.all in
    let whole : yielded ++ (crew ∷ left) ≡ crews = all ∙ c.into_iter-crew-iterator.ensures.into_iter_gives.0 in
    let at : get_or crews k crew ≡ crew = ap (λ z. get_or z k crew) (sym whole) ∙ get_or-append_seam yielded crew left crew in
    let within : k < length crews = omega (arith, ap length whole, length-append yielded (crew ∷ left)) in
    let given = (c.in_ok-crews.ensures.each k crew within).1 in
    let fronts = crew_at joined n jobs given.argument.now size k crews crew c.in_ok-fronts.fronts at c.in_ok-fronts.was
    given.argument_is.value given.call in
    record {
      all = append_assoc yielded (crew ∷ []) left ∙ all;
      back = subst (λ (i : ℕ). AreHandedBack joined n (take (i * size) jobs) c.append.new.self.items) (sym (length_push yielded crew))
          (subst (λ (z : List Made). AreHandedBack joined n (take ((k + 1) * size) jobs) z) (sym c.in_ok-append.ensures.items)
          (crew_back joined n jobs c.loop-crew.made.items c.in_ok-fronts.fronts.items size k c.loop-crew.invariant.back fronts));
    }

pub returns : goal.returns
returns g c =
    let joined = renumbered (is_joined c.args.pattern.now) c.args.perm.now in
    let n = length c.args.perm.now in
    let jobs = c.args.jobs.now in
    let size = c.args.size in
    let yielded = c.loop-crew.yielded in
    let crews = c.in_ok-crews.crews in
    let left = into_iter_items c.loop-crew.crew-iterator in
    let none : length left ≡ 0 = sym c.loop-crew.crew-iterator.rest.ok.0 ∙ c.in-None.ensures.steps.0 in
    let whole = ap length (c.loop-crew.invariant.all ∙ c.into_iter-crew-iterator.ensures.into_iter_gives.0) in
    let many : length yielded ≡ length crews.items = omega (arith, none, whole, length-append yielded left) in
    let covered : length jobs ≤ length yielded * size =
    subst (λ (m : ℕ). length jobs ≤ m * size) (sym (many ∙ sym crews.ok.0 ∙ c.in_ok-crews.ensures.len))
    (div_ceil_times (length jobs) size c.requires.size).0 in
    subst (λ (z : List Job). AreHandedBack joined n z c.loop-crew.made.items) (take_all (length yielded * size) jobs covered)
    c.loop-crew.invariant.back
