use Rattle.std.proofs.Common.{ℕ, ◌<◌, length, get_or, arith}
use Rattle.std.proofs.lemmas.List.Elements.{All-get_or}
use Rattle.bound_search.proofs.TaskSums.{none_yet, added_more}
use Rattle.bound_search.proofs.needs.add_sizes.Goals as goal

pub overflow_add-sums : goal.overflow_add-sums
overflow_add-sums c =
    let inside : c.loop-i.i < length c.args.places.now = omega arith in
    let place : ℕ = get_or c.args.places.now c.loop-i.i 0 in
    omega (
      arith,
      none_yet c.args.places.now c.args.sums.now c.args.size c.requires.rising c.loop-i.sums c.loop-i.i inside c.loop-i.invariant,
      c.requires.fits (get_or c.args.places.now c.loop-i.i 0),
    )

pub loop-i-preserved : goal.loop-i-preserved
loop-i-preserved c =
    let inside : c.loop-i.i < length c.args.places.now = omega arith in
    let within = All-get_or (λ (v : ℕ). v < length c.args.sums.now) c.args.places.now c.loop-i.i 0 inside c.requires.within in
    added_more c.args.places.now c.args.sums.now c.args.size c.requires.rising c.loop-i.sums c.loop-i.i inside (omega arith)
    c.loop-i.invariant
