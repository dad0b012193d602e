use Rattle.std.proofs.Common.{◌≡◌, ◌∙◌, ◌<◌, ◌^◌, ℕ, Bool, true, false, List, length, get_or, set, cond, ap, sym, subst, arith, rules, w64, FitsSigned, pos, eqb}
use Rattle.std.specs.Prelude.{ℤ, ◌+ℤ◌, All}
use Rattle.std.specs.Int.{w128}
use mir.Val.{to_z, of_z}
use Rattle.std.proofs.lemmas.Int.{ints, to_z-of_z}
use Rattle.std.proofs.lemmas.List.{get_or_read}
use Rattle.peak_bounds.specs.Judging.{size_at, AreSpare, IsWithin}
use Rattle.peak_bounds.proofs.Sparing.{spare_within, spare_set}
use Rattle.peak_bounds.proofs.spare.set_size.Goals as goal

read : (ends : List ℕ) (n place v : ℕ) → All (λ w. w < n) ends → place < length ends → v ≡ get_or ends place v → v < n
read ends n place v all lt is = omega (arith, is, all place v lt)

within : (z : ℤ) → IsWithin (2 ^ 90) z → IsWithin (2 ^ 91) z
within z w = (omega (arith, ints, w.0), omega (arith, ints, w.1))

changed : (b : Bool) (z w by : ℤ) → IsWithin (2 ^ 90) z → IsWithin (2 ^ 62) by → w ≡ z +ℤ cond b by (pos 0) → IsWithin (2 ^ 91) w
changed true z w by near small is = (omega (arith, ints, near.0, small.0, is), omega (arith, ints, near.1, small.1, is))
changed false z w by near small is = (omega (arith, ints, near.0, is), omega (arith, ints, near.1, is))

added : (old new : List ℤ) (v : ℕ) (by : ℤ) → FitsSigned w128 by → ((w : ℕ) → size_at new w ≡ size_at old w +ℤ cond (eqb v w) (to_z w128 (of_z w128 by)) (pos 0))
    → (w : ℕ) → size_at new w ≡ size_at old w +ℤ cond (eqb v w) by (pos 0)
added old new v by fits is w = is w ∙ ap (λ (y : ℤ). size_at old w +ℤ cond (eqb v w) y (pos 0)) (to_z-of_z w128 by fits)

pub add_at-requires-clause-within : goal.add_at-requires-clause-within
add_at-requires-clause-within c =
    let are = c.requires.spare in
    let inside = read c.args.uses.now.makers.items (length c.args.spare.now) c.args.place c.index.result.now are.makers (omega (arith, c.requires.place, are.makers_len)) c.index.ensures in
    within _ (spare_within c.args.uses.now c.args.sizes.now c.args.spare.now are c.index.result.now inside)

pub add_at-requires-2-clause-within : goal.add_at-requires-2-clause-within
add_at-requires-2-clause-within c =
    let are = c.requires.spare in
    let taker = c.index-2.result.now in
    let inside = read c.args.uses.now.takers.items (length c.args.spare.now) c.args.place taker are.takers (omega (arith, c.requires.place, are.takers_len)) c.index-2.ensures in
    let fits : FitsSigned w128 c.change.result = search rules in
    changed (eqb c.index.result.now taker) (size_at c.args.spare.now taker) (size_at c.add_at.new.numbers taker) c.change.result
    (spare_within c.args.uses.now c.args.sizes.now c.args.spare.now are taker inside) c.change.ensures.within
    (added c.args.spare.now c.add_at.new.numbers c.index.result.now c.change.result fits c.add_at.ensures taker)

pub returns-clause-spare : goal.returns-clause-spare
returns-clause-spare c =
    let are = c.requires.spare in
    let sizes = c.args.sizes.now in
    let place = c.args.place in
    let z = size_at sizes place in
    let fits : FitsSigned w128 c.change.result = search rules in
    let fits2 : FitsSigned w128 c.change-2.result = search rules in
    let old : FitsSigned w64 z = search rules in
    let maker = get_or_read c.args.uses.now.makers.items place c.index.result.now (omega (arith, c.requires.place, are.makers_len)) c.index.ensures 0 in
    let taker = get_or_read c.args.uses.now.takers.items place c.index-2.result.now (omega (arith, c.requires.place, are.takers_len)) c.index-2.ensures 0 in
    let by : c.change.result +ℤ z ≡ c.args.size = omega (arith, ints, old, c.ranges.size, c.change.ensures.sum) in
    let back : c.change-2.result +ℤ c.change.result ≡ pos 0 = omega (arith, ints, old, c.ranges.size, c.change.ensures.sum, c.change-2.ensures.sum) in
    subst (λ (y : ℤ). AreSpare c.args.uses.now (set sizes place y) c.add_at-2.new.numbers) (sym (to_z-of_z w64 c.args.size c.ranges.size))
    (spare_set c.args.uses.now sizes c.args.spare.now are place c.args.size c.index.result.now c.index-2.result.now c.add_at.new.numbers c.add_at-2.new.numbers
    c.change.result c.change-2.result c.requires.place c.requires.size maker taker by back c.add_at.auto.numbers c.add_at-2.auto.numbers
    (added c.args.spare.now c.add_at.new.numbers c.index.result.now c.change.result fits c.add_at.ensures)
    (added c.add_at.new.numbers c.add_at-2.new.numbers c.index-2.result.now c.change-2.result fits2 c.add_at-2.ensures))
