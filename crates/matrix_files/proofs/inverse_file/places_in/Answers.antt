use Rattle.std.proofs.Common.{rules, ◌+◌, ◌<◌, ◌^◌, length, ap, arith}
use Rattle.std.proofs.lemmas.List.FromFn.{length-map-range_with_len, map-range_with_len_more}
use Rattle.permutations.specs.Perm.{place_of}
use Rattle.matrix_files.proofs.inverse_file.places_in.Goals as goal

pub loop-v-preserved : goal.loop-v-preserved
loop-v-preserved c =
    let place = place_of c.args.order.now in
    let v = c.loop-v.v in
    rw (map-range_with_len_more place 1 v (v + 1) (omega arith)) (search rules)

pub returns-clause-small : goal.returns-clause-small
returns-clause-small c =
    let below : c.len-v-end.result < 2 ^ 32 = omega (arith, c.len-v-end.type_inv) in
    let end = c.loop-v.auto.v-end in
    let many = length-map-range_with_len (place_of c.args.order.now) 1 c.loop-v.v in
    omega (arith, ap length c.loop-v.invariant, many, end, below)
