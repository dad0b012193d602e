use Rattle.std.proofs.Common.{◌<◌, ◌^◌, ◌∙◌, sym, get_or, bit_and, arith}
use Rattle.std.proofs.lemmas.Nat.{and_le_l, ones-le}
use Rattle.bit_rows.proofs.Counts.{common_none, common_more, common_all}
use Rattle.bit_rows.proofs.words.count_common_bits.Goals as goal

pub loop-k-init : goal.loop-k-init
loop-k-init c = record { so_far = sym (common_none c.args.words.now c.args.other.now); small = omega arith }

pub overflow_add-count : goal.overflow_add-count
overflow_add-count c =
    let le = and_le_l (get_or c.args.words.now c.loop-k.k 0) (get_or c.args.other.now c.loop-k.k 0) in
    let fits = c.type_inv.words c.loop-k.k in
    let lt : bit_and (get_or c.args.words.now c.loop-k.k 0) (get_or c.args.other.now c.loop-k.k 0) < 2 ^ 64 = omega arith in
    let few = ones-le 64 (bit_and (get_or c.args.words.now c.loop-k.k 0) (get_or c.args.other.now c.loop-k.k 0)) lt in
    omega arith

pub loop-k-preserved : goal.loop-k-preserved
loop-k-preserved c =
    let le = and_le_l (get_or c.args.words.now c.loop-k.k 0) (get_or c.args.other.now c.loop-k.k 0) in
    let fits = c.type_inv.words c.loop-k.k in
    let lt : bit_and (get_or c.args.words.now c.loop-k.k 0) (get_or c.args.other.now c.loop-k.k 0) < 2 ^ 64 = omega arith in
    let few = ones-le 64 (bit_and (get_or c.args.words.now c.loop-k.k 0) (get_or c.args.other.now c.loop-k.k 0)) lt in
    let more = common_more c.args.words.now c.args.other.now c.loop-k.k lt in
    record { so_far = omega arith; small = omega arith }

pub returns : goal.returns
returns c = λ n inside. c.loop-k.invariant.so_far ∙ common_all c.args.words.now c.args.other.now c.loop-k.k n (omega arith) inside
