use Rattle.std.proofs.Common.{◌<◌, ◌||◌, true, get_or, length, length-set, take, arith, refl, sym, ap, ◌∙◌, inl, inr}
use Rattle.std.proofs.lemmas.Bool.{cases_eq, eq-eqb, ne_eqb, or_right}
use Rattle.std.proofs.lemmas.List.{take_all}
use Rattle.std.proofs.Math.Bool.{or-false}
use Rattle.patterns.specs.Pattern.{has}
use Rattle.bit_rows.specs.Bits.{bit_in}
use Rattle.patterns.proofs.NumberLists.{has_more}
use Rattle.elimination.proofs.DenseBits.{put_own, put_others}
use Rattle.elimination.proofs.dense_tests.set_bits.Goals as goal

pub loop-x-init : goal.loop-x-init
loop-x-init c = record { len = refl; bits = λ y. sym (or-false (bit_in c.args.row.now y)) }

pub insert-requires : goal.insert-requires
insert-requires c =
    let lt = c.requires c.loop-x.x-index (omega arith) in
    let len = c.loop-x.invariant.len in
    omega arith

pub loop-x-preserved : goal.loop-x-preserved
loop-x-preserved c =
    let i = c.loop-x.x-index in
    let x = get_or c.args.list.now c.loop-x.x-index 0 in
    let row = c.loop-x.row in
    let new = c.insert.new.self in
    let lt = c.requires c.loop-x.x-index (omega arith) in
    let len = c.loop-x.invariant.len in
    let within : x < length c.loop-x.row = omega arith in
    record {
      len = ap length c.insert.ensures ∙ length-set row x true ∙ c.loop-x.invariant.len;
      bits = λ y.
          let more = has_more c.args.list.now c.loop-x.x-index y (omega arith) in
          elim (cases_eq y x) [
            | inl e ↦
                ap (bit_in new) e ∙ put_own row new x true c.insert.ensures within
                ∙ sym (or_right (bit_in c.args.row.now y) _ (more ∙ or_right (has (take i c.args.list.now) y) _ (eq-eqb x y (sym e))))
            | inr ne ↦
                put_others row new x true c.insert.ensures y ne ∙ c.loop-x.invariant.bits y
                ∙ ap (λ b. bit_in c.args.row.now y || b)
                (sym (more ∙ ap (λ b. has (take i c.args.list.now) y || b) (ne_eqb x y (λ e. ne (sym e)))
                ∙ or-false (has (take i c.args.list.now) y)))
          ];
    }

pub returns-clause-len : goal.returns-clause-len
returns-clause-len c = c.loop-x.invariant.len

pub returns-clause-bits : goal.returns-clause-bits
returns-clause-bits c = λ y. c.loop-x.invariant.bits y ∙ ap (λ z. bit_in c.args.row.now y || has z y)
    (take_all c.loop-x.x-index c.args.list.now (omega arith))
