use Rattle.std.proofs.Common.{◌<◌, ◌+◌, false, true, length, length-set, inl, inr, sym, ap, ◌∙◌, arith}
use Rattle.std.proofs.lemmas.Bool.{cases_eq, eq-eqb, ne_eqb}
use Rattle.std.proofs.lemmas.List.{length-replicate}
use Rattle.bit_rows.specs.Bits.{bit_in}
use Rattle.bit_rows.proofs.RowBits.{none_in}
use Rattle.elimination.proofs.DenseBits.{put_own, put_others}
use Rattle.elimination.proofs.dense.row_with.Goals as goal

pub returns-clause-len : goal.returns-clause-len
returns-clause-len c =
    ap length c.insert.ensures ∙ length-set c.in_ok-row.row c.args.v true ∙ ap length c.in_ok-row.ensures
    ∙ length-replicate (c.args.order + 1) false

pub returns-clause-bits : goal.returns-clause-bits
returns-clause-bits c = λ x.
    let row = c.in_ok-row.row in
    let new = c.insert.new.self in
    let len = ap length c.in_ok-row.ensures ∙ length-replicate (c.args.order + 1) false in
    let few : c.args.v < length c.in_ok-row.row = omega (arith, len, c.requires.v) in
    elim (cases_eq x c.args.v) [
      | inl e ↦ ap (bit_in new) e ∙ put_own row new c.args.v true c.insert.ensures few ∙ sym (eq-eqb c.args.v x (sym e))
      | inr ne ↦
          put_others row new c.args.v true c.insert.ensures x ne ∙ ap (λ z. bit_in z x) c.in_ok-row.ensures ∙ none_in (c.args.order + 1) x
          ∙ sym (ne_eqb c.args.v x (λ e. ne (sym e)))
    ]
