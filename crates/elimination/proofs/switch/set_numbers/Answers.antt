use Rattle.std.proofs.Common.{◌≡◌, ◌≢◌, ◌<◌, true, inl, inr, ℕ, get_or, length, length-set, arith, refl, subst, sym, ap, ◌∙◌, IsTrue}
use Rattle.std.proofs.lemmas.Bool.{cases_eq}
use Rattle.bit_rows.specs.Bits.{bit_in}
use Rattle.elimination.proofs.DenseBits.{put_own, put_others}
use Rattle.patterns.proofs.NumberLists.{place_of}
use Rattle.patterns.proofs.NumberLists.{has_at}
use Rattle.elimination.proofs.switch.set_numbers.Goals as goal

pub loop-x-init : goal.loop-x-init
loop-x-init c = record { len = refl; kept = λ y t. t; from = λ y t. inl t; to = λ j lt. absurd (omega arith) }

pub insert-requires : goal.insert-requires
insert-requires c =
    let x = get_or c.args.list.now c.loop-x.x-index 0 in
    let fit = c.requires.fit x in
    let len = c.loop-x.invariant.len in
    omega arith

pub loop-x-preserved : goal.loop-x-preserved
loop-x-preserved c =
    let i = c.loop-x.x-index in
    let x = get_or c.args.list.now c.loop-x.x-index 0 in
    let k = get_or c.args.numbers.now x 0 in
    let inv = c.loop-x.invariant in
    let new = c.insert.new.self in
    let fit = c.requires.fit x in
    let len = inv.len in
    let within : k < length c.loop-x.row = omega arith in
    let own : bit_in new k ≡ true = put_own c.loop-x.row new k true c.insert.ensures within in
    let other : (y : ℕ) → y ≢ k → bit_in new y ≡ bit_in c.loop-x.row y = put_others c.loop-x.row new k true c.insert.ensures in
    let kept : (y : ℕ) → IsTrue (bit_in c.loop-x.row y) → IsTrue (bit_in new y) = λ y t. elim (cases_eq y k) [
      | inl e ↦ ap (bit_in new) e ∙ own
      | inr ne ↦ other y ne ∙ t
    ] in
    record {
      len = ap length c.insert.ensures ∙ length-set c.loop-x.row k true ∙ inv.len;
      kept = λ y t. kept y (inv.kept y t);
      from = λ y t. elim (cases_eq y k) [
        | inl e ↦ inr (x, has_at c.args.list.now i (omega arith), sym e)
        | inr ne ↦ inv.from y (sym (other y ne) ∙ t)
      ];
      to = λ j lt. elim (cases_eq j i) [
        | inl e ↦ ap (λ z. bit_in new (get_or c.args.numbers.now (get_or c.args.list.now z 0) 0)) e ∙ own
        | inr ne ↦ kept (get_or c.args.numbers.now (get_or c.args.list.now j 0) 0) (inv.to j (omega arith))
      ];
    }

pub returns-clause-len : goal.returns-clause-len
returns-clause-len c = c.loop-x.invariant.len

pub returns-clause-to : goal.returns-clause-to
returns-clause-to c = λ x h.
    let at = place_of c.args.list.now x h in
    let lt = at.1 in
    subst (λ z. IsTrue (bit_in c.loop-x.row (get_or c.args.numbers.now z 0))) at.2 (c.loop-x.invariant.to at.0 (omega arith))
