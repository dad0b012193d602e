use Rattle.bit_rows.proofs.WordBits.{united}
use Rattle.std.proofs.Common.{get_or, set, bit_or, inl, inr, sym, arith, ◌∙◌, ap}
use Rattle.std.proofs.lemmas.List.{get_or-set_same, get_or-set_other}
use Rattle.std.proofs.lemmas.Bool.{cases_eq}
use Rattle.bit_rows.proofs.words.unite_words.Goals as goal

pub loop-k-preserved : goal.loop-k-preserved
loop-k-preserved c =
    let old = c.loop-k.words in
    let k = c.loop-k.k in
    let w = bit_or (get_or c.loop-k.words c.loop-k.k 0) (get_or c.args.other.now c.loop-k.k 0) in
    record {
      done = λ j lt. elim (cases_eq j c.loop-k.k) [
        | inl e ↦
            ap (λ z. get_or (set old k w) z 0) e ∙ get_or-set_same old k w 0 (omega arith)
            ∙ ap (λ z. bit_or z (get_or c.args.other.now k 0)) (c.loop-k.invariant.rest k (omega arith))
            ∙ ap (λ z. bit_or (get_or c.args.words.now z 0) (get_or c.args.other.now z 0)) (sym e)
        | inr ne ↦ get_or-set_other old k j w 0 ne ∙ c.loop-k.invariant.done j (omega arith)
      ];
      rest = λ j le. get_or-set_other old k j w 0 (λ e. absurd (omega arith)) ∙ c.loop-k.invariant.rest j (omega arith);
    }

pub returns : goal.returns
returns c = λ x. united c.args.words.now c.args.other.now c.loop-k.words c.loop-k.auto.words c.requires
    (λ j lt. c.loop-k.invariant.done j (omega arith)) x
