use Rattle.std.proofs.Common.{◌≡◌, ◌≢◌, inl, inr, ℕ, ◌+◌, ◌-◌, ◌*◌, ◌<◌, ◌&&◌, IsTrue, List, get_or, bit_and, arith, refl, sym, ◌∙◌, subst}
use Rattle.std.specs.Int.{bit_at}
use Rattle.std.proofs.lemmas.Bool.{cases_lt, and_parts, eq-eqb, eqb-true, both_ways}
use Rattle.bit_rows.specs.Bits.{word_bit}
use Rattle.bit_rows.proofs.Counts.{common_at}
use Rattle.bit_rows.proofs.WordBits.{word_within}
use Rattle.elimination.proofs.dense.lower_common.Goals as goal
use Rattle.elimination.proofs.dense.lower_common.Goals.{After-lower_word}

pub loop-k-init : goal.loop-k-init
loop-k-init c = record { len = refl; common = λ x lt. absurd (omega arith); rest = λ x le. refl; others = λ x e. refl }

-- a bit of the word that is looked at
both : (row other : List ℕ) (k i : ℕ) → i < 64 → bit_at (bit_and (get_or row k 0) (get_or other k 0)) i ≡ 1
    → IsTrue (word_bit row (64 * k + i) && word_bit other (64 * k + i))
both row other k i lt h = sym (common_at row other k i lt) ∙ eq-eqb (bit_at (bit_and (get_or row k 0) (get_or other k 0)) i) 1 h

pub lower_word-requires-clause-inside : goal.lower_word-requires-clause-inside
lower_word-requires-clause-inside c = λ i lt h.
    let b = both c.args.row.now c.args.other.now c.loop-k.k i lt h in
    let lt = c.requires.inside (64 * c.loop-k.k + i)
    (and_parts (word_bit c.args.row.now (64 * c.loop-k.k + i)) (word_bit c.args.other.now (64 * c.loop-k.k + i)) b).1 in
    let len = c.loop-k.invariant.len in
    omega arith

-- what lies in other words stays
apart : (c : After-lower_word) (x : ℕ) → ((i : ℕ) → i < 64 → x ≢ 64 * c.loop-k.k + i)
    → get_or c.lower_word.new.bounds x 0 ≡ get_or c.loop-k.bounds x 0
apart c x out = c.lower_word.ensures.others x (λ i lt e h. out i lt e)

pub loop-k-preserved : goal.loop-k-preserved
loop-k-preserved c =
    let c' = (goal.at.loop-k-preserved c).After-lower_word in
    let k = c.loop-k.k in
    let row = c.args.row.now in
    let other = c.args.other.now in
    let inv = c.loop-k.invariant in
    record {
      len = c.lower_word.ensures.len ∙ inv.len;
      common = λ x lt t. elim (cases_lt x (64 * k)) [
        | inl before ↦ apart c' x (λ i l e. absurd (omega arith)) ∙ inv.common x before t
        | inr le ↦ (
            let i = x - 64 * k in
            let e : 64 * k + (x - 64 * k) ≡ x = omega arith in
            let word : bit_at (bit_and (get_or row k 0) (get_or other k 0)) i ≡ 1 =
            eqb-true (bit_at (bit_and (get_or row k 0) (get_or other k 0)) i) 1
            (common_at row other k i (omega arith) ∙ subst (λ z. IsTrue (word_bit row z && word_bit other z)) (sym e) t) in
            let had = c.lower_word.ensures.had i (omega arith) word in
            let was = inv.rest x le in
            let here : get_or c.lower_word.new.bounds x 0 ≡ get_or c.loop-k.bounds x 0 - 1 = subst
            (λ z. get_or c.lower_word.new.bounds z 0 ≡ get_or c.loop-k.bounds z 0 - 1) e had in
            omega arith
            )
      ];
      rest = λ x le. apart c' x (λ i l e. absurd (omega arith)) ∙ inv.rest x (omega arith);
      others = λ x none. c.lower_word.ensures.others x
          (λ i lt e h. both_ways _ none (subst (λ z. IsTrue (word_bit row z && word_bit other z)) (sym e) (both row other k i lt h)))
          ∙ inv.others x none;
    }

pub returns-clause-len : goal.returns-clause-len
returns-clause-len c = c.loop-k.invariant.len

pub returns-clause-common : goal.returns-clause-common
returns-clause-common c = λ x t.
    let w = word_within c.args.row.now x (and_parts (word_bit c.args.row.now x) (word_bit c.args.other.now x) t).0 in
    c.loop-k.invariant.common x (omega arith) t

pub returns-clause-others : goal.returns-clause-others
returns-clause-others c = c.loop-k.invariant.others
