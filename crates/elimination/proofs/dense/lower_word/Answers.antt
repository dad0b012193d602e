use Rattle.std.proofs.Common.{◌≡◌, ◌≢◌, inl, inr, ℕ, ◌+◌, ◌-◌, ◌*◌, ◌%◌, ◌^◌, get_or, set, length}
use Rattle.std.proofs.Common.{length-set, bit_and, arith, refl, sym, ap, ◌∙◌, subst, w64}
use Rattle.std.specs.Int.{bit_at, trailing_zeros}
use Rattle.std.proofs.lemmas.Bool.{cases_eq}
use Rattle.std.proofs.lemmas.List.{get_or-set_same, get_or-set_other}
use Rattle.std.proofs.lemmas.Nat.Bits.{bit_at-zero}
use Rattle.elimination.proofs.DenseBits.{lowest_inside, lowest_set, lowest_cleared, others_kept, lowest_less}
use Rattle.elimination.proofs.dense.lower_word.Goals as goal

pub bits-init : goal.bits-init
bits-init c = record {
  len = refl;
  fits = c.ranges.word.fits;
  within = λ i lt h. h;
  had = λ i lt h none. absurd (none h);
  still = λ i lt h. refl;
  others = λ x none. refl;
}

pub at-requires : goal.at-requires
at-requires c =
    let inv = c.bits.invariant in
    let t = lowest_inside c.bits.left c.bits-test.true inv.fits in
    let b = lowest_set c.bits.left c.bits-test.true inv.fits in
    let lt = c.requires.inside (trailing_zeros w64 c.bits.left) t (inv.within (trailing_zeros w64 c.bits.left) t b) in
    let len = inv.len in
    omega arith

pub put-requires : goal.put-requires
put-requires c =
    let inv = c.bits.invariant in
    let t = lowest_inside c.bits.left c.bits-test.true inv.fits in
    let b = lowest_set c.bits.left c.bits-test.true inv.fits in
    let lt = c.requires.inside (trailing_zeros w64 c.bits.left) t (inv.within (trailing_zeros w64 c.bits.left) t b) in
    let len = inv.len in
    omega arith

pub bits-smaller : goal.bits-smaller
bits-smaller c = lowest_less c.bits.left c.bits-test.true c.bits.invariant.fits

pub bits-preserved : goal.bits-preserved
bits-preserved c =
    let inv = c.bits.invariant in
    let left = c.bits.left in
    let first = c.args.first in
    let bounds = c.bits.bounds in
    let tz = trailing_zeros w64 c.bits.left in
    let some = c.bits-test.true in
    let t = lowest_inside left some inv.fits in
    let b = lowest_set left some inv.fits in
    let none = lowest_cleared left some inv.fits in
    let less = lowest_less left some inv.fits in
    let in_word = inv.within tz t b in
    let lt = c.requires.inside tz t in_word in
    let len = inv.len in
    let fits = inv.fits in
    let is : c.put.new.self ≡ set bounds (first + tz) c.saturating_sub.result = c.put.ensures in
    let other : (x : ℕ) → x ≢ first + tz → get_or c.put.new.self x 0 ≡ get_or bounds x 0 = λ x ne. ap (λ z. get_or z x 0) is
    ∙ get_or-set_other bounds (first + tz) x c.saturating_sub.result 0 ne in
    record {
      len = ap length is ∙ length-set bounds (first + tz) c.saturating_sub.result ∙ len;
      fits = omega arith;
      within = λ i l h. elim (cases_eq i tz) [
        | inl e ↦ subst (λ z. bit_at c.args.word z ≡ 1) (sym e) in_word
        | inr ne ↦ inv.within i l (sym (others_kept left some inv.fits i l ne) ∙ h)
      ];
      had = λ i l w gone. elim (cases_eq i tz) [
        | inl e ↦ (
            let here = ap (λ z. get_or z (first + tz) 0) is ∙ get_or-set_same bounds (first + tz) c.saturating_sub.result 0 (omega arith) in
            let was = inv.still tz t b in
            let at = c.at.ensures in
            let sub = c.saturating_sub.ensures in
            let goal' : get_or c.put.new.self (first + tz) 0 ≡ get_or c.args.bounds.now (first + tz) 0 - 1 = omega arith in
            subst (λ z. get_or c.put.new.self (first + z) 0 ≡ get_or c.args.bounds.now (first + z) 0 - 1) (sym e) goal'
            )
        | inr ne ↦ other (first + i) (λ e. ne (omega arith)) ∙ inv.had i l w (λ h. gone (others_kept left some inv.fits i l ne ∙ h))
      ];
      still = λ i l h. elim (cases_eq i tz) [
        | inl e ↦ absurd (let z = subst
            (λ z. bit_at (bit_and left (18446744073709551615 - 1 * 2 ^ tz % 18446744073709551616)) z ≡ 1) e h in omega arith)
        | inr ne ↦ other (first + i) (λ e. ne (omega arith)) ∙ inv.still i l (sym (others_kept left some inv.fits i l ne) ∙ h)
      ];
      others = λ x out. other x (λ e. out tz t e in_word) ∙ inv.others x out;
    }

pub returns-clause-had : goal.returns-clause-had
returns-clause-had c = λ i lt w.
    let z : c.bits.left ≡ 0 = c.bits-test.false in
    c.bits.invariant.had i lt w (λ h. absurd (let n = bit_at-zero i in let e = ap (λ n. bit_at n i) z in omega arith))
