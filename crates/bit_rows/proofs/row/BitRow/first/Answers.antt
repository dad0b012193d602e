use Rattle.std.proofs.Common.{◌≡◌, ℕ, not, eqb, List, length, ap, subst, arith}
use Rattle.std.specs.Prelude.{Some, None, position}
use Rattle.bit_rows.specs.Rows.{IsLowestIn}
use Rattle.bit_rows.proofs.RowBits.{first_word_some, first_of_row, none_of_row}
use Rattle.bit_rows.proofs.row.BitRow.first.Goals as goal

pub returns-in_err-word-clause-none : goal.returns-in_err-word-clause-none
returns-in_err-word-clause-none c =
    let f = c.self.inside in
    let none : position (λ w. not (eqb w 0)) c.deref.result.now ≡ None =
    (let a = c.first_word.ensures in let b = c.in_err-word.was in let d = c.in_err-word.ensures in cc) in
    let none' = subst (λ (z : List ℕ). position (λ w. not (eqb w 0)) z ≡ None) c.deref.ensures.value none in
    rw (← c.self.view_is, c.from_residual.ensures) (none_of_row f.len f.words.items c.self.invariant none')

pub lowest_bit-requires-clause-few : goal.lowest_bit-requires-clause-few
lowest_bit-requires-clause-few c = omega (arith, ap length c.deref-2.ensures.value, c.self.invariant.long, c.self.invariant.small)

pub lowest_bit-requires-clause-some : goal.lowest_bit-requires-clause-some
lowest_bit-requires-clause-some c =
    let f = c.self.inside in
    let some : position (λ w. not (eqb w 0)) c.deref.result.now ≡ Some c.in_ok-word.word =
    (let a = c.first_word.ensures in let b = c.in_ok-word.was in let d = c.in_ok-word.ensures in cc) in
    let some' = subst (λ (z : List ℕ). position (λ w. not (eqb w 0)) z ≡ Some c.in_ok-word.word) c.deref.ensures.value some in
    rw c.deref-2.ensures.value (first_word_some f.words.items c.in_ok-word.word some').1

pub returns-clause-some : goal.returns-clause-some
returns-clause-some c =
    let f = c.self.inside in
    let some : position (λ w. not (eqb w 0)) c.deref.result.now ≡ Some c.in_ok-word.word =
    (let a = c.first_word.ensures in let b = c.in_ok-word.was in let d = c.in_ok-word.ensures in cc) in
    let some' = subst (λ (z : List ℕ). position (λ w. not (eqb w 0)) z ≡ Some c.in_ok-word.word) c.deref.ensures.value some in
    let low : IsLowestIn f.words.items c.in_ok-word.word c.lowest_bit.result = rw c.deref-2.ensures.value at c.lowest_bit.ensures in
    rw (← c.self.view_is) (first_of_row f.len f.words.items c.self.invariant c.in_ok-word.word c.lowest_bit.result some' low)
