use Rattle.std.proofs.Common.{◌≡◌, ℕ, List, Bool, length, get_or, subst, ap, arith}
use Rattle.bit_rows.specs.Rows.{IsLowestIn}
use Rattle.bit_rows.proofs.RowBits.{row_length, none_in_word, some_in_word}
use Rattle.bit_rows.proofs.row.BitRow.is_in_word.Goals as goal

pub is_some_word-requires : goal.is_some_word-requires
is_some_word-requires c =
    let f = c.self.inside in
    let same = ap (λ (row : List Bool). length row) c.self.view_is in
    let x = c.requires.0 in
    let lt = c.requires.1 in
    let at = c.requires.2 in
    omega (arith, lt, at, same, row_length f.len f.words.items, ap length c.deref.ensures.value, c.self.invariant.long)

pub returns-clause-some : goal.returns-clause-some
returns-clause-some c = λ t.
    let f = c.self.inside in
    let s = c.is_some_word.ensures.some t in
    let low = subst (λ (z : List ℕ). IsLowestIn z c.args.word s.0) c.deref.ensures.value s.1 in
    rw (← c.self.view_is) (some_in_word f.len f.words.items c.self.invariant c.args.word s.0 low)

pub returns-clause-none : goal.returns-clause-none
returns-clause-none c = λ t.
    let f = c.self.inside in
    let z = subst (λ (z : List ℕ). get_or z c.args.word 0 ≡ 0) c.deref.ensures.value (c.is_some_word.ensures.none t) in
    rw (← c.self.view_is) (none_in_word f.len f.words.items c.self.invariant c.args.word z)
