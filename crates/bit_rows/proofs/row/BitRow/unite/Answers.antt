use Rattle.std.proofs.Common.{◌≡◌, ◌∙◌, ℕ, List, Bool, length, drop, sym, ap, ap₂, ◌||◌, subst, arith}
use Rattle.std.proofs.lemmas.List.{take_at}
use Rattle.bit_rows.specs.Bits.{word_bit}
use Rattle.bit_rows.specs.Rows.{IsBitRow}
use Rattle.bit_rows.proofs.RowBits.{row_length, row_bit, unite_kept}
use Rattle.bit_rows.proofs.row.BitRow.unite.Goals as goal

pub unite_words-requires : goal.unite_words-requires
unite_words-requires c =
    let f = c.self.inside in
    let g = c.other.inside in
    let same = ap (λ (row : List Bool). length row) c.self.view_is in
    let same' = ap (λ (row : List Bool). length row) c.other.view_is in
    let lens : f.len ≡ g.len = omega (arith, c.requires, same, same', row_length f.len f.words.items, row_length g.len g.words.items) in
    omega (arith, lens, ap length c.deref_mut.ensures.value, ap length c.deref.ensures.value, c.self.invariant.long, c.other.invariant.long)

pub invariant_of-self : goal.invariant_of-self
invariant_of-self c =
    let f = c.self.inside in
    let g = c.other.inside in
    let same = ap (λ (row : List Bool). length row) c.self.view_is in
    let same' = ap (λ (row : List Bool). length row) c.other.view_is in
    let lens : g.len ≡ f.len = omega (arith, c.requires, same, same', row_length f.len f.words.items, row_length g.len g.words.items) in
    let w : length c.unite_words.new.words ≡ f.words.len = omega (arith, c.unite_words.auto.words, c.deref_mut.ensures.len) in
    rw (take_at c.unite_words.new.words (drop (length c.unite_words.new.words) f.words.items) f.words.len w)
    (unite_kept f.len f.words.items g.words.items c.unite_words.new.words c.self.invariant
    (subst (λ n. IsBitRow n g.words.items) lens c.other.invariant) (omega (arith, w))
    (rw (c.deref_mut.ensures.value, c.deref.ensures.value) at c.unite_words.ensures))

pub returns-clause-bits : goal.returns-clause-bits
returns-clause-bits c = λ x.
    let f = c.self.inside in
    let g = c.other.inside in
    let same = ap (λ (row : List Bool). length row) c.self.view_is in
    let same' = ap (λ (row : List Bool). length row) c.other.view_is in
    let lens : g.len ≡ f.len = omega (arith, c.requires, same, same', row_length f.len f.words.items, row_length g.len g.words.items) in
    let new = c.unite_words.new.words in
    let w : length c.unite_words.new.words ≡ f.words.len = omega (arith, c.unite_words.auto.words, c.deref_mut.ensures.len) in
    let bits : (x : ℕ) → word_bit new x ≡ (word_bit f.words.items x || word_bit g.words.items x) =
    rw (c.deref_mut.ensures.value, c.deref.ensures.value) at c.unite_words.ensures in
    let kept = unite_kept f.len f.words.items g.words.items new c.self.invariant
    (subst (λ n. IsBitRow n g.words.items) lens c.other.invariant) (omega (arith, w)) bits in
    rw (← c.self.view_is, ← c.other.view_is, take_at new (drop (length new) f.words.items) f.words.len w)
    (row_bit f.len new kept x ∙ bits x
    ∙ ap₂ (λ a b. a || b) (sym (row_bit f.len f.words.items c.self.invariant x)) (sym (row_bit g.len g.words.items c.other.invariant x)))
