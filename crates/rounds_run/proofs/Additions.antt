-- What is added to a list, one step after another.
use Rattle.std.proofs.Common.{◌≡◌, ℕ, ◌<◌, ◌≤◌, Bool, true, false, ◌||◌, eqb, ltb, List, refl, sym, ap, ◌∙◌, arith}
use Rattle.std.proofs.Math.Bool.{or-false, or_assoc}
use Rattle.std.proofs.lemmas.Bool.{lt-ltb, le-ltb}
use Rattle.permutations.specs.Perm.{place_of}
use Rattle.rounds_run.specs.Gathering.{is_later}

-- what was added before, and one more
pub adds_more : (new now old some one : Bool) → new ≡ (now || one) → now ≡ (old || some) → new ≡ (old || (some || one))
adds_more new now old some one first second = first ∙ ap (λ (b : Bool). b || one) second ∙ or_assoc old some one

pub adds_none : (now old some one : Bool) → one ≡ false → now ≡ (old || some) → now ≡ (old || (some || one))
adds_none now old some one none second =
    second ∙ ap (λ (b : Bool). old || b) (sym (ap (λ (b : Bool). some || b) none ∙ or-false some))

-- whether one more vertex is a later neighbour
pub later_yes : (order : List ℕ) (j x v column : ℕ) → column ≡ place_of order v → j < column → is_later order j x v ≡ eqb column x
later_yes order j x v column at lt =
    let after : ltb j (place_of order v) ≡ true = lt-ltb j (place_of order v) (omega arith) in
    rw (after, at) refl

pub later_no : (order : List ℕ) (j x v column : ℕ) → column ≡ place_of order v → column ≤ j → is_later order j x v ≡ false
later_no order j x v column at le =
    let before : ltb j (place_of order v) ≡ false = le-ltb j (place_of order v) (omega arith) in
    rw before refl
