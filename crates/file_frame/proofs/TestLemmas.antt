-- Tests that all hold, and what the laws of formats say.
use Rattle.std.proofs.Common.{◌≡◌, ℕ, Bool, true, false, cond, List, ◌⊎◌, Option, Some, None, refl}
use Rattle.mp_text.specs.declared.refusals.Refusal.{Refusal}
use Rattle.mp_text.specs.Text.{Row}
use Rattle.mp_text.specs.Grammar.{Format, IsWellFormed, Refuses}

-- of tests of which none fails, the first holds and none of the others fails
pub passes : {K : Type 0} (holds : Bool) (rest : Option (Refusal K)) (refusal : Refusal K) → cond holds rest (Some refusal) ≡ None
    → (holds ≡ true) × (rest ≡ None)
passes true rest refusal none = (refl, none)
passes false rest refusal none = absurd cc

-- what the law `exactly_one` of formats says of those with these kinds of faults
abbrev pub SomeOutcome : Type 0 → Type 0
SomeOutcome K = (format : Format K) (rows : List Row) (past : ℕ)
    → IsWellFormed format rows past ⊎ ((refusal : Refusal K) × Refuses format rows past refusal)

abbrev pub NotBoth : Type 0 → Type 0
NotBoth K = (format : Format K) (rows : List Row) (past : ℕ) (refusal : Refusal K)
    → IsWellFormed format rows past → Refuses format rows past refusal → ⊥

abbrev pub OneRefusal : Type 0 → Type 0
OneRefusal K = (format : Format K) (rows : List Row) (past : ℕ) (one two : Refusal K)
    → Refuses format rows past one → Refuses format rows past two → one ≡ two
