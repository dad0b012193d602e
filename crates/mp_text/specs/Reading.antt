-- How a reader takes the lines of a file one by one, and how its answers are tied to the tests of its format.
use Rattle.std.specs.Prelude.{◌≡◌, ℕ, List, [], ◌∷◌, if◌then◌else◌, Result, Ok, Err, Some, None}
use Rattle.mp_text.specs.declared.refusals.Refusal.{Refusal}
use Rattle.mp_text.specs.declared.refusals.Refusal.TheVariants as refusals
use Rattle.mp_text.specs.Text.{Row}
use Rattle.mp_text.specs.Grammar.{Test, Format, first_failure, Refuses}

-- what follows where nothing failed before
infixl 10 ◌>>=◌
abbrev pub ◌>>=◌ : {A B R : Type 0} → Result A R → (A → Result B R) → Result B R
(Ok x) >>= f = f x
(Err r) >>= f = Err r

-- the value where every test holds, else the refusal of the first that fails
abbrev pub tested : {K T : Type 0} → List (Test K) → T → Result T (Refusal K)
tested [] value = Ok value
tested (t ∷ ts) value = if t.holds then tested ts value else Err t.refusal

-- steps over the elements of a list, up to the first that fails
abbrev pub steps_of_all : {K S X : Type 0} → (S → X → Result S (Refusal K)) → S → List X → Result S (Refusal K)
steps_of_all step s [] = Ok s
steps_of_all step s (x ∷ xs) = step s x >>= λ t. steps_of_all step t xs

-- What a call answered is what is expected of it, unless memory ran out.
abbrev pub Fails : {K X : Type 0} → Result X (Refusal K) → Refusal K → Type 0
Fails expected refusals.NoMemory = Unit {0}
Fails expected (refusals.Format f) = expected ≡ Err (refusals.Format f)
Fails expected (refusals.Limit l) = expected ≡ Err (refusals.Limit l)

abbrev pub Gives : {K X : Type 0} → Result X (Refusal K) → Result X (Refusal K) → Type 0
Gives expected (Ok x) = expected ≡ Ok x
Gives expected (Err e) = Fails expected e

-- the same, where the value is seen by a function
abbrev pub GivesBy : {K X Y : Type 0} → (Y → X) → Result X (Refusal K) → Result Y (Refusal K) → Type 0
GivesBy view expected (Ok y) = expected ≡ Ok (view y)
GivesBy view expected (Err e) = Fails expected e

-- the same of a step that changes the reader
abbrev pub Steps : {K X Y : Type 0} → Result X (Refusal K) → Result Y (Refusal K) → X → Type 0
Steps expected (Ok _) new = expected ≡ Ok new
Steps expected (Err e) new = Fails expected e

-- a step goes on exactly where all tests hold, to a state of which P holds, and else has the refusal of the first that fails
abbrev pub Follows : {K S : Type 0} → List (Test K) → (S → Type 0) → Result S (Refusal K) → Type 0
Follows tests P (Ok s) = (first_failure tests ≡ None) × P s
Follows tests P (Err r) = first_failure tests ≡ Some r

-- a refusal is that of the first test that fails, unless memory ran out
abbrev pub IsFirst : {K : Type 0} → List (Test K) → Refusal K → Type 0
IsFirst tests refusals.NoMemory = Unit {0}
IsFirst tests (refusals.Format f) = first_failure tests ≡ Some (refusals.Format f)
IsFirst tests (refusals.Limit l) = first_failure tests ≡ Some (refusals.Limit l)

-- What a call answered is what the tests say: all hold, and P holds of the reader after it, or a refusal is that of the first that fails.
abbrev pub Judges : {K X Y : Type 0} → List (Test K) → (X → Type 0) → Result Y (Refusal K) → X → Type 0
Judges tests P (Ok _) new = (first_failure tests ≡ None) × P new
Judges tests P (Err e) new = IsFirst tests e

-- the answer is a refusal of the file, or memory ran out
abbrev pub IsRefusal : {K : Type 0} → Format K → List Row → ℕ → Refusal K → Type 0
IsRefusal format rows past refusals.NoMemory = Unit {0}
IsRefusal format rows past (refusals.Format f) = Refuses format rows past (refusals.Format f)
IsRefusal format rows past (refusals.Limit l) = Refuses format rows past (refusals.Limit l)
