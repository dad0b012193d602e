-- What was read of a file, and the page that refuses it.
use Rattle.std.proofs.Common.{◌≡◌, ◌<◌, ℕ, List, Option, Some, Result, Ok, Err, MatchResult, inl, inr, subst, length}
use Rattle.std.specs.Prelude.{codes}
use Rattle.mp_text.specs.declared.refusals.Refusal.{Refusal}
use Rattle.mp_text.specs.declared.refusals.Fault.{Fault}
use Rattle.limits.specs.Limits.{most_bytes}
use Rattle.limits.specs.declared.name.LimitName.{LimitName}
use Rattle.mp_text.specs.declared.refusals.Refusal.TheVariants.{Format, Limit, NoMemory}
use Rattle.judging.specs.Files.{IsRefusedFile, IsWithinBytes, limit_refused}
use Rattle.judging.specs.Judged.{IsRefusalOf, IsStopFor, IsStopAt}
use Rattle.judging.specs.Pages.{answer_of}
use Rattle.judging.specs.declared.stop.Stop.{Stop}
use Rattle.judging.specs.declared.stop.Stop.TheVariants as stops

-- a refusal of a format
pub refusal_of : {T K : Type 0} (r : Result T (Refusal K)) (P : T → Type 0) (Q R : Refusal K → Type 0) → MatchResult r P Q
    → ((fault : Fault K) → Q (Format fault) → R (Format fault))
    → ((limit : LimitName) → Q (Limit limit) → R (Limit limit)) → MatchResult r P (IsRefusalOf R)
refusal_of (Ok v) P Q R h of_format of_limit = h
refusal_of (Err (Format fault)) P Q R h of_format of_limit = of_format fault h
refusal_of (Err (Limit limit)) P Q R h of_format of_limit = of_limit limit h
refusal_of (Err NoMemory) P Q R h of_format of_limit = tt

module _ {K : Type 0} (file : List ℕ) (word_of : K → List ℕ) (refuses : List ℕ → Refusal K → Type 0)
    (told : List ℕ → Option (List ℕ)) (before after : List ℕ → ℕ) (name : List ℕ) where
  -- a file that is too long
  pub too_long : (word : List ℕ) → word ≡ file → (e : Stop)
      → IsStopAt told before after name (λ text answer. (most_bytes < length text) × (answer ≡ limit_refused word (codes "bytes"))) e
      → IsStopAt told before after name (λ text answer. IsRefusedFile file word_of (refuses text) text answer) e
  too_long word same (stops.Refused page) h = λ text is. let long = h text is in
      inl (long.0, subst (λ (w : List ℕ). answer_of page ≡ limit_refused w (codes "bytes")) same long.1)
  too_long word same stops.ReadFault h = h
  too_long word same stops.NoMemory h = tt

  -- a file that its format refuses
  pub refused : {T : Type 0} (bytes : List ℕ) → ((text : List ℕ) → told name ≡ Some text → (bytes ≡ text) × IsWithinBytes text)
      → (read : Result T (Refusal K)) (P : T → Type 0)
      → MatchResult read P (IsRefusalOf (refuses bytes)) → (e : Stop) → IsStopFor file word_of read e
      → IsStopAt told before after name (λ text answer. IsRefusedFile file word_of (refuses text) text answer) e
  refused bytes tells (Ok v) P h (stops.Refused page) is = absurd is
  refused bytes tells (Err (Format fault)) P h (stops.Refused page) is = λ text holds.
      let t = tells text holds in inr (t.1, (Format fault, subst (λ b. refuses b (Format fault)) t.0 h, is))
  refused bytes tells (Err (Limit limit)) P h (stops.Refused page) is = λ text holds.
      let t = tells text holds in inr (t.1, (Limit limit, subst (λ b. refuses b (Limit limit)) t.0 h, is))
  refused bytes tells (Err NoMemory) P h (stops.Refused page) is = absurd is
  refused bytes tells read P h stops.ReadFault is = absurd is
  refused bytes tells read P h stops.NoMemory is = tt
