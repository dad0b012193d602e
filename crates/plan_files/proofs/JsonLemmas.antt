-- What a plan sends to a writer of JSON, and that its text is the plan's JSON, which is one token.
use Rattle.std.proofs.Common.{◌≡◌, ℕ, suc, ◌^◌, ◌<◌, ◌≤◌, true, false, List, [], ◌∷◌, ◌++◌, length}
use Rattle.std.proofs.Common.{map, refl, sym, ap, ap₂, subst, ◌∙◌, arith, ℤ, Some, append_assoc}
use Rattle.std.specs.Bool.{IsTrue}
use Rattle.std.specs.Fmt.{decimal, signed_decimal}
use Rattle.std.specs.Int.{w64}
use Rattle.std.specs.List.{All, join_with_byte, list_all}
use Rattle.std.specs.Prelude.{FitsSigned, codes}
use Rattle.std.proofs.lemmas.Bool.{and_from, and_parts}
use Rattle.std.proofs.lemmas.List.Elements.{All-head, All-tail}
use Rattle.std.proofs.lemmas.List.Folds.{list_all-append}
use Rattle.serde.specs.Event as event
use Rattle.serde.specs.Event.{Log, Logs, Sends, WritesEach, WritesSeq, seq_begins, seq_ends}
use Rattle.serde_json.specs.Data.{Data, array, object, number, unsigned, negative, string, member, no_members}
use Rattle.serde_json.specs.Events.{items_len, SendsValue, SendsItems}
use Rattle.serde_json.specs.View.{items_of}
use Rattle.serde_json.specs.Sent.{IsTextOf}
use Rattle.serde_json.specs.Written.{compact_text, items_text, has_float, items_have_float}
use Rattle.serde_json.proofs.FreeTexts.{text_of_value}
use Rattle.serde_json.proofs.OnLiterals.{serde_json_on_literals}
use Rattle.mp_text.specs.Report.{is_plain, is_token}
use Rattle.plans.specs.Plan.{PlanValue, most_number, IsClaimWithin, IsPlan}
use Rattle.plan_files.specs.Printed.{dir_word}
use Rattle.plan_files.specs.Json.{array_json, word_json, claim_json, json_of}
use Rattle.plan_files.specs.JsonValues.{claim_value, task_value, plan_value}
use Rattle.plan_files.proofs.PrintedLemmas.{bound-fits}
use Rattle.plans.specs.declared.claim.Claim.{Claim}
use Rattle.plans.specs.declared.claim.Direction.{Direction}
use Rattle.plans.specs.declared.claim.Direction.TheVariants.{Forward, Backward}

-- ---- what is sent

module _ {X : Type 0} (writes : X → Log → Log → Type 0) (value : X → Data)
    (sends : (x : X) (old new : Log) → writes x old new → SendsValue (value x) old new) where
  items-sent : (xs : List X) (old mid new : Log) → WritesEach writes xs old mid → Logs mid new seq_ends
      → SendsItems (items_of (map value xs)) old new
  items-sent [] old mid new same ended = subst (λ (log : Log). Logs log new seq_ends) same ended
  items-sent (x ∷ xs) old mid new each ended = (each.0, sends x old each.0 each.1, items-sent xs each.0 mid new each.2 ended)

  items-len : (xs : List X) → length xs ≡ items_len (items_of (map value xs))
  items-len [] = refl
  items-len (x ∷ xs) = ap suc (items-len xs)

  -- a list is sent as an array
  list-sent : (xs : List X) (old new : Log) → WritesSeq writes xs old new → SendsValue (array (items_of (map value xs))) old new
  list-sent xs old new seq =
      (seq.0, subst (λ (n : ℕ). Logs old seq.0 (seq_begins (Some n))) (items-len xs) seq.2, items-sent xs seq.0 seq.1 new seq.3 seq.4)

pub claims-sent : (claims : List Claim) (old new : Log) → WritesSeq (λ claim. SendsValue (claim_value claim)) claims old new
    → SendsValue (array (items_of (map claim_value claims))) old new
claims-sent = list-sent (λ claim. SendsValue (claim_value claim)) claim_value (λ claim old new sent. sent)

pub order-sent : (order : List ℕ) (old new : Log) → WritesSeq (λ task. Sends (event.unsigned task)) order old new
    → SendsValue (array (items_of (map task_value order))) old new
order-sent = list-sent (λ task. Sends (event.unsigned task)) task_value (λ task old new sent. sent)

-- ---- the text

module _ {X : Type 0} (value : X → Data) (text : X → List ℕ) (same : (x : X) → compact_text (value x) ≡ text x) where
  items-text : (x : X) (xs : List X)
      → items_text false (items_of (map value (x ∷ xs))) ≡ join_with_byte 44 (map text (x ∷ xs)) ++ 93 ∷ []
  items-text x [] = ap (λ (bytes : List ℕ). bytes ++ 93 ∷ []) (same x)
  items-text x (y ∷ ys) =
      ap₂ (λ (one two : List ℕ). one ++ 44 ∷ two) (same x) (items-text y ys)
      ∙ sym (append_assoc (text x) (44 ∷ join_with_byte 44 (map text (y ∷ ys))) (93 ∷ []))

  array-text : (xs : List X) → compact_text (array (items_of (map value xs))) ≡ array_json (map text xs)
  array-text [] = refl
  array-text (x ∷ xs) = ap (λ (bytes : List ℕ). 91 ∷ bytes) (items-text x xs)

word-text : (d : Direction) → compact_text (string (dir_word d)) ≡ word_json (dir_word d)
unfolding serde_json_on_literals
word-text Forward = refl
word-text Backward = refl

claim-text : (c : Claim) → compact_text (claim_value c) ≡ claim_json c
claim-text c =
    array-text (λ (d : Data). d) compact_text (λ d. refl)
    (number (unsigned c.position) ∷ string (dir_word c.dir) ∷ number (negative c.bound) ∷ number (unsigned c.rest) ∷ [])
    ∙ ap (λ (word : List ℕ). array_json (decimal c.position ∷ word ∷ signed_decimal c.bound ∷ decimal c.rest ∷ [])) (word-text c.dir)

-- an object of three members, by the texts of their keys and values
members-text : (claims order peak : Data) (a b c : List ℕ) → compact_text claims ≡ a → compact_text order ≡ b → compact_text peak ≡ c
    → compact_text (object (member (codes "claims") claims (member (codes "order") order (member (codes "peak") peak no_members))))
    ≡ codes "{\"claims\":" ++ a ++ codes ",\"order\":" ++ b ++ codes ",\"peak\":" ++ c ++ codes "}"
unfolding serde_json_on_literals
members-text claims order peak a b c is_a is_b is_c = rw (is_a, is_b, is_c) (simp append_assoc)

plan-text : (plan : PlanValue) → compact_text (plan_value plan) ≡ json_of plan
plan-text plan =
    members-text (array (items_of (map claim_value plan.claims))) (array (items_of (map task_value plan.order)))
    (number (unsigned plan.peak)) (array_json (map claim_json plan.claims)) (array_json (map decimal plan.order)) (decimal plan.peak)
    (array-text claim_value claim_json claim-text plan.claims) (array-text task_value decimal (λ task. refl) plan.order) refl

-- no part of it is a float

claims-whole : (claims : List Claim) → items_have_float (items_of (map claim_value claims)) ≡ false
claims-whole [] = refl
claims-whole (c ∷ claims) = claims-whole claims

order-whole : (order : List ℕ) → items_have_float (items_of (map task_value order)) ≡ false
order-whole [] = refl
order-whole (task ∷ order) = order-whole order

plan-whole : (plan : PlanValue) → has_float (plan_value plan) ≡ false
plan-whole plan = rw (claims-whole plan.claims, order-whole plan.order) refl

-- what is written of a plan that was sent
pub sent-text : (plan : PlanValue) (log : Log) (text : List ℕ) → SendsValue (plan_value plan) (Some []) log → IsTextOf log text
    → text ≡ json_of plan
sent-text plan log text sent is = text_of_value (plan_value plan) log text sent is (plan-whole plan) ∙ plan-text plan

-- ---- one token

-- no byte parts tokens or lines
abbrev ArePlain : List ℕ → Type 0
ArePlain bytes = list_all is_plain bytes ≡ true

plain-append : (xs ys : List ℕ) → ArePlain xs → ArePlain ys → ArePlain (xs ++ ys)
plain-append xs ys one two = list_all-append is_plain xs ys ∙ and_from _ _ one two

plain-joined : {X : Type 0} (P : X → Type 0) (text : X → List ℕ) → ((x : X) → P x → ArePlain (text x)) → (xs : List X) → All P xs
    → ArePlain (join_with_byte 44 (map text xs))
plain-joined P text plain [] all = refl
plain-joined P text plain (x ∷ []) all = plain x (All-head P x [] all)
plain-joined P text plain (x ∷ y ∷ ys) all =
    plain-append (text x) (44 ∷ join_with_byte 44 (map text (y ∷ ys))) (plain x (All-head P x (y ∷ ys) all))
    (plain-joined P text plain (y ∷ ys) (All-tail P x (y ∷ ys) all))

plain-array : (items : List (List ℕ)) → ArePlain (join_with_byte 44 items) → ArePlain (array_json items)
plain-array items plain = plain-append (join_with_byte 44 items) (93 ∷ []) plain refl

plain-word : (d : Direction) → ArePlain (word_json (dir_word d))
plain-word Forward = refl
plain-word Backward = refl

plain-four : (a b c d : List ℕ) → ArePlain a → ArePlain b → ArePlain c → ArePlain d → ArePlain (array_json (a ∷ b ∷ c ∷ d ∷ []))
plain-four a b c d plain_a plain_b plain_c plain_d =
    plain-array (a ∷ b ∷ c ∷ d ∷ [])
    (plain-append a (44 ∷ (b ++ 44 ∷ (c ++ 44 ∷ d))) plain_a
    (plain-append b (44 ∷ (c ++ 44 ∷ d)) plain_b (plain-append c (44 ∷ d) plain_c plain_d)))

plain-members : (a b c : List ℕ) → ArePlain a → ArePlain b → ArePlain c
    → ArePlain (codes "{\"claims\":" ++ a ++ codes ",\"order\":" ++ b ++ codes ",\"peak\":" ++ c ++ codes "}")
plain-members a b c plain_a plain_b plain_c = simp (list_all-append, plain_a, plain_b, plain_c)

module _ (number_token : (n : ℕ) → n < 2 ^ 64 → IsTrue (is_token (decimal n)))
    (signed_token : (z : ℤ) → FitsSigned w64 z → IsTrue (is_token (signed_decimal z))) where
  plain-number : (n : ℕ) → n < 2 ^ 64 → ArePlain (decimal n)
  plain-number n fits = (and_parts _ _ (number_token n fits)).1

  plain-claim : (c : Claim) → IsClaimWithin c → ArePlain (claim_json c)
  plain-claim c within =
      let position = within.position in
      let rest = within.rest in
      let bound : ArePlain (signed_decimal c.bound) = (and_parts _ _ (signed_token c.bound (bound-fits c.bound within.bound))).1 in
      plain-four (decimal c.position) (word_json (dir_word c.dir)) (signed_decimal c.bound) (decimal c.rest)
      (plain-number c.position (omega arith)) (plain-word c.dir) bound (plain-number c.rest (omega arith))

  pub json-token : (plan : PlanValue) → IsPlan plan → is_token (json_of plan) ≡ true
  json-token plan is =
      let peak = is.peak in
      let claims = plain-array (map claim_json plan.claims) (plain-joined IsClaimWithin claim_json plain-claim plan.claims is.claims) in
      let order = plain-array (map decimal plan.order)
      (plain-joined (λ (v : ℕ). v ≤ most_number) decimal (λ v small. plain-number v (omega arith)) plan.order is.tasks) in
      plain-members (array_json (map claim_json plan.claims)) (array_json (map decimal plan.order)) (decimal plan.peak) claims order
      (plain-number plan.peak (omega arith))
