-- What a plan with a bound sends to a writer of JSON, and that its text is the plan's JSON, which is one token.
use Rattle.std.proofs.Common.{◌≡◌, ℕ, suc, ◌^◌, ◌<◌, ◌≤◌, true, false, inl, List, [], ◌∷◌, ◌++◌, length}
use Rattle.std.proofs.Common.{map, refl, sym, ap, ap₂, subst, ◌∙◌, arith, ℤ, Some, append_assoc}
use Rattle.std.specs.Bool.{IsTrue}
use Rattle.std.specs.Fmt.{decimal, signed_decimal}
use Rattle.std.specs.Int.{w64}
use Rattle.std.specs.List.{All, join_with_byte, list_all}
use Rattle.std.specs.Prelude.{FitsSigned, codes}
use Rattle.std.proofs.lemmas.Bool.{and_from, and_parts}
use Rattle.std.proofs.lemmas.List.Elements.{All-nil, All-head, All-tail}
use Rattle.std.proofs.lemmas.List.Folds.{list_all-append}
use Rattle.serde.specs.Event.{Log, Logs, WritesEach, WritesSeq, seq_begins, seq_ends}
use Rattle.serde_json.specs.Data.{Data, array, object, number, unsigned, negative, string, member, no_members}
use Rattle.serde_json.specs.Events.{items_len, SendsValue, SendsItems}
use Rattle.serde_json.specs.View.{items_of}
use Rattle.serde_json.specs.Sent.{IsTextOf}
use Rattle.serde_json.specs.Written.{compact_text, items_text, has_float, items_have_float}
use Rattle.serde_json.proofs.FreeTexts.{text_of_value}
use Rattle.serde_json.proofs.OnLiterals.{serde_json_on_literals}
use Rattle.mp_text.specs.Report.{is_plain, is_token}
use Rattle.plans.specs.Plan.{PlanValue, most_number, IsPlan}
use Rattle.plans.specs.declared.claim.Claim.{Claim}
use Rattle.plans.specs.declared.claim.Direction.{Direction}
use Rattle.plans.specs.declared.claim.Direction.TheVariants.{Forward, Backward}
use Rattle.plan_files.specs.Printed.{dir_word}
use Rattle.plan_files.specs.Json.{array_json, word_json, claim_json, json_of}
use Rattle.plan_files.specs.JsonValues.{claim_value, task_value}
use Rattle.plan_files.proofs.JsonLemmas.{json-token}
use Rattle.plan_files.proofs.PrintedLemmas.{bound-fits}
use Rattle.peak_bounds.specs.declared.step.Event.{Event}
use Rattle.peak_bounds.specs.declared.step.Event.TheVariants.{First, Last}
use Rattle.peak_bounds.specs.declared.evidence.Amount.{Amount}
use Rattle.peak_bounds.specs.declared.evidence.Evidence.TheVariants.{Start, Need, Set}
use Rattle.peak_bounds.specs.EventSets.{BlockerValue}
use Rattle.peak_bounds.specs.Evidence.{IsAmount}
use Rattle.bounded_plans.specs.BoundedPlan.{BoundedPlanValue, IsBlockerWithin, IsWithin, IsBoundedPlan}
use Rattle.bounded_plans.specs.declared.evidence.BoundEvidence.{BoundEvidence}
use Rattle.bounded_plans.specs.declared.evidence.BoundEvidence.TheVariants.{Sums, Claims, States}
use Rattle.bounded_plan_files.specs.Printed.{event_word}
use Rattle.bounded_plan_files.specs.Json.{amount_json, amounts_json, blocker_json, evidence_word, told_json, evidence_json, bounded_json_of}
use Rattle.bounded_plan_files.specs.JsonValues.{amount_value, amounts_value, blocker_value, blockers_value, told_value}
use Rattle.bounded_plan_files.specs.JsonValues.{evidence_value, bounded_plan_value}

-- ---- what is sent

-- a list of which each element sends its value is sent as an array
module _ {X : Type 0} (value : X → Data) where
  items-sent : (xs : List X) (old mid new : Log) → WritesEach (λ x. SendsValue (value x)) xs old mid → Logs mid new seq_ends
      → SendsItems (items_of (map value xs)) old new
  items-sent [] old mid new same ended = subst (λ (log : Log). Logs log new seq_ends) same ended
  items-sent (x ∷ xs) old mid new each ended = (each.0, each.1, items-sent xs each.0 mid new each.2 ended)

  items-len : (xs : List X) → length xs ≡ items_len (items_of (map value xs))
  items-len [] = refl
  items-len (x ∷ xs) = ap suc (items-len xs)

  list-sent : (xs : List X) (old new : Log) → WritesSeq (λ x. SendsValue (value x)) xs old new
      → SendsValue (array (items_of (map value xs))) old new
  list-sent xs old new seq =
      (seq.0, subst (λ (n : ℕ). Logs old seq.0 (seq_begins (Some n))) (items-len xs) seq.2, items-sent xs seq.0 seq.1 new seq.3 seq.4)

pub amounts-sent : (amounts : List Amount) (old new : Log) → WritesSeq (λ told. SendsValue (amount_value told)) amounts old new
    → SendsValue (amounts_value amounts) old new
amounts-sent = list-sent amount_value

pub blockers-sent : (blockers : List BlockerValue) (old new : Log)
    → WritesSeq (λ blocker. SendsValue (blocker_value blocker)) blockers old new
    → SendsValue (blockers_value blockers) old new
blockers-sent = list-sent blocker_value

-- ---- the text

module _ {X : Type 0} (value : X → Data) (text : X → List ℕ) (same : (x : X) → compact_text (value x) ≡ text x) where
  items-text : (x : X) (xs : List X)
      → items_text false (items_of (map value (x ∷ xs))) ≡ join_with_byte 44 (map text (x ∷ xs)) ++ 93 ∷ []
  items-text x [] = ap (λ (bytes : List ℕ). bytes ++ 93 ∷ []) (same x)
  items-text x (y ∷ ys) =
      ap₂ (λ (one two : List ℕ). one ++ 44 ∷ two) (same x) (items-text y ys)
      ∙ sym (append_assoc (text x) (44 ∷ join_with_byte 44 (map text (y ∷ ys))) (93 ∷ []))

  array-text : (xs : List X) → compact_text (array (items_of (map value xs))) ≡ array_json (map text xs)
  array-text [] = refl
  array-text (x ∷ xs) = ap (λ (bytes : List ℕ). 91 ∷ bytes) (items-text x xs)

-- an array of values, by their texts
values-text : (ds : List Data) → compact_text (array (items_of (map (λ (d : Data). d) ds))) ≡ array_json (map compact_text ds)
values-text = array-text (λ (d : Data). d) compact_text (λ d. refl)

amounts-text : (amounts : List Amount) → compact_text (amounts_value amounts) ≡ amounts_json amounts
amounts-text = array-text amount_value amount_json (λ a. values-text (number (unsigned a.place) ∷ number (negative a.amount) ∷ []))

blocker-text : (blocker : BlockerValue) → compact_text (blocker_value blocker) ≡ blocker_json blocker
blocker-text blocker =
    values-text (number (unsigned blocker.task) ∷ amounts_value blocker.amounts ∷ [])
    ∙ ap (λ (amounts : List ℕ). array_json (decimal blocker.task ∷ amounts ∷ [])) (amounts-text blocker.amounts)

dir-text : (d : Direction) → compact_text (string (dir_word d)) ≡ word_json (dir_word d)
unfolding serde_json_on_literals
dir-text Forward = refl
dir-text Backward = refl

claim-text : (c : Claim) → compact_text (claim_value c) ≡ claim_json c
claim-text c =
    values-text (number (unsigned c.position) ∷ string (dir_word c.dir) ∷ number (negative c.bound) ∷ number (unsigned c.rest) ∷ [])
    ∙ ap (λ (word : List ℕ). array_json (decimal c.position ∷ word ∷ signed_decimal c.bound ∷ decimal c.rest ∷ [])) (dir-text c.dir)

-- an object of two members, by the texts of their keys and values
set-members : (base blockers : Data) (a b : List ℕ) → compact_text base ≡ a → compact_text blockers ≡ b
    → compact_text (object (member (codes "base") base (member (codes "blockers") blockers no_members)))
    ≡ codes "{\"base\":" ++ a ++ codes ",\"blockers\":" ++ b ++ codes "}"
unfolding serde_json_on_literals
set-members base blockers a b is_a is_b = rw (is_a, is_b) (simp append_assoc)

told-text : (evidence : BoundEvidence) → compact_text (told_value evidence) ≡ told_json evidence
told-text (Sums Start) = refl
told-text (Sums (Need task)) = refl
told-text (Sums (Set set)) =
    set-members (amounts_value set.base) (blockers_value set.blockers) (amounts_json set.base) (array_json (map blocker_json set.blockers))
    (amounts-text set.base) (array-text blocker_value blocker_json blocker-text set.blockers)
told-text (Claims claims) = array-text claim_value claim_json claim-text claims
told-text (States most) = refl

event-text : (event : Event) → compact_text (string (event_word event)) ≡ word_json (event_word event)
unfolding serde_json_on_literals
event-text First = refl
event-text Last = refl

need-text : compact_text (string (codes "need")) ≡ word_json (codes "need")
unfolding serde_json_on_literals
need-text = refl

claims-text : compact_text (string (codes "claims")) ≡ word_json (codes "claims")
unfolding serde_json_on_literals
claims-text = refl

states-text : compact_text (string (codes "states")) ≡ word_json (codes "states")
unfolding serde_json_on_literals
states-text = refl

word-text : (evidence : BoundEvidence) → compact_text (string (evidence_word evidence)) ≡ word_json (evidence_word evidence)
word-text (Sums Start) = need-text
word-text (Sums (Need task)) = need-text
word-text (Sums (Set set)) = event-text set.event
word-text (Claims claims) = claims-text
word-text (States most) = states-text

-- an object of one member
evidence-member : (word : List ℕ) (told : Data) (a b : List ℕ) → compact_text (string word) ≡ a → compact_text told ≡ b
    → compact_text (object (member word told no_members)) ≡ codes "{" ++ a ++ codes ":" ++ b ++ codes "}"
evidence-member word told a b is_a is_b =
    ap₂ (λ (key value : List ℕ). 123 ∷ (key ++ 58 ∷ (value ++ 125 ∷ []))) is_a is_b ∙ simp append_assoc

evidence-text : (evidence : BoundEvidence) → compact_text (evidence_value evidence) ≡ evidence_json evidence
evidence-text evidence =
    evidence-member (evidence_word evidence) (told_value evidence) (word_json (evidence_word evidence)) (told_json evidence)
    (word-text evidence) (told-text evidence)

-- an object of four members
plan-members : (bound evidence order peak : Data) (a b c d : List ℕ) → compact_text bound ≡ a → compact_text evidence ≡ b
    → compact_text order ≡ c → compact_text peak ≡ d
    → compact_text (object (
    member (codes "bound") bound (member (codes "evidence") evidence (member (codes "order") order (member (codes "peak") peak no_members)))))
    ≡ codes "{\"bound\":" ++ a ++ codes ",\"evidence\":" ++ b ++ codes ",\"order\":" ++ c ++ codes ",\"peak\":" ++ d ++ codes "}"
unfolding serde_json_on_literals
plan-members bound evidence order peak a b c d is_a is_b is_c is_d = rw (is_a, is_b, is_c, is_d) (simp append_assoc)

plan-text : (plan : BoundedPlanValue) → compact_text (bounded_plan_value plan) ≡ bounded_json_of plan
plan-text plan =
    plan-members (number (unsigned plan.bound)) (evidence_value plan.evidence) (array (items_of (map task_value plan.order)))
    (number (unsigned plan.peak)) (decimal plan.bound) (evidence_json plan.evidence) (array_json (map decimal plan.order)) (decimal plan.peak)
    refl (evidence-text plan.evidence) (array-text task_value decimal (λ task. refl) plan.order) refl

-- no part of it is a float

amounts-whole : (amounts : List Amount) → items_have_float (items_of (map amount_value amounts)) ≡ false
amounts-whole [] = refl
amounts-whole (a ∷ amounts) = amounts-whole amounts

blockers-whole : (blockers : List BlockerValue) → items_have_float (items_of (map blocker_value blockers)) ≡ false
blockers-whole [] = refl
blockers-whole (b ∷ blockers) = rw (amounts-whole b.amounts) (blockers-whole blockers)

claims-whole : (claims : List Claim) → items_have_float (items_of (map claim_value claims)) ≡ false
claims-whole [] = refl
claims-whole (c ∷ claims) = claims-whole claims

order-whole : (order : List ℕ) → items_have_float (items_of (map task_value order)) ≡ false
order-whole [] = refl
order-whole (task ∷ order) = order-whole order

told-whole : (evidence : BoundEvidence) → has_float (told_value evidence) ≡ false
told-whole (Sums Start) = refl
told-whole (Sums (Need task)) = refl
told-whole (Sums (Set set)) = rw (amounts-whole set.base, blockers-whole set.blockers) refl
told-whole (Claims claims) = claims-whole claims
told-whole (States most) = refl

plan-whole : (plan : BoundedPlanValue) → has_float (bounded_plan_value plan) ≡ false
plan-whole plan = rw (told-whole plan.evidence, order-whole plan.order) refl

-- what is written of a plan that was sent
pub sent-text : (plan : BoundedPlanValue) (log : Log) (text : List ℕ) → SendsValue (bounded_plan_value plan) (Some []) log
    → IsTextOf log text → text ≡ bounded_json_of plan
sent-text plan log text sent is = text_of_value (bounded_plan_value plan) log text sent is (plan-whole plan) ∙ plan-text plan

-- ---- one token

-- no byte parts tokens or lines
abbrev ArePlain : List ℕ → Type 0
ArePlain bytes = list_all is_plain bytes ≡ true

plain-append : (xs ys : List ℕ) → ArePlain xs → ArePlain ys → ArePlain (xs ++ ys)
plain-append xs ys one two = list_all-append is_plain xs ys ∙ and_from _ _ one two

-- and both parts of plain bytes are such
plain-both : (xs ys : List ℕ) → ArePlain (xs ++ ys) → ArePlain xs × ArePlain ys
plain-both xs ys plain = and_parts _ _ (sym (list_all-append is_plain xs ys) ∙ plain)

plain-joined : {X : Type 0} (P : X → Type 0) (text : X → List ℕ) → ((x : X) → P x → ArePlain (text x)) → (xs : List X) → All P xs
    → ArePlain (join_with_byte 44 (map text xs))
plain-joined P text plain [] all = refl
plain-joined P text plain (x ∷ []) all = plain x (All-head P x [] all)
plain-joined P text plain (x ∷ y ∷ ys) all =
    plain-append (text x) (44 ∷ join_with_byte 44 (map text (y ∷ ys))) (plain x (All-head P x (y ∷ ys) all))
    (plain-joined P text plain (y ∷ ys) (All-tail P x (y ∷ ys) all))

plain-list : {X : Type 0} (P : X → Type 0) (text : X → List ℕ) → ((x : X) → P x → ArePlain (text x)) → (xs : List X) → All P xs
    → ArePlain (array_json (map text xs))
plain-list P text plain xs all = plain-append (join_with_byte 44 (map text xs)) (93 ∷ []) (plain-joined P text plain xs all) refl

plain-two : (a b : List ℕ) → ArePlain a → ArePlain b → ArePlain (array_json (a ∷ b ∷ []))
plain-two a b plain_a plain_b = plain-append (a ++ 44 ∷ b) (93 ∷ []) (plain-append a (44 ∷ b) plain_a plain_b) refl

plain-word : (evidence : BoundEvidence) → ArePlain (word_json (evidence_word evidence))
plain-word (Sums Start) = refl
plain-word (Sums (Need task)) = refl
plain-word (Sums (Set set)) = go set.event where
  go : (event : Event) → ArePlain (word_json (event_word event))
  go First = refl
  go Last = refl
plain-word (Claims claims) = refl
plain-word (States most) = refl

plain-set : (a b : List ℕ) → ArePlain a → ArePlain b → ArePlain (codes "{\"base\":" ++ a ++ codes ",\"blockers\":" ++ b ++ codes "}")
plain-set a b plain_a plain_b = simp (list_all-append, plain_a, plain_b)

plain-evidence : (a b : List ℕ) → ArePlain a → ArePlain b → ArePlain (codes "{" ++ a ++ codes ":" ++ b ++ codes "}")
plain-evidence a b plain_a plain_b = simp (list_all-append, plain_a, plain_b)

plain-members : (a b c d : List ℕ) → ArePlain a → ArePlain b → ArePlain c → ArePlain d
    → ArePlain
    (codes "{\"bound\":" ++ a ++ codes ",\"evidence\":" ++ b ++ codes ",\"order\":" ++ c ++ codes ",\"peak\":" ++ d ++ codes "}")
plain-members a b c d plain_a plain_b plain_c plain_d = simp (list_all-append, plain_a, plain_b, plain_c, plain_d)

module _ (number_token : (n : ℕ) → n < 2 ^ 64 → IsTrue (is_token (decimal n)))
    (signed_token : (z : ℤ) → FitsSigned w64 z → IsTrue (is_token (signed_decimal z))) where
  plain-number : (n : ℕ) → n < 2 ^ 64 → ArePlain (decimal n)
  plain-number n fits = (and_parts _ _ (number_token n fits)).1

  -- the JSON of a plan's claims and of its order, since that of the plan is one token
  plain-parts : (plan : PlanValue) → IsPlan plan
      → ArePlain (array_json (map claim_json plan.claims)) × ArePlain (array_json (map decimal plan.order))
  plain-parts plan is =
      let claims : List ℕ = codes "{\"claims\":" ++ array_json (map claim_json plan.claims) in
      let order : List ℕ = array_json (map decimal plan.order) in
      let key : List ℕ = codes ",\"order\":" in
      let peak : List ℕ = codes ",\"peak\":" in
      let all : ArePlain (json_of plan) = json-token number_token signed_token plan is in
      let before_end = (plain-both (claims ++ key ++ order ++ peak ++ decimal plan.peak) (codes "}") all).0 in
      let before_peak = (plain-both (claims ++ key ++ order ++ peak) (decimal plan.peak) before_end).0 in
      let ordered = (plain-both (claims ++ key ++ order) peak before_peak).0 in
      let parts = plain-both (claims ++ key) order ordered in
      let claimed = (plain-both claims key parts.0).0 in
      ((plain-both (codes "{\"claims\":") (array_json (map claim_json plan.claims)) claimed).1, parts.1)

  plain-amount : (a : Amount) → IsAmount most_number a → ArePlain (amount_json a)
  plain-amount a is =
      let within = is.within in
      plain-two (decimal a.place) (signed_decimal a.amount) (plain-number a.place (omega arith))
      (and_parts _ _ (signed_token a.amount (bound-fits a.amount is.amount))).1

  plain-amounts : (amounts : List Amount) → All (IsAmount most_number) amounts → ArePlain (amounts_json amounts)
  plain-amounts = plain-list (IsAmount most_number) amount_json plain-amount

  plain-blocker : (blocker : BlockerValue) → IsBlockerWithin blocker → ArePlain (blocker_json blocker)
  plain-blocker blocker is =
      let task = is.task in
      plain-two (decimal blocker.task) (amounts_json blocker.amounts) (plain-number blocker.task (omega arith))
      (plain-amounts blocker.amounts is.amounts.each)

  plain-told : (evidence : BoundEvidence) → IsWithin evidence → ArePlain (told_json evidence)
  plain-told (Sums Start) is = plain-number 0 (omega arith)
  plain-told (Sums (Need task)) is = plain-number task (omega arith)
  plain-told (Sums (Set set)) is =
      plain-set (amounts_json set.base) (array_json (map blocker_json set.blockers)) (plain-amounts set.base is.base.each)
      (plain-list IsBlockerWithin blocker_json plain-blocker set.blockers is.blockers)
  plain-told (Claims claims) is =
      let plan : PlanValue = record { order = []; peak = 0; claims = claims; priority = [] } in
      (plain-parts plan (record {
        few_tasks = omega arith;
        tasks = All-nil _;
        peak = omega arith;
        few_claims = is.few;
        claims = is.each;
        rising = is.rising;
        priority = inl refl;
      })).0
  plain-told (States most) is =
      let few : most ≤ most_number = is in
      plain-number most (omega arith)

  plain-order : (plan : BoundedPlanValue) → IsBoundedPlan plan → ArePlain (array_json (map decimal plan.order))
  plain-order plan is =
      let ordered : PlanValue = record { order = plan.order; peak = 0; claims = []; priority = [] } in
      (plain-parts ordered (record {
        few_tasks = is.few_tasks;
        tasks = is.tasks;
        peak = omega arith;
        few_claims = omega arith;
        claims = All-nil _;
        rising = tt;
        priority = inl refl;
      })).1

  pub bounded_json-token : (plan : BoundedPlanValue) → IsBoundedPlan plan → is_token (bounded_json_of plan) ≡ true
  bounded_json-token plan is =
      let peak = is.peak in
      let bound = is.bound in
      plain-members (decimal plan.bound) (evidence_json plan.evidence) (array_json (map decimal plan.order)) (decimal plan.peak)
      (plain-number plan.bound (omega arith))
      (plain-evidence (word_json (evidence_word plan.evidence)) (told_json plan.evidence) (plain-word plan.evidence)
      (plain-told plan.evidence is.evidence))
      (plain-order plan is) (plain-number plan.peak (omega arith))
