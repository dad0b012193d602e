-- The text of a plan as JSON (RFC 8259), without blanks: one object with the members claims, order and peak. A priority is no member.
use Rattle.std.specs.Prelude.{ℕ, List, [], ◌∷◌, ◌++◌, map, codes}
use Rattle.std.specs.List.{join_with_byte}
use Rattle.std.specs.Fmt.{decimal, signed_decimal}
use Rattle.plans.specs.Plan.{PlanValue}
use Rattle.plan_files.specs.Printed.{dir_word}
use Rattle.plans.specs.declared.claim.Claim.{Claim}

-- an array of values of these texts, with a comma between two of them
abbrev pub array_json : List (List ℕ) → List ℕ
array_json items = codes "[" ++ join_with_byte 44 items ++ codes "]"

-- a string of characters that need no escape
abbrev pub word_json : List ℕ → List ℕ
word_json word = codes "\"" ++ word ++ codes "\""

-- `[position,"F" or "R",bound,rest]`
abbrev pub claim_json : Claim → List ℕ
claim_json c = array_json (decimal c.position ∷ word_json (dir_word c.dir) ∷ signed_decimal c.bound ∷ decimal c.rest ∷ [])

abbrev pub json_of : PlanValue → List ℕ
json_of plan =
    codes "{\"claims\":" ++ array_json (map claim_json plan.claims)
    ++ codes ",\"order\":" ++ array_json (map decimal plan.order)
    ++ codes ",\"peak\":" ++ decimal plan.peak
    ++ codes "}"
