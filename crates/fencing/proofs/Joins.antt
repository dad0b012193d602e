-- The places of the items with several readers, and who waits.
use Rattle.std.proofs.Common.{◌≡◌, ℕ, ◌+◌, ◌<◌, ◌≤◌, Bool, true, false, cond, None, List, [], ◌∷◌, ◌++◌, append_assoc, append-nil, length, take, refl, sym, ap, ◌∙◌, arith}
use Rattle.std.proofs.lemmas.List.{length-take-le, take_more}
use Rattle.shared_systems.specs.Shared.{SharedItem, shared_item_at}
use Rattle.shared_systems.specs.Collected.{are_several, is_shared}
use Rattle.fences.specs.Certificates.{join_places_from}

-- one more item

pub one_more : (place : ℕ) (xs : List SharedItem) (x : SharedItem)
    → join_places_from place (xs ++ x ∷ []) ≡ join_places_from place xs ++ cond (is_shared x) ((place + length xs) ∷ []) []
one_more place [] x =
    append-nil (cond (is_shared x) (place ∷ []) []) ∙ ap (λ (n : ℕ). cond (is_shared x) (n ∷ []) []) (omega arith)
one_more place (y ∷ xs) x =
    ap (λ (l : List ℕ). cond (is_shared y) (place ∷ []) [] ++ l)
    (one_more (place + 1) xs x ∙ ap (λ (n : ℕ). join_places_from (place + 1) xs ++ cond (is_shared x) (n ∷ []) []) (omega arith))
    ∙ sym (append_assoc (cond (is_shared y) (place ∷ []) []) (join_places_from (place + 1) xs) (cond (is_shared x) ((place + length (y ∷ xs)) ∷ []) []))

-- several are more than one
pub are_more : (readers : List ℕ) → 1 < length readers → are_several readers ≡ true
are_more [] more = absurd (omega (arith, more))
are_more (c ∷ []) more = absurd (omega (arith, more))
are_more (c ∷ d ∷ cs) more = refl

pub are_few : (readers : List ℕ) → length readers ≤ 1 → are_several readers ≡ false
are_few [] few = refl
are_few (c ∷ []) few = refl
are_few (c ∷ d ∷ cs) few = absurd (omega (arith, few))

-- the places up to one more item of a list
pub places_next : (items : List SharedItem) (i : ℕ) (several : Bool) → i < length items → is_shared (shared_item_at items i) ≡ several
    → join_places_from 1 (take (i + 1) items) ≡ join_places_from 1 (take i items) ++ cond several ((i + 1) ∷ []) []
places_next items i several lt is =
    ap (join_places_from 1) (take_more items i (record { size = 0; from = None; readers = [] }) lt)
    ∙ one_more 1 (take i items) (shared_item_at items i)
    ∙ ap (λ (b : Bool). join_places_from 1 (take i items) ++ cond b ((1 + length (take i items)) ∷ []) []) is
    ∙ ap (λ (n : ℕ). join_places_from 1 (take i items) ++ cond several (n ∷ []) []) (omega (arith, length-take-le i items (omega arith)))
