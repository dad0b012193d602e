-- Reports that grow, cut off at some length.
use Rattle.std.proofs.Common.{◌≡◌, ℕ, List, [], ◌∷◌, ◌++◌, length, take, refl, subst}

-- what begins with a text begins with each text that this one begins with
begins : (a b z : List ℕ) → take (length (a ++ b)) z ≡ a ++ b → take (length a) z ≡ a
begins [] b z e = refl
begins (x ∷ a) b [] e = absurd cc
begins (x ∷ a) b (y ∷ z) e =
    let head : y ≡ x = cc in
    let tail : take (length (a ++ b)) z ≡ a ++ b = cc in
    let rest : take (length a) z ≡ a = begins a b z tail in
    cc

-- the same, where the longer text has a name
pub kept : (old more text new : List ℕ) → text ≡ old ++ more → take (length text) new ≡ text → take (length old) new ≡ old
kept old more text new is same = begins old more new (subst (λ (bytes : List ℕ). take (length bytes) new ≡ bytes) is same)
