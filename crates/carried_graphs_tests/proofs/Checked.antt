-- Two orders of a small system tell which tasks come after which, where a test of all pairs passes.
use Rattle.std.proofs.Common.{◌≡◌, ℕ, Bool, true, false, not, ◌&&◌, ◌||◌, eqb, eq-eqb, List, [], ◌∷◌, ◌++◌}
use Rattle.std.proofs.Common.{refl, sym, ap, subst, ◌∙◌, inl, inr}
use Rattle.std.specs.List.{list_all}
use Rattle.std.proofs.lemmas.Bool.{and_parts, or_cases, or_left, or_right, eqb-true}
use Rattle.mp_system.specs.Memory.{stands_in}
use Rattle.shared_systems.specs.Shared.{SharedTaskSystem}
use Rattle.shared_systems.specs.SharedTraversal.{IsSharedTraversal}
use Rattle.shared_systems.specs.Paths.{reads_from, ComesAfter, reads, StandsBefore, IsRealizer}

-- whether v stands after u
abbrev pub stand_so : List ℕ → ℕ → ℕ → Bool
stand_so [] u v = false
stand_so (x ∷ xs) u v = (eqb x u && stands_in xs v) || stand_so xs u v

-- whether each two of the list pass, the earlier one first
abbrev pub pairs_pass : (ℕ → ℕ → Bool) → List ℕ → Bool
pairs_pass p [] = true
pairs_pass p (x ∷ xs) = list_all (p x) xs && pairs_pass p xs

stands_mid : (before rest : List ℕ) (v : ℕ) → stands_in (before ++ v ∷ rest) v ≡ true
stands_mid [] rest v = or_left (eqb v v) (stands_in rest v) (eq-eqb v v refl)
stands_mid (x ∷ before) rest v = or_right (eqb x v) (stands_in (before ++ v ∷ rest) v) (stands_mid before rest v)

stand : (before rest : List ℕ) (u v : ℕ) → stands_in before u ≡ true → stand_so (before ++ v ∷ rest) u v ≡ true
stand [] rest u v e = absurd cc
stand (x ∷ before) rest u v e =
    let whole = before ++ v ∷ rest in
    elim (or_cases (eqb x u) (stands_in before u) e) [
      | inl here ↦ or_left (eqb x u && stands_in whole v) (stand_so whole u v) (rw here (stands_mid before rest v))
      | inr later ↦ or_right (eqb x u && stands_in whole v) (stand_so whole u v) (stand before rest u v later)
    ]

all_mid : (p : ℕ → Bool) (before rest : List ℕ) (v : ℕ) → list_all p (before ++ v ∷ rest) ≡ true → p v ≡ true
all_mid p [] rest v e = (and_parts (p v) (list_all p rest) e).0
all_mid p (x ∷ before) rest v e = all_mid p before rest v (and_parts (p x) (list_all p (before ++ v ∷ rest)) e).1

pair : (p : ℕ → ℕ → Bool) (before rest : List ℕ) (u v : ℕ) → stands_in before u ≡ true
    → pairs_pass p (before ++ v ∷ rest) ≡ true → p u v ≡ true
pair p [] rest u v e pass = absurd cc
pair p (x ∷ before) rest u v e pass =
    let parts = and_parts (list_all (p x) (before ++ v ∷ rest)) (pairs_pass p (before ++ v ∷ rest)) pass in
    elim (or_cases (eqb x u) (stands_in before u) e) [
      | inl here ↦ subst (λ (w : ℕ). p w v ≡ true) (eqb-true x u here) (all_mid (p x) before rest v parts.0)
      | inr later ↦ pair p before rest u v later parts.1
    ]

-- whether two that stand so in the first order stand otherwise in the second, or one reads what the other makes
abbrev pub are_told : SharedTaskSystem → List ℕ → List ℕ → Bool
are_told system first second = pairs_pass (λ u v. not (stand_so second u v) || reads_from system u v) first

told : (system : SharedTaskSystem) (first second : List ℕ) → are_told system first second ≡ true
    → (u v : ℕ) → StandsBefore first u v → StandsBefore second u v → ComesAfter system u v
told system first second pass u v one two =
    let first_pass : are_told system (one.before ++ v ∷ one.rest) second ≡ true =
    subst (λ (l : List ℕ). are_told system l second ≡ true) one.split pass in
    let so : stand_so second u v ≡ true =
    ap (λ (l : List ℕ). stand_so l u v) two.split ∙ stand two.before two.rest u v two.stands in
    let either =
    pair (λ a b. not (stand_so second a b) || reads_from system a b) one.before one.rest u v one.stands first_pass in
    reads (let e : reads_from system u v ≡ true = rw so at either in e)

pub realizer : (system made : SharedTaskSystem) (first second : List ℕ) → made ≡ system → IsSharedTraversal system first
    → IsSharedTraversal system second → are_told system first second ≡ true → IsRealizer made first second
realizer system made first second same one two pass =
    subst (λ (s : SharedTaskSystem). IsRealizer s first second) (sym same)
    (record { first_traversal = one; second_traversal = two; both = told system first second pass })
