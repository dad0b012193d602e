-- Claims past the last position.
use Rattle.std.proofs.Common.{◌≡◌, ◌==◌, refl, sym, ap, ◌∙◌, subst, ℕ, ◌≤◌, ◌+◌, ◌<◌, true, false}
use Rattle.std.proofs.Common.{◌&&◌, nat_le, List, [], ◌∷◌, length, Option, Some, None, arith}
use Rattle.std.specs.Prelude.{is_some, nat_lt, option_map}
use Rattle.std.specs.List.{list_any, find}
use Rattle.sp_terms.specs.declared.position.Position.{Position}
use Rattle.claim_rules.specs.Claims.{Claim as RuleClaim}
use Rattle.plans.specs.declared.claim.Claim.{Claim}
use Rattle.plans.specs.Plan.{claim_of, claim_at, RiseFrom}
use Rattle.claim_check.specs.Claimed.{Claimed}
use Rattle.claim_check.specs.Judged.{PassesAt}
use Rattle.claim_check.specs.Lowest.{IsLowestFrom}
use Rattle.claim_check.proofs.Table.{some_claim, bool_cases, none_before}
use Rattle.lists.proofs.Options.{some_none}

within : (k n : ℕ) → 1 ≤ k → k ≤ n → (nat_le 1 k && nat_le k n) ≡ true
within k n low high = grind arith

pub claimed : (ps : List Position) (cs : List Claim) (k : ℕ) → (nat_le 1 k && nat_le k (length ps)) ≡ false
    → list_any (λ (c : Claim). c.position == k) cs ≡ true → PassesAt ps (claim_at cs) k → ⊥
claimed ps cs k out some pass = go (claim_at cs k) refl (sym (some_claim cs k) ∙ some)
  where
    go : (o : Option RuleClaim) → claim_at cs k ≡ o → is_some o ≡ true → ⊥
    go None e s = cc
    go (Some c) e s = let p = pass c e in let w = within k (length ps) p.0 p.1 in cc (w, out)

pub unclaimed : (ps : List Position) (cs : List Claim) (k : ℕ)
    → list_any (λ (c : Claim). c.position == k) cs ≡ false → PassesAt ps (claim_at cs) k
unclaimed ps cs k none c e = absurd (apart (sym none ∙ some_claim cs k ∙ ap is_some e))
  where
    apart : false ≡ true → ⊥
    apart e = cc

-- ---- the first claim past a position

pub passes_without : (ps : List Position) (cs : List Claim) (k : ℕ) → claim_at cs k ≡ None → PassesAt ps (claim_at cs) k
passes_without ps cs k none c e = absurd (some_none (sym e ∙ none))

-- what stands past `last`: nothing, or a claim first
abbrev IsPast : List Claim → ℕ → Option Claim → Type 0
IsPast cs last None = (k : ℕ) → last < k → claim_at cs k ≡ None
IsPast cs last (Some c) =
    (last < c.position) × (claim_at cs c.position ≡ Some (claim_of c)) × ((k : ℕ) → last < k → k < c.position → claim_at cs k ≡ None)

is_past : (n : ℕ) (cs : List Claim) (last : ℕ) → RiseFrom n cs → IsPast cs last (find (λ (c : Claim). nat_lt last c.position) cs)
is_past n [] last rise = λ k lt. refl
is_past n (c ∷ cs) last rise =
    bool_cases (nat_lt last c.position)
    (λ e. let lt : last < c.position = grind arith in
    rw e (lt, found c cs, λ k low high. none_before (k) (c ∷ cs) k (high, rise.1) (omega arith)))
    (λ e. let le : c.position ≤ last = grind arith in
    rw e (skipped c cs last le (find (λ (c : Claim). nat_lt last c.position) cs) (is_past c.position cs last rise.1)))
  where
    found : (c : Claim) (cs : List Claim) → claim_at (c ∷ cs) c.position ≡ Some (claim_of c)
    found c cs = let b : (c.position == c.position) ≡ true = grind arith in rw b refl

    other : (c : Claim) (cs : List Claim) (k : ℕ) → c.position < k → claim_at (c ∷ cs) k ≡ claim_at cs k
    other c cs k lt = let b : (c.position == k) ≡ false = grind arith in rw b refl

    skipped : (c : Claim) (cs : List Claim) (last : ℕ) → c.position ≤ last → (o : Option Claim) → IsPast cs last o → IsPast (c ∷ cs) last o
    skipped c cs last le None past = λ k lt. other c cs k (omega arith) ∙ past k lt
    skipped c cs last le (Some d) past = (
      past.0,
      other c cs d.position (omega (arith, past.0)) ∙ past.1,
      λ k low high. other c cs k (omega arith) ∙ past.2 k low high,
    )

first_outside : (ps : List Position) (cs : List Claim) (last : ℕ) → RiseFrom 0 cs → last ≡ length ps → (r : Option ℕ)
    → r ≡ option_map (λ (c : Claim). c.position) (find (λ (c : Claim). nat_lt last c.position) cs)
    → IsLowestFrom ps (claim_at cs) (length ps + 1) r
first_outside ps cs last rise is r e =
    subst (IsLowestFrom ps (claim_at cs) (length ps + 1)) (sym e)
    (of_past ps cs (find (λ (c : Claim). nat_lt last c.position) cs)
    (subst (λ n. IsPast cs n (find (λ (c : Claim). nat_lt last c.position) cs)) is (is_past 0 cs last rise)))
  where
    of_past : (ps : List Position) (cs : List Claim) (o : Option Claim) → IsPast cs (length ps) o
        → IsLowestFrom ps (claim_at cs) (length ps + 1) (option_map (λ (c : Claim). c.position) o)
    of_past ps cs None past = λ k low. passes_without ps cs k (past k (omega arith))
    of_past ps cs (Some c) past = (
      omega (arith, past.0),
      (λ pass. let p = pass (claim_of c) past.1 in omega (arith, p.1, past.0)),
      λ k low high. passes_without ps cs k (past.2 k (omega arith) high),
    )

pub first_outside_of : (view : Claimed) (cs : List Claim) (last : ℕ) → view.claims ≡ cs
    → RiseFrom 0 view.claims → last ≡ length view.positions → (r : Option ℕ)
    → r ≡ option_map (λ (c : Claim). c.position) (find (λ (c : Claim). nat_lt last c.position) cs)
    → IsLowestFrom view.positions (claim_at view.claims) (length view.positions + 1) r
first_outside_of view cs last same rise is r e =
    first_outside view.positions view.claims last rise is r
    (e ∙ ap (λ l. option_map (λ (c : Claim). c.position) (find (λ (c : Claim). nat_lt last c.position) l)) (sym same))

pub passes_0 : (ps : List Position) (cs : List Claim) → RiseFrom 0 cs → PassesAt ps (claim_at cs) 0
passes_0 ps cs rise = passes_without ps cs 0 (none_before 0 cs 0 rise (omega arith))
