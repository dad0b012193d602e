-- A claim meets its rule, or it does not.
use Rattle.std.proofs.Common.{◌≡◌, refl, sym, ◌∙◌, subst, ℕ, zero, suc, ◌-◌, ◌<◌, ◌≤◌, ℤ, pos, ◌≤ℤ◌, ◌<ℤ◌, ◌-ℤ◌}
use Rattle.std.proofs.Common.{List, [], ◌∷◌, length, map, Option, Some, None, arith, ⊎_elim, ◌⊎◌, inl, inr}
use Rattle.std.proofs.lemmas.Bool.{cases_lt}
use Rattle.std.proofs.lemmas.Int.{by_lt_z, ints}
use Rattle.mp_system.specs.declared.system.Task.{Task}
use Rattle.sp_terms.specs.declared.position.Position.{Position}
use Rattle.sp_terms.specs.Term.{Term, hold, series, par, Direction, forward, backward, least_of, hill_of}
use Rattle.sp_terms.specs.Places.{list_of_parts, term_of_position, part_positions}
use Rattle.sp_term_laws.specs.Moves.{other}
use Rattle.claim_rules.specs.Claims.{Claim}
use Rattle.claim_rules.specs.Placed.{MeetsAt}
use Rattle.claim_rules.specs.Rules.{Has, MeetsSeries, first_is_stuck, first_is_closed, hill_is_above, last_is_stuck, passed_first}
use Rattle.claim_rules.specs.Rules.{passed_last, value_in, values_in, HasRoom, HaveRoom, SomeClaim, MeetsPar, MeetsRule}
use Rattle.claim_check.specs.Judged.{PassesAt}
use Rattle.lists.proofs.Options.{none_some, some_same}

-- the one or the other
abbrev pub Decided : Type 0 → Type 0
Decided P = P ⊎ (P → ⊥)

pub both : {P Q : Type 0} → Decided P → Decided Q → Decided (P × Q)
both (inl p) (inl q) = inl (p, q)
both (inl p) (inr fails) = inr (λ h. fails h.1)
both (inr fails) q = inr (λ h. fails h.0)

at_most : (m n : ℕ) → Decided (m ≤ n)
at_most m n = ⊎_elim (λ lt. inr (λ le. omega arith)) (λ le. inl le) (cases_lt n m)

at_most_z : (a b : ℤ) → Decided (a ≤ℤ b)
at_most_z a b = by_lt_z b a (λ lt. inr (λ le. omega (arith, ints))) (λ le. inl le)

below_z : (a b : ℤ) → Decided (a <ℤ b)
below_z a b = by_lt_z a b (λ lt. inl lt) (λ le. inr (λ lt. omega (arith, ints)))

same_z : (a b : ℤ) → Decided (a ≡ b)
same_z a b = by_lt_z a b (λ lt. inr (λ e. omega (arith, ints)))
    (λ le. by_lt_z b a (λ lt. inr (λ e. omega (arith, ints))) (λ ge. inl (omega (arith, ints))))

same_direction : (d e : Direction) → Decided (d ≡ e)
same_direction forward forward = inl refl
same_direction forward backward = inr (λ e. cc)
same_direction backward forward = inr (λ e. cc)
same_direction backward backward = inl refl

either : {P Q : Type 0} → Decided P → Decided Q → Decided (P ⊎ Q)
either (inl p) q = inl (inl p)
either (inr fails) (inl q) = inl (inr q)
either (inr fails) (inr fails') = inr (λ h. ⊎_elim fails fails' h)

-- what says the same is decided too
same : {P Q : Type 0} → (P → Q) → (Q → P) → Decided P → Decided Q
same to from (inl p) = inl (to p)
same to from (inr fails) = inr (λ q. fails (from q))

has : (d : Direction) (bound : ℤ) (rest : ℕ) (claim : Option Claim) → Decided (Has d bound rest claim)
has d bound rest None = inr (λ h. none_some h.1)
has d bound rest (Some c) =
    same (λ h. (c, refl, h.0, h.1.0, h.1.1))
    (λ h. subst (λ (x : Claim). (x.direction ≡ d) × ((x.bound ≡ bound) × (rest ≤ x.rest))) (sym (some_same h.1)) (h.2, (h.3, h.4)))
    (both (same_direction c.direction d) (both (same_z c.bound bound) (at_most rest c.rest)))

-- ---- series

-- the four rules, in one
abbrev Ways : Term → Task → Term → Option Claim → Option Claim → Claim → Type 0
Ways a v b p q c =
    Has c.direction c.bound c.rest (passed_first c.direction p q)
    ⊎ ((c.rest ≤ least_of (passed_first c.direction a b))
    × (Has (other c.direction) c.bound 0 (passed_first c.direction p q)
    ⊎ ((c.bound <ℤ pos (hill_of a v b)) ⊎ Has c.direction c.bound c.rest (passed_last c.direction p q))))

meets_series : (a : Term) (v : Task) (b : Term) (p q : Option Claim) (c : Claim) → Decided (MeetsSeries a v b p q c)
meets_series a v b p q c =
    same to from (either (has c.direction c.bound c.rest (passed_first c.direction p q))
    (both (at_most c.rest (least_of (passed_first c.direction a b)))
    (either (has (other c.direction) c.bound 0 (passed_first c.direction p q))
    (either (below_z c.bound (pos (hill_of a v b))) (has c.direction c.bound c.rest (passed_last c.direction p q))))))
  where
    to : Ways a v b p q c → MeetsSeries a v b p q c
    to (inl h) = first_is_stuck h
    to (inr (le, inl h)) = first_is_closed h le
    to (inr (le, inr (inl h))) = hill_is_above h le
    to (inr (le, inr (inr h))) = last_is_stuck h le

    from : MeetsSeries a v b p q c → Ways a v b p q c
    from (first_is_stuck h) = inl h
    from (first_is_closed h le) = inr (le, inl h)
    from (hill_is_above h le) = inr (le, inr (inl h))
    from (last_is_stuck h le) = inr (le, inr (inr h))

-- ---- parts side by side

has_room : (bound : ℤ) (others : ℕ) (claim : Option Claim) → Decided (HasRoom bound others claim)
has_room bound others None = inl tt
has_room bound others (Some c) = at_most_z (bound -ℤ pos others) c.bound

have_room : (d : Direction) (bound : ℤ) (total : ℕ) (ts : List Term) (cs : List (Option Claim)) → Decided (HaveRoom d bound total ts cs)
have_room d bound total [] cs = inl tt
have_room d bound total (t ∷ ts) [] = inl tt
have_room d bound total (t ∷ ts) (c ∷ cs) = both (has_room bound (total - value_in d t c) c) (have_room d bound total ts cs)

some_claim : (cs : List (Option Claim)) → Decided (SomeClaim cs)
some_claim [] = inr (λ h. h)
some_claim (None ∷ cs) = some_claim cs
some_claim (Some c ∷ cs) = inl tt

meets_par : (ts : List Term) (cs : List (Option Claim)) (c : Claim) → Decided (MeetsPar ts cs c)
meets_par ts cs c =
    same (λ h. record { some = h.0; room = h.1.0; rest = h.1.1 }) (λ m. (m.some, (m.room, m.rest)))
    (both (some_claim cs)
    (both (have_room c.direction c.bound (values_in c.direction ts cs) ts cs) (at_most c.rest (values_in c.direction ts cs))))

meets_rule : (t : Term) (cs : List (Option Claim)) (c : Claim) → Decided (MeetsRule t cs c)
meets_rule (hold size) cs c = both (below_z c.bound (pos size)) (at_most c.rest size)
meets_rule (series a v b) [] c = inr (λ h. h)
meets_rule (series a v b) (p ∷ []) c = inr (λ h. h)
meets_rule (series a v b) (p ∷ q ∷ []) c = meets_series a v b p q c
meets_rule (series a v b) (p ∷ q ∷ r ∷ cs) c = inr (λ h. h)
meets_rule (par ts) cs c = meets_par (list_of_parts ts) cs c

-- ---- a position

pub passes : (ps : List Position) (f : ℕ → Option Claim) (k : ℕ) → Decided (PassesAt ps f k)
passes ps f k = at (f k) refl
  where
    at : (o : Option Claim) → f k ≡ o → Decided (PassesAt ps f k)
    at None e = inl (λ c is. absurd (none_some (sym e ∙ is)))
    at (Some c) e =
        same (λ h d is. subst (λ x. (1 ≤ k) × (k ≤ length ps) × MeetsAt ps f k x) (some_same (sym e ∙ is)) (h.0, h.1.0, h.1.1))
        (λ pass. let p = pass c e in (p.0, (p.1, p.2)))
        (both (at_most 1 k)
        (both (at_most k (length ps)) (meets_rule (term_of_position ps k) (map f (part_positions k (term_of_position ps k))) c)))

-- all pass below n, or one is the lowest that does not
pub search_below : (P : ℕ → Type 0) → ((k : ℕ) → Decided (P k)) → (n : ℕ)
    → ((k : ℕ) → k < n → P k) ⊎ ((m : ℕ) × (m < n) × (P m → ⊥) × ((k : ℕ) → k < m → P k))
search_below P decide zero = inl (λ k lt. absurd (omega arith))
search_below P decide (suc n) = more (search_below P decide n)
  where
    next : ((k : ℕ) → k < n → P k) → Decided (P n)
        → ((k : ℕ) → k < suc n → P k) ⊎ ((m : ℕ) × (m < suc n) × (P m → ⊥) × ((k : ℕ) → k < m → P k))
    next all (inl here) = inl (λ k lt. ⊎_elim (λ early. all k early) (λ late. let e : n ≡ k = omega arith in subst P e here) (cases_lt k n))
    next all (inr fails) = inr (n, omega arith, fails, all)

    more : ((k : ℕ) → k < n → P k) ⊎ ((m : ℕ) × (m < n) × (P m → ⊥) × ((k : ℕ) → k < m → P k))
        → ((k : ℕ) → k < suc n → P k) ⊎ ((m : ℕ) × (m < suc n) × (P m → ⊥) × ((k : ℕ) → k < m → P k))
    more (inl all) = next all (decide n)
    more (inr h) = inr (h.0, omega (arith, h.1), h.2, h.3)
