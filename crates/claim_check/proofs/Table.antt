-- The table of the claims' positions.
use Rattle.std.proofs.Common.{◌≡◌, ◌==◌, refl, sym, ap, ◌∙◌, subst, ℕ, zero, suc, ◌+◌, ◌-◌, ◌<◌, ◌≤◌, max, List, []}
use Rattle.std.proofs.Common.{◌∷◌, ◌++◌, length, drop, get_or, length-append, Bool, true, false, Some, None, arith}
use Rattle.std.specs.Prelude.{option_map, slice_get, is_some}
use Rattle.std.specs.List.{list_any}
use Rattle.std.proofs.lemmas.Grind.{common_steps}
use Rattle.plans.specs.declared.claim.Claim.{Claim}
use Rattle.plans.specs.Plan.{claim_of, claim_at, RiseFrom}
use Rattle.claim_check.specs.Judgeable.{IsClaimTable, named_claim, entry_of}

-- the claims of the first positions have their entries, and those from `passed` on stand later
pub record Filled (claims : List Claim) (table : List ℕ) (done passed : ℕ) : Type 0 where
  pub len : length table ≡ done
  pub passed_some : passed ≤ length claims
  pub rising : RiseFrom done (drop passed claims)
  pub later : (k : ℕ) → done < k → claim_at claims k ≡ claim_at (drop passed claims) k
  pub is : IsClaimTable claims table

pub bool_cases : {X : Type 0} (b : Bool) → (b ≡ true → X) → (b ≡ false → X) → X
bool_cases true f g = f refl
bool_cases false f g = g refl

same : (m n : ℕ) → (m == n) ≡ true → m ≡ n
same m n e = grind arith

other_than : (m n : ℕ) → (m == n) ≡ false → m ≡ n → ⊥
other_than m n e f = grind arith

pub none_before : (n : ℕ) (cs : List Claim) (k : ℕ) → RiseFrom n cs → k ≤ n → claim_at cs k ≡ None
none_before n [] k rise le = refl
none_before n (c ∷ cs) k rise le =
    bool_cases (c.position == k)
    (λ e. absurd (let s : c.position ≡ k = same _ _ e in omega (arith, rise.0)))
    (λ e. rw e (none_before c.position cs k rise.1 (omega (arith, rise.0))))

-- the claims from a number on
dropped : {A : Type 0} (n : ℕ) (xs : List A) (y : A) (ys : List A) → drop n xs ≡ y ∷ ys
    → (drop (suc n) xs ≡ ys) × (suc n ≤ length xs) × (slice_get xs n ≡ Some y)
dropped zero [] y ys e = cc
dropped zero (x ∷ xs) y ys e = (cc, omega arith, cc)
dropped (suc n) [] y ys e = cc
dropped (suc n) (x ∷ xs) y ys e = let d = dropped n xs y ys e in (d.0, omega (arith, d.1), d.2)

named_next : (claims : List Claim) (n : ℕ) → named_claim claims (suc n) ≡ slice_get claims n
named_next claims n =
    let more : (suc n == 0) ≡ false = grind arith in
    let back : suc n - 1 ≡ n = omega arith in
    rw more (ap (slice_get claims) back)

more_entries : (claims : List Claim) (table : List ℕ) (e : ℕ) → IsClaimTable claims table → e ≤ length claims
    → option_map claim_of (named_claim claims e) ≡ claim_at claims (length table + 1) → IsClaimTable claims (table ++ e ∷ [])
more_entries claims table e is few here k lt =
    bool_cases (k == length table)
    (λ s. let t : k ≡ length table = same _ _ s in
    let g : get_or (table ++ e ∷ []) k 0 ≡ e = grind (arith, common_steps) in
    (omega (arith, g, few), ap (λ n. option_map claim_of (named_claim claims n)) g ∙ here ∙ ap (λ n. claim_at claims (n + 1)) (sym t)))
    (λ s. let t : k ≡ length table → ⊥ = other_than _ _ s in
    let l : k < length table = omega (arith, length-append table (e ∷ [])) in
    let g : get_or (table ++ e ∷ []) k 0 ≡ get_or table k 0 = grind (arith, common_steps) in
    let own = is k l in
    (omega (arith, g, own.0), ap (λ n. option_map claim_of (named_claim claims n)) g ∙ own.1))

pub filled_none : (claims : List Claim) → RiseFrom 0 claims → Filled claims [] 0 0
filled_none claims rise = record {
  len = refl;
  passed_some = omega arith;
  rising = rise;
  later = λ k lt. refl;
  is = λ k lt. absurd (omega arith);
}

-- no claim stands at the next position
none_here : (claims : List Claim) (table : List ℕ) (done passed : ℕ) → Filled claims table done passed
    → RiseFrom (done + 1) (drop passed claims) → Filled claims (table ++ 0 ∷ []) (done + 1) passed
none_here claims table done passed f rise = record {
  len = omega (arith, length-append table (0 ∷ []), f.len);
  passed_some = f.passed_some;
  rising = rise;
  later = λ k lt. f.later k (omega arith);
  is = more_entries claims table 0 f.is (omega arith)
      (sym (ap (λ n. claim_at claims (n + 1)) f.len ∙ f.later (done + 1) (omega arith)
      ∙ none_before (done + 1) (drop passed claims) (done + 1) rise (omega arith)));
}

-- the first of the claims that are left stands there
one_here : (claims : List Claim) (table : List ℕ) (done passed : ℕ) → Filled claims table done passed
    → (c : Claim) (cs : List Claim) → drop passed claims ≡ c ∷ cs → c.position ≡ done + 1
    → Filled claims (table ++ (passed + 1) ∷ []) (done + 1) (passed + 1)
one_here claims table done passed f c cs e at =
    let d = dropped passed claims c cs e in
    let more : suc passed ≡ passed + 1 = omega arith in
    let tail : drop (passed + 1) claims ≡ cs = subst (λ n. drop n claims ≡ cs) more d.0 in
    let rise : (done < c.position) × RiseFrom c.position cs = subst (λ l. RiseFrom done l) e f.rising in
    let here : claim_at claims (done + 1) ≡ Some (claim_of c) =
    f.later (done + 1) (omega arith) ∙ ap (λ l. claim_at l (done + 1)) e ∙ found c cs (done + 1) at in
    record {
      len = omega (arith, length-append table ((passed + 1) ∷ []), f.len);
      passed_some = omega (arith, d.1);
      rising = subst (λ l. RiseFrom (done + 1) l) (sym tail) (subst (λ n. RiseFrom n cs) at rise.1);
      later = λ k lt. f.later k (omega arith) ∙ ap (λ l. claim_at l k) e
          ∙ passed_by c cs k (λ s. omega arith) ∙ ap (λ l. claim_at l k) (sym tail);
      is = more_entries claims table (passed + 1) f.is (omega (arith, d.1))
          (ap (λ n. option_map claim_of (named_claim claims n)) (sym more) ∙ ap (option_map claim_of) (named_next claims passed ∙ d.2)
          ∙ sym here ∙ ap (λ n. claim_at claims (n + 1)) (sym f.len));
    }
  where
    found : (c : Claim) (cs : List Claim) (k : ℕ) → c.position ≡ k → claim_at (c ∷ cs) k ≡ Some (claim_of c)
    found c cs k e = let b : (c.position == k) ≡ true = grind arith in rw b refl

    passed_by : (c : Claim) (cs : List Claim) (k : ℕ) → (c.position ≡ k → ⊥) → claim_at (c ∷ cs) k ≡ claim_at cs k
    passed_by c cs k ne = let b : (c.position == k) ≡ false = grind arith in rw b refl

max_zero : (n : ℕ) → max n 0 ≡ n
max_zero n = omega arith

max_next : (n : ℕ) → max n (n + 1) ≡ n + 1
max_next n = omega arith

filled_from : (claims : List Claim) (table : List ℕ) (done passed : ℕ) → Filled claims table done passed
    → (rest : List Claim) → drop passed claims ≡ rest
    → Filled claims (table ++ entry_of rest passed (done + 1) ∷ []) (done + 1) (max passed (entry_of rest passed (done + 1)))
filled_from claims table done passed f [] e =
    subst (λ n. Filled claims (table ++ 0 ∷ []) (done + 1) n) (sym (max_zero passed))
    (none_here claims table done passed f (subst (λ l. RiseFrom (done + 1) l) (sym e) tt))
filled_from claims table done passed f (c ∷ cs) e =
    bool_cases (c.position == done + 1)
    (λ s. rw s (subst (λ n. Filled claims (table ++ (passed + 1) ∷ []) (done + 1) n) (sym (max_next passed))
    (one_here claims table done passed f c cs e (same _ _ s))))
    (λ s. rw s (subst (λ n. Filled claims (table ++ 0 ∷ []) (done + 1) n) (sym (max_zero passed))
    (none_here claims table done passed f
    (let r : (done < c.position) × RiseFrom c.position cs = subst (λ l. RiseFrom done l) e f.rising in
    let n : c.position ≡ done + 1 → ⊥ = other_than _ _ s in
    let g : done + 1 < c.position = omega (arith, r.0) in
    subst (λ l. RiseFrom (done + 1) l) (sym e) (g, r.1)))))

pub filled_more : (claims : List Claim) (table : List ℕ) (done passed e : ℕ) → e ≡ entry_of (drop passed claims) passed (done + 1)
    → Filled claims table done passed → Filled claims (table ++ e ∷ []) (done + 1) (max passed e)
filled_more claims table done passed e is f =
    subst (λ n. Filled claims (table ++ n ∷ []) (done + 1) (max passed n))
    (sym is) (filled_from claims table done passed f (drop passed claims) refl)

-- whether some claim stands at a position
pub some_claim : (claims : List Claim) (k : ℕ) → list_any (λ (c : Claim). c.position == k) claims ≡ is_some (claim_at claims k)
some_claim [] k = refl
some_claim (c ∷ cs) k =
    bool_cases (c.position == k) (λ s. rw s refl) (λ s. rw s (some_claim cs k))
