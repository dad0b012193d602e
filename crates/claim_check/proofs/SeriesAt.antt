-- The parts of a series, and the rule at a position.
use Rattle.std.proofs.Common.{◌≡◌, sym, ap, ◌∙◌, subst, ℕ, suc, ◌+◌, ◌-◌, ◌<◌, ◌≤◌, All, IsTrue}
use Rattle.std.proofs.Common.{List, [], ◌∷◌, Bool, false, map, get_or, Option, arith}
use Rattle.std.specs.Prelude.{◌↔◌}
use Rattle.std.proofs.lemmas.List.Elements.{All-get_or}
use Rattle.mp_system.specs.declared.system.Task.{Task}
use Rattle.sp_terms.specs.declared.position.Position.{Position}
use Rattle.sp_terms.specs.declared.position.Position.TheVariants.{Hold, Par}
use Rattle.sp_terms.specs.Postfix.{at_task}
use Rattle.sp_terms.specs.Term.{Term, series, width_of, initial_of, final_of, IsAllowed}
use Rattle.sp_terms.specs.Places.{term_of_position, part_positions, parts_of, IsTermAt}
use Rattle.claim_rules.specs.Claims.{Claim}
use Rattle.limits.specs.Limits.{most_total}
use Rattle.claim_rules.specs.Placed.{MeetsAt, claims_at}
use Rattle.claim_rules.specs.Rules.{values_in, HaveRoom, SomeClaim, MeetsRule, MeetsData, MeetsSeries, MeetsPar}
use Rattle.claim_check.specs.Judgeable.{IsPlaced, parts_at}
use Rattle.claim_check.proofs.Sums.{own_at}

-- the second part stands just before the series, and the first just before the second
pub record SeriesAt (ps : List Position) (k : ℕ) (v : Task) : Type 0 where
  pub first : Term
  pub last : Term
  pub is : term_of_position ps k ≡ series first v last
  pub room : width_of last < k - 1
  pub last_is : term_of_position ps (k - 1) ≡ last
  pub first_is : term_of_position ps (k - 1 - width_of last) ≡ first
  pub share : v.share ≤ v.extra + initial_of last
  pub small : final_of first + (v.extra + initial_of last) ≤ most_total
  pub ends : part_positions k (series first v last) ≡ (k - 1 - width_of last) ∷ (k - 1) ∷ []

series_of : (ps : List Position) (k : ℕ) (v : Task) → IsPlaced ps k → IsTermAt (at_task v) (term_of_position ps k) → SeriesAt ps k v
series_of ps k v p (a, b, is) =
    let before = k - suc (width_of a + width_of b) in
    let parts : map (term_of_position ps) (part_positions k (series a v b)) ≡ a ∷ b ∷ [] =
    subst (λ t. map (term_of_position ps) (part_positions k t) ≡ parts_of t) is p.parts in
    let within : All (λ j. (1 ≤ j) × (j < k)) (part_positions k (series a v b)) =
    subst (λ t. All (λ j. (1 ≤ j) × (j < k)) (part_positions k t)) is p.before in
    let one : (1 ≤ before + width_of a) × (before + width_of a < k) =
    All-get_or (λ j. (1 ≤ j) × (j < k)) (part_positions k (series a v b)) 0 0 (omega arith) within in
    let two : (1 ≤ before + width_of a + width_of b) × (before + width_of a + width_of b < k) =
    All-get_or (λ j. (1 ≤ j) × (j < k)) (part_positions k (series a v b)) 1 0 (omega arith) within in
    let last_place : before + width_of a + width_of b ≡ k - 1 = omega (arith, one, two) in
    let first_place : before + width_of a ≡ k - 1 - width_of b = omega (arith, one, two) in
    let fits = subst IsAllowed is p.allowed in
    record {
      first = a;
      last = b;
      is = is;
      room = omega (arith, one, two);
      last_is = ap (term_of_position ps) (sym last_place) ∙ second parts;
      first_is = ap (term_of_position ps) (sym first_place) ∙ head parts;
      share = fits.1;
      small = p.small a v b is;
      ends = λ i. first_place i ∷ last_place i ∷ [];
    }
  where
    head : {x y z w : Term} → x ∷ y ∷ [] ≡ z ∷ w ∷ [] → x ≡ z
    head e = cc

    second : {x y z w : Term} → x ∷ y ∷ [] ≡ z ∷ w ∷ [] → y ≡ w
    second e = cc

pub series_at : (ps : List Position) (k : ℕ) (v : Task) → IsPlaced ps k
    → ((d : Position) → get_or ps (k - 1) d ≡ at_task v) → SeriesAt ps k v
series_at ps k v placed is = series_of ps k v placed (own_at ps k placed (at_task v) is)

pub series_judged :
    (ps : List Position) (k : ℕ) (v : Task) (s : SeriesAt ps k v) (f : ℕ → Option Claim) (c : Claim) (answer : Bool) (p q : Option Claim)
    → p ≡ f (k - 1 - width_of s.last) → q ≡ f (k - 1)
    → IsTrue answer ↔ MeetsSeries s.first v s.last p q c → IsTrue answer ↔ MeetsAt ps f k c
series_judged ps k v s f c answer p q p_is q_is judged =
    let claims : map f (part_positions k (series s.first v s.last)) ≡ p ∷ q ∷ [] =
    ap (map f) s.ends ∙ (λ i. sym p_is i ∷ sym q_is i ∷ []) in
    subst (λ t. IsTrue answer ↔ MeetsRule t (map f (part_positions k t)) c) (sym s.is)
    (subst (λ cs. IsTrue answer ↔ MeetsRule (series s.first v s.last) cs c) (sym claims) judged)

pub data_judged : (ps : List Position) (k size : ℕ) (f : ℕ → Option Claim) (c : Claim) (answer : Bool)
    → IsTermAt (Hold size) (term_of_position ps k)
    → IsTrue answer ↔ MeetsData size c → IsTrue answer ↔ MeetsAt ps f k c
data_judged ps k size f c answer is judged = subst (λ t. IsTrue answer ↔ MeetsRule t (map f (part_positions k t)) c) (sym is) judged

-- the rule at a `par`
par_rule : (ps : List Position) (k parts : ℕ) (f : ℕ → Option Claim) (c : Claim) → IsTermAt (Par parts) (term_of_position ps k)
    → MeetsAt ps f k c ↔ MeetsPar (parts_at ps k) (claims_at ps f k) c
par_rule ps k parts f c (ts, n, is) =
    subst (λ t. MeetsRule t (claims_at ps f k) c ↔ MeetsPar (parts_of t) (claims_at ps f k) c) (sym is) ((λ m. m), (λ m. m))

pub par_judged : (ps : List Position) (k parts : ℕ) (f : ℕ → Option Claim) (c : Claim) (total : ℕ) (some answer : Bool)
    → IsTermAt (Par parts) (term_of_position ps k)
    → total ≡ values_in c.direction (parts_at ps k) (claims_at ps f k)
    → IsTrue some ↔ SomeClaim (claims_at ps f k) → IsTrue some → c.rest ≤ total
    → IsTrue answer ↔ HaveRoom c.direction c.bound total (parts_at ps k) (claims_at ps f k) → IsTrue answer ↔ MeetsAt ps f k c
par_judged ps k parts f c total some answer here total_is some_is is_some rest judged =
    let rule = par_rule ps k parts f c here in (
      (λ t. rule.1 (record {
        some = some_is.0 is_some;
        room = subst (λ n. HaveRoom c.direction c.bound n (parts_at ps k) (claims_at ps f k)) total_is (judged.0 t);
        rest = omega (arith, rest, total_is);
      })),
      (λ m. judged.1 (subst (λ n. HaveRoom c.direction c.bound n (parts_at ps k) (claims_at ps f k)) (sym total_is) (rule.0 m).room)),
    )

pub par_unclaimed : (ps : List Position) (k parts : ℕ) (f : ℕ → Option Claim) (c : Claim) (some : Bool)
    → IsTermAt (Par parts) (term_of_position ps k)
    → IsTrue some ↔ SomeClaim (claims_at ps f k) → some ≡ false → IsTrue false ↔ MeetsAt ps f k c
par_unclaimed ps k parts f c some here some_is none =
    ((λ (h : IsTrue false). cc), (λ m. sym none ∙ some_is.1 ((par_rule ps k parts f c here).0 m).some))

pub par_below : (ps : List Position) (k parts : ℕ) (f : ℕ → Option Claim) (c : Claim) (total : ℕ)
    → IsTermAt (Par parts) (term_of_position ps k)
    → total ≡ values_in c.direction (parts_at ps k) (claims_at ps f k) → total < c.rest → IsTrue false ↔ MeetsAt ps f k c
par_below ps k parts f c total here total_is below =
    ((λ (h : IsTrue false). cc), (λ m. absurd (let r = ((par_rule ps k parts f c here).0 m).rest in omega (arith, r, total_is, below))))
