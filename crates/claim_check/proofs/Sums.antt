-- The parts of a `par` taken together, from the last one back.
use Rattle.std.proofs.Common.{◌≡◌, refl, sym, ap, ◌∙◌, subst, ℕ, zero, suc, ◌+◌, ◌-◌, ◌*◌, ◌^◌, ◌<◌, ◌≤◌, IsTrue, List}
use Rattle.std.proofs.Common.{[], ◌∷◌, Bool, true, false, length, drop, get_or, Option, Some, None, arith, Bool}
use Rattle.std.specs.Prelude.{◌↔◌, ◌||◌, is_some, ℤ}
use Rattle.sp_terms.specs.declared.position.Position.{Position}
use Rattle.sp_terms.specs.declared.position.Position.TheVariants.{Par}
use Rattle.sp_terms.specs.Term.{Term, width_of, Direction}
use Rattle.sp_terms.specs.Places.{term_of_position, part_positions, parts_of, IsTermAt}
use Rattle.std.proofs.lemmas.List.{length-map, drop_all}
use Rattle.claim_rules.specs.Claims.{Claim}
use Rattle.claim_rules.specs.Rules.{values_in, value_in, HaveRoom, HasRoom, SomeClaim}
use Rattle.claim_rules.specs.Placed.{claims_at}
use Rattle.claim_check.specs.Judgeable.{IsPlaced, parts_at}
use Rattle.claim_check.proofs.PartsOf.{widths, Walk, Step, step, first_step, width_of_par, length_ends, length_parts}

-- the term is what the position says
pub own_at : (ps : List Position) (k : ℕ) → IsPlaced ps k → (p : Position)
    → ((d : Position) → get_or ps (k - 1) d ≡ p) → IsTermAt p (term_of_position ps k)
own_at ps k placed p is = subst (λ q. IsTermAt q (term_of_position ps k)) (is (Par 0)) (placed.own (Par 0))

-- the walk through the parts at a position
abbrev pub WalkAt : List Position → ℕ → ℕ → ℕ → Type 0
WalkAt ps k left here = Walk (k - width_of (term_of_position ps k)) (parts_at ps k) left here

abbrev pub StepAt : List Position → ℕ → ℕ → ℕ → Type 0
StepAt ps k left here = Step (term_of_position ps) k (k - width_of (term_of_position ps k)) (parts_at ps k) left here

pub step_at : (ps : List Position) (k left here : ℕ) → IsPlaced ps k → 0 < left → WalkAt ps k left here → StepAt ps k left here
step_at ps k left here p some w =
    step (term_of_position ps) k (k - width_of (term_of_position ps k)) (parts_at ps k) left here p.parts p.before some w

-- the term at this position is a `par` of so many
pub record ParAt (ps : List Position) (k parts : ℕ) : Type 0 where
  pub placed : IsPlaced ps k
  pub many : length (parts_at ps k) ≡ parts
  pub walk : WalkAt ps k parts (k - 1)

pub par_at : (ps : List Position) (k parts : ℕ) → IsPlaced ps k → ((d : Position) → get_or ps (k - 1) d ≡ Par parts) → ParAt ps k parts
par_at ps k parts placed at = go (own_at ps k placed (Par parts) at)
  where
    go : IsTermAt (Par parts) (term_of_position ps k) → ParAt ps k parts
    go (ts, n, is) =
        let many : length (parts_at ps k) ≡ parts = ap (λ t. length (parts_of t)) is ∙ length_parts ts ∙ n in
        let wide = subst (λ t. width_of t ≡ suc (widths (parts_of t))) (sym is) (width_of_par ts) in
        record {
          placed = placed;
          many = many;
          walk = subst (λ m. WalkAt ps k m (k - 1)) many (first_step k (term_of_position ps k) wide placed.before);
        }

claims_len : (ps : List Position) (f : ℕ → Option Claim) (k : ℕ) → length (claims_at ps f k) ≡ length (parts_at ps k)
claims_len ps f k =
    length-map (part_positions k (term_of_position ps k)) f ∙ length_ends (k - width_of (term_of_position ps k)) (parts_at ps k)

-- ---- the sum of the values

pub record Summed (ps : List Position) (f : ℕ → Option Claim) (d : Direction) (k parts left here total : ℕ) (some : Bool) : Type 0 where
  pub walk : WalkAt ps k left here
  pub is : total ≡ values_in d (drop left (parts_at ps k)) (drop left (claims_at ps f k))
  pub claimed : IsTrue some ↔ SomeClaim (drop left (claims_at ps f k))
  pub small : total + left * 2 ^ 64 ≤ parts * 2 ^ 64

pub summed_none : (ps : List Position) (f : ℕ → Option Claim) (d : Direction) (k parts : ℕ)
    → ParAt ps k parts → Summed ps f d k parts parts (k - 1) 0 false
summed_none ps f d k parts p =
    let none : drop parts (parts_at ps k) ≡ [] = drop_all parts (parts_at ps k) (omega (arith, p.many)) in
    let no_claims : drop parts (claims_at ps f k) ≡ [] = drop_all parts (claims_at ps f k) (omega (arith, p.many, claims_len ps f k)) in
    record {
      walk = p.walk;
      is = ap (λ ts. values_in d ts (drop parts (claims_at ps f k))) (sym none);
      claimed = subst (λ cs. IsTrue false ↔ SomeClaim cs) (sym no_claims) ((λ (h : IsTrue false). cc), (λ h. absurd h));
      small = omega arith;
    }

pub summed_more : (ps : List Position) (f : ℕ → Option Claim) (d : Direction) (k parts left here total : ℕ) (some : Bool)
    → IsPlaced ps k → 0 < left
    → Summed ps f d k parts left here total some → (width value : ℕ) (claim : Option Claim) → width ≡ width_of (term_of_position ps here)
    → claim ≡ f here → value ≡ value_in d (term_of_position ps here) claim → value < 2 ^ 64
    → Summed ps f d k parts (left - 1) (here - width) (total + value) (some || is_some claim)
summed_more ps f d k parts left here total some p more s width value claim width_is claim_is value_is small =
    let st = step_at ps k left here p more s.walk in
    record {
      walk = subst (λ w. WalkAt ps k (left - 1) (here - w)) (sym width_is) st.walk;
      is = sums total value (values_in d (drop left (parts_at ps k)) (drop left (claims_at ps f k)))
          (value_in d (term_of_position ps here) (f here))
          s.is (value_is ∙ ap (value_in d (term_of_position ps here)) claim_is)
          ∙ ap (λ ts. values_in d ts (f here ∷ drop left (claims_at ps f k))) (sym st.terms)
          ∙ ap (values_in d (drop (left - 1) (parts_at ps k))) (sym (st.claims f));
      claimed = subst (λ cs. IsTrue (some || is_some claim) ↔ SomeClaim cs) (sym (st.claims f))
          (subst (λ o. IsTrue (some || is_some claim) ↔ SomeClaim (o ∷ drop left (claims_at ps f k))) claim_is
          (either some claim _ s.claimed));
      small = omega (arith, s.small);
    }
  where
    sums : (total value rest part : ℕ) → total ≡ rest → value ≡ part → total + value ≡ part + rest
    sums total value rest part e g = omega arith

    either : (some : Bool) (claim : Option Claim) (cs : List (Option Claim))
        → IsTrue some ↔ SomeClaim cs → IsTrue (some || is_some claim) ↔ SomeClaim (claim ∷ cs)
    either true None cs h = h
    either true (Some c) cs h = (λ t. tt, λ t. refl)
    either false None cs h = h
    either false (Some c) cs h = (λ t. tt, λ t. refl)

-- ---- room for each part

pub record Roomy (ps : List Position) (f : ℕ → Option Claim) (d : Direction) (bound : ℤ) (total k left here : ℕ) : Type 0 where
  pub walk : WalkAt ps k left here
  pub have : HaveRoom d bound total (drop left (parts_at ps k)) (drop left (claims_at ps f k))

pub roomy_none : (ps : List Position) (f : ℕ → Option Claim) (d : Direction) (bound : ℤ) (total k parts : ℕ)
    → ParAt ps k parts → Roomy ps f d bound total k parts (k - 1)
roomy_none ps f d bound total k parts p =
    let none : drop parts (parts_at ps k) ≡ [] = drop_all parts (parts_at ps k) (omega (arith, p.many)) in
    record {
      walk = p.walk;
      have = subst (λ ts. HaveRoom d bound total ts (drop parts (claims_at ps f k))) (sym none) tt;
    }

-- the part that stands here has room
pub roomy_more : (ps : List Position) (f : ℕ → Option Claim) (d : Direction) (bound : ℤ) (total k left here : ℕ) → IsPlaced ps k → 0 < left
    → Roomy ps f d bound total k left here → HasRoom bound (total - value_in d (term_of_position ps here) (f here)) (f here)
    → Roomy ps f d bound total k (left - 1) (here - width_of (term_of_position ps here))
roomy_more ps f d bound total k left here p more r room =
    let st = step_at ps k left here p more r.walk in
    let both : HaveRoom d bound total (term_of_position ps here ∷ drop left (parts_at ps k)) (f here ∷ drop left (claims_at ps f k)) =
    (room, r.have) in
    record {
      walk = st.walk;
      have = subst (λ cs. HaveRoom d bound total (drop (left - 1) (parts_at ps k)) cs) (sym (st.claims f))
          (subst (λ ts. HaveRoom d bound total ts (f here ∷ drop left (claims_at ps f k))) (sym st.terms) both);
    }

from_end : (d : Direction) (bound : ℤ) (total n : ℕ) (ts : List Term) (cs : List (Option Claim)) → length cs ≡ length ts
    → HaveRoom d bound total ts cs → HaveRoom d bound total (drop n ts) (drop n cs)
from_end d bound total zero ts cs e h = h
from_end d bound total (suc n) [] [] e h = tt
from_end d bound total (suc n) [] (c ∷ cs) e h = tt
from_end d bound total (suc n) (t ∷ ts) [] e h = absurd (omega (arith, e))
from_end d bound total (suc n) (t ∷ ts) (c ∷ cs) e h = from_end d bound total n ts cs (omega (arith, e)) h.1

-- each value is at most the sum
values_from : (d : Direction) (n : ℕ) (ts : List Term) (cs : List (Option Claim)) → values_in d (drop n ts) (drop n cs) ≤ values_in d ts cs
values_from d zero ts cs = omega arith
values_from d (suc n) [] cs = omega arith
values_from d (suc n) (t ∷ ts) [] = none d (drop n ts)
  where
    none : (d : Direction) (ts : List Term) → values_in d ts [] ≤ 0
    none d [] = omega arith
    none d (t ∷ ts) = omega arith
values_from d (suc n) (t ∷ ts) (c ∷ cs) = omega (arith, values_from d n ts cs)

pub value_below : (ps : List Position) (f : ℕ → Option Claim) (d : Direction) (k left here : ℕ)
    → IsPlaced ps k → 0 < left → WalkAt ps k left here
    → value_in d (term_of_position ps here) (f here) ≤ values_in d (parts_at ps k) (claims_at ps f k)
value_below ps f d k left here p more w =
    let st = step_at ps k left here p more w in
    let is : values_in d (drop (left - 1) (parts_at ps k)) (drop (left - 1) (claims_at ps f k))
    ≡ value_in d (term_of_position ps here) (f here) + values_in d (drop left (parts_at ps k)) (drop left (claims_at ps f k)) =
    λ i. values_in d (st.terms i) (st.claims f i) in
    omega (arith, is, values_from d (left - 1) (parts_at ps k) (claims_at ps f k))

-- the room of a part by its value
pub room_same : (bound : ℤ) (d : Direction) (t : Term) (total others value : ℕ) (p q : Option Claim)
    → others ≡ total - value → value ≡ value_in d t p → p ≡ q
    → HasRoom bound others p ↔ HasRoom bound (total - value_in d t q) q
room_same bound d t total others value p q others_is value_is same =
    subst (λ o. HasRoom bound others p ↔ HasRoom bound (total - value_in d t o) o) same
    (subst (λ n. HasRoom bound others p ↔ HasRoom bound n p) (others_is ∙ ap (λ v. total - v) value_is) ((λ h. h), (λ h. h)))

-- where all have room, so has the part that stands here
pub room_here : (ps : List Position) (f : ℕ → Option Claim) (d : Direction) (bound : ℤ) (total k left here : ℕ) → IsPlaced ps k → 0 < left
    → WalkAt ps k left here → HaveRoom d bound total (parts_at ps k) (claims_at ps f k)
    → HasRoom bound (total - value_in d (term_of_position ps here) (f here)) (f here)
room_here ps f d bound total k left here p more w have =
    let st = step_at ps k left here p more w in
    let rest = from_end d bound total (left - 1) (parts_at ps k) (claims_at ps f k) (claims_len ps f k) have in
    let both : HaveRoom d bound total (term_of_position ps here ∷ drop left (parts_at ps k)) (f here ∷ drop left (claims_at ps f k)) =
    subst (λ ts. HaveRoom d bound total ts (f here ∷ drop left (claims_at ps f k))) st.terms
    (subst (λ cs. HaveRoom d bound total (drop (left - 1) (parts_at ps k)) cs) (st.claims f) rest) in
    both.0
