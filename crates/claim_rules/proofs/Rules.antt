-- What the rules give holds.
use Rattle.std.proofs.Common.{ℕ, ◌<◌, ◌≤◌, arith, List, [], ◌∷◌, Option}
use Rattle.sp_terms.specs.Places.{parts_of}
use Rattle.sp_terms.specs.Term.{Term, hold, series, par}
use Rattle.claim_rules.specs.Claims.{Claim}
use Rattle.claim_rules.specs.Derivations.{Derives, by_rule, DeriveEach, none_left, unclaimed, claimed}
use Rattle.claim_rules.specs.Rules.{MeetsRule, MeetsData}
use Rattle.claim_rules.proofs.Limits.{limit_of, beyond-above}
use Rattle.claim_rules.proofs.Reaching.{StateLaws, Holds, HoldEach}
use Rattle.sp_term_laws.proofs.Walks.{below as reached-below}
use Rattle.claim_rules.proofs.Series.{series_holds}
use Rattle.claim_rules.proofs.Par.{par_holds}

data_holds : (size : ℕ) (c : Claim) → MeetsData size c → Holds (hold size) c.direction (limit_of c.bound) c.rest
data_holds size c h =
    let high : limit_of c.bound ≤ size = beyond-above size c.bound h.0 in
    record {
      no_way = λ w. let m : size < limit_of c.bound = reached-below w in absurd (omega (arith, m, high));
      rest = λ s w. h.1;
      start = h.1;
    }

pub rule_holds : StateLaws → (t : Term) (cs : List (Option Claim)) (c : Claim)
    → HoldEach (parts_of t) cs → MeetsRule t cs c → Holds t c.direction (limit_of c.bound) c.rest
rule_holds laws (hold size) cs c h m = data_holds size c m
rule_holds laws (series a v b) [] c h m = absurd m
rule_holds laws (series a v b) (p ∷ []) c h m = absurd m
rule_holds laws (series a v b) (p ∷ q ∷ []) c h m = series_holds laws a v b p q c h.0 h.1.0 m
rule_holds laws (series a v b) (p ∷ q ∷ r ∷ cs) c h m = absurd m
rule_holds laws (par ts) cs c h m = par_holds laws ts cs c h m

module _ (laws : StateLaws) where
  mutual
    pub derived_holds : {t : Term} {c : Claim} → Derives t c → Holds t c.direction (limit_of c.bound) c.rest
    derived_holds (by_rule cs each m) = rule_holds laws _ cs _ (each_holds each) m

    each_holds : {ts : List Term} {cs : List (Option Claim)} → DeriveEach ts cs → HoldEach ts cs
    each_holds none_left = tt
    each_holds (unclaimed each) = (tt, each_holds each)
    each_holds (claimed h each) = (derived_holds h, each_holds each)
