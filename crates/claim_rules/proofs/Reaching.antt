-- Claims said of the states of a term that are reached below a limit.
use Rattle.std.proofs.Common.{◌≡◌, ℕ, ◌≤◌, refl, subst, arith, List, Option, Some, None}
use Rattle.std.specs.Prelude.{ℤ}
use Rattle.std.specs.List.{AllZip}
use Rattle.sp_terms.specs.Term.{Term, Direction, forward, backward, first_memory, least_of}
use Rattle.sp_term_laws.specs.Moves.{State, other, memory_of, first_state, Step, Reached, begin, next}
use Rattle.claim_rules.specs.Claims.{Claim}
use Rattle.claim_rules.specs.Rules.{Has}
use Rattle.claim_rules.proofs.Limits.{limit_of}
use Rattle.sp_term_laws.proofs.Walks.{below as reached-below}

-- what is used of the states of terms
pub record StateLaws : Type 0 where
  pub first : (d : Direction) (t : Term) → memory_of t (first_state d t) ≡ first_memory d t
  pub least : (t : Term) (s : State t) → least_of t ≤ memory_of t s
  pub back : (d : Direction) (t : Term) (s u : State t) (r : ℕ) → Step d t s r u → Step (other d) t u r s

-- nothing below the limit leads to the end, or to a memory below the rest
pub record Holds (t : Term) (d : Direction) (limit low : ℕ) : Type 0 where
  pub no_way : Reached d t limit (first_state (other d) t) → ⊥
  pub rest : (s : State t) → Reached d t limit s → low ≤ memory_of t s
  pub start : low ≤ first_memory d t

abbrev pub HoldsIf : Term → Option Claim → Type 0
HoldsIf t None = Unit {0}
HoldsIf t (Some c) = Holds t c.direction (limit_of c.bound) c.rest

abbrev pub HoldEach : List Term → List (Option Claim) → Type 0
HoldEach ts cs = AllZip HoldsIf ts cs

-- with less rest it still holds
weaker : (t : Term) (d : Direction) (limit rest less : ℕ) → less ≤ rest → Holds t d limit rest → Holds t d limit less
weaker t d limit rest less le h = record {
  no_way = h.no_way;
  rest = λ s w. omega (arith, le, h.rest s w);
  start = omega (arith, le, h.start);
}

-- the claim that a rule asks for holds
pub has_holds : (t : Term) (o : Option Claim) (d : Direction) (bound : ℤ) (rest : ℕ)
    → HoldsIf t o → Has d bound rest o → Holds t d (limit_of bound) rest
has_holds t o d bound rest h (c, is, direction, at, le) =
    let own : Holds t c.direction (limit_of c.bound) rest =
    weaker t c.direction (limit_of c.bound) c.rest rest le (subst (HoldsIf t) is h) in
    subst (λ (e : Direction). Holds t e (limit_of bound) rest) direction (subst (λ (b : ℤ). Holds t c.direction (limit_of b) rest) at own)

-- a state that is reached is below the limit

module _ (laws : StateLaws) where
  back_step : (d : Direction) (t : Term) (s : State t) (r : ℕ) (s' : State t) → Step (other d) t s r s' → Step d t s' r s
  back_step forward t s r s' h = laws.back backward t s s' r h
  back_step backward t s r s' h = laws.back forward t s s' r h

  -- what is reached from both ends lies on a way from one to the other
  whole_from : (d : Direction) {e : Direction} {t : Term} {limit : ℕ} {s : State t}
      → e ≡ other d → Reached d t limit s → Reached e t limit s → Reached d t limit (first_state e t)
  whole_from d same w (begin h) = w
  whole_from d {e} {t} same w (next {s} {s'} {r} back step lt m) =
      whole_from d same (next w (back_step d t s r s' (subst (λ x. Step x t s r s') same step)) lt (reached-below back)) back

  pub whole : (d : Direction) (t : Term) (limit : ℕ)
      → Reached (other d) t limit (first_state d t) → Reached d t limit (first_state (other d) t)
  whole d t limit back = whole_from d refl (begin (reached-below back)) back

  -- whichever direction a claim has, no way in either direction passes the term
  pub not_passed : (d e : Direction) (t : Term) (limit rest : ℕ) → Holds t e limit rest → Reached d t limit (first_state (other d) t) → ⊥
  not_passed forward forward t limit rest h w = h.no_way w
  not_passed forward backward t limit rest h w = h.no_way (whole backward t limit w)
  not_passed backward forward t limit rest h w = h.no_way (whole forward t limit w)
  not_passed backward backward t limit rest h w = h.no_way w

  pub least-le-first : (d : Direction) (t : Term) → least_of t ≤ first_memory d t
  least-le-first d t = omega (arith, laws.least t (first_state d t), laws.first d t)
