-- The rule of parts side by side holds.
use Rattle.std.proofs.Common.{◌≡◌, ℕ, ◌+◌, ◌-◌, ◌<◌, ◌≤◌, inl, inr, subst, ap, arith, List, [], ◌∷◌, Option, Some, None}
use Rattle.std.specs.Prelude.{ℤ}
use Rattle.sp_terms.specs.Places.{list_of_parts}
use Rattle.sp_terms.specs.Term.{Term, par, Parts, no_parts, part, Direction, forward, backward}
use Rattle.sp_terms.specs.Term.{first_memory, first_memory_of_parts, least_of}
use Rattle.sp_term_laws.specs.Moves.{State, States, other, memory_of, memory_of_parts, first_state}
use Rattle.sp_term_laws.specs.Moves.{first_states, Steps, Reached, begin, next}
use Rattle.claim_rules.specs.Claims.{Claim}
use Rattle.claim_rules.specs.Rules.{value_in, values_in, HasRoom, HaveRoom, SomeClaim, MeetsPar}
use Rattle.claim_rules.proofs.Limits.{limit_of, limit-less}
use Rattle.claim_rules.proofs.Reaching.{StateLaws, Holds, HoldEach, not_passed, least-le-first}

-- each part that has a claim has stayed below its own limit
abbrev Kept : (d : Direction) (ts : Parts) → List (Option Claim) → States ts → Type 0
Kept d no_parts cs ss = Unit {0}
Kept d (part t ts) [] ss = Unit {0}
Kept d (part t ts) (None ∷ cs) (s, ss) = Unit {0} × Kept d ts cs ss
Kept d (part t ts) (Some c ∷ cs) (s, ss) = Reached d t (limit_of c.bound) s × Kept d ts cs ss

-- the limit of a part that has a claim, against that of all
abbrev HasLimit : ℕ → ℕ → ℕ → Option Claim → Type 0
HasLimit limit total value None = Unit {0}
HasLimit limit total value (Some c) = limit + value ≤ limit_of c.bound + total

abbrev HaveLimits : Direction → ℕ → ℕ → Parts → List (Option Claim) → Type 0
HaveLimits d limit total no_parts cs = Unit {0}
HaveLimits d limit total (part t ts) [] = Unit {0}
HaveLimits d limit total (part t ts) (c ∷ cs) = HasLimit limit total (value_in d t c) c × HaveLimits d limit total ts cs

has_limit : (bound : ℤ) (total value : ℕ) (o : Option Claim) → value ≤ total
    → HasRoom bound (total - value) o → HasLimit (limit_of bound) total value o
has_limit bound total value None le h = tt
has_limit bound total value (Some c) le h = limit-less bound c.bound value total le h

have_limits : (d : Direction) (bound : ℤ) (total : ℕ) (ts : Parts) (cs : List (Option Claim)) → values_in d (list_of_parts ts) cs ≤ total
    → HaveRoom d bound total (list_of_parts ts) cs → HaveLimits d (limit_of bound) total ts cs
have_limits d bound total no_parts cs le h = tt
have_limits d bound total (part t ts) [] le h = tt
have_limits d bound total (part t ts) (c ∷ cs) le h =
    (has_limit bound total (value_in d t c) c (omega (arith, le)) h.0, have_limits d bound total ts cs (omega (arith, le)) h.1)

module _ (laws : StateLaws) where
  firsts : (d : Direction) (ts : Parts) → memory_of_parts ts (first_states d ts) ≡ first_memory_of_parts d ts
  firsts d ts = laws.first d (par ts)

  -- while a part stays below its limit, its memory is at least its value
  value-le : (d e : Direction) (t : Term) (bound : ℤ) (rest : ℕ) (s : State t)
      → Holds t e (limit_of bound) rest → Reached d t (limit_of bound) s
      → value_in d t (Some (record { direction = e; bound = bound; rest = rest })) ≤ memory_of t s
  value-le forward forward t bound rest s c w = c.rest s w
  value-le forward backward t bound rest s c w = laws.least t s
  value-le backward forward t bound rest s c w = laws.least t s
  value-le backward backward t bound rest s c w = c.rest s w

  value-le-first : (d e : Direction) (t : Term) (bound : ℤ) (rest : ℕ) → Holds t e (limit_of bound) rest
      → value_in d t (Some (record { direction = e; bound = bound; rest = rest })) ≤ first_memory d t
  value-le-first forward forward t bound rest c = c.start
  value-le-first forward backward t bound rest c = least-le-first laws forward t
  value-le-first backward forward t bound rest c = least-le-first laws backward t
  value-le-first backward backward t bound rest c = c.start

  values-le : (d : Direction) (ts : Parts) (cs : List (Option Claim)) (ss : States ts)
      → HoldEach (list_of_parts ts) cs → Kept d ts cs ss → values_in d (list_of_parts ts) cs ≤ memory_of_parts ts ss
  values-le d no_parts cs ss h k = omega arith
  values-le d (part t ts) [] ss h k = absurd h
  values-le d (part t ts) (None ∷ cs) (s, ss) h k = omega (arith, laws.least t s, values-le d ts cs ss h.1 k.1)
  values-le d (part t ts) (Some c ∷ cs) (s, ss) h k =
      omega (arith, value-le d c.direction t c.bound c.rest s h.0 k.0, values-le d ts cs ss h.1 k.1)

  values-le-first : (d : Direction) (ts : Parts) (cs : List (Option Claim))
      → HoldEach (list_of_parts ts) cs → values_in d (list_of_parts ts) cs ≤ first_memory_of_parts d ts
  values-le-first d no_parts cs h = omega arith
  values-le-first d (part t ts) [] h = absurd h
  values-le-first d (part t ts) (None ∷ cs) h = omega (arith, least-le-first laws d t, values-le-first d ts cs h.1)
  values-le-first d (part t ts) (Some c ∷ cs) h =
      omega (arith, value-le-first d c.direction t c.bound c.rest h.0, values-le-first d ts cs h.1)

  -- at the start: `out` is the memory of the parts before these, `low` the sum of their values
  kept-first : (d : Direction) (limit total out low : ℕ) (ts : Parts) (cs : List (Option Claim))
      → HoldEach (list_of_parts ts) cs → HaveLimits d limit total ts cs → low ≤ out
      → total ≡ low + values_in d (list_of_parts ts) cs
      → out + memory_of_parts ts (first_states d ts) < limit → Kept d ts cs (first_states d ts)
  kept-first d limit total out low no_parts cs h g le e m = tt
  kept-first d limit total out low (part t ts) [] h g le e m = tt
  kept-first d limit total out low (part t ts) (None ∷ cs) h g le e m = (
    tt,
    kept-first d limit total (out + memory_of t (first_state d t)) (low + least_of t) ts cs h.1 g.1
        (omega (arith, laws.least t (first_state d t))) (omega arith) (omega arith),
  )
  kept-first d limit total out low (part t ts) (Some c ∷ cs) h g le e m =
      let v = value-le-first d c.direction t c.bound c.rest h.0 in
      let vs = values-le-first d ts cs h.1 in
      let f = laws.first d t in
      let fs = firsts d ts in (
        begin (omega (arith, g.0, v, vs, f, fs)),
        kept-first d limit total (out + memory_of t (first_state d t))
            (low + value_in d t (Some c)) ts cs h.1 g.1 (omega (arith, v, f)) (omega arith) (omega arith),
      )

  kept-subst : (d : Direction) (ts : Parts) (cs : List (Option Claim)) (ss ss' : States ts) → ss ≡ ss' → Kept d ts cs ss → Kept d ts cs ss'
  kept-subst d ts cs ss ss' e k = subst (Kept d ts cs) e k

  -- one step of one part
  kept-next : (d : Direction) (limit total out low r : ℕ) (ts : Parts) (cs : List (Option Claim)) (ss ss' : States ts)
      → HoldEach (list_of_parts ts) cs → HaveLimits d limit total ts cs → low ≤ out
      → total ≡ low + values_in d (list_of_parts ts) cs → Kept d ts cs ss → Steps d ts ss r ss'
      → out + r < limit → out + memory_of_parts ts ss' < limit → Kept d ts cs ss'
  kept-next d limit total out low r no_parts cs ss ss' h g le e k step lt m = tt
  kept-next d limit total out low r (part t ts) [] ss ss' h g le e k step lt m = tt
  kept-next d limit total out low r (part t ts) (None ∷ cs) (s, ss) (s', ss') h g le e k (inl (same, (q, step, f))) lt m =
      (tt, kept-subst d ts cs ss ss' same k.1)
  kept-next d limit total out low r (part t ts) (None ∷ cs) (s, ss) (s', ss') h g le e k (inr (same, (q, step, f))) lt m =
      let x = ap (memory_of t) same in (
        tt,
        kept-next d limit total (out + memory_of t s) (low + least_of t) q ts cs ss ss' h.1 g.1
            (omega (arith, laws.least t s)) (omega arith) k.1 step (omega arith) (omega (arith, x)),
      )
  kept-next d limit total out low r (part t ts) (Some c ∷ cs) (s, ss) (s', ss') h g le e k (inl (same, (q, step, f))) lt m =
      let v = value-le d c.direction t c.bound c.rest s h.0 k.0 in
      let vs = values-le d ts cs ss h.1 k.1 in
      let x = ap (memory_of_parts ts) same in (
        next k.0 step (omega (arith, g.0, v, vs, f)) (omega (arith, g.0, v, vs, x)),
        kept-subst d ts cs ss ss' same k.1,
      )
  kept-next d limit total out low r (part t ts) (Some c ∷ cs) (s, ss) (s', ss') h g le e k (inr (same, (q, step, f))) lt m =
      let v = value-le d c.direction t c.bound c.rest s h.0 k.0 in
      let x = ap (memory_of t) same in (
        subst (Reached d t (limit_of c.bound)) same k.0,
        kept-next d limit total (out + memory_of t s) (low + value_in d t (Some c)) q ts cs ss ss' h.1 g.1
            (omega (arith, v)) (omega arith) k.1 step (omega arith) (omega (arith, x)),
      )

  kept : {d : Direction} {ts : Parts} {limit : ℕ} {ss : States ts} (cs : List (Option Claim))
      → HoldEach (list_of_parts ts) cs → HaveLimits d limit (values_in d (list_of_parts ts) cs) ts cs
      → Reached d (par ts) limit ss → Kept d ts cs ss
  kept {d} {ts} {limit} cs h g (begin m) =
      kept-first d limit (values_in d (list_of_parts ts) cs) 0 0 ts cs h g (omega arith) (omega arith) (omega arith)
  kept {d} {ts} {limit} cs h g (next {s = ss} {s' = ss'} {r = r} w step lt m) =
      kept-next d limit (values_in d (list_of_parts ts) cs) 0 0 r ts cs ss ss' h g
      (omega arith) (omega arith) (kept cs h g w) step (omega arith) (omega arith)

  -- a part that has a claim is not passed
  not_all_passed : (d : Direction) (ts : Parts) (cs : List (Option Claim)) → SomeClaim cs
      → HoldEach (list_of_parts ts) cs → Kept d ts cs (first_states (other d) ts) → ⊥
  not_all_passed d ts [] some h k = some
  not_all_passed d no_parts (None ∷ cs) some h k = h
  not_all_passed d no_parts (Some c ∷ cs) some h k = h
  not_all_passed d (part t ts) (None ∷ cs) some h k = not_all_passed d ts cs some h.1 k.1
  not_all_passed d (part t ts) (Some c ∷ cs) some h k = not_passed laws d c.direction t (limit_of c.bound) c.rest h.0 k.0

  pub par_holds : (ts : Parts) (cs : List (Option Claim)) (c : Claim) → HoldEach (list_of_parts ts) cs
      → MeetsPar (list_of_parts ts) cs c → Holds (par ts) c.direction (limit_of c.bound) c.rest
  par_holds ts cs c h p =
      let limits = have_limits c.direction c.bound (values_in c.direction (list_of_parts ts) cs) ts cs (omega arith) p.room in
      record {
        no_way = λ w. not_all_passed c.direction ts cs p.some h (kept cs h limits w);
        rest = λ ss w. omega (arith, p.rest, values-le c.direction ts cs ss h (kept cs h limits w));
        start = omega (arith, p.rest, values-le-first c.direction ts cs h);
      }
