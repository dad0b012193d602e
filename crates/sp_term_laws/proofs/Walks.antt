-- What holds of the states of a term and of the walks through them.
use Rattle.std.proofs.Common.{◌≡◌, ℕ, ◌+◌, ◌<◌, ◌≤◌, inl, inr, refl, sym, subst, ap, arith, ◌∙◌}
use Rattle.sp_terms.specs.Term.{Term, hold, series, par, Parts, no_parts, part, Direction, forward, backward}
use Rattle.sp_terms.specs.Term.{first_memory, first_memory_of_parts, least_of, least_of_parts}
use Rattle.sp_term_laws.specs.Moves.{other}
use Rattle.sp_term_laws.specs.Moves.{State, States, memory_of, memory_of_parts, first_state}
use Rattle.sp_term_laws.specs.Moves.{first_states, Step, Steps, Reached, begin, next}

mutual
  pub least-le : (t : Term) (s : State t) → least_of t ≤ memory_of t s
  least-le (hold size) s = omega arith
  least-le (series a v b) (inl s) = omega (arith, least-le a s)
  least-le (series a v b) (inr s) = omega (arith, least-le b s)
  least-le (par ts) ss = all_least-le ts ss

  pub all_least-le : (ts : Parts) (ss : States ts) → least_of_parts ts ≤ memory_of_parts ts ss
  all_least-le no_parts ss = omega arith
  all_least-le (part t ts) (s, ss) = omega (arith, least-le t s, all_least-le ts ss)

mutual
  pub mem-first : (d : Direction) (t : Term) → memory_of t (first_state d t) ≡ first_memory d t
  mem-first d (hold size) = refl
  mem-first forward (series a v b) = mem-first forward a
  mem-first backward (series a v b) = mem-first backward b
  mem-first d (par ts) = mems-firsts d ts

  pub mems-firsts : (d : Direction) (ts : Parts) → memory_of_parts ts (first_states d ts) ≡ first_memory_of_parts d ts
  mems-firsts d no_parts = refl
  mems-firsts d (part t ts) = omega (arith, mem-first d t, mems-firsts d ts)

-- a step is one of the other direction, seen from its end
mutual
  pub flipped : (d : Direction) (t : Term) (s : State t) (r : ℕ) (s' : State t) → Step d t s r s' → Step (other d) t s' r s
  flipped d (hold size) s r s' h = absurd h
  flipped d (series a v b) (inl s) r (inl s') h = flipped d a s r s' h
  flipped forward (series a v b) (inl s) r (inr s') h = h
  flipped backward (series a v b) (inl s) r (inr s') h = absurd h
  flipped forward (series a v b) (inr s) r (inl s') h = absurd h
  flipped backward (series a v b) (inr s) r (inl s') h = h
  flipped d (series a v b) (inr s) r (inr s') h = flipped d b s r s' h
  flipped d (par ts) ss r ss' h = all_flipped d ts ss r ss' h

  pub all_flipped : (d : Direction) (ts : Parts) (ss : States ts) (r : ℕ) (ss' : States ts)
      → Steps d ts ss r ss' → Steps (other d) ts ss' r ss
  all_flipped d no_parts ss r ss' h = absurd h
  all_flipped d (part t ts) (s, ss) r (s', ss') (inl (e, (q, h, k))) =
      inl (sym e, (q, flipped d t s q s' h, k ∙ ap (λ x. q + memory_of_parts ts x) e))
  all_flipped d (part t ts) (s, ss) r (s', ss') (inr (e, (q, h, k))) =
      inr (sym e, (q, all_flipped d ts ss q ss' h, k ∙ ap (λ x. memory_of t x + q) e))

back_step : (d : Direction) (t : Term) (s : State t) (r : ℕ) (s' : State t) → Step (other d) t s r s' → Step d t s' r s
back_step forward t s r s' h = flipped backward t s r s' h
back_step backward t s r s' h = flipped forward t s r s' h

-- a state that is reached is below the limit
pub below : {d : Direction} {t : Term} {limit : ℕ} {s : State t} → Reached d t limit s → memory_of t s < limit
below (begin h) = h
below (next w step r m) = m

-- what is reached from both sides lies on a whole run
whole_from : (d : Direction) {e : Direction} {t : Term} {limit : ℕ} {s : State t}
    → e ≡ other d → Reached d t limit s → Reached e t limit s → Reached d t limit (first_state e t)
whole_from d same w (begin h) = w
whole_from d {e} {t} same w (next {s} {s'} {r} back step lt m) =
    whole_from d same (next w (back_step d t s r s' (subst (λ x. Step x t s r s') same step)) lt (below back)) back

pub whole : (d : Direction) (t : Term) (limit : ℕ)
    → Reached (other d) t limit (first_state d t) → Reached d t limit (first_state (other d) t)
whole d t limit back = whole_from d refl (begin (below back)) back
