-- The rules of a series hold.
use Rattle.std.proofs.Common.{ℕ, ◌<◌, ◌≤◌, ◌⊎◌, inl, inr, sym, subst, arith, Option}
use Rattle.std.specs.Prelude.{ℤ}
use Rattle.mp_system.specs.declared.system.Task.{Task}
use Rattle.sp_terms.specs.Term.{Term, series, Direction, forward, backward, first_memory, hill_of}
use Rattle.sp_term_laws.specs.Moves.{State, other, memory_of, first_state, Step, Reached, begin, next}
use Rattle.claim_rules.specs.Claims.{Claim}
use Rattle.claim_rules.specs.Rules.{MeetsSeries, first_is_stuck, first_is_closed, hill_is_above, last_is_stuck}
use Rattle.claim_rules.proofs.Limits.{limit_of, beyond-above}
use Rattle.claim_rules.proofs.Reaching.{StateLaws, Holds, HoldsIf, has_holds, not_passed, least-le-first}

-- how far a way below the limit has come, forwards

abbrev Come : (a : Term) (v : Task) (b : Term) (limit : ℕ) → State a ⊎ State b → Type 0
Come a v b limit (inl s) = Reached forward a limit s
Come a v b limit (inr s) = Reached forward a limit (first_state backward a) × (hill_of a v b < limit) × Reached forward b limit s

come_further : (a : Term) (v : Task) (b : Term) (limit r : ℕ) (s s' : State a ⊎ State b) → Come a v b limit s
    → Step forward (series a v b) s r s' → r < limit → memory_of (series a v b) s' < limit → Come a v b limit s'
come_further a v b limit r (inl s) (inl s') w step lt m = next w step lt m
come_further a v b limit r (inl s) (inr s') w (e, f, k) lt m = (
  subst (Reached forward a limit) e w,
  omega arith,
  subst (Reached forward b limit) (sym f) (begin (subst (λ x. memory_of b x < limit) f m)),
)
come_further a v b limit r (inr s) (inl s') w step lt m = absurd step
come_further a v b limit r (inr s) (inr s') (u, h, w) step lt m = (u, h, next w step lt m)

come : {a : Term} {v : Task} {b : Term} {limit : ℕ} {s : State a ⊎ State b} → Reached forward (series a v b) limit s → Come a v b limit s
come (begin m) = begin m
come {a} {v} {b} {limit} (next {s} {s'} {r} w step lt m) = come_further a v b limit r s s' (come w) step lt m

-- and backwards

abbrev ComeBack : (a : Term) (v : Task) (b : Term) (limit : ℕ) → State a ⊎ State b → Type 0
ComeBack a v b limit (inr s) = Reached backward b limit s
ComeBack a v b limit (inl s) = Reached backward b limit (first_state forward b) × (hill_of a v b < limit) × Reached backward a limit s

come_further_back : (a : Term) (v : Task) (b : Term) (limit r : ℕ) (s s' : State a ⊎ State b) → ComeBack a v b limit s
    → Step backward (series a v b) s r s' → r < limit → memory_of (series a v b) s' < limit → ComeBack a v b limit s'
come_further_back a v b limit r (inr s) (inr s') w step lt m = next w step lt m
come_further_back a v b limit r (inr s) (inl s') w (e, f, k) lt m = (
  subst (Reached backward b limit) f w,
  omega arith,
  subst (Reached backward a limit) (sym e) (begin (subst (λ x. memory_of a x < limit) e m)),
)
come_further_back a v b limit r (inl s) (inr s') w step lt m = absurd step
come_further_back a v b limit r (inl s) (inl s') (u, h, w) step lt m = (u, h, next w step lt m)

come_back : {a : Term} {v : Task} {b : Term} {limit : ℕ} {s : State a ⊎ State b}
    → Reached backward (series a v b) limit s → ComeBack a v b limit s
come_back (begin m) = begin m
come_back {a} {v} {b} {limit} (next {s} {s'} {r} w step lt m) = come_further_back a v b limit r s s' (come_back w) step lt m

-- a series is passed only where its first part, the hill and its second part are
record Passed (d : Direction) (a : Term) (v : Task) (b : Term) (limit : ℕ) : Type 0 where
  one : Reached d a limit (first_state (other d) a)
  middle : hill_of a v b < limit
  two : Reached d b limit (first_state (other d) b)

passed : (d : Direction) (a : Term) (v : Task) (b : Term) (limit : ℕ)
    → Reached d (series a v b) limit (first_state (other d) (series a v b)) → Passed d a v b limit
passed forward a v b limit w = let f : Come a v b limit (inr (first_state backward b)) = come w in
    record { one = f.0; middle = f.1; two = f.2 }
passed backward a v b limit w = let f : ComeBack a v b limit (inl (first_state forward a)) = come_back w in
    record { one = f.2; middle = f.1; two = f.0 }

-- what holds of a series, said of its parts

series_forward : (a : Term) (v : Task) (b : Term) (limit rest : ℕ)
    → (Passed forward a v b limit → ⊥)
    → ((s : State a) → Reached forward a limit s → rest ≤ memory_of a s)
    → ((s : State b) → Reached forward a limit (first_state backward a)
    → hill_of a v b < limit → Reached forward b limit s → rest ≤ memory_of b s)
    → rest ≤ first_memory forward a
    → Holds (series a v b) forward limit rest
series_forward a v b limit rest never early late start = record {
  no_way = λ w. never (passed forward a v b limit w);
  rest = λ s w. go s (come w);
  start = start;
}
  where
    go : (s : State a ⊎ State b) → Come a v b limit s → rest ≤ memory_of (series a v b) s
    go (inl s) w = early s w
    go (inr s) w = late s w.0 w.1 w.2

series_backward : (a : Term) (v : Task) (b : Term) (limit rest : ℕ)
    → (Passed backward a v b limit → ⊥)
    → ((s : State b) → Reached backward b limit s → rest ≤ memory_of b s)
    → ((s : State a) → Reached backward b limit (first_state forward b)
    → hill_of a v b < limit → Reached backward a limit s → rest ≤ memory_of a s)
    → rest ≤ first_memory backward b
    → Holds (series a v b) backward limit rest
series_backward a v b limit rest never early late start = record {
  no_way = λ w. never (passed backward a v b limit w);
  rest = λ s w. go s (come_back w);
  start = start;
}
  where
    go : (s : State a ⊎ State b) → ComeBack a v b limit s → rest ≤ memory_of (series a v b) s
    go (inr s) w = early s w
    go (inl s) w = late s w.0 w.1 w.2

module _ (laws : StateLaws) (a : Term) (v : Task) (b : Term) (p q : Option Claim)
    (bound : ℤ) (rest : ℕ) (one : HoldsIf a p) (two : HoldsIf b q) where
  forward_holds : MeetsSeries a v b p q (record { direction = forward; bound = bound; rest = rest })
      → Holds (series a v b) forward (limit_of bound) rest
  forward_holds (first_is_stuck h) =
      let c = has_holds a p forward bound rest one h in
      series_forward a v b (limit_of bound) rest
      (λ w. c.no_way w.one)
      (λ s w. c.rest s w)
      (λ s u k w. absurd (c.no_way u))
      c.start
  forward_holds (first_is_closed h m) =
      let c = has_holds a p backward bound 0 one h in
      series_forward a v b (limit_of bound) rest
      (λ w. not_passed laws forward backward a (limit_of bound) 0 c w.one)
      (λ s w. omega (arith, m, laws.least a s))
      (λ s u k w. absurd (not_passed laws forward backward a (limit_of bound) 0 c u))
      (omega (arith, m, least-le-first laws forward a))
  forward_holds (hill_is_above h m) =
      let high : limit_of bound ≤ hill_of a v b = beyond-above _ bound h in
      series_forward a v b (limit_of bound) rest
      (λ w. let k : hill_of a v b < limit_of bound = w.middle in absurd (omega (arith, high, k)))
      (λ s w. omega (arith, m, laws.least a s))
      (λ s u k w. absurd (omega (arith, high, k)))
      (omega (arith, m, least-le-first laws forward a))
  forward_holds (last_is_stuck h m) =
      let c = has_holds b q forward bound rest two h in
      series_forward a v b (limit_of bound) rest
      (λ w. c.no_way w.two)
      (λ s w. omega (arith, m, laws.least a s))
      (λ s u k w. c.rest s w)
      (omega (arith, m, least-le-first laws forward a))

  backward_holds : MeetsSeries a v b p q (record { direction = backward; bound = bound; rest = rest })
      → Holds (series a v b) backward (limit_of bound) rest
  backward_holds (first_is_stuck h) =
      let c = has_holds b q backward bound rest two h in
      series_backward a v b (limit_of bound) rest
      (λ w. c.no_way w.two)
      (λ s w. c.rest s w)
      (λ s u k w. absurd (c.no_way u))
      c.start
  backward_holds (first_is_closed h m) =
      let c = has_holds b q forward bound 0 two h in
      series_backward a v b (limit_of bound) rest
      (λ w. not_passed laws backward forward b (limit_of bound) 0 c w.two)
      (λ s w. omega (arith, m, laws.least b s))
      (λ s u k w. absurd (not_passed laws backward forward b (limit_of bound) 0 c u))
      (omega (arith, m, least-le-first laws backward b))
  backward_holds (hill_is_above h m) =
      let high : limit_of bound ≤ hill_of a v b = beyond-above _ bound h in
      series_backward a v b (limit_of bound) rest
      (λ w. let k : hill_of a v b < limit_of bound = w.middle in absurd (omega (arith, high, k)))
      (λ s w. omega (arith, m, laws.least b s))
      (λ s u k w. absurd (omega (arith, high, k)))
      (omega (arith, m, least-le-first laws backward b))
  backward_holds (last_is_stuck h m) =
      let c = has_holds a p backward bound rest one h in
      series_backward a v b (limit_of bound) rest
      (λ w. c.no_way w.one)
      (λ s w. omega (arith, m, laws.least b s))
      (λ s u k w. c.rest s w)
      (omega (arith, m, least-le-first laws backward b))

pub series_holds : (laws : StateLaws) (a : Term) (v : Task) (b : Term) (p q : Option Claim) (c : Claim)
    → HoldsIf a p → HoldsIf b q → MeetsSeries a v b p q c → Holds (series a v b) c.direction (limit_of c.bound) c.rest
series_holds laws a v b p q c one two = go c.direction c.bound c.rest
  where
    go : (d : Direction) (bound : ℤ) (rest : ℕ) → MeetsSeries a v b p q (record { direction = d; bound = bound; rest = rest })
        → Holds (series a v b) d (limit_of bound) rest
    go forward bound rest = forward_holds laws a v b p q bound rest one two
    go backward bound rest = backward_holds laws a v b p q bound rest one two
