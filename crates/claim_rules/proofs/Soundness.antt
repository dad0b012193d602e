-- A claim holds of the states of a term exactly where it is sound of the traversals of the term's system.
use Rattle.std.proofs.Common.{◌≡◌, ℕ, ◌<◌, ◌≤◌, inl, inr, arith, List, [], ◌∷◌, ◌++◌, reverse, Option, Some, None}
use Rattle.std.specs.Prelude.{◌↔◌}
use Rattle.mp_system.specs.Memory.{peak_from, peak_of}
use Rattle.mp_system.specs.Traversal.{IsTraversal}
use Rattle.sp_terms.specs.Places.{parts_of, list_of_parts}
use Rattle.sp_terms.specs.SystemOfTerm.{system_of_term}
use Rattle.sp_terms.specs.Term.{Term, hold, series, par, Parts, no_parts, part, Direction, forward, backward, IsAllowed, AreAllowed}
use Rattle.sp_terms.specs.Values.{AllAllowed}
use Rattle.sp_term_laws.specs.Along.{memory_after}
use Rattle.sp_term_laws.specs.Moves.{State, other, memory_of, first_state, Reached}
use Rattle.sp_term_laws.specs.Ways.{Way}
use Rattle.std.proofs.lemmas.Bool.{cases_lt}
use Rattle.claim_rules.specs.Claims.{Claim, peak_up_to, IsSound, IsSoundIf, AreSound}
use Rattle.claim_rules.specs.Derivations.{Derives}
use Rattle.claim_rules.specs.Rules.{MeetsRule}
use Rattle.claim_rules.proofs.Limits.{limit_of, within-below, below-within, above-beyond, beyond-above}
use Rattle.claim_rules.proofs.Reaching.{StateLaws, Holds, HoldsIf, HoldEach, whole}
use Rattle.claim_rules.proofs.Rules.{rule_holds, derived_holds}

-- what is used of the ways through the states of a term
pub record WayLaws : Type 0 where
  pub traversal : (t : Term) → IsAllowed t → (order : List ℕ) → IsTraversal (system_of_term t) order
      → Way forward 1 t (first_state forward t) order (peak_of (system_of_term t) order) (first_state backward t)
  pub way : (t : Term) → IsAllowed t → (order : List ℕ) (peak : ℕ)
      → Way forward 1 t (first_state forward t) order peak (first_state backward t)
      → IsTraversal (system_of_term t) order × (peak ≡ peak_of (system_of_term t) order)
  pub cut : (t : Term) → IsAllowed t → (done rest : List ℕ) → IsTraversal (system_of_term t) (done ++ rest)
      → (s : State t) × (memory_after (system_of_term t) done ≡ memory_of t s)
      × Way forward 1 t (first_state forward t) done (peak_of (system_of_term t) done) s
      × Way forward 1 t s rest (peak_from (system_of_term t) done rest) (first_state backward t)
  pub joined : (t : Term) → IsAllowed t → (s : State t) (done rest : List ℕ) (before after : ℕ)
      → Way forward 1 t (first_state forward t) done before s → Way forward 1 t s rest after (first_state backward t)
      → IsTraversal (system_of_term t) (done ++ rest) × (memory_after (system_of_term t) done ≡ memory_of t s)
      × (before ≡ peak_of (system_of_term t) done) × (after ≡ peak_from (system_of_term t) done rest)
  pub back : (d : Direction) (base : ℕ) (t : Term) (s u : State t) (xs : List ℕ) (h : ℕ)
      → Way d base t s xs h u → Way (other d) base t u (reverse xs) h s
  pub each : (d : Direction) (base : ℕ) (t : Term) (s : State t) → (xs : List ℕ) × (h : ℕ) × Way d base t (first_state d t) xs h s
  pub reached : (d : Direction) (t : Term) (limit : ℕ) (s : State t)
      → Reached d t limit s ↔ ((xs : List ℕ) × (h : ℕ) × Way d 1 t (first_state d t) xs h s × (h < limit))

module _ (states : StateLaws) (ways : WayLaws) (t : Term) (allowed : IsAllowed t) where
  -- the way of a traversal below the limit
  through : (limit : ℕ) (order : List ℕ) → IsTraversal (system_of_term t) order
      → peak_of (system_of_term t) order < limit → Reached forward t limit (first_state backward t)
  through limit order traversal lt =
      (ways.reached forward t limit (first_state backward t)).1
      (order, peak_of (system_of_term t) order, ways.traversal t allowed order traversal, lt)

  not_through : (d : Direction) (limit : ℕ) → (Reached d t limit (first_state (other d) t) → ⊥)
      → Reached forward t limit (first_state backward t) → ⊥
  not_through forward limit never w = never w
  not_through backward limit never w = never (whole states backward t limit w)

  no_traversal : (d : Direction) (limit : ℕ) → (Reached d t limit (first_state (other d) t) → ⊥)
      → (order : List ℕ) → IsTraversal (system_of_term t) order
      → limit ≤ peak_of (system_of_term t) order
  no_traversal d limit never order traversal =
      elim (cases_lt (peak_of (system_of_term t) order) limit) [
        | inl lt ↦ absurd (not_through d limit never (through limit order traversal lt))
        | inr le ↦ le
      ]

  -- what is reached along a traversal
  rest_of : (d : Direction) (limit rest : ℕ) → ((s : State t) → Reached d t limit s → rest ≤ memory_of t s)
      → (done after : List ℕ) → IsTraversal (system_of_term t) (done ++ after)
      → peak_up_to d (system_of_term t) done after < limit → rest ≤ memory_after (system_of_term t) done
  rest_of forward limit rest each done after traversal lt =
      let (s, memory, before, behind) = ways.cut t allowed done after traversal in
      let low : rest ≤ memory_of t s = each s ((ways.reached forward t limit s).1 (done, peak_of (system_of_term t) done, before, lt)) in
      omega (arith, low, memory)
  rest_of backward limit rest each done after traversal lt =
      let (s, memory, before, behind) = ways.cut t allowed done after traversal in
      let low : rest ≤ memory_of t s = each s ((ways.reached backward t limit s).1 (
        reverse after,
        peak_from (system_of_term t) done after,
        ways.back forward 1 t s (first_state backward t) after _ behind,
        lt,
      )) in
      omega (arith, low, memory)

  pub holds_sound : (c : Claim) → Holds t c.direction (limit_of c.bound) c.rest → IsSound t c
  holds_sound c h = record {
    no_traversal = λ order traversal. above-beyond _ c.bound (no_traversal c.direction (limit_of c.bound) h.no_way order traversal);
    rest = λ done after traversal within.
        rest_of c.direction (limit_of c.bound) c.rest h.rest done after traversal (within-below _ c.bound within);
    start = h.start;
  }

  -- a way below the limit is a traversal within the bound
  forward_passed : (limit : ℕ) → ((order : List ℕ) → IsTraversal (system_of_term t) order → limit ≤ peak_of (system_of_term t) order)
      → Reached forward t limit (first_state backward t) → ⊥
  forward_passed limit high w =
      let (order, peak, way, lt) = (ways.reached forward t limit (first_state backward t)).0 w in
      let (traversal, is) = ways.way t allowed order peak way in
      let le : limit ≤ peak_of (system_of_term t) order = high order traversal in
      absurd (omega (arith, lt, is, le))

  passed : (d : Direction) (limit : ℕ)
      → ((order : List ℕ) → IsTraversal (system_of_term t) order → limit ≤ peak_of (system_of_term t) order)
      → Reached d t limit (first_state (other d) t) → ⊥
  passed forward limit high w = forward_passed limit high w
  passed backward limit high w = forward_passed limit high (whole states forward t limit w)

  rest_from : (d : Direction) (limit rest : ℕ)
      → ((done after : List ℕ) → IsTraversal (system_of_term t) (done ++ after)
      → peak_up_to d (system_of_term t) done after < limit → rest ≤ memory_after (system_of_term t) done)
      → (s : State t) → Reached d t limit s → rest ≤ memory_of t s
  rest_from forward limit rest each s w =
      let (done, before, way, lt) = (ways.reached forward t limit s).0 w in
      let (behind, after, on) = ways.each backward 1 t s in
      let (traversal, memory, is, _) = ways.joined t allowed s done (reverse behind) before after way
      (ways.back backward 1 t (first_state backward t) s behind after on) in
      let low : rest ≤ memory_after (system_of_term t) done = each done (reverse behind) traversal (omega (arith, lt, is)) in
      omega (arith, low, memory)
  rest_from backward limit rest each s w =
      let (behind, after, way, lt) = (ways.reached backward t limit s).0 w in
      let (done, before, on) = ways.each forward 1 t s in
      let (traversal, memory, _, is) = ways.joined t allowed s done (reverse behind) before after on
      (ways.back backward 1 t (first_state backward t) s behind after way) in
      let low : rest ≤ memory_after (system_of_term t) done = each done (reverse behind) traversal (omega (arith, lt, is)) in
      omega (arith, low, memory)

  pub sound_holds : (c : Claim) → IsSound t c → Holds t c.direction (limit_of c.bound) c.rest
  sound_holds c s = record {
    no_way = passed c.direction (limit_of c.bound) (λ order traversal. beyond-above _ c.bound (s.no_traversal order traversal));
    rest = rest_from c.direction (limit_of c.bound) c.rest
        (λ done after traversal lt. s.rest done after traversal (below-within _ c.bound lt));
    start = s.start;
  }

-- the parts of a term that is allowed are so

pub parts-allowed : (ts : Parts) → AreAllowed ts → AllAllowed (list_of_parts ts)
parts-allowed no_parts a = tt
parts-allowed (part t ts) a = (a.0, parts-allowed ts a.1)

pub allowed-parts : (t : Term) → IsAllowed t → AllAllowed (parts_of t)
allowed-parts (hold size) a = tt
allowed-parts (series a v b) (x, y, one, two) = (one, (two, tt))
allowed-parts (par ts) a = parts-allowed ts a.1

hold_if : StateLaws → WayLaws → (t : Term) → IsAllowed t → (o : Option Claim) → IsSoundIf t o → HoldsIf t o
hold_if states ways t a None s = tt
hold_if states ways t a (Some c) s = sound_holds states ways t a c s

hold_each : StateLaws → WayLaws → (ts : List Term) → AllAllowed ts → (cs : List (Option Claim)) → AreSound ts cs → HoldEach ts cs
hold_each states ways [] a [] s = tt
hold_each states ways [] a (c ∷ cs) s = s
hold_each states ways (t ∷ ts) a [] s = s
hold_each states ways (t ∷ ts) a (c ∷ cs) s = (hold_if states ways t a.0 c s.0, hold_each states ways ts a.1 cs s.1)

pub rule_sound : StateLaws → WayLaws → (t : Term) (cs : List (Option Claim)) (c : Claim)
    → IsAllowed t → AreSound (parts_of t) cs → MeetsRule t cs c → IsSound t c
rule_sound states ways t cs c a s m =
    holds_sound states ways t a c (rule_holds states t cs c (hold_each states ways (parts_of t) (allowed-parts t a) cs s) m)

pub derived_sound : StateLaws → WayLaws → (t : Term) (c : Claim) → IsAllowed t → Derives t c → IsSound t c
derived_sound states ways t c a d = holds_sound states ways t a c (derived_holds states d)
