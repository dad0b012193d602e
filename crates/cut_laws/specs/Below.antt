-- No public clause names this.
-- The laws of the layers below that the proofs of this crate stand on.
use Rattle.std.specs.Prelude.{◌≡◌, ℕ, ◌≤◌, max, List, ◌++◌, reverse, Option}
use Rattle.mp_system.specs.Memory.{peak_from, peak_of}
use Rattle.mp_system.specs.Traversal.{IsTraversal}
use Rattle.segment_merge.specs.Laws.{SideLaws}
use Rattle.sp_terms.specs.Places.{parts_of}
use Rattle.sp_terms.specs.SystemOfTerm.{system_of_term}
use Rattle.sp_terms.specs.Term.{Term, Direction, forward, backward, first_memory, least_of, IsAllowed}
use Rattle.sp_term_laws.specs.Along.{memory_after}
use Rattle.sp_term_laws.specs.Moves.{State, other, memory_of, first_state}
use Rattle.sp_term_laws.specs.Ways.{Way}
use Rattle.claim_rules.specs.Claims.{Claim, IsSound, AreSound}
use Rattle.claim_rules.specs.Rules.{MeetsRule}

-- states and ways of a term, and its traversals
pub record TermLaws : Type 0 where
  pub first : (d : Direction) (t : Term) → memory_of t (first_state d t) ≡ first_memory d t
  pub least : (t : Term) (s : State t) → least_of t ≤ memory_of t s
  pub traversal : (t : Term) → IsAllowed t → (order : List ℕ) → IsTraversal (system_of_term t) order
      → Way forward 1 t (first_state forward t) order (peak_of (system_of_term t) order) (first_state backward t)
  pub way : (t : Term) → IsAllowed t → (order : List ℕ) (peak : ℕ)
      → Way forward 1 t (first_state forward t) order peak (first_state backward t)
      → IsTraversal (system_of_term t) order × (peak ≡ peak_of (system_of_term t) order)
  pub cut : (t : Term) → IsAllowed t → (done rest : List ℕ) → IsTraversal (system_of_term t) (done ++ rest)
      → (s : State t) × (memory_after (system_of_term t) done ≡ memory_of t s)
      × Way forward 1 t (first_state forward t) done (peak_of (system_of_term t) done) s
      × Way forward 1 t s rest (peak_from (system_of_term t) done rest) (first_state backward t)
  pub joined : (t : Term) → IsAllowed t → (s : State t) (done rest : List ℕ) (before after : ℕ)
      → Way forward 1 t (first_state forward t) done before s → Way forward 1 t s rest after (first_state backward t)
      → IsTraversal (system_of_term t) (done ++ rest) × (memory_after (system_of_term t) done ≡ memory_of t s)
      × (before ≡ peak_of (system_of_term t) done) × (after ≡ peak_from (system_of_term t) done rest)
  pub back : (d : Direction) (base : ℕ) (t : Term) (s u : State t) (xs : List ℕ) (h : ℕ) → Way d base t s xs h u
      → Way (other d) base t u (reverse xs) h s
  pub ways_joined : (d : Direction) (base : ℕ) (t : Term) (s m u : State t) (xs ys : List ℕ) (h k : ℕ) → Way d base t s xs h m
      → Way d base t m ys k u → Way d base t s (xs ++ ys) (max h k) u
  pub each : (d : Direction) (base : ℕ) (t : Term) (s : State t) → (xs : List ℕ) × (h : ℕ) × Way d base t (first_state d t) xs h s
  pub least_after : (t : Term) → IsAllowed t → (done rest : List ℕ) → IsTraversal (system_of_term t) (done ++ rest)
      → least_of t ≤ memory_after (system_of_term t) done

-- what a claim that meets a rule says is so
abbrev pub RulesAreSound : Type 0
RulesAreSound = (t : Term) (cs : List (Option Claim)) (c : Claim) → IsAllowed t → AreSound (parts_of t) cs → MeetsRule t cs c → IsSound t c

pub record LawsBelow : Type 0 where
  pub sides : SideLaws
  pub terms : TermLaws
  pub rules : RulesAreSound
